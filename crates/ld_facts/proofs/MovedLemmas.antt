-- One more event without a fault moves the scan one position further: its own task is as the event leaves
-- it, and all other tasks stay.
use Rattle.std.proofs.Common.{◌≡◌, ◌≢◌, ◌<◌, ◌≤◌, ◌++◌, ◌∷◌, [], ◌∙◌, ⊎_elim, eqb, true, false, ℕ, List, None, fold, length, map, take, ap, sym, subst, get_or, All}
use Rattle.std.proofs.lemmas.Bool.Decides.{eqb_tells}
use Rattle.std.proofs.lemmas.Slice.Eq.{bytes_eq-Decides}
use Rattle.std.specs.List.{list_any}
use Rattle.std.specs.Str.{bytes_eq}
use Rattle.ld_class.specs.Names.{AreDistinct, IsNameAt, IsTaskAt, PlainClass, place_of_task, with_name, with_task}
use Rattle.ld_trace.specs.Events.{PlainEvent, Position}
use Rattle.ld_rules.specs.declared.outcome.TheConstants.{MOST_CLASSES, MOST_HELD, MOST_TASKS}
use Rattle.ld_facts.specs.declared.scan.Scan.{Scan}
use Rattle.ld_rules.specs.Frames.{task_of}
use Rattle.ld_rules.specs.Dependency.{Dependency, dependencies_at}
use Rattle.ld_facts.specs.Named.{IsBetween, named_dependency, named_use}
use Rattle.ld_tables.specs.Inner.Edges.{AreApart}
use Rattle.ld_tables.specs.Inner.Interrupts.{fresh}
use Rattle.ld_rules.specs.Outcome.{classes, event_fault, events, is_one_too_many, tasks}
use Rattle.ld_rules.specs.Held.{class_acquired}
use Rattle.ld_facts.specs.Inner.Scan.{AreMany, HasTask, IsAt, IsTask, Start, classes_after, edges_after, happens, names_at, own_names, uses_after}
use Rattle.ld_rules.specs.Inner.Scanned.{AreSame, same_dependency_seen, with_new}
use Rattle.ld_facts.specs.Named.{IsUse}
use Rattle.ld_rules.proofs.OutcomeLemmas.{events-push, no_fault}
use Rattle.ld_rules.proofs.StepLemmas.{classes-other, dependencies-push, tasks-push}
use Rattle.ld_facts.proofs.TaskLemmas.{scan_not_too_many_tasks, task-at, task-other, task-unmoved, with_one-few}

pub record Moved (start : Start) (all : List Position) (old : Scan) (e : PlainEvent) (line id : ℕ) (new : Scan) : Type 0 where
  pub fault : event_fault (events all) e ≡ None
  pub tasks : new.tasks ≡ with_task old.tasks (task_of e)
  pub place : IsTaskAt new.tasks id (task_of e)
  pub fits : place_of_task old.tasks (task_of e) ≡ None → length old.tasks < MOST_TASKS
  pub many : AreMany new
  pub names : new.classes ≡ classes_after start (events all ++ e ∷ [])
  pub distinct : AreDistinct new.classes
  pub own : own_names new ≡ classes (events all ++ e ∷ [])
  pub few_classes : length new.own ≤ MOST_CLASSES
  pub stays : (number : ℕ) (name : PlainClass) → IsNameAt old.classes number name → IsNameAt new.classes number name
  pub stacks : (k : ℕ) → k ≢ id → get_or new.locks.stacks k [] ≡ get_or old.locks.stacks k []
  pub interrupts : (k : ℕ) → k ≢ id → get_or new.locks.interrupts k fresh ≡ get_or old.locks.interrupts k fresh
  pub task : IsTask new.classes (get_or new.locks.stacks id []) (get_or new.locks.interrupts id fresh) (events all ++ e ∷ []) (task_of e)
  pub shallow : length (get_or new.locks.stacks id []) ≤ MOST_HELD
  pub edges : AreSame (map (named_dependency new.classes) new.locks.edges) (edges_after start (all ++ happens line e ∷ []))
  pub first : take (length start.edges) (map (named_dependency new.classes) new.locks.edges) ≡ start.edges
  pub once : AreApart new.locks.edges
  pub within : All (IsBetween new.classes) new.locks.edges
  pub uses : map (named_use new.classes) new.uses ≡ uses_after start (all ++ happens line e ∷ [])
  pub used : All (IsUse new.classes) new.uses

-- a number is the task's own, or another's
own_or_other : (P : Type 0) (k id : ℕ) → (k ≡ id → P) → (k ≢ id → P) → P
own_or_other P k id own other = ⊎_elim (λ (same : (eqb k id ≡ true) × (k ≡ id)). own same.1) (λ (apart : (eqb k id ≡ false) × (k ≢ id)). other apart.1) (eqb_tells k id)

pub moved-at : {start : Start} (all : List Position) (old : Scan) (e : PlainEvent) (line id : ℕ) (new : Scan) → IsAt start all old →
    Moved start all old e line id new → IsAt start (all ++ happens line e ∷ []) new
moved-at {start} all old e line id new is m = record {
  clean = no_fault all (happens line e) is.clean m.fault;
  tasks = m.tasks ∙ ap (λ ns. with_task ns (task_of e)) is.tasks ∙ sym (tasks-push (events all) e) ∙ ap tasks (sym now);
  names = m.names ∙ ap (classes_after start) (sym now);
  distinct = m.distinct;
  own = m.own ∙ ap classes (sym now);
  few_tasks = subst (λ ns. length ns ≤ MOST_TASKS) (sym m.tasks) (with_one-few bytes_eq [] bytes_eq-Decides MOST_TASKS old.tasks (task_of e) m.fits is.few_tasks);
  few_classes = m.few_classes;
  many = m.many;
  each = λ k other at. subst (λ past. IsTask new.classes (get_or new.locks.stacks k []) (get_or new.locks.interrupts k fresh) past other) (sym now) (each k other at);
  shallow = λ k. own_or_other (length (get_or new.locks.stacks k []) ≤ MOST_HELD) k id
      (λ same. subst (λ n. length (get_or new.locks.stacks n []) ≤ MOST_HELD) (sym same) m.shallow)
      (λ apart. subst (λ held. length held ≤ MOST_HELD) (sym (m.stacks k apart)) (is.shallow k));
  edges = m.edges;
  first = m.first;
  once = m.once;
  within = m.within;
  uses = m.uses;
  used = m.used;
}
  where
    now : events (all ++ happens line e ∷ []) ≡ events all ++ e ∷ []
    now = events-push all (happens line e)

    own : (k : ℕ) (other : List ℕ) → IsTaskAt new.tasks k other → k ≡ id → IsTask new.classes (get_or new.locks.stacks k []) (get_or new.locks.interrupts k fresh) (events all ++ e ∷ []) other
    own k other at same =
        let name : task_of e ≡ other = sym m.place.1 ∙ ap (λ n. get_or new.tasks n []) (sym same) ∙ at.1 in
        subst (λ n. IsTask new.classes (get_or new.locks.stacks n []) (get_or new.locks.interrupts n fresh) (events all ++ e ∷ []) other) (sym same)
        (subst (λ task. IsTask new.classes (get_or new.locks.stacks id []) (get_or new.locks.interrupts id fresh) (events all ++ e ∷ []) task) name m.task)

    stays_other : (k : ℕ) (other : List ℕ) → IsTaskAt new.tasks k other → k ≢ id → IsTask new.classes (get_or new.locks.stacks k []) (get_or new.locks.interrupts k fresh) (events all ++ e ∷ []) other
    stays_other k other at apart =
        let before = task-at all old is (task_of e) new.tasks m.tasks k other at in
        let after = task-unmoved old.classes new.classes (get_or old.locks.stacks k []) (get_or old.locks.interrupts k fresh) (events all) e other
        (task-other all old is (task_of e) new.tasks m.tasks id k other m.place at apart) m.stays before in
        subst (λ held. IsTask new.classes held (get_or new.locks.interrupts k fresh) (events all ++ e ∷ []) other) (sym (m.stacks k apart))
        (subst (λ interrupts. IsTask new.classes (get_or old.locks.stacks k []) interrupts (events all ++ e ∷ []) other) (sym (m.interrupts k apart)) after)

    each : (k : ℕ) (other : List ℕ) → IsTaskAt new.tasks k other → IsTask new.classes (get_or new.locks.stacks k []) (get_or new.locks.interrupts k fresh) (events all ++ e ∷ []) other
    each k other at = own_or_other (IsTask new.classes (get_or new.locks.stacks k []) (get_or new.locks.interrupts k fresh) (events all ++ e ∷ []) other) k id (own k other at) (stays_other k other at)

-- what changed after the task of the event had its number
pub record Changed (mid : Scan) (id : ℕ) (new : Scan) : Type 0 where
  pub tasks : new.tasks ≡ mid.tasks
  pub classes : new.classes ≡ mid.classes
  pub own : new.own ≡ mid.own
  pub edges : new.locks.edges ≡ mid.locks.edges
  pub many : AreMany new
  pub stacks : (k : ℕ) → k ≢ id → get_or new.locks.stacks k [] ≡ get_or mid.locks.stacks k []
  pub interrupts : (k : ℕ) → k ≢ id → get_or new.locks.interrupts k fresh ≡ get_or mid.locks.interrupts k fresh

-- the task of one more event has its number
module _ {start : Start} (all : List Position) (old : Scan) (is : IsAt start all old) (name : List ℕ) (id : ℕ) (mid : Scan) (has : HasTask old name id mid) where
  -- what is kept of it then
  pub own-before : IsTask old.classes (get_or mid.locks.stacks id []) (get_or mid.locks.interrupts id fresh) (events all) name
  own-before =
      subst (λ held. IsTask old.classes held (get_or mid.locks.interrupts id fresh) (events all) name) (sym (has.stacks id))
      (subst (λ interrupts. IsTask old.classes (get_or old.locks.stacks id []) interrupts (events all) name) (sym (has.interrupts id))
      (task-at all old is name mid.tasks has.tasks id name has.place))

  pub shallow-before : length (get_or mid.locks.stacks id []) ≤ MOST_HELD
  shallow-before = subst (λ held. length held ≤ MOST_HELD) (sym (has.stacks id)) (is.shallow id)

  -- no task too many
  pub tasks-fit : is_one_too_many bytes_eq MOST_TASKS (tasks (events all)) name ≡ false
  tasks-fit = scan_not_too_many_tasks all old name is has.fits

-- an event that acquires nothing leaves the classes and the dependencies
pub unacquired : {start : Start} (all : List Position) (old : Scan) (e : PlainEvent) (line id : ℕ) (mid new : Scan) → IsAt start all old → HasTask old (task_of e) id mid →
    Changed mid id new → event_fault (events all) e ≡ None → class_acquired e ≡ None → dependencies_at (events all) e ≡ [] → IsTask old.classes
    (get_or new.locks.stacks id []) (get_or new.locks.interrupts id fresh) (events all ++ e ∷ []) (task_of e) → length (get_or new.locks.stacks id [])
    ≤ MOST_HELD → map (named_use old.classes) new.uses ≡ uses_after start (all ++ happens line e ∷ []) → All (IsUse old.classes) new.uses → IsAt start (all ++ happens line e ∷ []) new
unacquired {start} all old e line id mid new is has changed fault acquires_none depends_none own shallow uses used =
    let classes-same : new.classes ≡ old.classes = changed.classes ∙ has.classes in
    let own-same : new.own ≡ old.own = changed.own ∙ has.own in
    let edges-same : new.locks.edges ≡ old.locks.edges = changed.edges ∙ has.edges in
    moved-at all old e line id new is (record {
      fault = fault;
      tasks = changed.tasks ∙ has.tasks;
      place = subst (λ ns. IsTaskAt ns id (task_of e)) (sym changed.tasks) has.place;
      fits = has.fits;
      many = changed.many;
      names = classes-same ∙ is.names ∙ ap (fold with_name start.classes) (sym (classes-other (events all) e acquires_none));
      distinct = subst AreDistinct (sym classes-same) is.distinct;
      own = (λ i. names_at (classes-same i) (own-same i)) ∙ is.own ∙ sym (classes-other (events all) e acquires_none);
      few_classes = subst (λ own. length own ≤ MOST_CLASSES) (sym own-same) is.few_classes;
      stays = λ number name at. subst (λ ns. IsNameAt ns number name) (sym classes-same) at;
      stacks = λ k apart. changed.stacks k apart ∙ has.stacks k;
      interrupts = λ k apart. changed.interrupts k apart ∙ has.interrupts k;
      task = subst (λ ns. IsTask ns (get_or new.locks.stacks id []) (get_or new.locks.interrupts id fresh) (events all ++ e ∷ []) (task_of e)) (sym classes-same) own;
      shallow = shallow;
      edges = λ test.
          (λ i. list_any test (map (named_dependency (classes-same i)) (edges-same i)))
          ∙ is.edges test
          ∙ ap (list_any test) (sym (dependencies-push start.edges all (happens line e) ∙ ap (λ ds. fold (with_new same_dependency_seen) (edges_after start all)
          (map (λ (what : Dependency). record { what = what; line = line }) ds)) depends_none));
      first = (λ i. take (length start.edges) (map (named_dependency (classes-same i)) (edges-same i))) ∙ is.first;
      once = subst AreApart (sym edges-same) is.once;
      within = subst (λ ns. All (IsBetween ns) new.locks.edges) (sym classes-same) (subst (All (IsBetween old.classes)) (sym edges-same) is.within);
      uses = ap (λ ns. map (named_use ns) new.uses) classes-same ∙ uses;
      used = subst (λ ns. All (IsUse ns) new.uses) (sym classes-same) used;
    })
