-- Lines of bytes, and the pieces that they are cut into.
use Rattle.std.proofs.Common.{◌≡◌, ◌∙◌, ◌<◌, ◌≤◌, ◌+◌, ◌-◌, ◌++◌, ◌∷◌, [], List, ℕ, zero, suc, length, take, drop, fold, filter_map, All, refl, ap, sym, subst, arith, append-nil, append_assoc, length-append}
use Rattle.std.proofs.Math.Seq.{drop-append_seam, take-append_seam}
use Rattle.std.proofs.lemmas.List.{take-append-drop}
use Rattle.std.proofs.lemmas.List.Elements.{filter_map-append}
use Rattle.std.proofs.lemmas.List.Folds.{concat-append}
use Rattle.std.proofs.lemmas.List.Sums.{fold-append}
use Rattle.std.specs.List.{concat}
use Rattle.ld_trace.specs.Lines.{lines, text_of}
use Rattle.ld_trace.specs.Events.{PlainEvent}
use Rattle.ld_trace.proofs.SplitLemmas.{drop-next}
use Rattle.ld_reduce.proofs.LineLemmas.{concat-lines, lines-drop, lines-take}
use Rattle.ld_cut.specs.State.{after_any, events_in, idle, state_in}
use Rattle.ld_cut.specs.Pieces.{IsCutInto, IsPiece, behind_lines, first_lines}
use Rattle.ld_cut.specs.Inner.Carried.{IsCarried}
use Rattle.ld_class.specs.Names.{AreDistinct}
use Rattle.ld_cut.specs.Inner.Kept.{IsTold, KeptTask, stands, task_in, text_of_tasks}
use Rattle.ld_cut.proofs.FrontLemmas.{said, tasks-after}
use Rattle.ld_cut.proofs.TasksLemmas.{names_of}

-- what stands behind one line more
pub behind-next : (n : ℕ) (bytes line others : List ℕ) → lines (behind_lines n bytes) ≡ line ∷ lines others → others ≡ behind_lines (n + 1) bytes
behind-next n bytes line others is =
    let here : drop n (lines bytes) ≡ line ∷ lines others = sym (lines-drop n bytes) ∙ is in
    sym (concat-lines others) ∙ ap concat (sym (drop-next (lines bytes) n line (lines others) here))

pub behind-none : (bytes : List ℕ) → behind_lines 0 bytes ≡ bytes
behind-none bytes = concat-lines bytes

-- both together are the bytes
pub first-behind : (n : ℕ) (bytes : List ℕ) → first_lines n bytes ++ behind_lines n bytes ≡ bytes
first-behind n bytes = sym (concat-append (take n (lines bytes)) (drop n (lines bytes))) ∙ ap concat (take-append-drop n (lines bytes)) ∙ concat-lines bytes

pub first-len : (n : ℕ) (bytes : List ℕ) → length (first_lines n bytes) + length (behind_lines n bytes) ≡ length bytes
first-len n bytes = sym (length-append (first_lines n bytes) (behind_lines n bytes)) ∙ ap length (first-behind n bytes)

-- the bytes cut so far before their end
pub take-first : (n k : ℕ) (bytes : List ℕ) → k ≡ length (first_lines n bytes) → take k bytes ≡ first_lines n bytes
take-first n k bytes is =
    ap (λ i. take i bytes) is ∙ ap (take (length (first_lines n bytes))) (sym (first-behind n bytes)) ∙ take-append_seam (first_lines n bytes) (behind_lines n bytes)

pub drop-first : (n k : ℕ) (bytes : List ℕ) → k ≡ length (first_lines n bytes) → drop k bytes ≡ behind_lines n bytes
drop-first n k bytes is =
    ap (λ i. drop i bytes) is ∙ ap (drop (length (first_lines n bytes))) (sym (first-behind n bytes)) ∙ drop-append_seam (first_lines n bytes) (behind_lines n bytes)

drop-past : {X : Type 0} (k n : ℕ) (xs : List X) → k ≤ n → drop k xs ≡ [] → (drop n xs ≡ []) × (take n xs ≡ xs)
drop-past k zero xs low none = let same : k ≡ 0 = omega arith in let empty : xs ≡ [] = sym (ap (λ i. drop i xs) same) ∙ none in (empty, sym empty)
drop-past k (suc n) [] low none = (refl, refl)
drop-past zero (suc n) (x ∷ xs) low none = absurd (cc)
drop-past (suc k) (suc n) (x ∷ xs) low none = let rest = drop-past k n xs (omega arith) none in (rest.0, ap (λ o. x ∷ o) rest.1)

-- where no more lines are there
pub all-first : (k n : ℕ) (bytes : List ℕ) → k ≤ n → behind_lines k bytes ≡ [] → (bytes ≡ first_lines n bytes) × ([] ≡ behind_lines n bytes)
all-first k n bytes low none =
    let gone : drop k (lines bytes) ≡ [] = sym (lines-drop k bytes) ∙ ap lines none in
    let past = drop-past k n (lines bytes) low gone in
    (sym (concat-lines bytes) ∙ ap concat (sym past.1), ap concat (sym past.0))

none-left : {X : Type 0} (n : ℕ) (xs : List X) → xs ≡ [] → drop n xs ≡ []
none-left zero xs none = none
none-left (suc n) [] none = refl
none-left (suc n) (x ∷ xs) none = absurd (cc)

none-first : {X : Type 0} (n : ℕ) (xs : List X) → xs ≡ [] → take n xs ≡ []
none-first zero xs none = refl
none-first (suc n) [] none = refl
none-first (suc n) (x ∷ xs) none = absurd (cc)

drop-more : {X : Type 0} (p n : ℕ) (xs : List X) → drop n (drop p xs) ≡ drop (p + n) xs
drop-more zero n xs = ap (λ i. drop i xs) (let e : n ≡ zero + n = omega arith in e)
drop-more (suc p) n [] = none-left n [] refl ∙ sym (none-left (suc p + n) [] refl)
drop-more (suc p) n (x ∷ xs) = drop-more p n xs ∙ ap (λ i. drop i (x ∷ xs)) (let e : suc (p + n) ≡ suc p + n = omega arith in e)

take-more : {X : Type 0} (p n : ℕ) (xs : List X) → take (p + n) xs ≡ take p xs ++ take n (drop p xs)
take-more zero n xs = ap (λ i. take i xs) (let e : zero + n ≡ n = omega arith in e)
take-more (suc p) n [] = none-first (suc p + n) [] refl ∙ sym (none-first n [] refl)
take-more (suc p) n (x ∷ xs) = ap (λ i. take i (x ∷ xs)) (let e : suc p + n ≡ suc (p + n) = omega arith in e) ∙ ap (λ o. x ∷ o) (take-more p n xs)

module _ (p n : ℕ) (bytes : List ℕ) where
  pub behind-more : behind_lines n (behind_lines p bytes) ≡ behind_lines (p + n) bytes
  behind-more = ap (λ ls. concat (drop n ls)) (lines-drop p bytes) ∙ ap concat (drop-more p n (lines bytes))

  lines-more : take (p + n) (lines bytes) ≡ lines (first_lines p bytes) ++ lines (first_lines n (behind_lines p bytes))
  lines-more =
      take-more p n (lines bytes)
      ∙ (λ i. sym (lines-take p bytes) i ++ take n (sym (lines-drop p bytes) i))
      ∙ ap (λ ls. lines (first_lines p bytes) ++ ls) (sym (lines-take n (behind_lines p bytes)))

  pub first-more : first_lines p bytes ++ first_lines n (behind_lines p bytes) ≡ first_lines (p + n) bytes
  first-more =
      sym (ap concat lines-more ∙ concat-append (lines (first_lines p bytes)) (lines (first_lines n (behind_lines p bytes)))
      ∙ (λ i. concat-lines (first_lines p bytes) i ++ concat-lines (first_lines n (behind_lines p bytes)) i))

  events-more : events_in (first_lines (p + n) bytes) ≡ events_in (first_lines p bytes) ++ events_in (first_lines n (behind_lines p bytes))
  events-more =
      ap (filter_map (λ line. said (text_of line))) (lines-take (p + n) bytes ∙ lines-more)
      ∙ filter_map-append (λ line. said (text_of line)) (lines (first_lines p bytes)) (lines (first_lines n (behind_lines p bytes)))

  pub state-more : (task : List ℕ) → state_in task (first_lines (p + n) bytes) ≡ fold (after_any task) (state_in task (first_lines p bytes)) (events_in (first_lines n (behind_lines p bytes)))
  state-more task = ap (fold (after_any task) idle) events-more ∙ fold-append (after_any task) idle (events_in (first_lines p bytes)) (events_in (first_lines n (behind_lines p bytes)))

-- How far a trace is cut: these bytes are left, which come after these pieces, and the tasks are in and hold what they do there.
pub record IsCutUpTo (n : ℕ) (bytes rest : List ℕ) (tasks : List KeptTask) (pieces : List (List ℕ)) : Type 0 where
  pub passed : ℕ
  pub left : rest ≡ behind_lines passed bytes
  pub told : All IsTold tasks
  pub stand : (task : List ℕ) → stands (task_in tasks task) ≡ state_in task (first_lines passed bytes)
  pub then : (more : List (List ℕ)) → IsCutInto n (first_lines passed bytes) rest more → IsCutInto n [] bytes (pieces ++ more)

pub cut-none : (n : ℕ) (bytes : List ℕ) → All IsTold [] → IsCutUpTo n bytes bytes [] []
cut-none n bytes told = record {
  passed = 0;
  left = sym (behind-none bytes);
  told = told;
  stand = λ task. refl;
  then = λ more is. is;
}

module _ (n : ℕ) (bytes rest : List ℕ) (tasks : List KeptTask) (pieces : List (List ℕ)) (up : IsCutUpTo n bytes rest tasks pieces) where
  is-piece : (own piece : List ℕ) → IsCarried tasks own piece → IsPiece (first_lines up.passed bytes) own piece
  is-piece own piece is = record { front = is.front; is = is.is; carried = λ task. is.carried task ∙ up.stand task }

  -- the last piece
  pub cut-last : (piece : List ℕ) → IsCarried tasks rest piece → IsCutInto n [] bytes (pieces ++ piece ∷ [])
  cut-last piece is = up.then (piece ∷ []) (is-piece rest piece is)

  -- one piece more
  pub cut-next : (own others piece : List ℕ) (after_own : List KeptTask) → own ≡ first_lines n rest → others ≡ behind_lines n rest → IsCarried tasks own piece → All IsTold after_own
      → ((task : List ℕ) → stands (task_in after_own task) ≡ fold (after_any task) (stands (task_in tasks task)) (events_in own))
      → IsCutUpTo n bytes others after_own (pieces ++ piece ∷ [])
  cut-next own others piece after_own own_is others_is is told stand = record {
    passed = up.passed + n;
    left = others_is ∙ ap (behind_lines n) up.left ∙ behind-more up.passed n bytes;
    told = told;
    stand = λ task.
        stand task
        ∙ (λ i. fold (after_any task) (up.stand task i) (events_in (own_at i)))
        ∙ sym (state-more up.passed n bytes task);
    then = λ more cut. subst (IsCutInto n [] bytes) (sym (append_assoc pieces (piece ∷ []) more)) (up.then (piece ∷ more) (before more cut));
  }
    where
      own_at : own ≡ first_lines n (behind_lines up.passed bytes)
      own_at = own_is ∙ ap (first_lines n) up.left

      before : (more : List (List ℕ)) → IsCutInto n (first_lines (up.passed + n) bytes) others more → IsCutInto n (first_lines up.passed bytes) rest (piece ∷ more)
      before [] cut = absurd cut
      before (next ∷ more) cut = (
        subst (λ o. IsPiece (first_lines up.passed bytes) o piece) own_is (is-piece own piece is),
        subst (λ o. IsCutInto n o (behind_lines n rest) (next ∷ more)) (sym (first-more up.passed n bytes) ∙ ap (λ o. first_lines up.passed bytes ++ o) (ap (first_lines n) (sym up.left)))
            (subst (λ o. IsCutInto n (first_lines (up.passed + n) bytes) o (next ∷ more)) others_is cut),
      )

-- what the tasks' lines carry over
pub carried-is : (tasks : List KeptTask) → All IsTold tasks → AreDistinct (names_of tasks) → (task : List ℕ) → state_in task (text_of_tasks tasks) ≡ stands (task_in tasks task)
carried-is tasks told distinct task =
    ap (λ bytes. fold (after_any task) idle (events_in bytes)) (sym (append-nil (text_of_tasks tasks))) ∙ tasks-after tasks told distinct task []
