-- A step of the search for components, as the code reads what it steps over.
use Rattle.std.proofs.Common.{◌≡◌, ℕ, ◌<◌, ◌≤◌, inl, inr, List}
use Rattle.std.proofs.Common.{length, get_or, Contains, arith, refl, sym, ap, subst, ◌∙◌}
use Rattle.std.proofs.lemmas.List.{length_push, length-set}
use Rattle.std.proofs.lemmas.List.Elements.{Contains-get_or}
use Rattle.ld_graph.specs.declared.trail.Stage.{Stage}
use Rattle.ld_graph.specs.declared.trail.Stage.TheVariants.{Fresh, Open, Closed}
use Rattle.ld_graph.specs.declared.trail.Frame.{Frame}
use Rattle.ld_graph.specs.Lists.{IsNear, list_at}
use Rattle.ld_graph.specs.Inner.Repairs.{IsOrReaches}
use Rattle.ld_graph.specs.Inner.Trails.{PlainTrail, stage_at, next_at, wait_at, IsHandled, IsTrail, entered, advanced, last_of, top_of, lowered, work}
use Rattle.ld_graph.proofs.SoughtLemmas.{IsOrReaches-next}
use Rattle.ld_graph.proofs.TrailLemmas.{entered-is}
use Rattle.ld_graph.proofs.LowerLemmas.{advanced-is, top_frame, top_within}
use Rattle.ld_graph.proofs.WorkLemmas.{count_entered, rest_next}

module _ (lists : List (List ℕ)) (t : PlainTrail) (h : IsTrail lists t) (some : 0 < length t.path)
    (ends : (x y : ℕ) → IsNear lists x y → y < length lists) (f : Frame) (top : f ≡ top_of t)
    (near : List ℕ) (is_near : near ≡ list_at lists f.class) (next : ℕ) where
  abbrev C : ℕ
  C = (top_of t).class

  abbrev to : ℕ
  to = get_or near next 0

  pub class_within : f.class < length lists
  class_within = subst (λ g. g.class < length lists) (sym top) (top_within lists t h some)

  pub nexts_within : f.class < length t.nexts
  nexts_within = let a = class_within in let b = h.nexts_len in omega (arith, a, b)

  near_top : near ≡ list_at lists C
  near_top = is_near ∙ ap (λ g. list_at lists g.class) top

  module _ (is_next : get_or t.nexts f.class 0 ≡ next) where
    next_top : next ≡ next_at t C
    next_top = sym is_next ∙ ap (λ g. next_at t g.class) top

    to_top : to ≡ get_or (list_at lists C) (next_at t C) 0
    to_top = ap (λ l. get_or l next 0) near_top ∙ ap (λ n. get_or (list_at lists C) n 0) next_top

    module _ (more : next < length near) where
      step_to : IsNear lists C to
      step_to = subst (λ l. Contains l to) near_top (Contains-get_or near next 0 more)

      pub to_within : to < length t.stages
      to_within = let a = ends C to step_to in let b = h.stages_len in omega (arith, a, b)

      more_top : next_at t C < length (list_at lists C)
      more_top = subst (λ n. n < length (list_at lists C)) next_top (subst (λ z. next < length z) near_top more)

      pub enter_trail : stage_at t to ≡ Fresh → IsTrail lists (entered t to)
      enter_trail fresh = entered-is lists t h to (ends C to step_to) fresh
          (λ j b. IsOrReaches-next (IsNear lists) (wait_at t j) C to ((top_frame lists t h some).back j b) step_to)

      pub look_trail : (low : ℕ) → low ≤ f.low → IsHandled t low to → IsOrReaches (IsNear lists) C (wait_at t low)
          → IsTrail lists (advanced t low)
      look_trail low less handled walk = advanced-is lists t h some low more_top
          (subst (λ g. low ≤ g.low) top less) (subst (IsHandled t low) to_top handled) walk

      pub look_less : (low : ℕ) → work lists (advanced t low) < work lists t
      look_less low =
          let a = rest_next lists t.nexts C (subst (λ g. g.class < length t.nexts) top nexts_within) (top_within lists t h some) more_top in
          let b = length-set t.path (last_of t) (lowered (top_of t) low) in
          omega (arith, a, b)

      -- the successor waits
      pub waits_trail : (position : ℕ) → stage_at t to ≡ Open position → position < f.low → IsTrail lists (advanced t position)
      waits_trail position e less =
          let w = h.stages.back to position e in
          look_trail position (omega (arith, less)) (inr (position, (omega arith, (w.0, w.1))))
          (subst (λ x. IsOrReaches (IsNear lists) C x) (sym w.1) (IsOrReaches-next (IsNear lists) C C to (inl refl) step_to))

      -- the successor waits no further back than is known, or its component is told
      pub known_trail : (stage_at t to ≡ Fresh → ⊥) → ((i : ℕ) → stage_at t to ≡ Open i → f.low ≤ i) → IsTrail lists (advanced t f.low)
      known_trail met behind = look_trail f.low (omega arith) (by (stage_at t to) refl)
          (subst (λ g. IsOrReaches (IsNear lists) C (wait_at t g.low)) (sym top) (top_frame lists t h some).walk)
        where
          by : (s : Stage) → stage_at t to ≡ s → IsHandled t f.low to
          by Fresh e = absurd (met e)
          by (Open i) e = let w = h.stages.back to i e in inr (i, (behind i e, (w.0, w.1)))
          by (Closed r) e = inl (r, e)

-- less is left to do where a class is met
pub enter_less : (lists : List (List ℕ)) (t : PlainTrail) (x : ℕ) → x < length t.stages → stage_at t x ≡ Fresh
    → work lists (entered t x) < work lists t
enter_less lists t x l e =
    let a = count_entered t.stages x (length t.waiting) l e in
    let b = length_push t.path (record { class = x; position = length t.waiting; low = length t.waiting }) in
    omega (arith, a, b)
