-- The events, the faults and what stands at the positions of a trace, one position at a time.
use Rattle.std.proofs.Common.{◌≡◌, ◌+◌, ◌++◌, ◌∷◌, [], List, length, take, flat_map, filter_map, slice_get, Option, Some, None, ap, sym, ◌∙◌, arith, append_assoc}
use Rattle.std.proofs.lemmas.List.{take-append-le, take_at, append-nil}
use Rattle.std.proofs.lemmas.List.Elements.{filter_map-append}
use Rattle.std.specs.List.{cons_option, enumerate_from}
use Rattle.std.specs.Option.{option_map}
use Rattle.ld_trace.specs.Events.{PlainEvent, Position}
use Rattle.ld_rules.specs.declared.fault.TraceFault.{TraceFault}
use Rattle.ld_rules.specs.Outcome.{event_said, events, said_fault, FaultyLine, faulty_lines}
use Rattle.ld_rules.specs.Dependency.{seen_at, seen}
use Rattle.ld_rules.proofs.PlaceLemmas.{enumerate_push, filter_map_along, flat_map_along, flat_map-append, by_pushes}

pub events-push : (all : List Position) (p : Position) → events (all ++ p ∷ []) ≡ events all ++ cons_option (event_said p.says) []
events-push all p = filter_map-append (λ position. event_said position.says) all (p ∷ [])

-- the fault of a position, with its line
abbrev pub faulty : List Position → Position → Option FaultyLine
faulty before p = option_map (λ fault. record { line = p.line; fault = fault }) (said_fault (events before) p.says)

pub faulty_lines-push : (all : List Position) (p : Position) → faulty_lines (all ++ p ∷ []) ≡ faulty_lines all ++ cons_option (faulty all p) []
faulty_lines-push all p =
    ap (filter_map (λ q. faulty (take q.0 (all ++ p ∷ [])) q.1)) (enumerate_push 0 all p)
    ∙ filter_map-append (λ q. faulty (take q.0 (all ++ p ∷ [])) q.1) (enumerate_from 0 all) ((0 + length all, p) ∷ [])
    ∙ (λ i. filter_map_along (λ q. faulty (take q.0 (all ++ p ∷ [])) q.1) (λ q. faulty (take q.0 all) q.1) 0 all
    (λ n x low high. ap (λ ys. faulty ys x) (take-append-le n all (p ∷ []) (omega arith))) i
    ++ cons_option (faulty (whole i) p) [])
  where
    whole : take (0 + length all) (all ++ p ∷ []) ≡ all
    whole = take_at all (p ∷ []) (0 + length all) (omega arith)

-- what stands behind adds faulty lines at the end alone
pub faulty_lines-append : (all more : List Position) → (later : List FaultyLine) × (faulty_lines (all ++ more) ≡ faulty_lines all ++ later)
faulty_lines-append all more = by_pushes (λ ps. (later : List FaultyLine) × (faulty_lines (all ++ ps) ≡ faulty_lines all ++ later))
    ([], ap faulty_lines (append-nil all) ∙ sym (append-nil (faulty_lines all))) step more
  where
    step : (ps : List Position) (p : Position) → (later : List FaultyLine) × (faulty_lines (all ++ ps) ≡ faulty_lines all ++ later) →
        (later : List FaultyLine) × (faulty_lines (all ++ (ps ++ p ∷ [])) ≡ faulty_lines all ++ later)
    step ps p h = (
      h.0 ++ cons_option (faulty (all ++ ps) p) [],
      ap faulty_lines (sym (append_assoc all ps (p ∷ []))) ∙ faulty_lines-push (all ++ ps) p ∙ ap (λ ls. ls ++ cons_option (faulty (all ++ ps) p) [])
          h.1 ∙ append_assoc (faulty_lines all) h.0 (cons_option (faulty (all ++ ps) p) []),
    )

-- the first fault is that of the first position that has one
pub first_fault : (all : List Position) (p : Position) (more : List Position) (fault : TraceFault) → faulty_lines all ≡ [] → said_fault (events all)
    p.says ≡ Some fault → slice_get (faulty_lines (all ++ p ∷ more)) 0 ≡ Some (record { line = p.line; fault = fault })
first_fault all p more fault clean is =
    let later = faulty_lines-append (all ++ p ∷ []) more in
    let here : faulty_lines (all ++ p ∷ []) ≡ record { line = p.line; fault = fault } ∷ [] =
    faulty_lines-push all p ∙ (λ i. clean i ++ cons_option (option_map (λ f. record { line = p.line; fault = f }) (is i)) []) in
    ap (λ ps. slice_get (faulty_lines ps) 0) (sym (append_assoc all (p ∷ []) more))
    ∙ ap (λ ls. slice_get ls 0) (later.1 ∙ ap (λ ls. ls ++ later.0) here)

-- a position without a fault leaves none
pub no_fault : (all : List Position) (p : Position) → faulty_lines all ≡ [] → said_fault (events all) p.says ≡ None → faulty_lines (all ++ p ∷ []) ≡ []
no_fault all p clean is = faulty_lines-push all p ∙ (λ i. clean i ++ cons_option (option_map (λ f. record { line = p.line; fault = f }) (is i)) [])

-- what stands at one more position
pub seen-push : {A : Type 0} (at : List PlainEvent → PlainEvent → List A) (all : List Position) (p : Position) → seen at (all ++ p ∷ []) ≡ seen at all ++ seen_at at (events all) p.line p.says
seen-push at all p =
    ap (flat_map (λ q. seen_at at (events (take q.0 (all ++ p ∷ []))) q.1.line q.1.says)) (enumerate_push 0 all p)
    ∙ flat_map-append (λ q. seen_at at (events (take q.0 (all ++ p ∷ []))) q.1.line q.1.says) (enumerate_from 0 all) ((0 + length all, p) ∷ [])
    ∙ (λ i. flat_map_along (λ q. seen_at at (events (take q.0 (all ++ p ∷ []))) q.1.line q.1.says)
    (λ q. seen_at at (events (take q.0 all)) q.1.line q.1.says) 0 all (λ n x low high. ap (λ ys. seen_at at (events ys) x.line x.says) (take-append-le n all (p ∷ []) (omega arith))) i
    ++ (seen_at at (events (whole i)) p.line p.says ++ []))
    ∙ ap (λ xs. seen at all ++ xs) (append-nil (seen_at at (events all) p.line p.says))
  where
    whole : take (0 + length all) (all ++ p ∷ []) ≡ all
    whole = take_at all (p ∷ []) (0 + length all) (omega arith)
