-- What is written is the marked trace.
use Rattle.std.proofs.Common.{◌≡◌, ◌∙◌, ◌++◌, List, ℕ, ap, append_assoc, map, option_map, slice_get, sym}
use Rattle.std.proofs.lemmas.Result.{on_ok_weaker}
use Rattle.ld_trace.specs.Sources.{plain}
use Rattle.ld_origin.specs.Origin.{lacking, mark_of, marked, origin_of, plain_home}
use Rattle.ld_reduce.specs.Written.{ended, header, trace_text}
use Rattle.ld_reduce.proofs.MarkedLemmas.{text-with}
use Rattle.ld_reduce.proofs.written.write_trace.Goals as goal

joined : (old one two three : List ℕ) → ((old ++ one) ++ two) ++ three ≡ old ++ ((one ++ two) ++ three)
joined old one two three = ap (λ o. o ++ three) (append_assoc old one two) ∙ append_assoc old (one ++ two) three

pub returns : goal.returns
returns c =
    let source = plain c.args.source.now in
    let homes = map plain_home c.args.homes.now in
    let home = lacking (slice_get homes source.number) (origin_of source.bytes) in
    let old = c.args.text.now.items in
    let end = ended source.bytes in
    let step : c.write_mark.new.text.items ++ end ≡ old ++ trace_text (marked homes source) =
    ap (λ o. o ++ end) (c.in_ok-write_mark.ensures ∙ ap (λ o. o ++ mark_of (option_map plain_home c.lacking.result)) c.in_ok-write_header.ensures ∙ ap (λ m. (old ++ header source.label) ++ mark_of m) c.lacking.ensures)
    ∙ joined old (header source.label) (mark_of home) end
    ∙ ap (λ o. old ++ o) (sym (text-with home source)) in
    on_ok_weaker c.append_ended.result (λ is. is ∙ step) c.append_ended.ensures
