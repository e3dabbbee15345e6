use Rattle.std.proofs.Common.{◌≡◌, ◌∙◌, ◌++◌, length, map, sym, ap, arith, ⊎_elim}
use Rattle.std.proofs.lemmas.List.{append-nil, nil_from_length}
use Rattle.ld_work.proofs.JobLemmas.{map_moved}
use Rattle.ld_work.proofs.workers.jobs_of.Goals as goal

pub loop-feeder-init : goal.loop-feeder-init
loop-feeder-init g c =
    let made = c.into_iter-feeder-iterator.result in
    let same = c.into_iter-feeder-iterator.ensures.into_iter_gives in
    let seats = c.zip-feeder-items.ensures.second.0 in
    record {
      seats = ap (λ js. map (λ job. job.seat) js ++ made.b.rest.items) c.new-jobs.ensures.items ∙ (ap (λ z. z.b.rest.items) same ∙ seats);
      left = omega (
        arith,
        ap (λ z. length z.a.rest.items) same,
        ap (λ z. length z.b.rest.items) same,
        ap (λ f. length f.rest.items) c.zip-feeder-items.ensures.first,
        ap length c.into_iter.ensures.rest,
        ap length seats,
        c.requires,
      );
    }

pub loop-feeder-preserved : goal.loop-feeder-preserved
loop-feeder-preserved g c =
    let i = c.loop-feeder.invariant in
    let steps = c.in-Some.ensures.steps in
    let jobs = c.loop-feeder.jobs.items in
    let rest = c.next.new.self.b.rest.items in
    record {
      seats = ap (λ js. map (λ job. job.seat) js ++ rest) c.in_ok-push.ensures.items
          ∙ (map_moved (λ job. job.seat) jobs _ rest ∙ (ap (λ r. map (λ job. job.seat) jobs ++ r) (sym steps.1.0) ∙ i.seats));
      left = omega (arith, i.left, ap length steps.0.0, ap length steps.1.0);
    }

pub returns-clause-seats : goal.returns-clause-seats
returns-clause-seats g c =
    let i = c.loop-feeder.invariant in
    let a = c.loop-feeder.feeder-iterator.a.rest in
    let b = c.loop-feeder.feeder-iterator.b.rest in
    let seats = map (λ job. job.seat) c.loop-feeder.jobs.items in
    let none : length b.items ≡ 0 = ⊎_elim (λ e. omega (arith, e.1.0, a.ok.0, i.left)) (λ e. omega (arith, e.1.0, b.ok.0)) c.in-None.ensures.steps in
    sym (append-nil seats) ∙ (ap (λ r. seats ++ r) (sym (nil_from_length b.items none)) ∙ i.seats)
