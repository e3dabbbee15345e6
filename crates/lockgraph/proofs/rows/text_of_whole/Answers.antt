use Rattle.lockgraph.proofs.rows.text_of_whole.Goals as goal

pub returns : goal.returns
returns g c = record {
  json = λ json. record {
    rows = c.in_ok-rows.rows;
    totals = c.in_ok-rows.ensures.totals;
    refused = c.in_ok-rows.ensures.refused;
    violations = c.in_ok-rows.ensures.violations;
    count = c.in_ok-rows.ensures.count;
    first = c.in_ok-rows.ensures.first;
    written = c.in_ok-text.ensures json;
  };
}
