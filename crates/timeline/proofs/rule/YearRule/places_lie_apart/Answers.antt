use Rattle.std.proofs.Common.{◌∙◌}
use Rattle.timeline.proofs.YearsApart.{start_apart, end_apart}
use Rattle.timeline.proofs.rule.YearRule.places_lie_apart.Goals as goal

pub returns-then-self : goal.returns-then-self
returns-then-self c = λ t r is y.
    let lie = c.lie_in_halves.ensures t in
    start_apart c.counts_years.ensures c.kinds_of_year.ensures c.rules_go_by_kind.ensures r _ y (c.self.view_is ∙ is) c.if-self.true (record {
      raw = rw (← c.self.view_is) at c.requires.raw;
      sum = rw (← c.self.view_is) at c.requires.sum;
      start_seconds = c.self.invariant.start_seconds;
      end_seconds = c.self.invariant.end_seconds;
      start = lie.0;
      end = lie.1;
    })

pub returns-else-self : goal.returns-else-self
returns-else-self c = λ t r is y.
    let lie = c.lie_in_halves-else-self.ensures t in
    end_apart c.counts_years.ensures c.kinds_of_year.ensures c.rules_go_by_kind.ensures r _ y (c.self.view_is ∙ is) c.if-self.false (record {
      raw = rw (← c.self.view_is) at c.requires.raw;
      sum = rw (← c.self.view_is) at c.requires.sum;
      start_seconds = c.self.invariant.start_seconds;
      end_seconds = c.self.invariant.end_seconds;
      start = lie.1;
      end = lie.0;
    })
