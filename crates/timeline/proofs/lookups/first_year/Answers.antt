use Rattle.std.proofs.Common.{rules, w32, FitsSigned, ◌∙◌}
use Rattle.std.proofs.lemmas.Int.{to_z-of_z}
use Rattle.timeline.specs.Inside.KeptRules.{kept_rule}
use Rattle.timeline.proofs.lookups.first_year.Goals as goal

pub returns-clause-value : goal.returns-clause-value
unfolding kept_rule
returns-clause-value c =
    let fits : FitsSigned w32 c.first_year.result = search rules in
    to_z-of_z w32 c.first_year.result fits ∙ (rw c.years.ensures at c.first_year.ensures.value)
