use Rattle.civil.proofs.YearKinds.{kind_of_example}
use Rattle.civil.proofs.laws.example_years.Goals as goal

pub returns : goal.returns
returns c = kind_of_example
