use Rattle.civil.proofs.DateTexts.{date_text-is}
use Rattle.civil.proofs.laws.dates_are_written.Goals as goal

pub returns : goal.returns
returns c = date_text-is
