use Rattle.zoneinfo64.proofs.Units.{none_left}
use Rattle.zoneinfo64.proofs.utf16.Utf16CharsIterator.next.Goals as goal

pub returns-in_err-first-clause-steps : goal.returns-in_err-first-clause-steps
returns-in_err-first-clause-steps c = rw (c.from_residual.ensures, c.in_err-first.ensures.none) (none_left, none_left)
