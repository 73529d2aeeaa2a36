use Rattle.std.proofs.Common.{◌≡◌, ◌^◌, ◌<◌, drop}
use Rattle.tell.specs.Fields.{digits_from}
use Rattle.tell.proofs.ago.long_number.Given as goal

abbrev pub invariant-loop-digit : goal.invariant-loop-digit
invariant-loop-digit l = record { rest : digits_from l.value (drop l.digit-index l.digits) ≡ digits_from 0 l.digits; small : l.value < 10 ^ l.digit-index }
