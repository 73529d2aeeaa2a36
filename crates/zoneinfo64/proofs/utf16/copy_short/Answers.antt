use Rattle.zoneinfo64.proofs.AsciiNames.{copied-whole, copied-ascii}
use Rattle.zoneinfo64.proofs.utf16.copy_short.Goals as goal

pub returns-clause-bytes : goal.returns-clause-bytes
returns-clause-bytes c = λ t. copied-whole c.args.text.now c.copy_to.new.units c.copy_ascii.new.bytes c.copy_to.ensures (c.copy_ascii.ensures.same t) (c.copy_ascii.ensures.ascii t)

pub returns-clause-ascii : goal.returns-clause-ascii
returns-clause-ascii c = λ t. copied-ascii c.args.text.now c.copy_to.new.units c.copy_ascii.new.bytes (c.copy_ascii.ensures.same t) (c.copy_ascii.ensures.ascii t)
