use Rattle.std.proofs.Common.{sym}
use Rattle.zoneinfo64.proofs.Wides.{length-wide}
use Rattle.zoneinfo64.proofs.fields.wide_len.Goals as goal

pub returns : goal.returns
returns c = sym (length-wide c.args.words.now)
