use Rattle.std.proofs.Common.{append_assoc}
use Rattle.tell.proofs.reply.push_unlawful.Goals as goal

pub returns : goal.returns
returns c = simp (append_assoc, c.in_ok-push_count.ensures, c.in_ok-push_str.ensures.bytes, c.from.ensures, c.number.ensures)
