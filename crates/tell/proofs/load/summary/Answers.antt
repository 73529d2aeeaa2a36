use Rattle.std.proofs.Common.{append_assoc, refl}
use Rattle.tell.proofs.load.summary.Goals as goal

pub returns : goal.returns
returns c =
    rw (c.in_ok-push.ensures.items, c.in_ok-extend_from_slice.ensures.items, c.into_bytes-line.ensures.value, c.in_ok-write.ensures.bytes, c.new-line.ensures.bytes)
    (simp (append_assoc, c.before_tab.ensures, c.count-tally.ensures.moments, c.count-tally.ensures.refusals, c.count-tally.ensures.last) refl)
