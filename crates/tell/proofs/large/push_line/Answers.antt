use Rattle.std.proofs.Common.{append_assoc}
use Rattle.tell.proofs.large.push_line.Goals as goal

pub returns : goal.returns
returns c =
    simp (append_assoc, c.in_ok-push.ensures.items, c.in_ok-extend_from_slice-3.ensures.items, c.in_ok-extend_from_slice-2.ensures.items, c.in_ok-extend_from_slice.ensures.items, c.zone_name.ensures, c.phrase.ensures)
