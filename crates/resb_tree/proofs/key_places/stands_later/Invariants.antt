use Rattle.std.proofs.Common.{◌≡◌, ◌-◌, ◌+◌}
use Rattle.resb_tree.specs.Words.{run}
use Rattle.resb_tree.specs.Keys.{stands_in}
use Rattle.resb_tree.specs.BodyView.{told}
use Rattle.resb_tree.specs.Inside.Forms.{entry_in}
use Rattle.resb_tree.specs.Inside.KeyPlaces.{key_there, keys_there}
use Rattle.resb_tree.proofs.key_places.stands_later.Given as goal

abbrev pub invariant-loop-other : goal.invariant-loop-other
invariant-loop-other l =
    let b = told l.body in
    let at = entry_in l.form b l.v l.count in
    let key = key_there b (at l.k).0 in
    stands_in key (keys_there b (run at l.other (l.count - l.other))) ≡ stands_in key (keys_there b (run at (l.k + 1) (l.count - (l.k + 1))))
