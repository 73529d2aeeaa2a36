use Rattle.std.proofs.Common.{◌≡◌, ◌-◌}
use Rattle.resb_tree.specs.Words.{run}
use Rattle.resb_tree.specs.Keys.{distinct}
use Rattle.resb_tree.specs.BodyView.{told}
use Rattle.resb_tree.specs.Inside.Forms.{entry_in}
use Rattle.resb_tree.specs.Inside.KeyPlaces.{keys_there}
use Rattle.resb_tree.proofs.key_places.few_apart.Given as goal

abbrev pub invariant-loop-k : goal.invariant-loop-k
invariant-loop-k l =
    let b = told l.body in
    let at = entry_in l.form b l.v l.count in
    distinct (keys_there b (run at l.k (l.count - l.k))) ≡ distinct (keys_there b (run at 0 l.count))
