use Rattle.std.proofs.Common.{◌≡◌, ◌-◌}
use Rattle.resb_tree.specs.Words.{run}
use Rattle.resb_tree.specs.BodyView.{told}
use Rattle.resb_tree.specs.Inside.Forms.{entry_in}
use Rattle.resb_tree.specs.Inside.KeyPlaces.{keys_there}
use Rattle.resb_tree.proofs.key_places.same_places.Given as goal

-- all keys are the same where those to come are
abbrev pub invariant-loop-k : goal.invariant-loop-k
invariant-loop-k l =
    let b = told l.body in
    let at = entry_in l.form b l.v l.count in
    let known = entry_in l.other_form b l.other l.count in
    keys_there b (run at l.k (l.count - l.k)) ≡ keys_there b (run known l.k (l.count - l.k)) → keys_there b (run at 0 l.count) ≡ keys_there b (run known 0 l.count)
