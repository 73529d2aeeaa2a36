use Rattle.std.proofs.Common.{◌≡◌, ◌-◌, ◌*◌, ◌≤◌, ◌++◌}
use Rattle.resb_tree.specs.Words.{run, byte_in}
use Rattle.resb_tree.specs.BodyView.{told}
use Rattle.resb_tree.specs.Inside.KeyPlaces.{key_there, IsKey}
use Rattle.resb_tree.proofs.key_places.key_len.Given as goal

-- the bytes that were passed, and those to come, are the key
abbrev pub invariant-loop-at : goal.invariant-loop-at
invariant-loop-at l =
    let b = told l.body in record {
      from : l.place ≤ l.at;
      key : IsKey b l.at;
      whole : run (byte_in b.words) l.place (l.at - l.place) ++ key_there b l.at ≡ key_there b l.place;
    }

abbrev pub decreases-loop-at : goal.decreases-loop-at
decreases-loop-at l = 4 * l.body.keys_end - l.at
