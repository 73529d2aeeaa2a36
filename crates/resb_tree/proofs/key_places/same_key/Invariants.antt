use Rattle.std.proofs.Common.{◌≡◌, ◌-◌, ◌*◌}
use Rattle.std.specs.Str.{bytes_eq}
use Rattle.resb_tree.specs.BodyView.{told}
use Rattle.resb_tree.specs.Inside.KeyPlaces.{key_there, IsKey}
use Rattle.resb_tree.proofs.key_places.same_key.Given as goal

-- the keys are equal where their rests are
abbrev pub invariant-loop-one : goal.invariant-loop-one
invariant-loop-one l =
    let b = told l.body in record {
      one : IsKey b l.at;
      other : IsKey b l.there;
      same : bytes_eq (key_there b l.at) (key_there b l.there) ≡ bytes_eq (key_there b l.one) (key_there b l.other);
    }

abbrev pub decreases-loop-one : goal.decreases-loop-one
decreases-loop-one l = 4 * l.body.keys_end - l.at
