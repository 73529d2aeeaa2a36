use Rattle.std.proofs.Common.{◌≡◌, ◌+◌, ◌-◌, ◌%◌, drop}
use Rattle.std.specs.Str.{bytes_eq}
use Rattle.resb_tree.specs.BodyView.{told}
use Rattle.resb_tree.specs.Inside.KeyPlaces.{key_there, IsKey}
use Rattle.resb_tree.specs.Inside.Bytes.{HoldBytes}
use Rattle.resb_tree.proofs.key_places.key_is.Given as goal

-- the key has the bytes where its rest has the rest of them
abbrev pub invariant-loop-i : goal.invariant-loop-i
invariant-loop-i l =
    let b = told l.body in record {
      key : IsKey b (l.place + l.i);
      left : HoldBytes b.words (l.place + l.i) (4 - l.i % 4) l.left;
      same : bytes_eq (key_there b (l.place + l.i)) (drop l.i l.bytes) ≡ bytes_eq (key_there b l.place) l.bytes;
    }
