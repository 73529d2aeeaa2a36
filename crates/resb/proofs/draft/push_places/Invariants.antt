use Rattle.std.proofs.Common.{◌≡◌, ◌≤◌, ◌++◌, drop}
use Rattle.std.specs.Prelude.{map}
use Rattle.resb.specs.Packing.{most_unit}
use Rattle.resb.specs.Pool.{bare}
use Rattle.resb.specs.Inside.KeyPlaces.{places_in}
use Rattle.resb.specs.WrittenFiles.{most_of}
use Rattle.resb.proofs.draft.push_places.Given as goal

abbrev pub invariant-loop-key : goal.invariant-loop-key
invariant-loop-key l =
    let places = places_in l.pool in
    let behind = bare (drop l.key-index l.keys) in
    record {
      units : l.units.items ++ map places behind ≡ l.fn.units.items ++ map places (bare l.keys);
      near : most_of (map places (bare l.keys)) ≤ most_unit → most_of (map places behind) ≤ most_unit;
      all : most_of (map places behind) ≤ most_unit → most_of (map places (bare l.keys)) ≤ most_unit;
    }
