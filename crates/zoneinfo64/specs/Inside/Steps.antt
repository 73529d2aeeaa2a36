-- What the reader of a bundle says of its parts: of what it read, whatever that is.
use Rattle.std.specs.Prelude.{Option, Some, None, Result, Ok, Err, ◌≡◌}
use Rattle.zoneinfo64.specs.declared.error.BinaryDeserializerError.{BinaryDeserializerError}
use Rattle.zoneinfo64.specs.declared.error.BinaryDeserializerError.TheVariants as errors

-- what was read is what there is; or there is none; or memory ran out
abbrev pub Reads : {X Y : Type 0} → (X → Y) → Result X BinaryDeserializerError → Option Y → Type 0
Reads view (Ok x) found = found ≡ Some (view x)
Reads view (Err errors.Memory) found = Unit {0}
Reads view (Err errors.Rules) found = found ≡ None
Reads view (Err errors.Tree) found = ⊥
