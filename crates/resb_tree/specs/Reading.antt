-- What a pass over the words under a limit on weight gives (docs/FORMATS.md, "Weight").
use Rattle.std.specs.Prelude.{◌≡◌, Option, Some, None, Result, Ok, Err}
use Rattle.resb_tree.specs.declared.error.ResbError.{ResbError}
use Rattle.resb_tree.specs.declared.error.ResbError.TheVariants as errors

-- what was read is what there is, or there is none, or memory ran out
abbrev pub Gives : {X Y : Type 0} → (X → Y) → Result X ResbError → Option Y → Type 0
Gives view (Ok x) found = found ≡ Some (view x)
Gives view (Err errors.Memory) found = Unit {0}
Gives view (Err errors.NoTree) found = found ≡ None
Gives view (Err errors.TooLarge) found = ⊥
Gives view (Err errors.BadKey) found = ⊥
