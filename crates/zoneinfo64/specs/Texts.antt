-- The texts of errors (docs/FORMATS.md, "What reading answers").
use Rattle.std.specs.Prelude.{ℕ, List, codes}
use Rattle.zoneinfo64.specs.declared.error.BinaryDeserializerError.{BinaryDeserializerError}
use Rattle.zoneinfo64.specs.declared.error.BinaryDeserializerError.TheVariants.{Memory, Tree, Rules}

-- the text of each error
abbrev pub error_text : BinaryDeserializerError → List ℕ
error_text Memory = codes "memory could not be found"
error_text Tree = codes "no resource tree"
error_text Rules = codes "zone data rule broken"
