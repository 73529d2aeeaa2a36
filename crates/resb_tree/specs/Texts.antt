-- What an error prints (docs/FORMATS.md, "What reading answers").
use Rattle.std.specs.Prelude.{ℕ, List, codes}
use Rattle.resb_tree.specs.declared.error.ResbError.{ResbError}
use Rattle.resb_tree.specs.declared.error.ResbError.TheVariants.{Memory, NoTree, TooLarge, BadKey}

-- the text of each error
abbrev pub error_text : ResbError → List ℕ
error_text Memory = codes "memory could not be found"
error_text NoTree = codes "no resource tree"
error_text TooLarge = codes "tree too large"
error_text BadKey = codes "bad key"
