-- What a body borrows, as a definition has it (docs/FORMATS.md, "Items").
use Rattle.resb_tree.specs.Bodies.{Body, body}
use Rattle.resb_tree.specs.declared.body.BodyWords.{BodyWords}

-- the words and ends of a body
abbrev pub told : BodyWords → Body
told b = body b.words.now b.keys_end b.area_end b.end
