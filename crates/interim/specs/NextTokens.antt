-- The next token, and the faults that stop a reading (docs/GRAMMAR.md, "Faults").
use Rattle.std.specs.Prelude.{List, [], ◌∷◌, Option, Some, None, Ok}
use Rattle.interim.specs.declared.errors.DateError.{DateError}
use Rattle.interim.specs.declared.errors.DateError.TheVariants.{ExpectedToken, EndOfText}
use Rattle.interim.specs.declared.errors.Expected.{Expected}
use Rattle.interim.specs.TokenKinds.{Token, Kind}
use Rattle.interim.specs.Steps.{Step, stop}

-- the token in front, if there is one
abbrev pub next_token : List Token → Option Token
next_token [] = None
next_token (t ∷ ts) = Some t

-- the tokens behind it
abbrev pub after_token : List Token → List Token
after_token [] = []
after_token (t ∷ ts) = ts

-- the next token, or the end, which stays the end
abbrev pub next : Step (Option Token)
next = λ ts. Ok (next_token ts, after_token ts)

-- the next token, which stays
abbrev pub peek : Step (Option Token)
peek = λ ts. Ok (next_token ts, ts)

-- what the next token is
abbrev pub next_kind : List Token → Option Kind
next_kind [] = None
next_kind (t ∷ ts) = Some t.kind

-- the fault where another text is expected in place of a token, or of the end
abbrev pub fault_at : Expected → Option Token → DateError
fault_at e (Some t) = ExpectedToken e t.span
fault_at e None = EndOfText e

-- a token is not what is expected
abbrev pub refuse : {A : Type 0} → Expected → Token → Step A
refuse e t = stop (ExpectedToken e t.span)

-- the text has ended where something is expected
abbrev pub ended : {A : Type 0} → Expected → Step A
ended e = stop (EndOfText e)

-- a step for what there is, and another where there is nothing
abbrev pub given : {A B : Type 0} → Option A → (A → Step B) → Step B → Step B
given (Some a) step other = step a
given None step other = other
