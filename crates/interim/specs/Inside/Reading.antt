-- What a call that reads tokens answers.
use Rattle.std.specs.Prelude.{◌≡◌, List, Result, Ok, Err}
use Rattle.interim.specs.declared.errors.DateError.{DateError}
use Rattle.interim.specs.TokenKinds.{Token}
use Rattle.interim.specs.Steps.{Outcome}

-- a call answers the outcome of a step, and leaves its tokens
abbrev pub Reads : {A : Type 0} → Outcome A → Result A DateError → List Token → Type 0
Reads outcome (Ok a) left = outcome ≡ Ok (a, left)
Reads outcome (Err e) left = outcome ≡ Err e
