-- The steps by which tokens are read: each takes tokens from the front, and gives a value or the first fault
-- (docs/GRAMMAR.md, "Tokens").
use Rattle.std.specs.Prelude.{List, Result, Ok, Err}
use Rattle.interim.specs.declared.errors.DateError.{DateError}
use Rattle.interim.specs.TokenKinds.{Token}

-- what was read and the tokens that are left, or a fault
abbrev pub Outcome : Type 0 → Type 0
Outcome A = Result (A × List Token) DateError

-- a step of reading: from the tokens that are left, its outcome
abbrev pub Step : Type 0 → Type 0
Step A = List Token → Outcome A

-- the step that follows, where the first was not refused
abbrev pub and_then : {A B : Type 0} → Outcome A → (A → Step B) → Outcome B
and_then (Ok p) f = f p.0 p.1
and_then (Err e) f = Err e

-- one step, and then the one that its value names
infixl 10 ◌>>=◌
abbrev pub ◌>>=◌ : {A B : Type 0} → Step A → (A → Step B) → Step B
step >>= f = λ ts. and_then (step ts) f

-- a step that takes no token
abbrev pub pure : {A : Type 0} → A → Step A
pure a = λ ts. Ok (a, ts)

-- a step that refuses
abbrev pub stop : {A : Type 0} → DateError → Step A
stop e = λ ts. Err e
