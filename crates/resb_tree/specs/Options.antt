-- Values that a bundle may lack, and what is made of them (docs/FORMATS.md, "Items").
use Rattle.std.specs.Prelude.{Bool, Option, Some, None, cond}

-- what comes of a value, where there is one
infixl 10 ◌>>=◌
abbrev pub ◌>>=◌ : {A B : Type 0} → Option A → (A → Option B) → Option B
(Some x) >>= f = f x
None >>= f = None

-- a value, where a condition holds
abbrev pub when : Bool → {A : Type 0} → A → Option A
when b x = cond b (Some x) None
