-- What a text holds after something was appended to it (docs/WORDS.md, "The text").
use Rattle.std.specs.Prelude.{◌≡◌, ℕ, List, ◌++◌}

-- what was added at the end keeps a fact
abbrev pub Adds : (List ℕ → Type 0) → List ℕ → List ℕ → Type 0
Adds P old new = (added : List ℕ) × P added × (new ≡ old ++ added)

-- the old text is kept, and something may be added at its end
pub record Keeps (old new : List ℕ) : Type 0 where
  pub added : List ℕ
  pub is : new ≡ old ++ added
