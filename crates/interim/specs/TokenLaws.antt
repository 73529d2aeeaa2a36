-- What holds of the tokens of each phrase (docs/GRAMMAR.md, "Tokens").
use Rattle.std.specs.Prelude.{ℕ, ◌<◌, ◌≤◌, List, [], ◌∷◌, length}
use Rattle.interim.specs.TokenKinds.{Kind, Number, Token}
use Rattle.interim.specs.Tokens.{phrase_tokens}

-- from a byte on, each token takes a byte and stands behind the one before it, and none passes the end
abbrev pub AreInOrder : ℕ → ℕ → List Token → Type 0
AreInOrder from end [] = from ≤ end
AreInOrder from end (t ∷ ts) = (from ≤ t.span.start) × (t.span.start < t.span.end) × AreInOrder t.span.end end ts

-- a number has at most four digits
abbrev pub HasFewDigits : Kind → Type 0
HasFewDigits (Number n) = n < 10000
HasFewDigits other = Unit {0}

-- no number of the tokens has over four digits
abbrev pub AllHaveFewDigits : List Token → Type 0
AllHaveFewDigits [] = Unit {0}
AllHaveFewDigits (t ∷ ts) = HasFewDigits t.kind × AllHaveFewDigits ts

-- tokens stand in order inside the phrase, and their numbers have at most four digits
pub record TokensAreSound : Type 0 where
  pub in_order : (phrase : List ℕ) → AreInOrder 0 (length phrase) (phrase_tokens phrase)
  pub few_digits : (phrase : List ℕ) → AllHaveFewDigits (phrase_tokens phrase)
