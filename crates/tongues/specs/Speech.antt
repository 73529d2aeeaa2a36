-- What a language says (docs/WORDS.md, "Languages").
use Rattle.std.specs.Prelude.{ℕ, Bool, false, List}
use Prim.Native.String.{String}
use Rattle.tongues.specs.Text.{text}
use Rattle.tongues.specs.declared.unit.TimeUnit.{TimeUnit}

-- the words for a distance that is too low or too high to tell and for the past, a unit's word beside a count, whether
-- the past's word stands first, the spaces, and whether a unit's word stands before a count
pub record Speech : Type 0 where
  pub low : List ℕ
  pub high : List ℕ
  pub past : List ℕ
  pub word : TimeUnit → ℕ → List ℕ
  pub past_first : Bool
  pub near_past : List ℕ
  pub between_chunks : List ℕ
  pub between_value_and_word : List ℕ
  pub unit_first : ℕ → Bool

-- a language with these words, with one space between any two, counts before their units, and the word for the past last
abbrev pub spoken : String → String → String → (TimeUnit → ℕ → List ℕ) → Speech
spoken low high past word = record {
  low = text low;
  high = text high;
  past = text past;
  word = word;
  past_first = false;
  near_past = text " ";
  between_chunks = text " ";
  between_value_and_word = text " ";
  unit_first = (λ _. false);
}
