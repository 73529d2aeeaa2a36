-- Where a language puts its words and spaces (docs/WORDS.md, "Languages").
use Rattle.std.specs.Prelude.{◌≡◌, ℕ}
use Rattle.tongues.specs.Speech.{Speech}
use Rattle.tongues.specs.declared.language.Layout.{Layout}

-- beside this count, the language puts its words and spaces so
pub record IsLaidOut (s : Speech) (count : ℕ) (l : Layout) : Type 0 where
  pub past_first : l.ago_before ≡ s.past_first
  pub near_past : l.space_near_ago.now ≡ s.near_past
  pub between_chunks : l.between_chunks.now ≡ s.between_chunks
  pub between_value_and_word : l.between_value_and_word.now ≡ s.between_value_and_word
  pub unit_first : l.unit_before ≡ s.unit_first count
