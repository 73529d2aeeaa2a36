-- The clock time of a plain form, in one of four shapes (docs/GRAMMAR.md, "The plain form").
use Rattle.std.specs.Prelude.{ℕ, List, [], ◌∷◌, Option, Some, None, option_map}
use Rattle.interim.specs.declared.types.TimeSpec.{TimeSpec}
use Rattle.interim.specs.Parts.{clock, shifted}
use Rattle.interim.specs.TokenKinds.{Kind, Number, Word, Colon, Dot}
use Rattle.interim.specs.Words.{half_of}

-- a clock time in one of four shapes: with a colon, with seconds, with a dot, or the hour alone
pub data PlainTime : Type 0 where
  Minutes : ℕ → ℕ → PlainTime
  Seconds : ℕ → ℕ → ℕ → PlainTime
  Dotted : ℕ → ℕ → PlainTime
  Lone : ℕ → PlainTime

-- the tokens of a clock time
abbrev pub spelled_time : PlainTime → List Kind
spelled_time (Minutes hour minute) = Number hour ∷ Colon ∷ Number minute ∷ []
spelled_time (Seconds hour minute second) = Number hour ∷ Colon ∷ Number minute ∷ Colon ∷ Number second ∷ []
spelled_time (Dotted hour minute) = Number hour ∷ Dot ∷ Number minute ∷ []
spelled_time (Lone hour) = Number hour ∷ []

-- perhaps a word behind it
abbrev pub spelled_half : Option (List ℕ) → List Kind
spelled_half None = []
spelled_half (Some name) = Word name ∷ []

-- the hour, which a word am or pm may shift
abbrev pub hour_named : ℕ → Option (List ℕ) → Option ℕ
hour_named hour None = Some hour
hour_named hour (Some name) = option_map (λ half. shifted half hour) (half_of name)

-- the clock time that it names, if a word behind it is am or pm, which a lone hour needs
abbrev pub time_named : PlainTime → Option (List ℕ) → Option TimeSpec
time_named (Minutes hour minute) half = option_map (λ h. clock h minute 0 0) (hour_named hour half)
time_named (Seconds hour minute second) half = option_map (λ h. clock h minute second 0) (hour_named hour half)
time_named (Dotted hour minute) half = option_map (λ h. clock h minute 0 0) (hour_named hour half)
time_named (Lone hour) None = None
time_named (Lone hour) (Some name) = option_map (λ h. clock h 0 0 0) (hour_named hour (Some name))
