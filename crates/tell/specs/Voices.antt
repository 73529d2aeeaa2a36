-- How distances are told: to the past and ahead (docs/ARCHITECTURE.md, "Answers").
use Rattle.std.specs.Prelude.{ℕ, List, Bool, if◌then◌else◌}
use Rattle.tongues.specs.Speech.{Speech}
use Rattle.timeago.specs.Settings.{Settings, default_settings, ahead_settings}
use Rattle.timeago.specs.Words.{IsWords}

-- a language, and what a formatter of it is set to
pub record Voice : Type 0 where
  pub speech : Speech
  pub settings : Settings

-- the words by which it tells a distance of so many nanoseconds
abbrev pub IsToldBy : Voice → ℕ → List ℕ → Type 0
IsToldBy voice distance text = IsWords voice.speech voice.settings distance text

-- one for moments that are not after the base, and one for those after it
pub record Voices : Type 0 where
  pub past : Voice
  pub ahead : Voice

-- the voice for what is ahead of the base, or for what is not
abbrev pub voice_for : Voices → Bool → Voice
voice_for voices ahead = if ahead then voices.ahead else voices.past

-- a language's own: one count, and ahead of the base no word for the past
abbrev pub voices_of : Speech → Voices
voices_of speech = record {
  past = record { speech = speech; settings = default_settings };
  ahead = record { speech = speech; settings = ahead_settings };
}
