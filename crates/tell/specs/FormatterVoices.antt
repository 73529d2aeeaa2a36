-- How two formatters tell distances (docs/ARCHITECTURE.md, "Answers").
use Rattle.tongues.specs.Speech.{Speech}
use Rattle.timeago.specs.Formatters.{settings_of, language_of}
use Rattle.timeago.specs.declared.formatter.Formatter.{Formatter}
use Rattle.tell.specs.Voices.{Voice, Voices}

-- the language and the settings of a formatter
abbrev pub voice_by : {L : Type 0} → (L → Speech) → Formatter L → Voice
voice_by speech f = record { speech = speech (language_of f); settings = settings_of f }

-- those of the formatter for what is past, and of the one for what is ahead
abbrev pub voices_by : {L : Type 0} → (L → Speech) → Formatter L → Formatter L → Voices
voices_by speech past ahead = record { past = voice_by speech past; ahead = voice_by speech ahead }
