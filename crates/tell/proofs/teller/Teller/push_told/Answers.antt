use Rattle.std.proofs.Common.{◌≡◌, ℕ, List, Result, OnOk, ap, ◌∙◌}
use Rattle.std.specs.declared.alloc.AllocError.{AllocError}
use Rattle.timeago.specs.Appended.{Adds}
use Rattle.timeago.specs.Formatters.{settings_of, language_of}
use Rattle.timeago.specs.Settings.{Settings}
use Rattle.timeago.specs.Words.{IsWords}
use Rattle.tongues.specs.Any.{any_speech}
use Rattle.tongues.specs.Speech.{Speech}
use Rattle.tell.specs.Voices.{Voice, IsToldBy, voice_for, voices_of}
use Rattle.tell.proofs.teller.Teller.push_told.Goals as goal

-- a formatter with a voice's speech and settings tells as the voice does
by_voice : (voice : Voice) (speech : Speech) (settings : Settings) (r : Result (Unit {0}) AllocError) (distance : ℕ) (old new : List ℕ)
    → speech ≡ voice.speech → settings ≡ voice.settings
    → OnOk r (Adds (IsWords speech settings distance) old new) → OnOk r (Adds (IsToldBy voice distance) old new)
by_voice voice speech settings r distance old new same set told = rw (← same, ← set) told

pub returns-then-lead : goal.returns-then-lead
returns-then-lead c =
    let own = c.self.invariant in
    by_voice (voice_for (voices_of (any_speech c.args.self.now)) c.args.lead.ahead) (any_speech (language_of c.self.inside.ahead)) (settings_of c.self.inside.ahead) c.convert_into.result _ _ _
    (rw c.if-lead.true (ap any_speech (own.same_language ∙ c.self.view_is))) (rw c.if-lead.true own.ahead_settings) c.convert_into.ensures.words

pub returns-else-lead : goal.returns-else-lead
returns-else-lead c =
    by_voice (voice_for (voices_of (any_speech c.args.self.now)) c.args.lead.ahead) (any_speech (language_of c.self.inside.past)) (settings_of c.self.inside.past) c.convert_into-else-lead.result _ _ _
    (rw c.if-lead.false (ap any_speech c.self.view_is)) (rw c.if-lead.false c.self.invariant.past_settings) c.convert_into-else-lead.ensures.words
