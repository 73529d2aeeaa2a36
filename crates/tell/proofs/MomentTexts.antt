-- How a moment is told: on which side of the base it is, how far, and in which words.
use Rattle.std.proofs.Common.{◌≡◌, ℕ, ◌/◌, Bool, List, ◌++◌, append_assoc, int_lt, ℤ, pos, unsigned_abs, refl, ap, ◌∙◌}
use Rattle.timeago.specs.Appended.{Adds}
use Rattle.timeline.specs.Timeline.{offset_at}
use Rattle.tell.specs.declared.moment.Moment.{Moment}
use Rattle.tell.specs.Voices.{Voices, voice_for, IsToldBy}
use Rattle.tell.specs.Tales.{lead}
use Rattle.tell.specs.Inside.ReplyParts.{front_text, IsMomentText}

-- a moment with its words, as text
pub moment_text : (voices : Voices) (base : ℤ) (m : Moment) (ahead : Bool) (distance : ℕ) (old mid new : List ℕ)
    → ahead ≡ int_lt (pos 0) (lead base m.second m.nanos) → distance ≡ unsigned_abs (lead base m.second m.nanos)
    → mid ≡ old ++ front_text m.second m.nanos m.offset ahead → Adds (IsToldBy (voice_for voices ahead) distance) mid new
    → Adds (IsMomentText voices base m) old new
moment_text voices base m ahead distance old mid new side far front (words, told, grown) = (
  front_text m.second m.nanos m.offset ahead ++ words,
  λ z there. (
    record { seconds = m.second; micros = m.nanos / 1000; offset = offset_at z m.second; ahead = ahead; text = words },
    record { seconds = refl; micros = refl; offset = refl; ahead = side; text = rw (← far) told },
    ap (λ (x : ℤ). front_text m.second m.nanos x ahead ++ words) there,
  ),
  grown ∙ ap (λ (x : List ℕ). x ++ words) front ∙ append_assoc old (front_text m.second m.nanos m.offset ahead) words,
)
