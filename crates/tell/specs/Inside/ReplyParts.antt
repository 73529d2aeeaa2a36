-- The text of a reply as it is appended, part by part.
use Rattle.std.specs.Prelude.{◌≡◌, ℕ, ◌/◌, Bool, List, ◌++◌, ℤ, codes}
use Rattle.std.specs.Fmt.{decimal, signed_decimal}
use Rattle.timeline.specs.Zone.{PlainZone}
use Rattle.zoneinfo64.specs.NamedZone.{NamedZone}
use Rattle.timeline.specs.ShownWalls.{seconds_at}
use Rattle.tell.specs.declared.moment.Moment.{Moment}
use Rattle.tell.specs.Voices.{Voices}
use Rattle.tell.specs.Replies.{Reply, IsReplyTo}
use Rattle.tell.specs.Tales.{Tale, IsTale}
use Rattle.tell.specs.ReplyTexts.{reply_text, side_text, tale_text}

-- what stands before the words of a distance
abbrev pub front_text : ℤ → ℕ → ℤ → Bool → List ℕ
front_text second nanos offset ahead =
    signed_decimal second ++ codes "\t" ++ decimal (nanos / 1000) ++ codes "\t" ++ signed_decimal offset ++ codes "\t"
    ++ side_text ahead ++ codes "\t"

-- the text of a moment that is told so in each zone with this offset there
abbrev pub IsMomentText : Voices → ℤ → Moment → List ℕ → Type 0
IsMomentText voices base m text = (z : PlainZone) → m.offset ≡ seconds_at z m.second
    → (t : Tale) × IsTale z voices base m.second m.nanos t × (text ≡ tale_text t)

-- the text of a reply to a line, without an LF
abbrev pub IsAnswer : Voices → List NamedZone → List ℕ → List ℕ → Type 0
IsAnswer voices zones line text = (reply : Reply) × IsReplyTo voices zones line reply × (text ≡ reply_text reply)
