-- What the definitions keep, as laws (docs/ARCHITECTURE.md, "Answers").
use Rattle.std.specs.Prelude.{◌≡◌, ℕ, List, Some, Ok, ℤ}
use Rattle.tongues.specs.Speech.{Speech}
use Rattle.timeline.specs.Zone.{PlainZone}
use Rattle.timeline.specs.Laws.{IsLawful}
use Rattle.zoneinfo64.specs.NamedZone.{NamedZone, named}
use Rattle.interim.specs.PlainForm.{IsPlainForm}
use Rattle.streams.specs.Report.{OneReply, OneReport}
use Rattle.tell.specs.Fields.{LineFields}
use Rattle.tell.specs.Moments.{IsBase, Says}
use Rattle.tell.specs.Voices.{Voices}
use Rattle.tell.specs.Replies.{Reply, Moment, IsMomentOfWall, IsReplyIn}
use Rattle.tell.specs.Tales.{Tale, IsTale}
use Rattle.tell.specs.ReplyTexts.{IsReply}
use Rattle.tell.specs.Ago.{IsAgoAnswer, IsAgoReply}

-- a line of a date has one reply at most
abbrev pub OneReplyToDates : Type 0
OneReplyToDates = (speech : Speech) (zones : List NamedZone) → OneReply (IsReply speech zones)

-- and lines have one report at most
abbrev pub OneReportOfDates : Type 0
OneReportOfDates = (speech : Speech) (zones : List NamedZone) → OneReport (IsReply speech zones)

-- a line of seconds has exactly one answer
abbrev pub OneAgoAnswer : Type 0
OneAgoAnswer = (speech : Speech) (line : List ℕ) →
    (answer : List ℕ) × IsAgoAnswer speech line answer
    × ((other : List ℕ) → IsAgoAnswer speech line other → other ≡ answer)

-- and lines have one report at most
abbrev pub OneAgoReport : Type 0
OneAgoReport = (speech : Speech) → OneReport (IsAgoReply speech)

-- a reply is the moment at this second with these nanoseconds, as it is told in the zone
abbrev pub IsReplyAt : PlainZone → Voices → ℤ → ℤ → ℕ → Reply → Type 0
IsReplyAt z voices base second nanos reply = (t : Tale) × (reply ≡ Moment t) × IsTale z voices base second nanos t

-- a phrase that means a moment, from a base in its range and in a lawful zone that the bundle has, is told by that moment
abbrev pub EveryMeaningIsTold : Type 0
EveryMeaningIsTold = (voices : Voices) (zones : List NamedZone) (f : LineFields) (z : PlainZone) (second : ℤ) (nanos : ℕ) (reply : Reply)
    → named zones f.zone ≡ Some z → IsLawful z → IsBase f.base → Says z f.dialect f.base f.phrase (Ok (second, nanos))
    → IsReplyIn voices zones f reply → IsReplyAt z voices f.base second nanos reply

-- a phrase of the plain form, from a base in its range and in a lawful zone that the bundle has, is told by the moment at which
-- the zone places its wall second: nothing refuses it
abbrev pub EveryPlainFormIsTold : Type 0
EveryPlainFormIsTold = (voices : Voices) (zones : List NamedZone) (f : LineFields) (z : PlainZone) (w : ℤ) (reply : Reply)
    → named zones f.zone ≡ Some z → IsLawful z → IsBase f.base → IsPlainForm f.dialect f.phrase w
    → IsReplyIn voices zones f reply → IsMomentOfWall z w reply
