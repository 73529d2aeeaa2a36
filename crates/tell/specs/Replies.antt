-- What is replied to a line of dates (docs/ARCHITECTURE.md, "Answers").
use Rattle.std.specs.Prelude.{◌≡◌, ◌⊎◌, ℕ, List, Ok, Err, MatchOption, ℤ}
use Rattle.timeline.specs.Zone.{PlainZone}
use Rattle.zoneinfo64.specs.NamedZone.{NamedZone, named}
use Rattle.timeline.specs.Placement.{IsPlaced}
use Rattle.timeline.specs.Laws.{IsLawful}
use Rattle.timeline.specs.Fault.{IsLeastBroken}
use Rattle.timeline.specs.declared.fault.ZoneFault.{ZoneFault}
use Rattle.interim.specs.declared.errors.DateError.{DateError}
use Rattle.interim.specs.PlainForm.{IsPlainForm}
use Rattle.tell.specs.Fields.{LineFields, fields_of}
use Rattle.tell.specs.Moments.{IsBase, Says}
use Rattle.tell.specs.Voices.{Voices}
use Rattle.tell.specs.Tales.{Tale, IsTale}

-- the reply to a line: one of five refusals, or a moment with the words of its distance
pub data Reply : Type 0 where
  BadLine UnknownZone BadBase : Reply
  Unlawful : ZoneFault → Reply
  Fault : DateError → Reply
  Moment : Tale → Reply

-- as the phrase says: its moment, or its fault
abbrev pub TellsPhrase : PlainZone → Voices → LineFields → Reply → Type 0
TellsPhrase z voices f (Moment t) =
    (second : ℤ) × (nanos : ℕ) × Says z f.dialect f.base f.phrase (Ok (second, nanos)) × IsTale z voices f.base second nanos t
TellsPhrase z voices f (Fault e) = Says z f.dialect f.base f.phrase (Err e)
TellsPhrase z voices f other = ⊥

-- the moment at which the zone places a wall second, with no microseconds
abbrev pub IsMomentOfWall : PlainZone → ℤ → Reply → Type 0
IsMomentOfWall z w (Moment t) = IsPlaced z w t.seconds × (t.micros ≡ 0)
IsMomentOfWall z w other = ⊥

-- in a lawful zone, from a base in its range: what the phrase says; and for a phrase of the plain form that is the moment at
-- which the zone places its wall second
pub record IsTold (z : PlainZone) (voices : Voices) (f : LineFields) (reply : Reply) : Type 0 where
  pub said : TellsPhrase z voices f reply
  pub plain : (w : ℤ) → IsPlainForm f.dialect f.phrase w → IsMomentOfWall z w reply

-- in a lawful zone
abbrev pub IsReplyFrom : PlainZone → Voices → LineFields → Reply → Type 0
IsReplyFrom z voices f reply = ((IsBase f.base → ⊥) × (reply ≡ BadBase)) ⊎ (IsBase f.base × IsTold z voices f reply)

-- in a zone: the least law that it breaks, or else as in a lawful one
unfoldable pub IsReplyOf : PlainZone → Voices → LineFields → Reply → Type 0
IsReplyOf z voices f reply =
    ((fault : ZoneFault) × IsLeastBroken z fault × (reply ≡ Unlawful fault)) ⊎ (IsLawful z × IsReplyFrom z voices f reply)

-- in the zones of a bundle
abbrev pub IsReplyIn : Voices → List NamedZone → LineFields → Reply → Type 0
IsReplyIn voices zones f reply = MatchOption (named zones f.zone) (reply ≡ UnknownZone) (λ z. IsReplyOf z voices f reply)

-- to a line
abbrev pub IsReplyTo : Voices → List NamedZone → List ℕ → Reply → Type 0
IsReplyTo voices zones line reply = MatchOption (fields_of line) (reply ≡ BadLine) (λ f. IsReplyIn voices zones f reply)
