-- The moment of the code as the definitions speak of it, and what is found of one.
use Rattle.std.specs.Prelude.{◌≡◌, ℕ, ◌<◌, List, Option, Some, None, Result, Ok, Err, MatchOption, ℤ}
use Rattle.civil.specs.Clock.{IsWallSecond}
use Rattle.timeline.specs.Zone.{PlainZone}
use Rattle.zoneinfo64.specs.NamedZone.{NamedZone, named}
use Rattle.timeline.specs.Laws.{IsLawful}
use Rattle.timeline.specs.ShownWalls.{seconds_at}
use Rattle.interim.specs.declared.errors.DateError.{DateError}
use Rattle.interim.specs.declared.types.Dialect.{Dialect}
use Rattle.tell.specs.declared.moment.Moment.{Moment}
use Rattle.tell.specs.declared.told.TellError.{TellError}
use Rattle.tell.specs.declared.told.TellError.TheVariants as error
use Rattle.tell.specs.Fields.{LineFields}
use Rattle.tell.specs.Moments.{Says}
use Rattle.tell.specs.Voices.{Voices}
use Rattle.tell.specs.Replies.{Reply, UnknownZone, BadBase, Unlawful, Fault, Moment as Told, IsReplyFrom, IsReplyIn}
use Rattle.tell.specs.Tales.{Tale, IsTale}

-- a moment without its offset
abbrev pub moment_view : Moment → ℤ × ℕ
moment_view m = (m.second, m.nanos)

-- the phrase says this moment, and this is the zone's offset there
pub record IsMomentIn (z : PlainZone) (dialect : Dialect) (base : ℤ) (phrase : List ℕ) (m : Moment) : Type 0 where
  pub said : Says z dialect base phrase (Ok (m.second, m.nanos))
  pub offset : m.offset ≡ seconds_at z m.second

-- a phrase's moment, or its fault
abbrev pub ResolvesTo : PlainZone → Dialect → ℤ → List ℕ → Result Moment DateError → Type 0
ResolvesTo z dialect base phrase (Ok m) = IsMomentIn z dialect base phrase m
ResolvesTo z dialect base phrase (Err e) = Says z dialect base phrase (Err e)

-- what is replied in place of a moment
abbrev pub refusal : TellError → Option Reply
refusal error.Memory = None
refusal error.Bundle = None
refusal error.UnknownZone = Some UnknownZone
refusal (error.Unlawful fault) = Some (Unlawful fault)
refusal error.BadBase = Some BadBase
refusal (error.Phrase e) = Some (Fault e)

-- in a lawful zone: the moment is told, or this is replied in its place, however distances are told
abbrev pub FindsFrom : PlainZone → LineFields → Result Moment TellError → Type 0
FindsFrom z f (Ok m) = (m.offset ≡ seconds_at z m.second)
    × ((voices : Voices) (t : Tale) → IsTale z voices f.base m.second m.nanos t → IsReplyFrom z voices f (Told t))
FindsFrom z f (Err e) = MatchOption (refusal e) ⊥ (λ reply. (voices : Voices) → IsReplyFrom z voices f reply)

-- and in the zones of a bundle
abbrev pub Finds : List NamedZone → LineFields → Result Moment TellError → Type 0
Finds zones f (Ok m) = (z : PlainZone) × (named zones f.zone ≡ Some z) × IsLawful z × (m.offset ≡ seconds_at z m.second)
    × ((voices : Voices) (t : Tale) → IsTale z voices f.base m.second m.nanos t → IsReplyIn voices zones f (Told t))
Finds zones f (Err e) = MatchOption (refusal e) ⊥ (λ reply. (voices : Voices) → IsReplyIn voices zones f reply)

-- the calendar has the moment's second
pub record IsInCalendar (m : Moment) : Type 0 where
  pub second : IsWallSecond m.second
  pub short : m.nanos < 2000000000
