-- What a phrase is answered over moments of any kind, as it is said of seconds with their nanoseconds.
use Rattle.std.proofs.Common.{◌≡◌, ℕ, false, true, List, Option, Some, None, IfSome, IfOk, Result, Ok, Err, ℤ, refl, ap}
use Rattle.interim.specs.declared.errors.DateError.{DateError}
use Rattle.interim.specs.declared.errors.DateError.TheVariants as errors
use Rattle.interim.specs.declared.types.DateSpec.{DateSpec}
use Rattle.interim.specs.declared.types.DateTimeSpec.{DateTimeSpec}
use Rattle.interim.specs.declared.types.Dialect.{Dialect}
use Rattle.interim.specs.declared.types.TimeSpec.{TimeSpec}
use Rattle.timeline.specs.Zone.{PlainZone}
use Rattle.timeline.specs.Laws.{IsLawful}
use Rattle.zoneinfo64.specs.ZoneOffsets.{off_in}
use Rattle.interim.specs.Grammar.{parts_of}
use Rattle.interim.specs.Meaning.{Means, MeansIn, ShowsIf, PlacesIf}
use Rattle.interim.specs.MeaningLaws.{SoundMeaning}
use Rattle.interim.specs.Refusal.{AnswersPhrase, IsRefusedAs, civil_days, civil_seconds}
use Rattle.interim.specs.Tokens.{phrase_tokens}
use Rattle.tell.specs.Moments.{Says}
use Rattle.tell.specs.declared.moment.Moment.{Moment}
use Rattle.tell.specs.Inside.MomentView.{ResolvesTo, moment_view}

-- the refusal of parts that have no meaning
abbrev pub missing : Option DateSpec → DateError
missing (Some date) = errors.MissingDate
missing None = errors.MissingTime

-- is the one that rests on that
pub refused_as : (e : DateError) (date : Option DateSpec) (P : Type 0) → IsRefusedAs false e date P → (e ≡ missing date) × P
refused_as errors.MissingDate (Some date) P h = (refl, h)
refused_as errors.MissingTime None P h = (refl, h)
refused_as errors.Memory date P h = let never : false ≡ true = h in cc
refused_as e date P h = absurd h

-- a refusal stays where what it rests on is another way to say the same
refused_on : (e : DateError) (date : Option DateSpec) (P Q : Type 0) → (P → Q) → IsRefusedAs false e date P → IsRefusedAs false e date Q
refused_on errors.MissingDate (Some date) P Q f h = f h
refused_on errors.MissingTime None P Q f h = f h
refused_on e date P Q f h = h

abbrev pub Meanings : Type 1
Meanings = Option DateSpec → Option TimeSpec → Option (ℤ × ℕ) → Type 0

pub said_err : {T U : Type 0} (view : T → ℤ × ℕ) (view' : U → ℤ × ℕ) (parts : Result DateTimeSpec DateError) (M N : Meanings) (e : DateError)
    → ((date : Option DateSpec) (clock : Option TimeSpec) (r : Option (ℤ × ℕ)) → M date clock r → N date clock r)
    → AnswersPhrase false view parts M (Err e) → AnswersPhrase false view' parts N (Err e)
said_err {T} {U} view view' (Err fault) M N e f h = let same : ◌≡◌ {A = Result T DateError} (Err e) (Err fault) = h in let one : e ≡ fault = cc in ap (λ (x : DateError). Err x) one
said_err view view' (Ok parts) M N e f h = refused_on e parts.date (M parts.date parts.time None) (N parts.date parts.time None) (f parts.date parts.time None) h

pub said_ok : {T U : Type 0} (view : T → ℤ × ℕ) (view' : U → ℤ × ℕ) (parts : Result DateTimeSpec DateError) (M N : Meanings) (m : T) (m' : U)
    → ((date : Option DateSpec) (clock : Option TimeSpec) (r : Option (ℤ × ℕ)) → M date clock r → N date clock r)
    → view' m' ≡ view m → AnswersPhrase false view parts M (Ok m) → AnswersPhrase false view' parts N (Ok m')
said_ok {T} {U} view view' (Err fault) M N m m' f e h = let never : ◌≡◌ {A = Result T DateError} (Ok m) (Err fault) = h in cc
said_ok view view' (Ok parts) M N m m' f e h = rw e (f parts.date parts.time (Some (view m)) h)

-- the same meaning, in the sound zone and from the base by other names
pub means_from : {Z : Type 0} (sound : Z → Type 0) (off : Z → ℤ → ℤ) → ((zone : Z) → SoundMeaning (sound zone) (off zone))
    → (z z' : Z) (base base' : ℤ) (nanos : ℕ) (dialect : Dialect) → z' ≡ z → base' ≡ base → nanos ≡ 0 → sound z
    → (date : Option DateSpec) (clock : Option TimeSpec) (r : Option (ℤ × ℕ))
    → Means (ShowsIf (sound z') (off z')) (PlacesIf (sound z') (off z')) civil_days civil_seconds (base', nanos) dialect date clock r
    → MeansIn (off z) civil_days civil_seconds (base, 0) dialect date clock r
means_from sound off law z z' base base' nanos dialect same moved none is date clock r means =
    law z civil_days civil_seconds (base, 0) dialect date clock r is (rw (same, moved, none) at means)

-- ---- in a zone of a bundle

-- what a sound zone answers, as its plain zone, which is lawful, says it
pub zone_said : (zone : Option PlainZone) (dialect : Dialect) (base base' : ℤ) (phrase : List ℕ) (said : Result Moment DateError) → base' ≡ base
    → (IfSome zone IsLawful → AnswersPhrase false moment_view (parts_of dialect (phrase_tokens phrase)) (MeansIn (off_in zone) civil_days civil_seconds (base', 0) dialect) said)
    → (IfSome zone IsLawful → IfOk said (λ m. m.offset ≡ off_in zone m.second))
    → IfSome zone (λ z. IsLawful z → ResolvesTo z dialect base phrase said)
unfolding Says
zone_said None dialect base base' phrase said same h f = tt
zone_said (Some z) dialect base base' phrase (Err e) same h f = λ lawful.
    rw (← same) (said_err moment_view (λ (m : ℤ × ℕ). m) (parts_of dialect (phrase_tokens phrase)) _ _ e (λ date clock r means. means) (h lawful))
zone_said (Some z) dialect base base' phrase (Ok m) same h f = λ lawful. record {
  said = rw (← same) (said_ok moment_view (λ (m : ℤ × ℕ). m) (parts_of dialect (phrase_tokens phrase)) _ _ m (m.second, m.nanos) (λ date clock r means. means) refl (h lawful));
  offset = f lawful;
}
