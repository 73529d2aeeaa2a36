-- The parts of a phrase mean one thing.
use Rattle.std.proofs.Common.{◌≡◌, ◌⊎◌, inl, inr, ℕ, ◌<◌, true, false, IsTrue, Option, Some, None, ℤ, pos, ◌+ℤ◌, ◌*ℤ◌, sym, ap, subst, ◌∙◌, arith}
use Rattle.std.specs.Prelude.{option_and_then}
use Rattle.civil.specs.Months.{months_on}
use Rattle.civil.specs.Shown.{Shows}
use Rattle.civil.specs.DateLaws.{MonthDaysAreDays}
use Rattle.jiff_core.proofs.SignedLemmas.{signed_arith}
use Rattle.zoned.specs.Placing.{IsPlaced}
use Rattle.interim.specs.declared.types.Dialect.{Dialect}
use Rattle.interim.specs.declared.types.Direction.{Direction}
use Rattle.interim.specs.declared.types.Interval.TheVariants.{Seconds, Days, Months}
use Rattle.interim.specs.declared.types.ByName.{ByName}
use Rattle.interim.specs.declared.types.ByName.TheVariants as by_name
use Rattle.interim.specs.declared.types.DateSpec.{DateSpec}
use Rattle.interim.specs.declared.types.DateSpec.TheVariants.{Absolute, Relative, FromName}
use Rattle.interim.specs.declared.types.TimeSpec.{TimeSpec}
use Rattle.interim.specs.Refusal.{Ends, is_within, within}
use Rattle.interim.specs.Aims.{Aim, AtSecond, AtWall, clock_or, midnight}
use Rattle.interim.specs.Walls.{Wall, month_day}
use Rattle.interim.specs.DatesAndTimes.{IsDateOn}
use Rattle.interim.specs.NamedDates.{IsNamed}
use Rattle.interim.specs.PartMeanings.{LeadsTo, PartsLeadTo}
use Rattle.interim.specs.Meaning.{Lands, Means, MeansFromWall, MeansIn, moment_at}
use Rattle.interim.proofs.Stretches.{is_date-tells}

-- a zone has one place for each wall time
abbrev pub PlacesOnce : (ℤ → ℕ → ℤ → Type 0) → Type 0
PlacesOnce places = (w : ℤ) (f : ℕ) (s t : ℤ) → places w f s → places w f t → s ≡ t

-- the law of `zoned` that no wall second is placed at two seconds
abbrev pub PlacedOnce : Type 0
PlacedOnce = (off : ℤ → ℤ) (w s t : ℤ) → IsPlaced off w s → IsPlaced off w t → s ≡ t

-- from one wall time
abbrev From : (ℤ → ℕ → ℤ → Type 0) → Ends → Ends → Dialect → Option DateSpec → Option TimeSpec → Wall → Option (ℤ × ℕ) → Type 0
From places days seconds dialect date clock base r =
    (IsTrue (is_within days base.day) × ((found : Option Aim) × PartsLeadTo days base dialect date clock found × Lands places seconds found r))
    ⊎ ((is_within days base.day ≡ false) × (r ≡ None))

-- a base has one wall time
wall_once : (w : ℤ) (nanos : ℕ) (a b : Wall) → w ≡ pos 86400 *ℤ a.day +ℤ pos a.time.0 → w ≡ pos 86400 *ℤ b.day +ℤ pos b.time.0 → a.time.0 < 86400 → b.time.0 < 86400 → a.time.1 ≡ nanos → b.time.1 ≡ nanos → a ≡ b
wall_once w nanos a b e f h k m n =
    let W : ℤ → ℕ → ℕ → Wall = λ (day : ℤ) (second nanos : ℕ). record { day = day; time = (second, nanos) } in
    let day : a.day ≡ b.day = omega (arith, signed_arith) in
    let second : a.time.0 ≡ b.time.0 = omega (arith, signed_arith) in
    ap (λ (x : ℤ). W x a.time.0 a.time.1) day ∙ ap (λ (x : ℕ). W b.day x a.time.1) second ∙ ap (λ (x : ℕ). W b.day b.time.0 x) (m ∙ sym n)

module _ (law : MonthDaysAreDays) where
  -- a day has one date
  date_once : (day y : ℤ) (m d : ℕ) (z : ℤ) (n e : ℕ) → IsDateOn day y m d → IsDateOn day z n e → (y ≡ z) × (m ≡ n) × (d ≡ e)
  date_once day y m d z n e a b = law.once y m d z n e (is_date-tells y m d a.exists) (is_date-tells z n e b.exists) (a.is ∙ sym b.is)

  -- a name means one day
  named_once : (days : Ends) (base : Wall) (dialect : Dialect) (clock : Option TimeSpec) (name : ByName) (direction : Direction) (a b : Option ℤ) → IsNamed days base dialect clock name direction a → IsNamed days base dialect clock name direction b → a ≡ b
  named_once days base dialect clock (by_name.WeekDay n) direction a b p q = p ∙ sym q
  named_once days base dialect clock (by_name.MonthName m) direction a b p q =
      let same = date_once base.day p.0 p.1 p.2 q.0 q.1 q.2 p.3 q.3 in
      p.4 ∙ (ap (λ (y : ℤ). month_day days base.day y m 1 direction) same.0 ∙ sym q.4)
  named_once days base dialect clock (by_name.DayMonth day m) direction a b p q =
      let same = date_once base.day p.0 p.1 p.2 q.0 q.1 q.2 p.3 q.3 in
      p.4 ∙ (ap (λ (y : ℤ). month_day days base.day y m day direction) same.0 ∙ sym q.4)

  -- parts lead to one thing
  leads_once : (days : Ends) (base : Wall) (dialect : Dialect) (spec : DateSpec) (clock : Option TimeSpec) (a b : Option Aim) → LeadsTo days base dialect spec clock a → LeadsTo days base dialect spec clock b → a ≡ b
  leads_once days base dialect (Absolute date) clock a b p q = p ∙ sym q
  leads_once days base dialect (Relative (Seconds n)) clock a b p q = absurd p
  leads_once days base dialect (Relative (Days n)) clock a b p q = p ∙ sym q
  leads_once days base dialect (Relative (Months n)) clock a b p q =
      let same = date_once base.day p.0 p.1 p.2 q.0 q.1 q.2 p.3 q.3 in
      let day : months_on p.0 p.1 p.2 n ≡ months_on q.0 q.1 q.2 n =
      ap (λ (y : ℤ). months_on y p.1 p.2 n) same.0 ∙ (ap (λ (m : ℕ). months_on q.0 m p.2 n) same.1 ∙ ap (λ (d : ℕ). months_on q.0 q.1 d n) same.2) in
      p.4 ∙ (ap (λ (x : ℤ). option_and_then (clock_or days midnight clock) (within days x)) day ∙ sym q.4)
  leads_once days base dialect (FromName name direction) clock a b p q =
      p.2 ∙ (ap (option_and_then (clock_or days midnight clock)) (named_once days base dialect clock name direction p.0 q.0 p.1 q.1) ∙ sym q.2)

  parts_once : (days : Ends) (base : Wall) (dialect : Dialect) (date : Option DateSpec) (clock : Option TimeSpec) (a b : Option Aim) → PartsLeadTo days base dialect date clock a → PartsLeadTo days base dialect date clock b → a ≡ b
  parts_once days base dialect (Some date) clock a b p q = leads_once days base dialect date clock a b p q
  parts_once days base dialect None (Some clock) a b p q = p ∙ sym q
  parts_once days base dialect None None a b p q = p ∙ sym q

  -- and land at one moment, or at none
  lands_once : (places : ℤ → ℕ → ℤ → Type 0) (seconds : Ends) (found : Option Aim) (r r' : Option (ℤ × ℕ)) → PlacesOnce places → Lands places seconds found r → Lands places seconds found r' → r ≡ r'
  lands_once places seconds None r r' once p q = p ∙ sym q
  lands_once places seconds (Some (AtSecond s f)) r r' once p q = p ∙ sym q
  lands_once places seconds (Some (AtWall w f)) r r' once p q =
      p.2 ∙ (ap (λ (s : ℤ). moment_at seconds s f) (once w f p.0 q.0 p.1 q.1) ∙ sym q.2)

  from_once : (places : ℤ → ℕ → ℤ → Type 0) (days seconds : Ends) (dialect : Dialect) (date : Option DateSpec) (clock : Option TimeSpec) (base : Wall) (r r' : Option (ℤ × ℕ)) → PlacesOnce places → From places days seconds dialect date clock base r → From places days seconds dialect date clock base r' → r ≡ r'
  from_once places days seconds dialect date clock base r r' once (inl p) (inl q) =
      let a = p.1 in
      let b = q.1 in
      let same = parts_once days base dialect date clock a.0 b.0 a.1 b.1 in
      let P : Option Aim → Type 0 = λ (found : Option Aim). Lands places seconds found r in
      lands_once places seconds b.0 r r' once (subst P same a.2) b.2
  from_once places days seconds dialect date clock base r r' once (inl p) (inr q) = let never : true ≡ false = sym p.0 ∙ q.0 in cc
  from_once places days seconds dialect date clock base r r' once (inr p) (inl q) = let never : true ≡ false = sym q.0 ∙ p.0 in cc
  from_once places days seconds dialect date clock base r r' once (inr p) (inr q) = p.1 ∙ sym q.1

  from_wall_once : (shown : ℤ → ℕ → ℤ) (places : ℤ → ℕ → ℤ → Type 0) (days seconds : Ends) (base : ℤ × ℕ) (dialect : Dialect) (date : Option DateSpec) (clock : Option TimeSpec) (r r' : Option (ℤ × ℕ))
      → PlacesOnce places → MeansFromWall (λ s f w. shown s f ≡ w) places days seconds base dialect date clock r → MeansFromWall (λ s f w. shown s f ≡ w) places days seconds base dialect date clock r' → r ≡ r'
  from_wall_once shown places days seconds base dialect date clock r r' once p q =
      let same : q.0 ≡ p.0 = wall_once (shown base.0 base.1) base.1 q.0 p.0 q.1.shown p.1.shown q.1.in_day p.1.in_day q.1.nanos_kept p.1.nanos_kept in
      let P : Wall → Type 0 = λ (w : Wall). From places days seconds dialect date clock w r' in
      from_once places days seconds dialect date clock p.0 r r' once p.2 (subst P same q.2)

  -- where each second shows one wall second, and each wall time has one place
  pub means_once_over : (shown : ℤ → ℕ → ℤ) (places : ℤ → ℕ → ℤ → Type 0) (days seconds : Ends) (base : ℤ × ℕ) (dialect : Dialect) (date : Option DateSpec) (clock : Option TimeSpec) (r r' : Option (ℤ × ℕ))
      → PlacesOnce places → Means (λ s f w. shown s f ≡ w) places days seconds base dialect date clock r → Means (λ s f w. shown s f ≡ w) places days seconds base dialect date clock r' → r ≡ r'
  means_once_over shown places days seconds base dialect (Some (Relative (Seconds n))) clock r r' once p q = p ∙ sym q
  means_once_over shown places days seconds base dialect (Some (Relative (Days n))) clock r r' once p q = from_wall_once shown places days seconds base dialect (Some (Relative (Days n))) clock r r' once p q
  means_once_over shown places days seconds base dialect (Some (Relative (Months n))) clock r r' once p q = from_wall_once shown places days seconds base dialect (Some (Relative (Months n))) clock r r' once p q
  means_once_over shown places days seconds base dialect (Some (Absolute date)) clock r r' once p q = from_wall_once shown places days seconds base dialect (Some (Absolute date)) clock r r' once p q
  means_once_over shown places days seconds base dialect (Some (FromName name direction)) clock r r' once p q = from_wall_once shown places days seconds base dialect (Some (FromName name direction)) clock r r' once p q
  means_once_over shown places days seconds base dialect None clock r r' once p q = from_wall_once shown places days seconds base dialect None clock r r' once p q

  pub means_once : PlacedOnce → (off : ℤ → ℤ) (days seconds : Ends) (base : ℤ × ℕ) (dialect : Dialect) (date : Option DateSpec) (clock : Option TimeSpec) (r r' : Option (ℤ × ℕ))
      → MeansIn off days seconds base dialect date clock r → MeansIn off days seconds base dialect date clock r' → r ≡ r'
  means_once once off days seconds base dialect date clock r r' p q =
      means_once_over (λ s f. s +ℤ off s) (λ w f s. IsPlaced off w s) days seconds base dialect date clock r r' (λ w f s t x y. once off w s t x y) p q

-- ---- in a sound zone

sound_lands : {S : Type 0} → S → (off : ℤ → ℤ) (seconds : Ends) (found : Option Aim) (r : Option (ℤ × ℕ)) → Lands (λ w f s. S → IsPlaced off w s) seconds found r → Lands (λ w f s. IsPlaced off w s) seconds found r
sound_lands sound off seconds None r p = p
sound_lands sound off seconds (Some (AtSecond s f)) r p = p
sound_lands sound off seconds (Some (AtWall w f)) r p = (p.0, p.1 sound, p.2)

sound_wall : {S : Type 0} → S → (off : ℤ → ℤ) (days seconds : Ends) (base : ℤ × ℕ) (dialect : Dialect) (date : Option DateSpec) (clock : Option TimeSpec) (r : Option (ℤ × ℕ))
    → MeansFromWall (λ s f w. S → Shows off s w) (λ w f s. S → IsPlaced off w s) days seconds base dialect date clock r → MeansFromWall (λ s f w. Shows off s w) (λ w f s. IsPlaced off w s) days seconds base dialect date clock r
sound_wall sound off days seconds base dialect date clock r p = (
  p.0,
  record { shown = p.1.shown sound; in_day = p.1.in_day; nanos_kept = p.1.nanos_kept },
  elim p.2 [
    | inl q ↦ (let a = q.1 in inl (q.0, (a.0, a.1, sound_lands sound off seconds a.0 r a.2)))
    | inr q ↦ inr q
  ],
)

-- what the backend over a sound zone answers is the meaning
pub sound_means : {S : Type 0} → S → (off : ℤ → ℤ) (days seconds : Ends) (base : ℤ × ℕ) (dialect : Dialect) (date : Option DateSpec) (clock : Option TimeSpec) (r : Option (ℤ × ℕ))
    → Means (λ s f w. S → Shows off s w) (λ w f s. S → IsPlaced off w s) days seconds base dialect date clock r → MeansIn off days seconds base dialect date clock r
sound_means sound off days seconds base dialect (Some (Relative (Seconds n))) clock r p = p
sound_means sound off days seconds base dialect (Some (Relative (Days n))) clock r p = sound_wall sound off days seconds base dialect (Some (Relative (Days n))) clock r p
sound_means sound off days seconds base dialect (Some (Relative (Months n))) clock r p = sound_wall sound off days seconds base dialect (Some (Relative (Months n))) clock r p
sound_means sound off days seconds base dialect (Some (Absolute date)) clock r p = sound_wall sound off days seconds base dialect (Some (Absolute date)) clock r p
sound_means sound off days seconds base dialect (Some (FromName name direction)) clock r p = sound_wall sound off days seconds base dialect (Some (FromName name direction)) clock r p
sound_means sound off days seconds base dialect None clock r p = sound_wall sound off days seconds base dialect None clock r p
