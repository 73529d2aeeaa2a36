-- In a lawful zone a phrase of the plain form says the moment at which its wall second is placed.
use Rattle.std.proofs.Common.{◌≡◌, inl, inr, ℕ, ◌/◌, Bool, true, false, Option, Some, None, Ok, Err, ℤ, pos, ◌+ℤ◌, ◌-ℤ◌, refl, arith, if◌then◌else◌}
use Rattle.std.proofs.lemmas.Int.{ints}
use Rattle.std.proofs.lemmas.Option.{some_pair_parts}
use Rattle.civil.specs.Clock.{IsWallSecond}
use Rattle.zoned.specs.Placing as seconds
use Rattle.timeline.specs.Zone.{PlainZone}
use Rattle.timeline.specs.Laws.{IsLawful}
use Rattle.timeline.specs.Placement.{IsPlaced}
use Rattle.timeline.specs.ShownWalls.{seconds_at}
use Rattle.interim.specs.declared.errors.DateError.{DateError}
use Rattle.interim.specs.declared.types.DateSpec.TheVariants.{Absolute}
use Rattle.interim.specs.Meaning.{MeansIn, moment_at}
use Rattle.interim.specs.PlainForm.{IsPlainForm}
use Rattle.interim.specs.Refusal.{civil_days, civil_seconds, is_within}
use Rattle.tell.specs.Fields.{LineFields}
use Rattle.tell.specs.Moments.{IsBase, Says}
use Rattle.tell.specs.Inside.LawsBelow.{LawsBelow}
use Rattle.tell.proofs.NearWalls.{second_inside}
use Rattle.tell.proofs.SaidMoments.{refused_as}

-- the moment that is reached is the place, without a fraction
at_place : (v : Bool) (s s' : ℤ) (f : ℕ) → ◌≡◌ {A = Option (ℤ × ℕ)} (Some (s, f)) (if v then Some (s', 0) else None) → (s ≡ s') × (f ≡ 0)
at_place true s s' f e = some_pair_parts s s' f 0 e
at_place false s s' f e = absurd (cc)

module _ (laws : LawsBelow) (z : PlainZone) (lawful : IsLawful z) where
  -- a place is less than a day from its wall second
  near : (w s : ℤ) → seconds.IsPlaced (seconds_at z) w s → IsWallSecond (w -ℤ pos 86400) → IsWallSecond (w +ℤ pos 86400) → IsWallSecond s
  near w s (inl shown) low high =
      let small = laws.small z s lawful in
      let is = shown.shows in
      record { first = omega (arith, ints, small, is, low.first); last = omega (arith, ints, small, is, high.last) }
  near w s (inr gap) low high =
      let small = laws.small z (gap.0 -ℤ pos 1) lawful in
      let is = gap.2 in
      record { first = omega (arith, ints, small, is, low.first); last = omega (arith, ints, small, is, high.last) }

  module _ (f : LineFields) (base : IsBase f.base) (w : ℤ) (form : IsPlainForm f.dialect f.phrase w) where
    -- what the phrase means is the place, where that is a moment of the calendar
    placed : (moment : Option (ℤ × ℕ))
        → MeansIn (seconds_at z) civil_days civil_seconds (f.base, 0) f.dialect (Some (Absolute form.0)) (Some form.1) moment
        → (s : ℤ) × seconds.IsPlaced (seconds_at z) w s × (moment ≡ moment_at civil_seconds s 0)
    placed moment means =
        let read = laws.read f.dialect f.phrase form.0 form.1 form.2 in
        let small = laws.small z f.base lawful in
        let inside : IsWallSecond (f.base +ℤ seconds_at z f.base) = record {
          first = omega (arith, ints, small, base.from, base.to);
          last = omega (arith, ints, small, base.from, base.to);
        } in
        laws.means.placed (seconds_at z) f.dialect f.phrase w (f.base, 0) _ moment form read.parts inside means

    pub plain_moment : (s : ℤ) (n : ℕ) → Says z f.dialect f.base f.phrase (Ok (s, n)) → IsPlaced z w s × (n / 1000 ≡ 0)
    unfolding Says
    plain_moment s n says =
        let read = laws.read f.dialect f.phrase form.0 form.1 form.2 in
        let (place, is, reached) = placed (Some (s, n)) (rw read.parts at says) in
        let (second, none) = at_place (is_within civil_seconds place) s place n reached in
        ((laws.alike z w s lawful).1 (rw second is), rw none refl)

    pub plain_fault : (e : DateError) → Says z f.dialect f.base f.phrase (Err e) → ⊥
    unfolding Says
    plain_fault e says =
        let read = laws.read f.dialect f.phrase form.0 form.1 form.2 in
        let (_, means) = refused_as e (Some (Absolute form.0)) _ (rw read.parts at says) in
        let (place, is, reached) = placed None means in
        let inside = laws.inside f.dialect f.phrase w form in
        let never = rw (second_inside place (near w place is inside.0 inside.1)) at reached in
        cc
