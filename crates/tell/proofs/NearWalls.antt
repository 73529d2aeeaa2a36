-- Wall seconds of the calendar, and those outside.
use Rattle.std.proofs.Common.{◌≡◌, inl, inr, true, false, ℤ, pos, refl, arith}
use Rattle.std.proofs.lemmas.Bool.{cases_Bool, false_from_ne_true}
use Rattle.civil.specs.Clock.{IsWallSecond, wall_day}
use Rattle.jiff_core.proofs.SignedLemmas.{signed_arith}
use Rattle.interim.specs.Refusal.{is_within, civil_days, civil_seconds}

pub second_inside : (s : ℤ) → IsWallSecond s → is_within civil_seconds s ≡ true
second_inside s is = grind (arith, signed_arith, is.first, is.last)

second_within : (s : ℤ) → is_within civil_seconds s ≡ true → IsWallSecond s
second_within s holds = record { first = grind (arith, signed_arith, holds); last = grind (arith, signed_arith, holds) }

pub second_outside : (s : ℤ) → (IsWallSecond s → ⊥) → is_within civil_seconds s ≡ false
second_outside s never = false_from_ne_true _ (λ holds. never (second_within s holds))

-- the wall second that is sought, where it is one of the calendar, and else another
pub near_wall : (s : ℤ) → (w : ℤ) × IsWallSecond w × (IsWallSecond s → s ≡ w)
near_wall s = elim (cases_Bool (is_within civil_seconds s)) [
  | inl holds ↦ (s, second_within s holds, λ _. refl)
  | inr fails ↦ (
    pos 0,
    record { first = omega (arith, signed_arith); last = omega (arith, signed_arith) },
    λ is. let holds = second_inside s is in cc,
  )
]

-- their days are those of the calendar
pub day_within : (w : ℤ) → is_within civil_days (wall_day w) ≡ is_within civil_seconds w
unfolding wall_day
day_within w = grind (arith, signed_arith)
