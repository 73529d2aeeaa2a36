-- The first day with a weekday from a day on, and the last up to one.
use Rattle.std.proofs.Common.{◌≡◌, ℕ, ◌+◌, ◌-◌, ◌<◌, ◌%◌, ℤ, pos, ◌+ℤ◌, ◌-ℤ◌, ◌≤ℤ◌, ap, ◌∙◌, arith}
use Rattle.std.specs.Prelude.{unsigned_abs}
use Rattle.std.proofs.lemmas.Int.{ints}
use Rattle.civil.specs.Calendar.{weekday_of}
use Rattle.jiff_core.proofs.SignedLemmas.{signed_arith}
use Rattle.timeline.specs.RuleDays.{first_on, last_on}
use Rattle.timeline.specs.RulePromises.{IsFirstFrom, IsLastTo}
use Rattle.timeline.proofs.DatePlaces.{first_on-is, last_on-is, later_weekday}

-- a weekday is a number below 7
numbered : (day : ℤ) → (v : ℕ) × (weekday_of day ≡ pos v) × (v < 7)
numbered day = (unsigned_abs (weekday_of day), omega (arith, signed_arith), omega (arith, signed_arith))

-- days of one weekday are whole weeks apart
weeks_apart : (d e w : ℤ) → weekday_of d ≡ w → weekday_of e ≡ w → (d -ℤ pos 7 +ℤ pos 1) ≤ℤ e → d ≤ℤ e
weeks_apart d e w is_d is_e near = omega (arith, signed_arith, is_d, is_e, near)

pub first-is : (w : ℕ) (from : ℤ) → w < 7 → IsFirstFrom (pos w) from (first_on 6 (pos w) from)
first-is w from h = rw is (record { weekday = weekday; begins = omega (arith, ints); first = λ e low same. weeks_apart _ e (pos w) weekday same (omega (arith, ints, low, few)) })
  where
    v : ℕ
    v = (numbered from).0

    here : weekday_of from ≡ pos v
    here = (numbered from).1

    k : ℕ
    k = (w + 7 - v) % 7

    few : k < 7
    few = omega arith

    is : first_on 6 (pos w) from ≡ from +ℤ pos k
    is = first_on-is 6 w v from h (numbered from).2 here (omega arith)

    weekday : weekday_of (from +ℤ pos k) ≡ pos w
    weekday = later_weekday v k from here ∙ ap pos (let lt = (numbered from).2 in omega (arith, lt, h))

pub last-is : (w : ℕ) (to : ℤ) → w < 7 → IsLastTo (pos w) to (last_on 6 (pos w) to)
last-is w to h = rw is (record { weekday = weekday; ends = omega (arith, ints); last = λ e high same. weeks_apart e _ (pos w) same weekday (omega (arith, ints, high, few)) })
  where
    v : ℕ
    v = (numbered to).0

    here : weekday_of to ≡ pos v
    here = (numbered to).1

    lt : v < 7
    lt = (numbered to).2

    k : ℕ
    k = (v + 7 - w) % 7

    few : k < 7
    few = omega arith

    is : last_on 6 (pos w) to ≡ to -ℤ pos k
    is = last_on-is 6 w v to h lt here (omega arith)

    weekday : weekday_of (to -ℤ pos k) ≡ pos w
    weekday = omega (arith, signed_arith, here, h, lt)
