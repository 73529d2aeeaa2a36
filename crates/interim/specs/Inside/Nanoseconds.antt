-- Seconds with their nanoseconds are ordered as the nanoseconds of both.
use Rattle.std.proofs.Common.{◌≡◌, ℕ, ◌+◌, ◌*◌, ◌<◌, Some, inl, inr, sym, ap, arith}
use Rattle.std.proofs.lemmas.Bool.{cases_order}
use Rattle.std.specs.Cmp.{nat_cmp_is}
use Rattle.std.specs.Ordering.{nat_cmp, match_ordering}
use Rattle.std.specs.declared.cmp.Ordering.TheVariants.{Less, Equal, Greater}

-- of two numbers the lower is Less
earlier : (x y : ℕ) → x < y → nat_cmp x y ≡ Less
earlier x y h = sym (nat_cmp_is x y Less h)

-- the higher is Greater
later : (x y : ℕ) → y < x → nat_cmp x y ≡ Greater
later x y h = sym (nat_cmp_is x y Greater h)

-- and equal ones are Equal
same : (x y : ℕ) → x ≡ y → nat_cmp x y ≡ Equal
same x y h = sym (nat_cmp_is x y Equal h)

-- nanoseconds of seconds and a rest are ordered by the seconds first, then by the rest
parts_cmp : (s t f g : ℕ) → f < 1000000000 → g < 1000000000 → nat_cmp (s * 1000000000 + f) (t * 1000000000 + g) ≡ match_ordering (nat_cmp s t) Less (nat_cmp f g) Greater
parts_cmp s t f g h k =
    elim (cases_order s t) [
      | inl seconds ↦
          rw (same s t seconds) (elim (cases_order f g) [
            | inl nanos ↦ rw (same f g nanos) (same (s * 1000000000 + f) (t * 1000000000 + g) (omega (arith, seconds, nanos)))
            | inr (inl nanos) ↦ rw (earlier f g nanos) (earlier (s * 1000000000 + f) (t * 1000000000 + g) (omega (arith, seconds, nanos)))
            | inr (inr nanos) ↦ rw (later f g nanos) (later (s * 1000000000 + f) (t * 1000000000 + g) (omega (arith, seconds, nanos)))
          ])
      | inr (inl seconds) ↦ rw (earlier s t seconds) (earlier (s * 1000000000 + f) (t * 1000000000 + g) (omega (arith, seconds)))
      | inr (inr seconds) ↦ rw (later s t seconds) (later (s * 1000000000 + f) (t * 1000000000 + g) (omega (arith, seconds)))
    ]

-- moments of seconds and nanoseconds are ordered as their nanoseconds are
pub same_order : (s t f g : ℕ) → f < 1000000000 → g < 1000000000 → Some (nat_cmp (s * 1000000000 + f) (t * 1000000000 + g)) ≡ Some (match_ordering (nat_cmp s t) Less (nat_cmp f g) Greater)
same_order s t f g h k = ap Some (parts_cmp s t f g h k)
