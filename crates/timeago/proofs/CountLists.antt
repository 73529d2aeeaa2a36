-- The counts that are worked out are those that are told, and no others are.
use Rattle.std.proofs.Common.{◌≡◌, ◌⊎◌, inl, inr, ℕ, zero, suc, ◌+◌, ◌-◌, ◌*◌, ◌/◌, ◌%◌, ◌<◌, ◌≤◌, min, Bool, true, false, nat_lt, nat_le, MatchBool, List, [], ◌∷◌, refl, sym, ap, ◌∙◌, subst, arith, unwrap_or, if◌then◌else◌}
use Rattle.std.proofs.Math.Nat.{lt_of_mul-lt-mul_right, mul-le-mul_right, le-div_iff_mul-le, div-mul-le_self}
use Rattle.std.proofs.lemmas.Bool.Decides.{nat_tests}
use Rattle.tongues.specs.Units.{unit_size}
use Rattle.tongues.specs.Speech.{Speech}
use Rattle.timeago.specs.Settings.{Settings}
use Rattle.timeago.specs.Counts.{Counts, allowed_unit, lower, higher, biggest, u64_max}
use Rattle.timeago.specs.Inside.Steps.{counted, next_told}
use Rattle.timeago.specs.Words.{IsWords, told_text}
use Rattle.tongues.specs.declared.unit.TimeUnit.{TimeUnit}
use Rattle.tongues.specs.declared.unit.TimeUnit.TheVariants as u

-- ---- the allowed unit lies between the least unit and the rest

higher_least : (a b : TimeUnit) → unit_size a ≤ unit_size (higher a b)
higher_least a b = grind (arith, nat_tests)

higher_most : (a b : TimeUnit) (n : ℕ) → unit_size a ≤ n → unit_size b ≤ n → unit_size (higher a b) ≤ n
higher_most a b n h k = grind (arith, nat_tests)

lower_most : (a b : TimeUnit) → unit_size (lower a b) ≤ unit_size a
lower_most a b = grind (arith, nat_tests)

pub least_told : (f : Settings) (rest : ℕ) → unit_size f.min_unit ≤ unit_size (allowed_unit f rest)
unfolding allowed_unit
least_told f rest = higher_least f.min_unit (lower (biggest rest) f.max_unit)

size_some : (unit : TimeUnit) → 1 ≤ unit_size unit
size_some u.Nanoseconds = omega arith
size_some u.Microseconds = omega arith
size_some u.Milliseconds = omega arith
size_some u.Seconds = omega arith
size_some u.Minutes = omega arith
size_some u.Hours = omega arith
size_some u.Days = omega arith
size_some u.Weeks = omega arith
size_some u.Months = omega arith
size_some u.Years = omega arith

-- one step of the choice of the biggest unit
fits_if : (unit other : TimeUnit) (rest : ℕ) → unit_size other ≤ rest → unit_size (if nat_le (unit_size unit) rest then unit else other) ≤ rest
fits_if unit other rest h = grind (arith, nat_tests)

biggest_fits : (rest : ℕ) → 1 ≤ rest → unit_size (biggest rest) ≤ rest
biggest_fits rest h =
    fits_if u.Years _ rest (fits_if u.Months _ rest (fits_if u.Weeks _ rest (fits_if u.Days _ rest (fits_if u.Hours _ rest (fits_if u.Minutes _ rest
    (fits_if u.Seconds _ rest (fits_if u.Milliseconds _ rest (fits_if u.Microseconds _ rest h))))))))

pub allowed_fits : (f : Settings) (rest : ℕ) → unit_size f.min_unit ≤ rest → unit_size (allowed_unit f rest) ≤ rest
unfolding allowed_unit
allowed_fits f rest h =
    let some = size_some f.min_unit in
    let fits = biggest_fits rest (omega arith) in
    let lowered = lower_most (biggest rest) f.max_unit in
    higher_most f.min_unit (lower (biggest rest) f.max_unit) rest h (omega arith)

-- ---- what is worked out is told

-- what a count keeps
pub record IsCountOf (size rest count : ℕ) : Type 0 where
  pub some : 1 ≤ count
  pub small : count ≤ u64_max
  pub within : count * size ≤ rest
  pub next : (rest < (count + 1) * size) ⊎ (count ≡ u64_max)

next_of : (size rest q r : ℕ) → size * q + r ≡ rest → r < size → rest < (q + 1) * size
next_of size rest q r e h = omega arith

min_choice : (a b : ℕ) → (min a b ≡ a) ⊎ (min a b ≡ b)
min_choice a b = grind arith

pub count_is : (size rest : ℕ) → 1 ≤ size → size ≤ rest → IsCountOf size rest (min (rest / size) u64_max)
count_is size rest one fits =
    let some : 1 ≤ rest / size = (le-div_iff_mul-le one).1 (omega arith) in
    let low : min (rest / size) u64_max ≤ rest / size = omega arith in
    let taken : min (rest / size) u64_max * size ≤ rest / size * size = mul-le-mul_right size low in
    let all = div-mul-le_self rest size in
    let beyond : rest < (rest / size + 1) * size = next_of size rest (rest / size) (rest % size) (omega arith) (omega arith) in
    record {
      some = omega arith;
      small = omega arith;
      within = omega arith;
      next = elim (min_choice (rest / size) u64_max) [ inl e ↦ inl (rw e beyond) | inr e ↦ inr e ];
    }

counted_if : (f : Settings) (items rest : ℕ) (told : TimeUnit × ℕ) (others : List (TimeUnit × ℕ)) (low : Bool) → nat_lt rest (unit_size f.min_unit) ≡ low
    → told.0 ≡ allowed_unit f rest → (unit_size f.min_unit ≤ rest → IsCountOf (unit_size told.0) rest told.1)
    → Counts f items (rest - told.1 * unit_size told.0) others → Counts f (suc items) rest (if low then [] else told ∷ others)
counted_if f items rest told others true e unit is more = inr (grind (arith, nat_tests))
counted_if f items rest told others false e unit is more =
    let fits : unit_size f.min_unit ≤ rest = grind (arith, nat_tests) in
    let k = is fits in
    let left : suc items - 1 ≡ items = omega arith in
    (omega arith, unit, k.some, k.small, k.within, k.next, subst (λ (n : ℕ). Counts f n (rest - told.1 * unit_size told.0) others) (sym left) more)

pub counted_is : (f : Settings) (items rest : ℕ) → Counts f items rest (counted f items rest)
unfolding counted
counted_is f zero rest = inl refl
counted_is f (suc items) rest =
    let told = next_told f rest in
    counted_if f items rest told (counted f items (rest - told.1 * unit_size told.0)) (nat_lt rest (unit_size f.min_unit)) refl refl
    (λ (h : unit_size f.min_unit ≤ rest). count_is (unit_size (allowed_unit f rest)) rest (size_some (allowed_unit f rest)) (allowed_fits f rest h))
    (counted_is f items (rest - told.1 * unit_size told.0))

-- ---- and nothing else is

-- nothing is told of a rest below the least unit
nothing_told : (least unit rest n : ℕ) → least ≤ unit → 1 ≤ n → n * unit ≤ rest → rest < least → ⊥
nothing_told least unit rest n h one within low = let grown = mul-le-mul_right unit one in omega arith

-- of two counts of a unit in a rest neither is greater
no_greater : (s rest a b : ℕ) → b * s ≤ rest → b ≤ u64_max → (rest < (a + 1) * s) ⊎ (a ≡ u64_max) → b ≤ a
no_greater s rest a b within small (inl lt) =
    let less : b * s < (a + 1) * s = omega arith in
    let below = lt_of_mul-lt-mul_right s less in
    omega arith
no_greater s rest a b within small (inr most) = omega arith

same_head : (x y : TimeUnit × ℕ) (xs ys : List (TimeUnit × ℕ)) → x.0 ≡ y.0 → x.1 ≡ y.1 → xs ≡ ys → x ∷ xs ≡ y ∷ ys
same_head x y xs ys e f g =
    let head : x ≡ y = λ i. (e i, f i) in
    cc

pub counts_once : (f : Settings) (items rest : ℕ) (xs ys : List (TimeUnit × ℕ)) → Counts f items rest xs → Counts f items rest ys → xs ≡ ys
counts_once f items rest [] [] p q = refl
counts_once f items rest [] (y ∷ ys) (inl none) (some, unit, one, small, within, next, more) = absurd (omega arith)
counts_once f items rest [] (y ∷ ys) (inr low) (some, unit, one, small, within, next, more) =
    absurd (nothing_told (unit_size f.min_unit) (unit_size y.0) rest y.1 (rw unit (least_told f rest)) one within low)
counts_once f items rest (x ∷ xs) [] (some, unit, one, small, within, next, more) (inl none) = absurd (omega arith)
counts_once f items rest (x ∷ xs) [] (some, unit, one, small, within, next, more) (inr low) =
    absurd (nothing_told (unit_size f.min_unit) (unit_size x.0) rest x.1 (rw unit (least_told f rest)) one within low)
counts_once f items rest (x ∷ xs) (y ∷ ys) (some, unit, one, small, within, next, more) (some', unit', one', small', within', next', more') =
    let units : x.0 ≡ y.0 = unit ∙ sym unit' in
    let size : unit_size x.0 ≡ unit_size y.0 = ap unit_size units in
    let low : y.1 ≤ x.1 = no_greater (unit_size x.0) rest x.1 y.1 (rw size within') small' next in
    let high : x.1 ≤ y.1 = no_greater (unit_size y.0) rest y.1 x.1 (rw size at within) small next' in
    let counts : x.1 ≡ y.1 = omega arith in
    let left : rest - x.1 * unit_size x.0 ≡ rest - y.1 * unit_size y.0 = rw (counts, size) refl in
    same_head x y xs ys units counts (counts_once f (items - 1) (rest - x.1 * unit_size x.0) xs ys more (subst (λ (n : ℕ). Counts f (items - 1) n ys) (sym left) more'))

told_once : (v : Bool) (s : Speech) (f : Settings) (d : ℕ) (high a b : List ℕ)
    → MatchBool v (a ≡ high) ((list : List (TimeUnit × ℕ)) × Counts f f.items d list × (a ≡ told_text s f list))
    → MatchBool v (b ≡ high) ((list : List (TimeUnit × ℕ)) × Counts f f.items d list × (b ≡ told_text s f list)) → a ≡ b
told_once true s f d high a b p q = p ∙ sym q
told_once false s f d high a b (xs, p, e) (ys, q, g) = e ∙ ap (told_text s f) (counts_once f f.items d xs ys p q) ∙ sym g

-- a distance has one text
pub words_once : (s : Speech) (f : Settings) (d : ℕ) (a b : List ℕ) → IsWords s f d a → IsWords s f d b → a ≡ b
words_once s f d a b p q = told_once (nat_lt f.max_duration d) s f d (unwrap_or f.high s.high) a b p q
