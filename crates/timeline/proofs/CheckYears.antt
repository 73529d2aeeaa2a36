-- The years of a rule by their kinds: what one year of each kind keeps, all years keep.
use Rattle.std.proofs.Common.{◌≡◌, ℕ, ◌<◌, ◌≤◌, Bool, true, false, refl, sym, subst, ◌∙◌, ℤ, pos, ◌+ℤ◌, ◌-ℤ◌, ◌*ℤ◌, ◌≤ℤ◌, cond, arith}
use Rattle.std.proofs.lemmas.Int.{ints}
use Rattle.std.proofs.lemmas.Bool.Decides.{nat_tests}
use Rattle.civil.specs.Calendar.{is_leap_year, days_in_year, year_kind, year_second, example_year}
use Rattle.civil.specs.Laws.{CountsYears, KindsOfYear}
use Rattle.civil.specs.YearLaws.{ExampleYears}
use Rattle.timeline.specs.declared.fault.ZoneFault.{ZoneFault}
use Rattle.timeline.specs.declared.fault.ZoneFault.TheVariants.{Parts, Order, Size, Near, Walls, Seam, Before, Year}
use Rattle.timeline.specs.declared.check.Walls as checked
use Rattle.timeline.specs.Zone.{PlainRule}
use Rattle.timeline.specs.Rule.{first_entry, second_entry}
use Rattle.timeline.specs.Timeline.{offset_of}
use Rattle.timeline.specs.Neighbours.{Step, step, IsNear, IsWalled}
use Rattle.timeline.specs.Laws.{LiesIn}
use Rattle.timeline.specs.Inside.LeastFaults.{TellsLeast}
use Rattle.timeline.specs.Inside.EntryWalls.{walls}
use Rattle.timeline.specs.Inside.RuleChecks.{kind_seconds, PairKeeps, YearKeeps, YearsKeep}
use Rattle.timeline.proofs.LeastFaults.{Told, tells-same}
use Rattle.timeline.proofs.CheckLaws.{near-there, near-back, walled-there, walled-back, lies-there, lies-back}
use Rattle.timeline.proofs.RuleKinds.{kind_of_year, first_entry-same, second_entry-same}

-- a step as much later
record LaterStep (d : ℤ) (a b : Step) : Type 0 where
  since : b.since ≡ a.since +ℤ d
  before : b.before ≡ a.before
  after : b.after ≡ a.after

near-later : (d : ℤ) (a b p q : Step) → LaterStep d a p → LaterStep d b q → IsNear a b → IsNear p q
near-later d a b p q s t h = record {
  old = omega (arith, ints, s.since, s.before, t.since, h.old);
  new = omega (arith, ints, s.since, s.after, t.since, h.new);
  to_old = omega (arith, ints, s.since, t.since, t.before, h.to_old);
  to_new = omega (arith, ints, s.since, t.since, t.after, h.to_new);
}

walled-later : (d : ℤ) (a b p q : Step) → LaterStep d a p → LaterStep d b q → IsWalled a b → IsWalled p q
walled-later d a b p q s t h = record {
  old_old = omega (arith, ints, s.since, s.before, t.since, t.before, h.old_old);
  old_new = omega (arith, ints, s.since, s.before, t.since, t.after, h.old_new);
  new_old = omega (arith, ints, s.since, s.after, t.since, t.before, h.new_old);
  new_new = omega (arith, ints, s.since, s.after, t.since, t.after, h.new_new);
}

lies-later : (d low high low' high' : ℤ) (a p : Step) → LaterStep d a p → low' ≡ low +ℤ d → high' ≡ high +ℤ d → LiesIn low high a → LiesIn low' high' p
lies-later d low high low' high' a p s e f h = record {
  from = omega (arith, ints, s.since, e, h.from);
  to = omega (arith, ints, s.since, f, h.to);
  old_from = omega (arith, ints, s.since, s.before, e, h.old_from);
  old_to = omega (arith, ints, s.since, s.before, f, h.old_to);
  new_from = omega (arith, ints, s.since, s.after, e, h.new_from);
  new_to = omega (arith, ints, s.since, s.after, f, h.new_to);
}

-- ---- years of one kind

record SameYears (r : PlainRule) (y z : ℤ) : Type 0 where
  first : LaterStep (year_second z -ℤ year_second y) (step (offset_of (second_entry r y)) (first_entry r y)) (step (offset_of (second_entry r z)) (first_entry r z))
  second : LaterStep (year_second z -ℤ year_second y) (step (offset_of (first_entry r y)) (second_entry r y)) (step (offset_of (first_entry r z)) (second_entry r z))
  end : year_second (z +ℤ pos 1) ≡ year_second (y +ℤ pos 1) +ℤ (year_second z -ℤ year_second y)

same_years : CountsYears → (r : PlainRule) (y z : ℤ) → year_kind y ≡ year_kind z → SameYears r y z
same_years counts r y z same =
    let a = first_entry-same r y z same in
    let b = second_entry-same r y z same in
    let days : days_in_year z ≡ days_in_year y = grind (arith, nat_tests, (kind_of_year y _ same).1, (kind_of_year z _ refl).1) in
    record {
      first = record { since = a.since; before = b.offset; after = a.offset };
      second = record { since = b.since; before = a.offset; after = b.offset };
      end = omega (arith, ints, counts.next y, counts.next z, days);
    }

-- a year keeps what another one of its kind keeps
pub year_keeps-same : CountsYears → (r : PlainRule) (y z : ℤ) → year_kind y ≡ year_kind z → (f : ZoneFault) → YearKeeps r y f → YearKeeps r z f
year_keeps-same counts r y z same Parts h = h
year_keeps-same counts r y z same Order h = h
year_keeps-same counts r y z same Size h = h
year_keeps-same counts r y z same Near h = let s = same_years counts r y z same in near-later _ _ _ _ _ s.first s.second h
year_keeps-same counts r y z same Walls h = let s = same_years counts r y z same in walled-later _ _ _ _ _ s.first s.second h
year_keeps-same counts r y z same Seam h = h
year_keeps-same counts r y z same Before h = h
year_keeps-same counts r y z same Year h =
    let s = same_years counts r y z same in
    let low : year_second z ≡ year_second y +ℤ (year_second z -ℤ year_second y) = omega (arith, ints) in
    record {
      first = lies-later _ _ _ _ _ _ _ s.first low s.end h.first;
      second = lies-later _ _ _ _ _ _ _ s.second low s.end h.second;
    }

-- ---- what was tested of a year

pair_there : (r : PlainRule) (y : ℤ) (f : ZoneFault)
    → PairKeeps (walls (step (offset_of (second_entry r y)) (first_entry r y))) (walls (step (offset_of (first_entry r y)) (second_entry r y))) (year_second y) (year_second (y +ℤ pos 1)) f → YearKeeps r y f
pair_there r y Parts h = h
pair_there r y Order h = h
pair_there r y Size h = h
pair_there r y Near h = near-back _ _ h
pair_there r y Walls h = walled-back _ _ h
pair_there r y Seam h = h
pair_there r y Before h = h
pair_there r y Year h = record { first = lies-back _ _ _ h.0; second = lies-back _ _ _ h.1 }

pair_back : (r : PlainRule) (y : ℤ) (f : ZoneFault) → YearKeeps r y f
    → PairKeeps (walls (step (offset_of (second_entry r y)) (first_entry r y))) (walls (step (offset_of (first_entry r y)) (second_entry r y))) (year_second y) (year_second (y +ℤ pos 1)) f
pair_back r y Parts h = h
pair_back r y Order h = h
pair_back r y Size h = h
pair_back r y Near h = near-there _ _ h
pair_back r y Walls h = walled-there _ _ h
pair_back r y Seam h = h
pair_back r y Before h = h
pair_back r y Year h = (lies-there _ _ _ h.first, lies-there _ _ _ h.second)

pub year_told : (r : PlainRule) (y : ℤ) (a b : checked.Walls) (low high : ℤ) (t : Told) → a ≡ walls (step (offset_of (second_entry r y)) (first_entry r y)) → b ≡ walls (step (offset_of (first_entry r y)) (second_entry r y))
    → low ≡ year_second y → high ≡ year_second (y +ℤ pos 1) → TellsLeast (PairKeeps a b low high) t → TellsLeast (YearKeeps r y) t
year_told r y a b low high t d e f g h =
    let first = walls (step (offset_of (second_entry r y)) (first_entry r y)) in
    let second = walls (step (offset_of (first_entry r y)) (second_entry r y)) in
    let P1 : checked.Walls → Type 0 = λ x. TellsLeast (PairKeeps x b low high) t in
    let P2 : checked.Walls → Type 0 = λ x. TellsLeast (PairKeeps first x low high) t in
    let P3 : ℤ → Type 0 = λ x. TellsLeast (PairKeeps first second x high) t in
    let P4 : ℤ → Type 0 = λ x. TellsLeast (PairKeeps first second (year_second y) x) t in
    tells-same (PairKeeps first second (year_second y) (year_second (y +ℤ pos 1))) (YearKeeps r y) t (pair_there r y) (pair_back r y)
    (subst P4 g (subst P3 f (subst P2 e (subst P1 d h))))

-- ---- one year of each kind

-- the year after the example of a kind begins as many seconds later as the kind has
pub example_high : ExampleYears → CountsYears → (k : ℕ) → k < 14 → year_second (example_year k) +ℤ kind_seconds k ≡ year_second (example_year k +ℤ pos 1)
example_high examples counts k h =
    let days : pos 86400 *ℤ pos (days_in_year (example_year k)) ≡ kind_seconds k = grind (arith, nat_tests, (kind_of_year (example_year k) k (examples k h)).1) in
    omega (arith, ints, days, counts.next (example_year k))

-- a year has 365 days or more
pub year_long : CountsYears → (y : ℤ) → (year_second y +ℤ pos 31536000) ≤ℤ year_second (y +ℤ pos 1)
year_long counts y = omega (arith, ints, counts.next y, days (is_leap_year y))
  where
    days : (l : Bool) → 365 ≤ cond l 366 365
    days true = omega arith
    days false = omega arith

-- what holds of the example of each kind holds of all years
pub years_told : CountsYears → KindsOfYear → ExampleYears → (r : PlainRule) (t : Told) → r.first_year ≤ℤ pos 134217727
    → TellsLeast (λ f. (m : ℕ) → m < 14 → YearKeeps r (example_year m) f) t → TellsLeast (YearsKeep r) t
years_told counts kinds examples r t high h =
    tells-same (λ f. (m : ℕ) → m < 14 → YearKeeps r (example_year m) f) (YearsKeep r) t
    (λ f all y from to. year_keeps-same counts r (example_year (year_kind y)) y (examples (year_kind y) (kinds.few y)) f (all (year_kind y) (kinds.few y)))
    (λ f all m less.
    let z = kinds.occur r.first_year m less in
    year_keeps-same counts r z.0 (example_year m) (z.3 ∙ sym (examples m less)) f (all z.0 z.1 (omega (arith, ints, z.2, high))))
    h
