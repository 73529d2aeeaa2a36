-- The transitions of a year, from what is kept of a rule.
use Rattle.std.proofs.Common.{◌≡◌, ℕ, ◌<◌, ◌==◌, Bool, true, false, not, cond, get_or, List, refl, ap, ◌∙◌, ℤ, pos, ◌+ℤ◌, ◌≤ℤ◌, arith}
use Rattle.std.specs.Ordering.{int_eq}
use Rattle.std.proofs.lemmas.Int.{ints}
use Rattle.std.proofs.lemmas.List.FromFn.{get_or-map-range_with_len}
use Rattle.civil.specs.Calendar.{year_start, year_kind}
use Rattle.timeline.specs.declared.offset.Transition.{Transition}
use Rattle.timeline.specs.declared.rule.TimeMode.{TimeMode}
use Rattle.timeline.specs.declared.rule.TimeMode.TheVariants.{Wall, Standard, Utc}
use Rattle.timeline.specs.declared.rule.KindDate.{KindDate}
use Rattle.timeline.specs.Zone.{DateRule, PlainRule}
use Rattle.timeline.specs.RuleDays.{rule_date}
use Rattle.timeline.specs.Rule.{rule_second, start_is_first, start_entry, end_entry, first_entry, second_entry}
use Rattle.timeline.specs.DateNumbers.{mode_number}
use Rattle.timeline.specs.Kinds.{place_in_kind}
use Rattle.civil.specs.Laws.{KindsOfYear}
use Rattle.timeline.specs.RulePromises.{RulesGoByKind}
use Rattle.timeline.specs.Inside.KeptRules.{places_of, time_mode, kind_date, KeptRule, kept_rule, LieWithin}
use Rattle.timeline.specs.Inside.KeptYears.{taken_off, kind_second, kept_start, kept_end}

pub places_of-at : (r : DateRule) (k : ℕ) → k < 14 → get_or (places_of r) k (pos 0) ≡ place_in_kind r k
unfolding places_of
places_of-at r k h = get_or-map-range_with_len (place_in_kind r) 0 14 k k (pos 0) h (omega arith)

-- where the places lie within, so does the date of each year
pub date_within : KindsOfYear → RulesGoByKind → (r : DateRule) (from to y : ℤ) → LieWithin (places_of r) from to → ((year_start y +ℤ from) ≤ℤ rule_date r y) × (rule_date r y ≤ℤ (year_start y +ℤ to))
date_within kinds by_kind r from to y within =
    let place = places_of-at r (year_kind y) (kinds.few y) in
    let h = within (year_kind y) (kinds.few y) in
    (omega (arith, ints, by_kind r y, place, h.0), omega (arith, ints, by_kind r y, place, h.1))

mode_is : (a b : Bool) (before raw : ℤ) → taken_off (cond a Wall (cond b Standard Utc)) before raw ≡ cond a before (cond b raw (pos 0))
mode_is true b before raw = refl
mode_is false true before raw = refl
mode_is false false before raw = refl

-- the second of a date in a year
pub kind_second-is : RulesGoByKind → (r : DateRule) (before raw y : ℤ) → year_kind y < 14 → kind_second (kind_date r) before raw (year_start y) (year_kind y) ≡ rule_second r before raw y
unfolding rule_second
kind_second-is by_kind r before raw y h =
    let place = places_of-at r (year_kind y) h in
    let mode = mode_is (r.mode == 0) (r.mode == 1) before raw in
    omega (arith, ints, place, mode, by_kind r y)

-- the transitions by what is kept are those of the rule
pub kept_start-is : RulesGoByKind → (r : PlainRule) (y : ℤ) → year_kind y < 14 → kept_start (kept_rule r) (year_start y) (year_kind y) ≡ start_entry r y
unfolding kept_rule
kept_start-is by_kind r y h = ap start (kind_second-is by_kind r.start r.raw r.raw y h)
  where
    start : ℤ → Transition
    start s = record { since = s; offset = r.raw +ℤ r.extra; rule_applies = not (int_eq r.extra (pos 0)) }

pub kept_end-is : RulesGoByKind → (r : PlainRule) (y : ℤ) → year_kind y < 14 → kept_end (kept_rule r) (year_start y) (year_kind y) ≡ end_entry r y
unfolding kept_rule
kept_end-is by_kind r y h = ap end (kind_second-is by_kind r.end (r.raw +ℤ r.extra) r.raw y h)
  where
    end : ℤ → Transition
    end s = record { since = s; offset = r.raw; rule_applies = false }

pub kept-first : (r : PlainRule) → (kept_rule r).start_is_first ≡ start_is_first r
unfolding kept_rule
kept-first r = refl

-- in their order
pub record InOrder (r : PlainRule) (y : ℤ) (first : Bool) (start end : Transition) : Type 0 where
  pub first_is : cond first start end ≡ first_entry r y
  pub second_is : cond first end start ≡ second_entry r y

pub in_order : RulesGoByKind → (r : PlainRule) (k : KeptRule) (y day : ℤ) (kind : ℕ) (first : Bool) (start end : Transition) → year_kind y < 14 → k ≡ kept_rule r → day ≡ year_start y → kind ≡ year_kind y
    → first ≡ k.start_is_first → start ≡ kept_start k day kind → end ≡ kept_end k day kind → InOrder r y first start end
in_order by_kind r k y day kind first start end h is d e f s t =
    let first_is : first ≡ start_is_first r = f ∙ ap (λ (k : KeptRule). k.start_is_first) is ∙ kept-first r in
    let start_is : start ≡ start_entry r y = s ∙ rw (is, d, e) (kept_start-is by_kind r y h) in
    let end_is : end ≡ end_entry r y = t ∙ rw (is, d, e) (kept_end-is by_kind r y h) in
    record { first_is = rw (first_is, start_is, end_is) refl; second_is = rw (first_is, start_is, end_is) refl }

-- what is kept of a rule, part by part
pub kept_from : (r : PlainRule) (k : KeptRule) → k.start ≡ kind_date r.start → k.end ≡ kind_date r.end → k.extra ≡ r.extra → k.raw ≡ r.raw → k.start_is_first ≡ start_is_first r → k.first_year ≡ r.first_year → k ≡ kept_rule r
unfolding kept_rule
kept_from r k a b c d e f =
    ap (λ x. made x k.end k.extra k.raw k.start_is_first k.first_year) a
    ∙ ap (λ x. made (kind_date r.start) x k.extra k.raw k.start_is_first k.first_year) b
    ∙ ap (λ x. made (kind_date r.start) (kind_date r.end) x k.raw k.start_is_first k.first_year) c
    ∙ ap (λ x. made (kind_date r.start) (kind_date r.end) r.extra x k.start_is_first k.first_year) d
    ∙ ap (λ x. made (kind_date r.start) (kind_date r.end) r.extra r.raw x k.first_year) e
    ∙ ap (λ x. made (kind_date r.start) (kind_date r.end) r.extra r.raw (start_is_first r) x) f
  where
    made : KindDate → KindDate → ℤ → ℤ → Bool → ℤ → KeptRule
    made start end extra raw first year = record { start = start; end = end; extra = extra; raw = raw; start_is_first = first; first_year = year }

-- a mode is told back from its number
pub mode_back : (m : TimeMode) → time_mode (mode_number m) ≡ m
mode_back Wall = refl
mode_back Standard = refl
mode_back Utc = refl

pub kind_date_from : (r : DateRule) (d : KindDate) → d.places ≡ places_of r → d.seconds ≡ r.seconds → d.mode ≡ time_mode r.mode → d ≡ kind_date r
kind_date_from r d a b c =
    ap (λ x. made x d.seconds d.mode) a ∙ ap (λ x. made (places_of r) x d.mode) b ∙ ap (λ x. made (places_of r) r.seconds x) c
  where
    made : List ℤ → ℕ → TimeMode → KindDate
    made places seconds mode = record { places = places; seconds = seconds; mode = mode }

pub kept-raw : (r : PlainRule) → (kept_rule r).raw ≡ r.raw
unfolding kept_rule
kept-raw r = refl

pub kept-extra : (r : PlainRule) → (kept_rule r).extra ≡ r.extra
unfolding kept_rule
kept-extra r = refl

pub kept-sum : (r : PlainRule) → (kept_rule r).raw +ℤ (kept_rule r).extra ≡ r.raw +ℤ r.extra
unfolding kept_rule
kept-sum r = refl

pub kept-year : (r : PlainRule) → (kept_rule r).first_year ≡ r.first_year
unfolding kept_rule
kept-year r = refl
