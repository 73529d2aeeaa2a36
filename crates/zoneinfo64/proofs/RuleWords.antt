-- Rules by their dates.
use Rattle.std.proofs.Common.{◌≡◌, ℕ, ◌<◌, ◌≤◌, Bool, true, false, cond, List, [], ◌∷◌, length, get_or, Option, Some, None, ℤ, pos, negsuc, ◌≤ℤ◌, refl, ap, ◌∙◌, arith}
use Rattle.resb_tree.specs.Options.{◌>>=◌}
use Rattle.std.proofs.lemmas.Bool.{and_parts}
use Rattle.std.proofs.lemmas.Bool.Decides.{nat_tests}
use Rattle.std.specs.Prelude.{unsigned_abs, int_le, int_lt, nat_le, ◌&&◌}
use Rattle.std.specs.Ordering.{int_eq}
use Rattle.jiff_core.proofs.SignedLemmas.{signed_arith, one_part}
use Rattle.zoneinfo64.specs.RuleDates.{between, longest_month, is_rule_day, as_i32, is_date, date_from, date_rule}
use Rattle.zoneinfo64.specs.RuleFields.{raw_rule}
use Rattle.timeline.specs.Zone.{DateRule, RawRule}
use Rattle.timeline.specs.Ranges.{IsDateInRange}
use Rattle.zoneinfo64.specs.Inside.DateWords.{by_dates}

pub date_given : (month day code seconds mode : ℤ) → is_date month day code seconds mode ≡ true → date_rule month day code seconds mode ≡ Some (date_from month day code seconds mode)
unfolding date_rule
date_given month day code seconds mode h = rw h refl

pub date_refused : (month day code seconds mode : ℤ) → is_date month day code seconds mode ≡ false → date_rule month day code seconds mode ≡ None
unfolding date_rule
date_refused month day code seconds mode h = rw h refl

between_is : (low high z : ℤ) → between low high z ≡ true → (low ≤ℤ z) × (z ≤ℤ high)
between_is low high z h = let parts = and_parts (int_le low z) (int_le z high) h in (omega (arith, signed_arith, parts.0), omega (arith, signed_arith, parts.1))

longest_few : (a b : Bool) → cond a 29 (cond b 30 31) ≤ 31
longest_few true b = omega arith
longest_few false true = omega arith
longest_few false false = omega arith

-- the sizes of the days that a code allows
day_by : (p q : Bool) (day : ℤ) (longest : ℕ) → longest ≤ 31
    → cond p (between (pos 1) (pos longest) day) (cond q (between (pos 1) (pos 5) day) (nat_le 1 (unsigned_abs day) && nat_le (unsigned_abs day) longest)) ≡ true
    → (1 ≤ unsigned_abs day) × (unsigned_abs day ≤ 31)
day_by true q day longest few h = let parts = between_is (pos 1) (pos longest) day h in (omega (arith, signed_arith, parts.0, one_part day), omega (arith, signed_arith, parts.1, parts.0, one_part day))
day_by false true day longest few h = let parts = between_is (pos 1) (pos 5) day h in (omega (arith, signed_arith, parts.0, one_part day), omega (arith, signed_arith, parts.1, parts.0, one_part day))
day_by false false day longest few h = let parts = and_parts (nat_le 1 (unsigned_abs day)) (nat_le (unsigned_abs day) longest) h in (grind (arith, nat_tests, parts.0), grind (arith, nat_tests, parts.1))

-- five numbers that are a date have places
pub date_good : (month day code seconds mode : ℤ) → is_date month day code seconds mode ≡ true → IsDateInRange (date_from month day code seconds mode)
date_good month day code seconds mode h =
    let a = and_parts (between (pos 0) (pos 11) month && between (negsuc 6) (pos 7) code && between (pos 0) (pos 86400) seconds && between (pos 0) (pos 2) mode) (is_rule_day (unsigned_abs month) code day) h in
    let b = and_parts (between (pos 0) (pos 11) month && between (negsuc 6) (pos 7) code && between (pos 0) (pos 86400) seconds) (between (pos 0) (pos 2) mode) a.0 in
    let c = and_parts (between (pos 0) (pos 11) month && between (negsuc 6) (pos 7) code) (between (pos 0) (pos 86400) seconds) b.0 in
    let d = and_parts (between (pos 0) (pos 11) month) (between (negsuc 6) (pos 7) code) c.0 in
    let months = between_is (pos 0) (pos 11) month d.0 in
    let modes = between_is (pos 0) (pos 2) mode b.1 in
    let times = between_is (pos 0) (pos 86400) seconds c.1 in
    let days = day_by (int_eq code (pos 0)) (int_lt (pos 0) code) day (longest_month (unsigned_abs month)) (longest_few _ _) a.1 in
    record {
      month = omega (arith, signed_arith, months.0, months.1, one_part month);
      some_day = days.0;
      last_day = days.1;
      seconds = omega (arith, signed_arith, times.0, times.1, one_part seconds);
      mode = omega (arith, signed_arith, modes.0, modes.1, one_part mode);
    }

-- five words of a rule
abbrev pub five : ℕ → ℕ → ℕ → ℕ → ℕ → Option DateRule
five a b c d e = date_rule (as_i32 a) (as_i32 b) (as_i32 c) (as_i32 d) (as_i32 e)

joined : (start end : Option DateRule) (extra : ℤ) → (start >>= λ s. end >>= λ e. let rule : RawRule = record { start = s; end = e; extra = extra } in Some rule) ≡ by_dates start end extra
joined None end extra = refl
joined (Some s) None extra = refl
joined (Some s) (Some e) extra = refl

-- a rule of eleven words
pub dates_are : (words : List ℕ) → 11 ≤ length words → length words ≤ 11
    → raw_rule words ≡ by_dates (five (get_or words 0 0) (get_or words 1 0) (get_or words 2 0) (get_or words 3 0) (get_or words 4 0))
    (five (get_or words 5 0) (get_or words 6 0) (get_or words 7 0) (get_or words 8 0) (get_or words 9 0)) (as_i32 (get_or words 10 0))
unfolding raw_rule
dates_are (a ∷ b ∷ c ∷ d ∷ e ∷ f ∷ g ∷ h ∷ i ∷ j ∷ k ∷ []) least most = joined (five a b c d e) (five f g h i j) (as_i32 k)
dates_are (a ∷ b ∷ c ∷ d ∷ e ∷ f ∷ g ∷ h ∷ i ∷ j ∷ k ∷ l ∷ words) least most = absurd (omega arith)
dates_are [] least most = absurd (omega arith)
dates_are (a ∷ []) least most = absurd (omega arith)
dates_are (a ∷ b ∷ []) least most = absurd (omega arith)
dates_are (a ∷ b ∷ c ∷ []) least most = absurd (omega arith)
dates_are (a ∷ b ∷ c ∷ d ∷ []) least most = absurd (omega arith)
dates_are (a ∷ b ∷ c ∷ d ∷ e ∷ []) least most = absurd (omega arith)
dates_are (a ∷ b ∷ c ∷ d ∷ e ∷ f ∷ []) least most = absurd (omega arith)
dates_are (a ∷ b ∷ c ∷ d ∷ e ∷ f ∷ g ∷ []) least most = absurd (omega arith)
dates_are (a ∷ b ∷ c ∷ d ∷ e ∷ f ∷ g ∷ h ∷ []) least most = absurd (omega arith)
dates_are (a ∷ b ∷ c ∷ d ∷ e ∷ f ∷ g ∷ h ∷ i ∷ []) least most = absurd (omega arith)
dates_are (a ∷ b ∷ c ∷ d ∷ e ∷ f ∷ g ∷ h ∷ i ∷ j ∷ []) least most = absurd (omega arith)

pub same_dates : (s t e f : Option DateRule) (extra : ℤ) → s ≡ t → e ≡ f → by_dates s e extra ≡ by_dates t f extra
same_dates s t e f extra start end = ap (λ o. by_dates o e extra) start ∙ ap (λ o. by_dates t o extra) end

pub too_short : (words : List ℕ) → length words < 11 → raw_rule words ≡ None
unfolding raw_rule
too_short [] few = refl
too_short (a ∷ []) few = refl
too_short (a ∷ b ∷ []) few = refl
too_short (a ∷ b ∷ c ∷ []) few = refl
too_short (a ∷ b ∷ c ∷ d ∷ []) few = refl
too_short (a ∷ b ∷ c ∷ d ∷ e ∷ []) few = refl
too_short (a ∷ b ∷ c ∷ d ∷ e ∷ f ∷ []) few = refl
too_short (a ∷ b ∷ c ∷ d ∷ e ∷ f ∷ g ∷ []) few = refl
too_short (a ∷ b ∷ c ∷ d ∷ e ∷ f ∷ g ∷ h ∷ []) few = refl
too_short (a ∷ b ∷ c ∷ d ∷ e ∷ f ∷ g ∷ h ∷ i ∷ []) few = refl
too_short (a ∷ b ∷ c ∷ d ∷ e ∷ f ∷ g ∷ h ∷ i ∷ j ∷ []) few = refl
too_short (a ∷ b ∷ c ∷ d ∷ e ∷ f ∷ g ∷ h ∷ i ∷ j ∷ k ∷ words) few = absurd (omega arith)

pub too_long : (words : List ℕ) → 12 ≤ length words → raw_rule words ≡ None
unfolding raw_rule
too_long [] many = absurd (omega arith)
too_long (a ∷ []) many = absurd (omega arith)
too_long (a ∷ b ∷ []) many = absurd (omega arith)
too_long (a ∷ b ∷ c ∷ []) many = absurd (omega arith)
too_long (a ∷ b ∷ c ∷ d ∷ []) many = absurd (omega arith)
too_long (a ∷ b ∷ c ∷ d ∷ e ∷ []) many = absurd (omega arith)
too_long (a ∷ b ∷ c ∷ d ∷ e ∷ f ∷ []) many = absurd (omega arith)
too_long (a ∷ b ∷ c ∷ d ∷ e ∷ f ∷ g ∷ []) many = absurd (omega arith)
too_long (a ∷ b ∷ c ∷ d ∷ e ∷ f ∷ g ∷ h ∷ []) many = absurd (omega arith)
too_long (a ∷ b ∷ c ∷ d ∷ e ∷ f ∷ g ∷ h ∷ i ∷ []) many = absurd (omega arith)
too_long (a ∷ b ∷ c ∷ d ∷ e ∷ f ∷ g ∷ h ∷ i ∷ j ∷ []) many = absurd (omega arith)
too_long (a ∷ b ∷ c ∷ d ∷ e ∷ f ∷ g ∷ h ∷ i ∷ j ∷ k ∷ []) many = absurd (omega arith)
too_long (a ∷ b ∷ c ∷ d ∷ e ∷ f ∷ g ∷ h ∷ i ∷ j ∷ k ∷ l ∷ words) many = refl
