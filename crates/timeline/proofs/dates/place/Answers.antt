use Rattle.std.proofs.Common.{◌≡◌, ◌+◌, ◌-◌, ◌≤◌, suc, true, false, pos, negsuc, ◌+ℤ◌, to_z, of_z, to_z-of_z, w32, sym, ap, ◌∙◌, arith}
use Rattle.std.specs.Prelude.{unsigned_abs, int_lt}
use Rattle.std.proofs.lemmas.Bool.{lt-ltb}
use Rattle.civil.specs.Calendar.{year_start, days_of_months, example_year}
use Rattle.jiff_core.proofs.SignedLemmas.{signed_casts}
use Rattle.timeline.specs.RuleDays.{first_on, last_on, code_weekday}
use Rattle.timeline.specs.DateNumbers.{day_code}
use Rattle.timeline.proofs.DatePlaces.{place_anchor, place_from_month, place_from_anchor, place_to_anchor, is_zero, is_no_zero}
use Rattle.timeline.proofs.dates.place.Goals as goal

pub returns-in-InMonth : goal.returns-in-InMonth
returns-in-InMonth c = λ r month day code.
    let first = c.month_place-first.ensures.value (example_year c.args.kind) (c.example_years.ensures c.args.kind c.requires.kind) ∙ ap (days_of_months (example_year c.args.kind)) (sym month) in
    let size : c.unsigned_abs.result ≡ unsigned_abs r.day = c.unsigned_abs.ensures.value ∙ ap unsigned_abs (to_z-of_z c.ranges.day ∙ sym day) in
    let none : r.code ≡ pos 0 = code ∙ ap day_code c.in-InMonth.is in
    let some : 1 ≤ unsigned_abs r.day = omega (arith, c.requires.some_day, ap unsigned_abs day) in
    let place = place_anchor r c.args.kind c.month_place-first.result (is_zero r.code none) first some in
    omega (arith, signed_casts, place, size, some, c.month_place-first.ensures.bound, c.requires.last_day, ap unsigned_abs day)

pub returns-in-Nth : goal.returns-in-Nth
returns-in-Nth c = λ r month day code.
    let y = example_year c.args.kind in
    let kind = c.example_years.ensures c.args.kind c.requires.kind in
    let first = c.month_place-first.ensures.value y kind ∙ ap (days_of_months y) (sym month) in
    let same : r.code ≡ pos (suc c.in-Nth.weekday) = code ∙ ap day_code c.in-Nth.is in
    let weekday : pos c.from_monday.result ≡ code_weekday r.code = c.from_monday.ensures.counted ∙ ap code_weekday (sym same) in
    let found = ap (λ w. first_on 6 w (year_start y +ℤ pos c.month_place-first.result)) (sym weekday) ∙ c.first_from.ensures.value y kind in
    let some = is_no_zero r.code (λ none. let no : pos (suc c.in-Nth.weekday) ≡ pos 0 = sym same ∙ none in cc) in
    let above : int_lt (pos 0) r.code ≡ true = ap (int_lt (pos 0)) same ∙ lt-ltb 0 (suc c.in-Nth.weekday) (omega arith) in
    let place = place_from_month r c.args.kind c.month_place-first.result (pos c.first_from.result) some above first found in
    omega (arith, signed_casts, place, day, c.first_from.ensures.bound, c.month_place-first.ensures.bound, c.requires.last_day)

pub returns-then-day-gt0 : goal.returns-then-day-gt0
returns-then-day-gt0 c = λ r month day code.
    let y = example_year c.args.kind in
    let kind = c.example_years.ensures c.args.kind c.requires.kind in
    let first = c.month_place-first.ensures.value y kind ∙ ap (days_of_months y) (sym month) in
    let same : r.code ≡ negsuc c.in-Beside.weekday = code ∙ ap day_code c.in-Beside.is in
    let same_day : to_z w32 (of_z w32 c.args.day) ≡ r.day = to_z-of_z c.ranges.day ∙ sym day in
    let day_size : c.unsigned_abs.result ≡ unsigned_abs r.day = c.unsigned_abs.ensures.value ∙ ap unsigned_abs same_day in
    let weekday : pos c.from_monday-then-day-gt0.result ≡ code_weekday r.code = c.from_monday-then-day-gt0.ensures.beside ∙ ap code_weekday (sym same) in
    let anchor : c.month_place-first.result + unsigned_abs r.day - 1 ≡ c.month_place-first.result + c.unsigned_abs.result - 1 = ap (λ n. c.month_place-first.result + n - 1) (sym day_size) in
    let found = ap (λ w. first_on 6 w (year_start y +ℤ pos (c.month_place-first.result + unsigned_abs r.day - 1))) (sym weekday)
    ∙ ap (λ n. first_on 6 (pos c.from_monday-then-day-gt0.result) (year_start y +ℤ pos n)) anchor ∙ c.first_from-then-day-gt0.ensures.value y kind in
    let some = is_no_zero r.code (λ none. let no : negsuc c.in-Beside.weekday ≡ pos 0 = sym same ∙ none in cc) in
    let below : int_lt (pos 0) r.code ≡ false = ap (int_lt (pos 0)) same in
    let above : int_lt (pos 0) r.day ≡ true = ap (int_lt (pos 0)) (sym same_day) ∙ c.if-day-gt0.true in
    let place = place_from_anchor r c.args.kind c.month_place-first.result (pos c.first_from-then-day-gt0.result) some below above first (omega (arith, c.requires.some_day, ap unsigned_abs day)) found in
    omega (arith, signed_casts, place, day_size, c.first_from-then-day-gt0.ensures.bound, c.month_place-first.ensures.bound, c.requires.last_day, ap unsigned_abs day)

pub returns-else-day-gt0 : goal.returns-else-day-gt0
returns-else-day-gt0 c = λ r month day code.
    let y = example_year c.args.kind in
    let kind = c.example_years.ensures c.args.kind c.requires.kind in
    let first = c.month_place-first.ensures.value y kind ∙ ap (days_of_months y) (sym month) in
    let same : r.code ≡ negsuc c.in-Beside.weekday = code ∙ ap day_code c.in-Beside.is in
    let same_day : to_z w32 (of_z w32 c.args.day) ≡ r.day = to_z-of_z c.ranges.day ∙ sym day in
    let day_size : c.unsigned_abs.result ≡ unsigned_abs r.day = c.unsigned_abs.ensures.value ∙ ap unsigned_abs same_day in
    let weekday : pos c.from_monday-else-day-gt0.result ≡ code_weekday r.code = c.from_monday-else-day-gt0.ensures.beside ∙ ap code_weekday (sym same) in
    let anchor : c.month_place-first.result + unsigned_abs r.day - 1 ≡ c.month_place-first.result + c.unsigned_abs.result - 1 = ap (λ n. c.month_place-first.result + n - 1) (sym day_size) in
    let found = ap (λ w. last_on 6 w (year_start y +ℤ pos (c.month_place-first.result + unsigned_abs r.day - 1))) (sym weekday)
    ∙ ap (λ n. last_on 6 (pos c.from_monday-else-day-gt0.result) (year_start y +ℤ pos n)) anchor ∙ c.last_to.ensures.value y kind in
    let some = is_no_zero r.code (λ none. let no : negsuc c.in-Beside.weekday ≡ pos 0 = sym same ∙ none in cc) in
    let below : int_lt (pos 0) r.code ≡ false = ap (int_lt (pos 0)) same in
    let not_above : int_lt (pos 0) r.day ≡ false = ap (int_lt (pos 0)) (sym same_day) ∙ c.if-day-gt0.false in
    let place = place_to_anchor r c.args.kind c.month_place-first.result c.last_to.result some below not_above first (omega (arith, c.requires.some_day, ap unsigned_abs day)) found in
    omega (arith, signed_casts, place, day_size, c.last_to.ensures.low, c.last_to.ensures.high, c.month_place-first.ensures.bound, c.requires.last_day, ap unsigned_abs day)
