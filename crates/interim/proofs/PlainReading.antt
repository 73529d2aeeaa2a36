-- Phrases of the plain form are read as they are named.
use Rattle.std.specs.Str.{bytes_eq}
use Rattle.std.proofs.lemmas.Bool.{false_from_ne_true}
use Rattle.std.proofs.lemmas.Slice.Eq.{bytes_eq-Decides}
use Rattle.std.proofs.Common.{take, ◌≡◌, ℕ, List, [], ◌∷◌, ◌++◌, Option, Some, None, Ok, option_map, Bool, true, false, refl, ap, codes, ℤ}
use Rattle.interim.specs.declared.errors.Span.{Span}
use Rattle.interim.specs.declared.types.AbsDate.{AbsDate}
use Rattle.interim.specs.declared.types.DateSpec.TheVariants.{Absolute}
use Rattle.interim.specs.declared.types.Direction.{Direction}
use Rattle.interim.specs.declared.words.Half.{Half}
use Rattle.interim.specs.declared.types.Dialect.{Dialect}
use Rattle.interim.specs.declared.types.Dialect.TheVariants.{Uk, Us}
use Rattle.interim.specs.declared.types.TimeSpec.{TimeSpec}
use Rattle.interim.specs.TokenKinds.{Token, Kind, Number, Colon}
use Rattle.interim.specs.CalendarNames.{counted, month_from}
use Rattle.interim.specs.WordMeanings.{half_from}
use Rattle.interim.specs.Words.{is_capital_t, month_of, half_of, is_z, day_of_word, direction_of}
use Rattle.interim.specs.Parts.{date_of, clock, shifted}
use Rattle.interim.specs.PlainDates.{kinds, PlainDate, Dashed, Slashed, DayFirst, MonthFirst, spelled_date, date_named}
use Rattle.interim.specs.PlainTimes.{PlainTime, Minutes, Seconds, Dotted, Lone, spelled_time, spelled_half, hour_named, time_named}
use Rattle.interim.specs.PlainForm.{spelled_t, PlainPhrase, spelled}
use Rattle.interim.specs.Grammar.{parts_of, both_parts}
use Rattle.interim.specs.ReadingSteps.{number, dash, follows, following_number}
use Rattle.interim.specs.NextTokens.{next_token, after_token}
use Rattle.interim.specs.Steps.{Outcome}
use Rattle.interim.specs.DateForms.{dated}
use Rattle.interim.specs.DatePart.{date_part, first, head}
use Rattle.interim.specs.NumberHeads.{number_head, number_then_word}
use Rattle.interim.specs.NumberedDates.{dashed, slashed}
use Rattle.interim.specs.CountedDates.{day_month}
use Rattle.interim.specs.WordHeads.{word_head, month_head}
use Rattle.interim.specs.TimeEnds.{closing, fraction}
use Rattle.interim.specs.ClockTimes.{after_minute, formal, informal, informal_close}
use Rattle.interim.specs.OpenHours.{after_hour}
use Rattle.interim.specs.TimePart.{whole_time, time_part, hour_or_end}

-- ---- tokens of given kinds

abbrev pub span_of : List Token → Span
span_of [] = record { start = 0; end = 0 }
span_of (t ∷ ts) = t.span

abbrev pub rest_of : List Token → List Token
rest_of [] = []
rest_of (t ∷ ts) = ts

-- tokens of these kinds, with the places of those
abbrev pub placed : List Kind → List Token → List Token
placed [] ts = []
placed (k ∷ ks) ts = record { kind = k; span = span_of ts } ∷ placed ks (rest_of ts)

placed_same : (ts : List Token) → placed (kinds ts) ts ≡ ts
placed_same [] = refl
placed_same (t ∷ ts) = ap (λ others. t ∷ others) (placed_same ts)

-- tokens are given by their kinds and places
pub placed_kinds : (ts : List Token) (ks : List Kind) → kinds ts ≡ ks → placed ks ts ≡ ts
placed_kinds ts ks e = rw (← e) (placed_same ts)

-- ---- the date

-- the tokens behind a date
abbrev pub behind : PlainDate → List Token → List Token
behind (Dashed y m d) ts = rest_of (rest_of (rest_of (rest_of (rest_of ts))))
behind (Slashed a b y) ts = rest_of (rest_of (rest_of (rest_of (rest_of ts))))
behind (DayFirst d name y) ts = rest_of (rest_of (rest_of ts))
behind (MonthFirst name d y) ts = rest_of (rest_of (rest_of (rest_of ts)))

dashed_read : (dialect : Dialect) (y m d : ℕ) (ks : List Kind) (ts : List Token) (date : AbsDate) → date_named dialect (Dashed y m d) ≡ Some date →
    date_part dialect (placed (spelled_date (Dashed y m d) ++ ks) ts) ≡ Ok (dated (Absolute date), placed ks (behind (Dashed y m d) ts))
unfolding date_part first head number_head dashed number dash
dashed_read dialect y m d ks ts date e = cc

slashed_read : (a b y : ℕ) (ks : List Kind) (ts : List Token) (dialect : Dialect) (date : AbsDate) → date_named dialect (Slashed a b y) ≡ Some date →
    date_part dialect (placed (spelled_date (Slashed a b y) ++ ks) ts) ≡ Ok (dated (Absolute date), placed ks (behind (Slashed a b y) ts))
unfolding date_part first head number_head slashed number follows
slashed_read a b y ks ts Uk date e = cc
slashed_read a b y ks ts Us date e = cc

-- a word of which a rule says something is not a word of which it says nothing
pub apart : {A : Type 0} (rule : List ℕ → Option A) (word text : List ℕ) (a : A) → (let none : Option A = None in rule text ≡ none) → rule word ≡ Some a → bytes_eq word text ≡ false
apart rule word text a nothing something =
    false_from_ne_true (bytes_eq word text) (λ same. let e : word ≡ text = (bytes_eq-Decides word text).0 same in cc)

-- a word that names a month names no day and no direction
month_is_no_day : (word : List ℕ) (m : ℕ) → month_of word ≡ Some m → let none : Option ℤ = None in day_of_word word ≡ none
unfolding month_of day_of_word
month_is_no_day word m e =
    let rule : List ℕ → Option ℕ = λ w. month_from (take 3 w) in
    rw (apart rule (counted word) (codes "now") m refl e, apart rule (counted word) (codes "today") m refl e, apart rule (counted word) (codes "yesterday") m refl e, apart rule (counted word) (codes "tomorrow") m refl e) refl

month_is_no_direction : (word : List ℕ) (m : ℕ) → month_of word ≡ Some m → let none : Option Direction = None in direction_of word ≡ none
unfolding month_of direction_of
month_is_no_direction word m e =
    let rule : List ℕ → Option ℕ = λ w. month_from (take 3 w) in
    rw (apart rule (counted word) (codes "next") m refl e, apart rule (counted word) (codes "last") m refl e, apart rule (counted word) (codes "this") m refl e) refl

-- a month, where a date with it is named
month_there : (o : Option ℕ) (y d : ℕ) (date : AbsDate) → option_map (λ month. date_of y month d) o ≡ Some date → (m : ℕ) × (o ≡ Some m) × (date_of y m d ≡ date)
month_there None y d date e = absurd (cc)
month_there (Some m) y d date e = (m, refl, cc)

day_first_read : (dialect : Dialect) (d y m : ℕ) (name : List ℕ) (ks : List Kind) (ts : List Token) → month_of name ≡ Some m →
    date_part dialect (placed (spelled_date (DayFirst d name y) ++ ks) ts) ≡ Ok (dated (Absolute (date_of y m d)), placed ks (behind (DayFirst d name y) ts))
unfolding date_part first head number_head number_then_word day_month following_number
day_first_read dialect d y m name ks ts e = rw e refl

month_first_read : (dialect : Dialect) (d y m : ℕ) (name : List ℕ) (ks : List Kind) (ts : List Token) → month_of name ≡ Some m →
    date_part dialect (placed (spelled_date (MonthFirst name d y) ++ ks) ts) ≡ Ok (dated (Absolute (date_of y m d)), placed ks (behind (MonthFirst name d y) ts))
unfolding date_part first head word_head month_head following_number follows number
month_first_read dialect d y m name ks ts e = rw (month_is_no_day name m e, month_is_no_direction name m e, e) refl

pub date_read : (dialect : Dialect) (d : PlainDate) (ks : List Kind) (ts : List Token) (date : AbsDate) → date_named dialect d ≡ Some date →
    date_part dialect (placed (spelled_date d ++ ks) ts) ≡ Ok (dated (Absolute date), placed ks (behind d ts))
date_read dialect (Dashed y m d) ks ts date e = dashed_read dialect y m d ks ts date e
date_read dialect (Slashed a b y) ks ts date e = slashed_read a b y ks ts dialect date e
date_read dialect (DayFirst d name y) ks ts date e =
    let there = month_there (month_of name) y d date e in
    rw (← there.2) (day_first_read dialect d y there.0 name ks ts there.1)
date_read dialect (MonthFirst name d y) ks ts date e =
    let there = month_there (month_of name) y d date e in
    rw (← there.2) (month_first_read dialect d y there.0 name ks ts there.1)

-- ---- the time

-- am and pm are not z
half_is_not_z : (word : List ℕ) (half : Half) → half_of word ≡ Some half → is_z word ≡ false
unfolding half_of is_z
half_is_not_z word half e = apart half_from (counted word) (codes "z") half refl e

-- no word, or one that is am or pm
half_there : (o : Option Half) (hour h : ℕ) → option_map (λ half. shifted half hour) o ≡ Some h → (half : Half) × (o ≡ Some half) × (shifted half hour ≡ h)
half_there None hour h e = absurd (cc)
half_there (Some half) hour h e = (half, refl, cc)

hour_there : {A : Type 0} (o : Option ℕ) (f : ℕ → A) (a : A) → option_map f o ≡ Some a → (h : ℕ) × (o ≡ Some h) × (f h ≡ a)
hour_there None f a e = absurd (cc)
hour_there (Some h) f a e = (h, refl, cc)

-- a formal time, closed by nothing or by am or pm
closed : (hour minute second : ℕ) (half : Option (List ℕ)) (ts : List Token) (h : ℕ) → hour_named hour half ≡ Some h →
    closing (clock hour minute second 0) (next_token (placed (spelled_half half) ts)) (after_token (placed (spelled_half half) ts)) ≡ Ok (clock h minute second 0, [])
unfolding closing
closed hour minute second None ts h e = cc
closed hour minute second (Some name) ts h e =
    let there = half_there (half_of name) hour h e in
    rw (half_is_not_z name there.0 there.1, there.1, there.2) refl

closed_minute : (hour minute : ℕ) (half : Option (List ℕ)) (ts : List Token) (h : ℕ) → hour_named hour half ≡ Some h →
    after_minute hour minute (next_token (placed (spelled_half half) ts)) (after_token (placed (spelled_half half) ts)) ≡ Ok (clock h minute 0 0, [])
unfolding after_minute
closed_minute hour minute None ts h e = closed hour minute 0 None ts h e
closed_minute hour minute (Some name) ts h e = closed hour minute 0 (Some name) ts h e

closed_informal : (hour minute : ℕ) (half : Option (List ℕ)) (ts : List Token) (h : ℕ) → hour_named hour half ≡ Some h →
    informal_close (clock hour minute 0 0) (next_token (placed (spelled_half half) ts)) (after_token (placed (spelled_half half) ts)) ≡ Ok (clock h minute 0 0, [])
unfolding informal_close
closed_informal hour minute None ts h e = cc
closed_informal hour minute (Some name) ts h e =
    let there = half_there (half_of name) hour h e in
    rw (there.1, there.2) refl

closed_second : (hour minute second : ℕ) (half : Option (List ℕ)) (place : Span) (ts : List Token) (h : ℕ) → hour_named hour half ≡ Some h →
    after_minute hour minute (Some (record { kind = Colon; span = place })) (placed (Number second ∷ spelled_half half) ts) ≡ Ok (clock h minute second 0, [])
unfolding after_minute number fraction follows
closed_second hour minute second None place ts h e = closed hour minute second None (rest_of ts) h e
closed_second hour minute second (Some name) place ts h e = closed hour minute second (Some name) (rest_of ts) h e

-- what a time part reads from its hour on
abbrev pub from_hour : List Token → Outcome (Option TimeSpec)
from_hour ts = hour_or_end (next_token ts) (after_token ts)

time_read : (time : PlainTime) (half : Option (List ℕ)) (ts : List Token) (t : TimeSpec) → time_named time half ≡ Some t →
    from_hour (placed (spelled_time time ++ spelled_half half) ts) ≡ Ok (Some t, [])
unfolding after_hour formal informal number
time_read (Minutes hour minute) half ts t e =
    let there = hour_there (hour_named hour half) (λ h. clock h minute 0 0) t e in
    rw (closed_minute hour minute half (rest_of (rest_of (rest_of ts))) there.0 there.1, there.2) refl
time_read (Seconds hour minute second) half ts t e =
    let there = hour_there (hour_named hour half) (λ h. clock h minute second 0) t e in
    rw (closed_second hour minute second half (span_of (rest_of (rest_of (rest_of ts)))) (rest_of (rest_of (rest_of (rest_of ts)))) there.0 there.1, there.2) refl
time_read (Dotted hour minute) half ts t e =
    let there = hour_there (hour_named hour half) (λ h. clock h minute 0 0) t e in
    rw (closed_informal hour minute half (rest_of (rest_of (rest_of ts))) there.0 there.1, there.2) refl
time_read (Lone hour) None ts t e = absurd (cc)
time_read (Lone hour) (Some name) ts t e =
    let there = hour_there (hour_named hour (Some name)) (λ h. clock h 0 0 0) t e in
    let half = half_there (half_of name) hour there.0 there.1 in
    rw (half.1, half.2, there.2) refl

pub whole_read : (has_t : Bool) (time : PlainTime) (half : Option (List ℕ)) (ts : List Token) (t : TimeSpec) → time_named time half ≡ Some t →
    whole_time (placed (spelled_t has_t ++ (spelled_time time ++ spelled_half half)) ts) ≡ Ok (Some t, [])
unfolding whole_time follows is_capital_t
whole_read true time half ts t e = time_read time half (rest_of ts) t e
whole_read false (Minutes hour minute) half ts t e = time_read (Minutes hour minute) half ts t e
whole_read false (Seconds hour minute second) half ts t e = time_read (Seconds hour minute second) half ts t e
whole_read false (Dotted hour minute) half ts t e = time_read (Dotted hour minute) half ts t e
whole_read false (Lone hour) half ts t e = time_read (Lone hour) half ts t e

-- ---- the phrase

pub form_read : (dialect : Dialect) (form : PlainPhrase) (ts : List Token) (date : AbsDate) (time : TimeSpec) → kinds ts ≡ spelled form → date_named dialect form.date ≡ Some date → time_named form.time form.half ≡ Some time →
    parts_of dialect ts ≡ Ok (record { date = Some (Absolute date); time = Some time })
unfolding parts_of both_parts time_part
form_read dialect form ts date time spelling date_is time_is =
    rw (← placed_kinds ts (spelled form) spelling)
    (rw (
      date_read dialect form.date (spelled_t form.has_t ++ (spelled_time form.time ++ spelled_half form.half)) ts date date_is,
      whole_read form.has_t form.time form.half (behind form.date ts) time time_is,
    ) refl)

-- a plain time has no offset and no fraction
pub time_plain : (time : PlainTime) (half : Option (List ℕ)) (t : TimeSpec) → time_named time half ≡ Some t → (t.offset ≡ None) × (t.microsec ≡ 0)
time_plain (Minutes hour minute) half t e =
    let there = hour_there (hour_named hour half) (λ h. clock h minute 0 0) t e in rw (← there.2) (refl, refl)
time_plain (Seconds hour minute second) half t e =
    let there = hour_there (hour_named hour half) (λ h. clock h minute second 0) t e in rw (← there.2) (refl, refl)
time_plain (Dotted hour minute) half t e =
    let there = hour_there (hour_named hour half) (λ h. clock h minute 0 0) t e in rw (← there.2) (refl, refl)
time_plain (Lone hour) None t e = absurd (cc)
time_plain (Lone hour) (Some name) t e =
    let there = hour_there (hour_named hour (Some name)) (λ h. clock h 0 0 0) t e in rw (← there.2) (refl, refl)
