-- Worked examples of told distances.
use Rattle.std.proofs.Common.{◌≡◌, inl, inr, Some, [], ◌∷◌, refl, codes, lit<, lit≤}
use Rattle.std.specs.Fmt.{digits}
use Rattle.tongues.specs.Text.{text}
use Rattle.tongues.specs.Speech.{Speech, spoken}
use Rattle.tongues.specs.Languages.{basque}
use Rattle.tongues.specs.GermanicLanguages.{english}
use Rattle.tongues.specs.AsianLanguages.{japanese}
use Rattle.tongues.specs.RomanceLanguages.{spanish}
use Rattle.timeago.specs.Settings.{default_settings}
use Rattle.timeago.specs.Counts.{allowed_unit, u64_max}
use Rattle.timeago.specs.Words.{IsWords}
use Rattle.timeago.specs.FiveChars.{five_chars}
use Rattle.tongues.specs.declared.unit.TimeUnit.TheVariants as u

-- 3,663 seconds, in two counts
hour_and_minute : IsWords english (record default_settings { items = 2 }) 3663000000000 (codes "1 hour 1 minute ago")
unfolding allowed_unit digits
hour_and_minute = (
  (u.Hours, 1) ∷ (u.Minutes, 1) ∷ [],
  (lit< tt, refl, lit≤ tt, lit≤ tt, lit≤ tt, inl (lit< tt), (lit< tt, refl, lit≤ tt, lit≤ tt, lit≤ tt, inl (lit< tt), inl refl)),
  refl,
)

-- the same in a language without spaces, as the UTF-8 of its characters
hour_and_minute_in_japanese : IsWords japanese (record default_settings { items = 2 }) 3663000000000 (text "1時間1分前")
unfolding allowed_unit digits
hour_and_minute_in_japanese = (
  (u.Hours, 1) ∷ (u.Minutes, 1) ∷ [],
  (lit< tt, refl, lit≤ tt, lit≤ tt, lit≤ tt, inl (lit< tt), (lit< tt, refl, lit≤ tt, lit≤ tt, lit≤ tt, inl (lit< tt), inl refl)),
  refl,
)

-- two days and an hour, in one count of several
two_days : IsWords english default_settings 176400000000000 (codes "2 days ago")
unfolding allowed_unit digits
two_days = ((u.Days, 2) ∷ [], (lit< tt, refl, lit≤ tt, lit≤ tt, lit≤ tt, inl (lit< tt), inl refl), refl)

-- thirty days in hours, the greatest unit that is told
thirty_days_in_hours : IsWords english (record default_settings { max_unit = u.Hours }) 2592000000000000 (codes "720 hours ago")
unfolding allowed_unit digits
thirty_days_in_hours = ((u.Hours, 720) ∷ [], (lit< tt, refl, lit≤ tt, lit≤ tt, lit≤ tt, inl (lit< tt), inl refl), refl)

-- 30 seconds, where nothing below a minute is told and the word for what is too low is `0`
no_minutes : IsWords english (record default_settings { min_unit = u.Minutes; low = Some (codes "0") }) 30000000000 (codes "0 minutes ago")
no_minutes = ([], inr (lit< tt), refl)

-- a unit before its count, and the word for the past before both
hour_in_basque : IsWords basque default_settings 3600000000000 (codes "orain dela ordu 1")
unfolding allowed_unit digits
hour_in_basque = ((u.Hours, 1) ∷ [], (lit< tt, refl, lit≤ tt, lit≤ tt, lit≤ tt, inl (lit< tt), inl refl), refl)

-- the unit stands before the count 1 alone, and the word for the past before all counts
hours_and_minute_in_basque : IsWords basque (record default_settings { items = 2 }) 7260000000000 (codes "orain dela 2 ordu minutu 1")
unfolding allowed_unit digits
hours_and_minute_in_basque = (
  (u.Hours, 2) ∷ (u.Minutes, 1) ∷ [],
  (lit< tt, refl, lit≤ tt, lit≤ tt, lit≤ tt, inl (lit< tt), (lit< tt, refl, lit≤ tt, lit≤ tt, lit≤ tt, inl (lit< tt), inl refl)),
  refl,
)

-- another language that puts the word for the past first, with a unit's word beyond ASCII
three_days_in_spanish : IsWords spanish default_settings 259200000000000 (text "hace 3 días")
unfolding allowed_unit digits
three_days_in_spanish = ((u.Days, 3) ∷ [], (lit< tt, refl, lit≤ tt, lit≤ tt, lit≤ tt, inl (lit< tt), inl refl), refl)

-- a language whose words and spaces are all empty
abbrev wordless : Speech
wordless = record (spoken "" "" "" (λ _ _. [])) {
  near_past = [];
  between_chunks = [];
  between_value_and_word = [];
}

-- it tells an hour and a minute by the digits of both counts alone
hour_and_minute_wordless : IsWords wordless (record default_settings { items = 2 }) 3660000000000 (codes "11")
unfolding allowed_unit digits
hour_and_minute_wordless = (
  (u.Hours, 1) ∷ (u.Minutes, 1) ∷ [],
  (lit< tt, refl, lit≤ tt, lit≤ tt, lit≤ tt, inl (lit< tt), (lit< tt, refl, lit≤ tt, lit≤ tt, lit≤ tt, inl (lit< tt), inl refl)),
  refl,
)

-- the greatest distance has more nanoseconds than a count can tell
greatest : IsWords english (record default_settings { items = 2; min_unit = u.Nanoseconds; max_unit = u.Nanoseconds }) 18446744073709551615999999999
    (codes "18446744073709551615 nanoseconds 18446744073709551615 nanoseconds ago")
unfolding allowed_unit digits
greatest = (
  (u.Nanoseconds, u64_max) ∷ (u.Nanoseconds, u64_max) ∷ [],
  (lit< tt, refl, lit≤ tt, lit≤ tt, lit≤ tt, inr refl, (lit< tt, refl, lit≤ tt, lit≤ tt, lit≤ tt, inr refl, inl refl)),
  refl,
)

-- past the greatest distance that is told
too_high : IsWords english (record default_settings { max_duration = 86400000000000 }) 86400000000001 (codes "old")
too_high = refl

seven_minutes : five_chars 420 ≡ codes "07min"
seven_minutes = refl

last_year : five_chars 3122067564 ≡ codes "99Yea"
last_year = refl
