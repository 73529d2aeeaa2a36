-- What a new formatter tells.
use Rattle.std.proofs.Common.{◌≡◌, ◌⊎◌, inl, inr, ℕ, ◌+◌, ◌*◌, ◌<◌, ◌≤◌, Bool, true, false, nat_lt, nat_le, List, [], ◌∷◌, ◌++◌, refl, ap, ◌∙◌, arith, if◌then◌else◌, unwrap_or, codes, decimal, append_assoc}
use Rattle.std.proofs.Math.Nat.{lt_of_mul-lt-mul_right}
use Rattle.std.proofs.lemmas.Bool.{le-ltb}
use Rattle.std.proofs.lemmas.Bool.Decides.{nat_tests}
use Rattle.tongues.specs.Units.{unit_size}
use Rattle.tongues.specs.Speech.{Speech}
use Rattle.tongues.specs.GermanicLanguages.{english}
use Rattle.timeago.specs.Settings.{Settings, default_settings, ahead_settings}
use Rattle.timeago.specs.Counts.{Counts, allowed_unit, biggest, lower, higher, u64_max}
use Rattle.timeago.specs.Words.{IsWords, told_text}
use Rattle.timeago.specs.Laws.{OneCountList, OneText, DefaultTexts, IsOneCount, counted_text}
use Rattle.timeago.specs.Inside.Steps.{counted}
use Rattle.timeago.proofs.CountLists.{counted_is, counts_once, words_once, least_told}
use Rattle.timeago.proofs.Texts.{words_if, high_if}
use Rattle.tongues.specs.declared.unit.TimeUnit.{TimeUnit}
use Rattle.tongues.specs.declared.unit.TimeUnit.TheVariants as u

-- ---- a list and a text

pub one_count_list : OneCountList
one_count_list f items distance =
    (counted f items distance, counted_is f items distance, λ other p. counts_once f items distance other (counted f items distance) p (counted_is f items distance))

some_text : (high : Bool) (s : Speech) (f : Settings) (distance : ℕ) → nat_lt f.max_duration distance ≡ high → (text : List ℕ) × IsWords s f distance text
some_text true s f distance e = (unwrap_or f.high s.high, high_if s f distance e)
some_text false s f distance e = (told_text s f (counted f f.items distance), words_if s f distance e)

pub one_text : OneText
one_text s f distance =
    let (text, words) = some_text (nat_lt f.max_duration distance) s f distance refl in
    (text, words, λ other p. words_once s f distance other text p words)

-- ---- no count of a new formatter has five digits

-- one step of the choice of the biggest unit
below_if : (unit other : TimeUnit) (d limit : ℕ) → d < limit → limit ≤ 10000 * unit_size unit → (d < unit_size unit → d < 10000 * unit_size other)
    → d < 10000 * unit_size (if nat_le (unit_size unit) d then unit else other)
below_if unit other d limit h fits more = grind (arith, nat_tests)

below_biggest : (d : ℕ) → d < 10000 * unit_size u.Years → d < 10000 * unit_size (biggest d)
below_biggest d h =
    below_if u.Years _ d (10000 * unit_size u.Years) h (omega arith) (λ (h : d < unit_size u.Years).
    below_if u.Months _ d (unit_size u.Years) h (omega arith) (λ (h : d < unit_size u.Months).
    below_if u.Weeks _ d (unit_size u.Months) h (omega arith) (λ (h : d < unit_size u.Weeks).
    below_if u.Days _ d (unit_size u.Weeks) h (omega arith) (λ (h : d < unit_size u.Days).
    below_if u.Hours _ d (unit_size u.Days) h (omega arith) (λ (h : d < unit_size u.Hours).
    below_if u.Minutes _ d (unit_size u.Hours) h (omega arith) (λ (h : d < unit_size u.Minutes).
    below_if u.Seconds _ d (unit_size u.Minutes) h (omega arith) (λ (h : d < unit_size u.Seconds).
    below_if u.Milliseconds _ d (unit_size u.Seconds) h (omega arith) (λ (h : d < unit_size u.Milliseconds).
    below_if u.Microseconds u.Nanoseconds d (unit_size u.Milliseconds) h (omega arith) (λ (h : d < unit_size u.Microseconds). omega arith)))))))))

below_lower : (a b : TimeUnit) (d : ℕ) → d < 10000 * unit_size a → d < 10000 * unit_size b → d < 10000 * unit_size (lower a b)
below_lower a b d h k = grind (arith, nat_tests)

below_higher : (a b : TimeUnit) (d : ℕ) → d < 10000 * unit_size b → d < 10000 * unit_size (higher a b)
below_higher a b d h = grind (arith, nat_tests)

below_allowed : (d : ℕ) → d < 10000 * unit_size u.Years → d < 10000 * unit_size (allowed_unit default_settings d)
unfolding allowed_unit
below_allowed d h = below_higher u.Seconds (lower (biggest d) u.Years) d (below_lower (biggest d) u.Years d (below_biggest d h) h)

four_digits : (size d count : ℕ) → d < 10000 * size → count * size ≤ d → count < 10000
four_digits size d count h within =
    let less : count * size < 10000 * size = omega arith in
    lt_of_mul-lt-mul_right size less

next_small : (d size count : ℕ) → (d < (count + 1) * size) ⊎ (count ≡ u64_max) → count < 10000 → d < (count + 1) * size
next_small d size count (inl h) k = h
next_small d size count (inr e) k = absurd (omega arith)

-- ---- its text

is_one : (f : Settings) (d : ℕ) (told : TimeUnit × ℕ) → allowed_unit f d ≡ allowed_unit default_settings d → d < 10000 * unit_size u.Years
    → told.0 ≡ allowed_unit f d → 1 ≤ told.1 → told.1 * unit_size told.0 ≤ d → (d < (told.1 + 1) * unit_size told.0) ⊎ (told.1 ≡ u64_max) → IsOneCount d told.0 told.1
is_one f d told same high unit one within next =
    let allowed : told.0 ≡ allowed_unit default_settings d = unit ∙ same in
    let below : d < 10000 * unit_size told.0 = rw allowed (below_allowed d high) in
    let small : told.1 < 10000 = four_digits (unit_size told.0) d told.1 below within in
    record {
      allowed = allowed;
      from_seconds = rw allowed (least_told default_settings d);
      some = one;
      four_digits = small;
      within = within;
      next = next_small d (unit_size told.0) told.1 next small;
    }

-- where one count is told, from seconds on, the list is that count
counts_one : (f : Settings) (items d : ℕ) (list : List (TimeUnit × ℕ)) → items ≡ 1 → f.min_unit ≡ u.Seconds → allowed_unit f d ≡ allowed_unit default_settings d
    → unit_size u.Seconds ≤ d → d < 10000 * unit_size u.Years → Counts f items d list
    → (unit : TimeUnit) × (count : ℕ) × IsOneCount d unit count × (list ≡ (unit, count) ∷ [])
counts_one f items d [] single least same low high (inl none) = absurd (omega arith)
counts_one f items d [] single least same low high (inr below) =
    let under : d < unit_size u.Seconds = rw least at below in
    absurd (omega arith)
counts_one f items d (told ∷ []) single least same low high (some, unit, one, small, within, next, more) =
    (told.0, told.1, is_one f d told same high unit one within next, refl)
counts_one f items d (told ∷ other ∷ others) single least same low high (some, unit, one, small, within, next, (some', unit', one', small', within', next', more')) =
    absurd (omega arith)

one_text_of : (ahead : Bool) (f : Settings) (d : ℕ) (text : List ℕ)
    → ((unit : TimeUnit) (count : ℕ) → told_text english f ((unit, count) ∷ []) ≡ counted_text ahead unit count)
    → f.items ≡ 1 → f.min_unit ≡ u.Seconds → allowed_unit f d ≡ allowed_unit default_settings d → d ≤ f.max_duration
    → unit_size u.Seconds ≤ d → d < 10000 * unit_size u.Years → IsWords english f d text
    → (unit : TimeUnit) × (count : ℕ) × IsOneCount d unit count × (text ≡ counted_text ahead unit count)
one_text_of ahead f d text texts single least same most low high p =
    let (list, counts, e) = rw (le-ltb f.max_duration d most) at p in
    let (unit, count, is, alone) = counts_one f f.items d list single least same low high counts in
    (unit, count, is, e ∙ ap (told_text english f) alone ∙ texts unit count)

pub default_texts : DefaultTexts
unfolding allowed_unit
default_texts true d text low high p = one_text_of true ahead_settings d text (λ unit count. refl) refl refl refl (omega arith) low high p
default_texts false d text low high p =
    one_text_of false default_settings d text (λ unit count. append_assoc (decimal count ++ codes " " ++ english.word unit count) (codes " ") (codes "ago")) refl refl refl (omega arith) low high p
