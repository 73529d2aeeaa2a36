-- The text of counts, piece by piece.
use Rattle.std.proofs.Common.{◌≡◌, ◌↔◌, IsTrue, inl, inr, ℕ, suc, ◌+◌, ◌-◌, ◌*◌, ◌<◌, ◌≤◌, Bool, true, false, nat_lt, List, [], ◌∷◌, ◌++◌, refl, sym, ◌∙◌, append_assoc, arith, unwrap_or, if◌then◌else◌}
use Rattle.std.proofs.lemmas.List.{append-nil}
use Rattle.std.proofs.lemmas.Bool.{le-ltb, lt-ltb}
use Rattle.std.proofs.lemmas.Bool.Decides.{nat_tests}
use Rattle.tongues.specs.Units.{unit_size}
use Rattle.tongues.specs.Speech.{Speech}
use Rattle.timeago.specs.Settings.{Settings}
use Rattle.timeago.specs.Counts.{Counts, allowed_unit}
use Rattle.timeago.specs.Words.{IsWords, told_text, with_past, joined, chunk}
use Rattle.timeago.specs.Inside.Steps.{counted, next_told, count_in, chunks, before_chunk, past_before, past_behind, tells_nothing}
use Rattle.timeago.proofs.CountLists.{counted_is, counts_once}
use Rattle.tongues.specs.declared.unit.TimeUnit.{TimeUnit}

-- the word for the past stands before a text or behind it
pub with_past_is : (s : Speech) (word body : List ℕ) → with_past s word body ≡ past_before s word ++ body ++ past_behind s word
with_past_is s [] body = sym (append-nil body)
with_past_is s (b ∷ word) body = by_place s.past_first
  where
    by_place : (first : Bool) → (if first then (b ∷ word) ++ s.near_past ++ body else body ++ s.near_past ++ b ∷ word)
        ≡ (if first then (b ∷ word) ++ s.near_past else []) ++ body ++ (if first then [] else s.near_past ++ b ∷ word)
    by_place true = sym (append-nil ((b ∷ word) ++ s.near_past ++ body))
    by_place false = append_assoc body s.near_past (b ∷ word)

-- a language that puts it last puts nothing before
pub no_past_before : (s : Speech) (word old : List ℕ) → s.past_first ≡ false → old ≡ old ++ past_before s word
no_past_before s [] old e = sym (append-nil old)
no_past_before s (b ∷ word) old e = rw (e, append-nil old) refl

-- chunks after the first one
before_later : (s : Speech) (turn : ℕ) → before_chunk s (turn + 1) ≡ s.between_chunks
before_later s turn = grind (arith, nat_tests)

later_chunks : (s : Speech) (turn : ℕ) (told : TimeUnit × ℕ) (others : List (TimeUnit × ℕ))
    → chunks s (turn + 1) (told ∷ others) ≡ s.between_chunks ++ joined s (told ∷ others)
later_chunks s turn told [] = rw (append-nil (before_chunk s (turn + 1) ++ chunk s told), before_later s turn) refl
later_chunks s turn told (next ∷ others) = rw (later_chunks s (turn + 1) next others, before_later s turn) (simp append_assoc)

pub chunks_joined : (s : Speech) (list : List (TimeUnit × ℕ)) → chunks s 0 list ≡ joined s list
chunks_joined s [] = refl
chunks_joined s (told ∷ []) = append-nil (chunk s told)
chunks_joined s (told ∷ next ∷ others) = rw (later_chunks s 0 next others) (simp append_assoc)

-- what a text is made of, where something is told
told_pieces : (s : Speech) (f : Settings) (rest : ℕ) (list : List (TimeUnit × ℕ)) → tells_nothing f rest ≡ false → Counts f f.items rest list
    → told_text s f list ≡ past_before s (unwrap_or f.past s.past) ++ chunks s 0 list ++ past_behind s (unwrap_or f.past s.past)
told_pieces s f rest [] e (inl none) = absurd (grind (arith, nat_tests))
told_pieces s f rest [] e (inr low) = absurd (grind (arith, nat_tests))
told_pieces s f rest (told ∷ others) e p = rw (chunks_joined s (told ∷ others)) (with_past_is s (unwrap_or f.past s.past) (joined s (told ∷ others)))

pub told_all : (s : Speech) (f : Settings) (rest : ℕ) → tells_nothing f rest ≡ false
    → told_text s f (counted f f.items rest) ≡ past_before s (unwrap_or f.past s.past) ++ chunks s 0 (counted f f.items rest) ++ past_behind s (unwrap_or f.past s.past)
told_all s f rest e = told_pieces s f rest (counted f f.items rest) e (counted_is f f.items rest)

-- and where nothing is
none_counts : (f : Settings) (rest : ℕ) → tells_nothing f rest ≡ true → Counts f f.items rest []
none_counts f rest e = grind (arith, nat_tests)

pub told_none : (f : Settings) (rest : ℕ) → tells_nothing f rest ≡ true → counted f f.items rest ≡ []
told_none f rest e = counts_once f f.items rest (counted f f.items rest) [] (counted_is f f.items rest) (none_counts f rest e)

-- a distance that is not too high has the text of its counts
pub words_if : (s : Speech) (f : Settings) (d : ℕ) → nat_lt f.max_duration d ≡ false → IsWords s f d (told_text s f (counted f f.items d))
words_if s f d e = rw e (counted f f.items d, counted_is f f.items d, refl)

pub high_if : (s : Speech) (f : Settings) (d : ℕ) → nat_lt f.max_duration d ≡ true → IsWords s f d (unwrap_or f.high s.high)
high_if s f d e = rw e refl

-- ---- the loop over the counts

pub goes_on : (s : Speech) (f : Settings) (bytes : List ℕ) (turn end rest : ℕ) (unit : TimeUnit) (count left : ℕ) (total : List ℕ)
    → turn < end → unit_size f.min_unit ≤ rest → unit ≡ allowed_unit f rest → count ≡ count_in unit rest → left ≡ rest - count * unit_size unit
    → bytes ++ chunks s turn (counted f (end - turn) rest) ≡ total
    → ((bytes ++ before_chunk s turn) ++ chunk s (unit, count)) ++ chunks s (turn + 1) (counted f (end - (turn + 1)) left) ≡ total
unfolding counted
goes_on s f bytes turn end rest unit count left total lt fits is_unit is_count is_left so_far =
    let k : end - turn ≡ suc (end - (turn + 1)) = omega arith in
    let some : nat_lt rest (unit_size f.min_unit) ≡ false = le-ltb rest (unit_size f.min_unit) fits in
    let told : TimeUnit × ℕ = next_told f rest in
    let more : List ℕ = chunks s (turn + 1) (counted f (end - (turn + 1)) (rest - told.1 * unit_size told.0)) in
    let once : bytes ++ chunks s turn (counted f (end - turn) rest) ≡ bytes ++ (before_chunk s turn ++ chunk s told ++ more) = rw (k, some) refl in
    let regroup : ((bytes ++ before_chunk s turn) ++ chunk s told) ++ more ≡ bytes ++ (before_chunk s turn ++ chunk s told ++ more) = simp append_assoc in
    rw (is_left, is_count, is_unit) (regroup ∙ sym once ∙ so_far)

pub is_told : (s : Speech) (f : Settings) (bytes : List ℕ) (turn end rest : ℕ) (total : List ℕ) → end ≤ turn
    → bytes ++ chunks s turn (counted f (end - turn) rest) ≡ total → bytes ≡ total
unfolding counted
is_told s f bytes turn end rest total le so_far =
    let k : end - turn ≡ 0 = omega arith in
    let once : bytes ++ chunks s turn (counted f (end - turn) rest) ≡ bytes = rw k (append-nil bytes) in
    sym once ∙ so_far

pub stops : (s : Speech) (f : Settings) (bytes : List ℕ) (turn end rest : ℕ) (total : List ℕ) → turn < end → rest < unit_size f.min_unit
    → bytes ++ chunks s turn (counted f (end - turn) rest) ≡ total → bytes ≡ total
unfolding counted
stops s f bytes turn end rest total lt low so_far =
    let k : end - turn ≡ suc (end - (turn + 1)) = omega arith in
    let none : nat_lt rest (unit_size f.min_unit) ≡ true = lt-ltb rest (unit_size f.min_unit) low in
    let once : bytes ++ chunks s turn (counted f (end - turn) rest) ≡ bytes = rw (k, none) (append-nil bytes) in
    sym once ∙ so_far

-- what the test for a rest below the least unit tells
pub is_below : (n m : ℕ) (b : Bool) → IsTrue b ↔ (n < m) → b ≡ true → n < m
is_below n m b h e = h.0 e

pub not_below : (n m : ℕ) (b : Bool) → IsTrue b ↔ (n < m) → b ≡ false → m ≤ n
not_below n m b h e = grind arith

-- a text with three pieces at its end
pub in_pieces : (old a b c one two three : List ℕ) → one ≡ old ++ a → two ≡ one ++ b → three ≡ two ++ c → three ≡ old ++ (a ++ b ++ c)
in_pieces old a b c one two three e f g = rw (g, f, e) (simp append_assoc)
