-- What the reader of a bundle says of lists, and of the seconds of a zone.
use Rattle.std.specs.Prelude.{ℕ, List, [], ◌∷◌, ◌++◌, length, map, Option, Some, None, ℤ, pos, ◌+ℤ◌, ◌*ℤ◌, ◌<◌, All, ◌≡◌}
use Rattle.timeline.specs.Table.{PlainSeconds}
use Rattle.zoneinfo64.specs.RuleDates.{as_i32}

-- what was read before, and what is still read
abbrev pub with_front : {A : Type 0} → List A → Option (List A) → Option (List A)
with_front front None = None
with_front front (Some xs) = Some (front ++ xs)

-- what was read before, and what is read next
abbrev pub with_next : {A : Type 0} → List A → Option A → Option (List A)
with_next front None = None
with_next front (Some x) = Some (front ++ x ∷ [])

-- a second in two words, the high one first
abbrev pub wide_second : ℕ → ℕ → ℤ
wide_second a b = as_i32 a *ℤ pos 4294967296 +ℤ pos b

-- the seconds of an even number of words
abbrev pub wide : List ℕ → List ℤ
wide [] = []
wide (a ∷ []) = []
wide (a ∷ b ∷ words) = wide_second a b ∷ wide words

-- the seconds of the three parts, in their order
abbrev pub seconds_of : List ℕ → List ℕ → List ℕ → List ℤ
seconds_of early middle late = wide early ++ map as_i32 middle ++ wide late

-- the same with the lengths of the first and the third part
abbrev pub plain_seconds : List ℕ → List ℕ → List ℕ → PlainSeconds
plain_seconds early middle late = record { list = seconds_of early middle late; early = length (wide early); late = length (wide late) }

-- each second has a number, which is that of a pair
abbrev pub AreKnown : List (ℤ × ℤ) → List ℤ → List ℕ → Type 0
AreKnown pairs seconds numbers = (length numbers ≡ length seconds) × All (λ n. n < length pairs) numbers
