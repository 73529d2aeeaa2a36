-- Words of 32 bits, and the bytes and 16-bit units in them, low ones first (docs/FORMATS.md, "Items", "The 16-bit area").
use Rattle.std.specs.Prelude.{ℕ, zero, suc, ◌+◌, ◌/◌, ◌%◌, List, [], ◌∷◌, slice_index, if◌then◌else◌, ◌==◌, nat_lt, ℤ, pos, ◌-ℤ◌}

-- how many values an item can have: an item is a word whose high 4 bits are its type, and whose low 28 are its value
abbrev pub value_count : ℕ
value_count = 268435456

-- a value with its sign: those of the upper half are negative
abbrev pub sign_extended : ℕ → ℤ
sign_extended v = if nat_lt v (value_count / 2) then pos v else pos v -ℤ pos value_count

-- the byte at a place, counted from the first word's low byte
abbrev pub byte_in : List ℕ → ℕ → ℕ
byte_in words place =
    let word = slice_index words (place / 4) in
    let k = place % 4 in
    if k == 0 then word % 256 else (if k == 1 then word / 256 % 256 else (if k == 2 then word / 65536 % 256 else word / 16777216))

-- the unit at a place, counted from the first word's low half
abbrev pub unit_in : List ℕ → ℕ → ℕ
unit_in words place = let word = slice_index words (place / 2) in if place % 2 == 0 then word % 65536 else word / 65536

-- count values from a place on
abbrev pub run : {A : Type 0} → (ℕ → A) → ℕ → ℕ → List A
run at from zero = []
run at from (suc count) = at from ∷ run at (from + 1) count
