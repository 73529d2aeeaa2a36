-- The four fields of a line of dates (docs/ARCHITECTURE.md, "Lines").
use Rattle.std.specs.Prelude.{ℕ, ◌+◌, ◌-◌, ◌*◌, ◌==◌, nat_le, if◌then◌else◌, ◌&&◌, List, [], ◌∷◌, length, take, drop, Option, Some, None, option_and_then, ℤ, pos, neg_ℤ, codes, position}
use Rattle.std.specs.Option.{option_map}
use Rattle.std.specs.Str.{bytes_eq, is_utf8}
use Rattle.interim.specs.declared.types.Dialect.{Dialect}
use Rattle.interim.specs.declared.types.Dialect.TheVariants.{Uk, Us}

-- one step of a reading that may find nothing, and what is read after it
infixl 10 ◌>>=◌
abbrev ◌>>=◌ : {A B : Type 0} → Option A → (A → Option B) → Option B
found >>= next = option_and_then next found

-- the name of a zone, the base in seconds, the dialect and the phrase
pub record LineFields : Type 0 where
  pub zone : List ℕ
  pub base : ℤ
  pub dialect : Dialect
  pub phrase : List ℕ

-- one CR at a line's end is dropped
abbrev pub without_cr : List ℕ → List ℕ
without_cr [] = []
without_cr (b ∷ []) = if b == 13 then [] else b ∷ []
without_cr (b ∷ c ∷ line) = b ∷ without_cr (c ∷ line)

-- the bytes before the first tab, and those after it
abbrev pub cut : List ℕ → Option (List ℕ × List ℕ)
cut bytes = option_map (λ i. (take i bytes, drop (i + 1) bytes)) (position (λ b. b == 9) bytes)

-- the number that digits go on to, where all of the bytes are digits
abbrev pub digits_from : ℕ → List ℕ → Option ℕ
digits_from n [] = Some n
digits_from n (b ∷ bytes) = if nat_le 48 b && nat_le b 57 then digits_from (10 * n + (b - 48)) bytes else None

-- 1 to 12 digits
abbrev pub number_of : List ℕ → Option ℕ
number_of bytes = if nat_le 1 (length bytes) && nat_le (length bytes) 12 then digits_from 0 bytes else None

-- a number, perhaps with a minus sign
abbrev pub base_of : List ℕ → Option ℤ
base_of [] = None
base_of (b ∷ bytes) =
    if b == 45 then option_map (λ n. neg_ℤ (pos n)) (number_of bytes) else option_map (λ n. pos n) (number_of (b ∷ bytes))

-- `uk` or `us`
abbrev pub dialect_of : List ℕ → Option Dialect
dialect_of bytes =
    if bytes_eq bytes (codes "uk") then Some Uk else (if bytes_eq bytes (codes "us") then Some Us else None)

-- the fields of a text, with a tab between two of them; the phrase is all after the third tab
unfoldable pub text_fields : List ℕ → Option LineFields
text_fields text = do
  first ← cut text
  second ← cut first.1
  base ← base_of second.0
  third ← cut second.1
  dialect ← dialect_of third.0
  Some (record { zone = first.0; base = base; dialect = dialect; phrase = third.1 })

-- the fields of a line of at most 1,024 bytes that is UTF-8
unfoldable pub fields_of : List ℕ → Option LineFields
fields_of line =
    if nat_le (length line) 1024 && is_utf8 (without_cr line) then text_fields (without_cr line) else None
