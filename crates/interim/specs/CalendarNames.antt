-- Which month and which weekday a word names (docs/GRAMMAR.md, "Words").
use Rattle.std.specs.Prelude.{ℕ, List, [], length, Option, Some, None, codes, if◌then◌else◌, nat_le}
use Rattle.std.specs.Str.{bytes_eq, str_to_ascii_lowercase}

-- a word counts in lower case, and one of over 16 letters as no letters
abbrev pub counted : List ℕ → List ℕ
counted word = if nat_le (length word) 16 then str_to_ascii_lowercase word else []

-- a month, by three letters
abbrev pub month_from : List ℕ → Option ℕ
month_from front =
    if bytes_eq front (codes "jan") then Some 1 else (
    if bytes_eq front (codes "feb") then Some 2 else (
    if bytes_eq front (codes "mar") then Some 3 else (
    if bytes_eq front (codes "apr") then Some 4 else (
    if bytes_eq front (codes "may") then Some 5 else (
    if bytes_eq front (codes "jun") then Some 6 else (
    if bytes_eq front (codes "jul") then Some 7 else (
    if bytes_eq front (codes "aug") then Some 8 else (
    if bytes_eq front (codes "sep") then Some 9 else (
    if bytes_eq front (codes "oct") then Some 10 else (
    if bytes_eq front (codes "nov") then Some 11 else (
    if bytes_eq front (codes "dec") then Some 12 else None)))))))))))

-- a day of the week, by three letters, with Monday 0
abbrev pub weekday_from : List ℕ → Option ℕ
weekday_from front =
    if bytes_eq front (codes "mon") then Some 0 else (
    if bytes_eq front (codes "tue") then Some 1 else (
    if bytes_eq front (codes "wed") then Some 2 else (
    if bytes_eq front (codes "thu") then Some 3 else (
    if bytes_eq front (codes "fri") then Some 4 else (
    if bytes_eq front (codes "sat") then Some 5 else (
    if bytes_eq front (codes "sun") then Some 6 else None))))))
