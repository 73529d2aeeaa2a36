-- How the words of the ten units are put down (docs/WORDS.md, "Languages").
use Rattle.std.specs.Prelude.{ℕ, List, ◌&&◌, if◌then◌else◌, ◌==◌, nat_le, ◌%◌}
use Prim.Native.String.{String}
use Rattle.tongues.specs.Text.{text}
use Rattle.tongues.specs.declared.unit.TimeUnit.{TimeUnit}
use Rattle.tongues.specs.declared.unit.TimeUnit.TheVariants as u

-- a word a unit, from nanoseconds to years
abbrev pub words : String → String → String → String → String → String → String → String → String → String → TimeUnit → List ℕ
words nano micro milli second minute hour day week month year u.Nanoseconds = text nano
words nano micro milli second minute hour day week month year u.Microseconds = text micro
words nano micro milli second minute hour day week month year u.Milliseconds = text milli
words nano micro milli second minute hour day week month year u.Seconds = text second
words nano micro milli second minute hour day week month year u.Minutes = text minute
words nano micro milli second minute hour day week month year u.Hours = text hour
words nano micro milli second minute hour day week month year u.Days = text day
words nano micro milli second minute hour day week month year u.Weeks = text week
words nano micro milli second minute hour day week month year u.Months = text month
words nano micro milli second minute hour day week month year u.Years = text year

-- one word for any count
abbrev pub always : (TimeUnit → List ℕ) → TimeUnit → ℕ → List ℕ
always word unit count = word unit

-- one word for 1, and another for any other count
abbrev pub one_or_more : (TimeUnit → List ℕ) → (TimeUnit → List ℕ) → TimeUnit → ℕ → List ℕ
one_or_more one more unit count = if count == 1 then one unit else more unit

-- three words, as Slavic languages have: many where the last two digits are 11 to 20; else one for the last digit 1, few
-- for 2 to 4, and many for all others
abbrev pub one_few_many : (TimeUnit → List ℕ) → (TimeUnit → List ℕ) → (TimeUnit → List ℕ) → TimeUnit → ℕ → List ℕ
one_few_many one few many unit count =
    if nat_le 11 (count % 100) && nat_le (count % 100) 20 then many unit else (
    if count % 10 == 1 then one unit else (
    if nat_le 2 (count % 10) && nat_le (count % 10) 4 then few unit else many unit))
