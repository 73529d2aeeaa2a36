-- What spans and faults print, byte for byte (docs/GRAMMAR.md, "Faults").
use Rattle.std.specs.Prelude.{ℕ, List, ◌++◌, codes, decimal}
use Rattle.interim.specs.declared.errors.Span.{Span}
use Rattle.interim.specs.declared.errors.Expected.{Expected}
use Rattle.interim.specs.declared.errors.Expected.TheVariants as e
use Rattle.interim.specs.declared.errors.DateError.{DateError}
use Rattle.interim.specs.declared.errors.DateError.TheVariants as d

-- what was expected, in words
abbrev pub expected_text : Expected → List ℕ
expected_text e.Number = codes "number"
expected_text e.Dash = codes "'-'"
expected_text e.DateWord = codes "date"
expected_text e.Ago = codes "'ago'"
expected_text e.EmptyDate = codes "empty date string"
expected_text e.Identifier = codes "unsupported identifier"
expected_text e.DurationWord = codes "duration"
expected_text e.DayOrMonth = codes "day or month name"
expected_text e.MonthOrUnit = codes "month or time unit"
expected_text e.ColonMark = codes "':'"
expected_text e.ZAmPm = codes "expected Z/am/pm"
expected_text e.ZoneWord = codes "expected timezone"
expected_text e.DotAmPm = codes "expected am/pm"
expected_text e.ColonOrDot = codes ": or ."
expected_text e.AmPm = codes "am/pm"
expected_text e.AmPmColonDot = codes "am/pm, ':' or '.'"

-- the bytes of a token: the first, and the one behind the last
abbrev pub span_text : Span → List ℕ
span_text s = decimal s.start ++ codes ".." ++ decimal s.end

-- the text of each error
abbrev pub error_text : DateError → List ℕ
error_text (d.ExpectedToken e s) = codes "expected " ++ expected_text e ++ codes " as position " ++ span_text s
error_text (d.EndOfText e) = codes "expected " ++ expected_text e ++ codes " at the end of the input"
error_text d.MissingDate = codes "date could not be parsed from input"
error_text d.MissingTime = codes "time could not be parsed from input"
error_text d.UnexpectedDate = codes "expected relative date, found a named date"
error_text d.UnexpectedAbsoluteDate = codes "expected relative date, found an exact date"
error_text d.UnexpectedTime = codes "expected duration, found time"
error_text d.Memory = codes "memory could not be found"
