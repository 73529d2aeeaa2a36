-- What calls over a backend answer: a value, a refusal, or want of memory (docs/GRAMMAR.md, "Faults").
use Rattle.std.specs.Prelude.{◌≡◌, Bool, ◌&&◌, IsTrue, Option, Some, None, Result, Ok, Err, ℤ, pos, negsuc, int_le, if◌then◌else◌}
use Rattle.interim.specs.declared.errors.DateError.{DateError}
use Rattle.interim.specs.declared.errors.DateError.TheVariants as errors
use Rattle.interim.specs.declared.types.DateSpec.{DateSpec}
use Rattle.interim.specs.declared.types.TimeSpec.{TimeSpec}
use Rattle.interim.specs.declared.types.DateTimeSpec.{DateTimeSpec}
use Rattle.interim.specs.declared.datetime.Refused.{Refused}
use Rattle.interim.specs.declared.datetime.Refused.TheVariants.{OutOfRange, Memory}

-- what there is was found; or it is out of range exactly where there is none; or memory ran out, where it may
abbrev pub Gives : {T V : Type 0} → Bool → (T → V) → Result T Refused → Option V → Type 0
Gives memory view (Ok x) found = found ≡ Some (view x)
Gives memory view (Err OutOfRange) found = found ≡ None
Gives memory view (Err Memory) found = IsTrue memory

-- the same where more than one answer may be right
abbrev pub Answers : {T V : Type 0} → Bool → (T → V) → Result T Refused → (Option V → Type 0) → Type 0
Answers memory view (Ok x) P = P (Some (view x))
Answers memory view (Err OutOfRange) P = P None
Answers memory view (Err Memory) P = IsTrue memory

-- the first and the last number of a stretch of days, or of seconds
pub record Ends : Type 0 where
  pub first : ℤ
  pub last : ℤ

-- a number lies between two ends, both among them
abbrev pub is_within : Ends → ℤ → Bool
is_within ends n = int_le ends.first n && int_le n ends.last

-- the number, where it is one of the stretch
abbrev pub within : Ends → ℤ → Option ℤ
within ends n = if is_within ends n then Some n else None

-- the days of `civil`'s calendar
abbrev pub civil_days : Ends
civil_days = record { first = negsuc 96465291; last = pos 95026236 }

-- and its seconds: of moments in UTC, as of wall times
abbrev pub civil_seconds : Ends
civil_seconds = record { first = negsuc 8334601228799; last = pos 8210266876799 }

-- ---- a phrase

-- a phrase that was read is refused so: as it has a date part, or not, and has no meaning; or for want of memory
abbrev pub IsRefusedAs : Bool → DateError → Option DateSpec → Type 0 → Type 0
IsRefusedAs memory errors.MissingDate (Some date) has_none = has_none
IsRefusedAs memory errors.MissingDate None has_none = ⊥
IsRefusedAs memory errors.MissingTime None has_none = has_none
IsRefusedAs memory errors.MissingTime (Some date) has_none = ⊥
IsRefusedAs memory errors.Memory date has_none = IsTrue memory
IsRefusedAs memory (errors.ExpectedToken expected span) date has_none = ⊥
IsRefusedAs memory (errors.EndOfText expected) date has_none = ⊥
IsRefusedAs memory errors.UnexpectedDate date has_none = ⊥
IsRefusedAs memory errors.UnexpectedAbsoluteDate date has_none = ⊥
IsRefusedAs memory errors.UnexpectedTime date has_none = ⊥

-- a phrase is answered by its first fault, or as its parts mean: their moment, or that they have none
abbrev pub AnswersPhrase : {T V : Type 0} → Bool → (T → V) → Result DateTimeSpec DateError → (Option DateSpec → Option TimeSpec → Option V → Type 0) → Result T DateError → Type 0
AnswersPhrase memory view (Err fault) means result = result ≡ Err fault
AnswersPhrase memory view (Ok parts) means (Ok x) = means parts.date parts.time (Some (view x))
AnswersPhrase memory view (Ok parts) means (Err e) = IsRefusedAs memory e parts.date (means parts.date parts.time None)
