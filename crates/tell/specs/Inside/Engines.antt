-- What contracts see of the engine of dates.
use Rattle.std.specs.Prelude.{List}
use Rattle.tongues.specs.declared.any.AnyLanguage.{AnyLanguage}
use Rattle.zoneinfo64.specs.NamedZone.{NamedZone}

-- in which language distances are told, and in which zones
pub record Dates : Type 0 where
  pub language : AnyLanguage
  pub zones : List NamedZone

-- the engine of `at` in a language, with these zones
abbrev pub dates : AnyLanguage → List NamedZone → Dates
dates language zones = record { language = language; zones = zones }
