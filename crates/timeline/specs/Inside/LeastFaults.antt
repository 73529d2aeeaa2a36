-- The least fault, told step by step. Serves private contracts alone.
use Rattle.std.specs.Prelude.{◌<◌, nat_lt, if◌then◌else◌, Result, Ok, Err}
use Rattle.timeline.specs.declared.fault.ZoneFault.{ZoneFault}
use Rattle.timeline.specs.Fault.{fault_number}

-- all are kept, or the one that is told is the least that is not
abbrev pub TellsLeast : (ZoneFault → Type 0) → Result (Unit {0}) ZoneFault → Type 0
TellsLeast K (Ok x) = (f : ZoneFault) → K f
TellsLeast K (Err f) = (K f → ⊥) × ((g : ZoneFault) → fault_number g < fault_number f → K g)

-- the least of the laws that two answers say are broken
abbrev pub least_of : Result (Unit {0}) ZoneFault → Result (Unit {0}) ZoneFault → Result (Unit {0}) ZoneFault
least_of (Ok x) other = other
least_of (Err f) (Ok x) = Err f
least_of (Err f) (Err g) = if nat_lt (fault_number g) (fault_number f) then Err g else Err f
