-- The exit status that stands for a status (docs/ARCHITECTURE.md, "Statuses").
use Rattle.std.specs.Prelude.{ℕ}
use Rattle.streams.specs.declared.status.Status.{Status}
use Rattle.streams.specs.declared.status.Status.TheVariants.{Done, Usage, Bundle, ReadFault, WriteFault, Memory, TooLong}

-- what the system is told when the program ends
abbrev pub code_of : Status → ℕ
code_of Done = 0
code_of Usage = 2
code_of Bundle = 3
code_of ReadFault = 4
code_of WriteFault = 5
code_of Memory = 6
code_of TooLong = 7
