-- What stands after a run over an input: the bytes that it took, and what the sink gained for them
-- (docs/STREAMS.md, "What stands when a run ends early").
use Rattle.std.specs.Prelude.{◌≡◌, ◌⊎◌, ℕ, List, [], Option}
use Rattle.std.specs.Io.KnownBytes.{Appends, Consumes, IsAtEnd}
use Rattle.streams.specs.Lines.{lines, ended}
use Rattle.streams.specs.Report.{IsReport, IsReportPart}
use Rattle.streams.specs.declared.status.Status.{Status}
use Rattle.streams.specs.declared.status.Status.TheVariants.{Done, Usage, Bundle, ReadFault, WriteFault, Memory, TooLong}

-- a front part of the report of the lines that had ended, or of all lines where nothing is left of the input
abbrev pub IsCutShort : (List ℕ → List ℕ → Type 0) → Option (List ℕ) → List ℕ → List ℕ → Type 0
IsCutShort reply left taken gained =
    IsReportPart reply (ended taken) gained ⊎ (IsAtEnd left × IsReportPart reply (lines taken) gained)

-- what is left of the input, which bytes were taken and which gained, by how a run ended: at its end the report of all
-- lines, where no more could be taken that of all ended lines, where no more could be written or found a front part
abbrev pub IsGained : (List ℕ → List ℕ → Type 0) → Status → Option (List ℕ) → List ℕ → List ℕ → Type 0
IsGained reply Done left taken gained = IsAtEnd left × IsReport reply (lines taken) gained
IsGained reply ReadFault left taken gained = IsReport reply (ended taken) gained
IsGained reply TooLong left taken gained = IsReport reply (ended taken) gained
IsGained reply WriteFault left taken gained = IsCutShort reply left taken gained
IsGained reply Memory left taken gained = IsCutShort reply left taken gained
IsGained reply Usage left taken gained = (taken ≡ []) × (gained ≡ [])
IsGained reply Bundle left taken gained = (taken ≡ []) × (gained ≡ [])

-- a run took bytes of its input, and the sink gained what stands for them after this status
pub record Stands (reply : List ℕ → List ℕ → Type 0) (status : Status) (left left' written written' : Option (List ℕ)) : Type 0 where
  pub taken : List ℕ
  pub took : Consumes left left' taken
  pub gained : List ℕ
  pub wrote : Appends written written' gained
  pub is : IsGained reply status left' taken gained
