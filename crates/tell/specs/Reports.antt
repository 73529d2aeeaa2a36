-- What a run of the program has written (docs/ARCHITECTURE.md, "Statuses").
use Rattle.std.specs.Prelude.{◌≡◌, ℕ, List, Option, Some, None}
use Rattle.std.specs.Io.KnownBytes.{Appends, IsAtEnd}
use Rattle.tongues.specs.Speech.{Speech}
use Rattle.tongues.specs.Any.{any_speech}
use Rattle.zoneinfo64.specs.NamedZone.{NamedZone}
use Rattle.streams.specs.Lines.{lines}
use Rattle.streams.specs.Report.{IsReport}
use Rattle.tell.specs.ReplyTexts.{IsReply}
use Rattle.tell.specs.Ago.{IsAgoReply}
use Rattle.tell.specs.Load.{IsLoadSummary}
use Rattle.tell.specs.declared.program.Command.{Command}
use Rattle.tell.specs.declared.program.Command.TheVariants.{At, Ago, Load}
use Rattle.tell.specs.BundleZones.{bundle_zones}

-- the reply to a line, where a bundle gave zones
abbrev pub IsReplyWith : Speech → Option (List NamedZone) → List ℕ → List ℕ → Type 0
IsReplyWith speech None line text = ⊥
IsReplyWith speech (Some zones) line text = IsReply speech zones line text

-- both sources were read to their ends, and the sink gained exactly the report of the input in the bundle's zones
pub record Reported (speech : Speech) (bundle bundle' input input' written written' : Option (List ℕ)) : Type 0 where
  pub bundle_ended : IsAtEnd bundle'
  pub input_ended : IsAtEnd input'
  pub gained : (b i : List ℕ) → bundle ≡ Some b → input ≡ Some i
      → (zones : List NamedZone) × (report : List ℕ) × (bundle_zones b ≡ Some zones)
      × IsReport (IsReply speech zones) (lines i) report × Appends written written' report

-- the input was read to its end, and the sink gained exactly its report
pub record AgoReported (speech : Speech) (input input' written written' : Option (List ℕ)) : Type 0 where
  pub input_ended : IsAtEnd input'
  pub gained : (i : List ℕ) → input ≡ Some i
      → (report : List ℕ) × IsReport (IsAgoReply speech) (lines i) report × Appends written written' report

-- all was read, and the sink gained exactly the report of the command
abbrev pub IsReported : Option Command → (bundle bundle' input input' written written' : Option (List ℕ)) → Type 0
IsReported (Some (At l)) bundle bundle' input input' written written' =
    Reported (any_speech l) bundle bundle' input input' written written'
IsReported (Some (Ago l)) bundle bundle' input input' written written' =
    AgoReported (any_speech l) input input' written written'
IsReported (Some (Load n)) bundle bundle' input input' written written' =
    (summary : List ℕ) × IsLoadSummary n summary × Appends written written' summary
IsReported None bundle bundle' input input' written written' = ⊥
