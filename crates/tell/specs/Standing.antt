-- What stands after a run of the program (docs/ARCHITECTURE.md, "Statuses").
use Rattle.std.specs.Prelude.{◌≡◌, ℕ, ◌+◌, List, [], ◌++◌, ⊤, Option, Some, None, IfSome}
use Rattle.std.specs.Io.KnownBytes.{Appends}
use Rattle.tongues.specs.Any.{any_speech}
use Rattle.streams.specs.Stands.{Stands}
use Rattle.streams.specs.declared.status.Status.{Status}
use Rattle.streams.specs.declared.status.Status.TheVariants.{Done, Usage, WriteFault, Memory}
use Rattle.tell.specs.Ago.{IsAgoReply}
use Rattle.tell.specs.Load.{IsLoadSummary}
use Rattle.tell.specs.declared.program.Command.{Command}
use Rattle.tell.specs.declared.program.Command.TheVariants.{At, Ago, Load}
use Rattle.tell.specs.BundleZones.{bundle_zones}
use Rattle.tell.specs.Reports.{IsReplyWith}

-- what a sink gained of the summary of a large input, by how the run ended: all of it, a front part of it, or nothing
abbrev pub IsGainedByLoad : ℕ → Status → List ℕ → Type 0
IsGainedByLoad n Done gained = IsLoadSummary n gained
IsGainedByLoad n WriteFault gained = (rest : List ℕ) × IsLoadSummary n (gained ++ rest)
IsGainedByLoad n Memory gained = gained ≡ []
IsGainedByLoad n other gained = ⊥

-- what the sink gained for the bytes that were taken from the input, after each status
abbrev pub StandsAfter : Option Command → Option (List ℕ) → Status → (input input' written written' : Option (List ℕ)) → Type 0
StandsAfter (Some (At l)) bundle status input input' written written' =
    IfSome bundle (λ b. Stands (IsReplyWith (any_speech l) (bundle_zones b)) status input input' written written')
StandsAfter (Some (Ago l)) bundle status input input' written written' =
    Stands (IsAgoReply (any_speech l)) status input input' written written'
StandsAfter (Some (Load n)) bundle status input input' written written' =
    (gained : List ℕ) × Appends written written' gained × IsGainedByLoad n status gained
StandsAfter None bundle status input input' written written' = status ≡ Usage

-- the command reads nothing
abbrev pub ReadsNothing : Option Command → Type 0
ReadsNothing (Some (At l)) = ⊥
ReadsNothing (Some (Ago l)) = ⊥
ReadsNothing other = ⊤

-- the command does not touch the bundle
abbrev pub NeedsNoBundle : Option Command → Type 0
NeedsNoBundle (Some (At l)) = ⊥
NeedsNoBundle other = ⊤
