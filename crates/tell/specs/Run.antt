-- How a run of the program ends (docs/ARCHITECTURE.md, "Statuses").
use Rattle.std.specs.Prelude.{◌≡◌, ◌⊎◌, ℕ, List, ⊤, Option, Some, None, IsSome, IfSome}
use Rattle.zoneinfo64.specs.NamedZone.{NamedZone}
use Rattle.streams.specs.Causes.{Rose}
use Rattle.streams.specs.Ends.{served}
use Rattle.streams.specs.declared.status.Status.{Status}
use Rattle.streams.specs.declared.status.Status.TheVariants.{Done, Usage, Bundle}
use Rattle.tell.specs.declared.program.Command.{Command}
use Rattle.tell.specs.declared.program.Command.TheVariants.{At, Ago, Load}
use Rattle.tell.specs.BundleZones.{bundle_zones}

-- a run over an input, behind a bundle that was read
abbrev pub served_in : Option (List NamedZone) → Option (List ℕ) → Option Status
served_in None input = Some Bundle
served_in (Some zones) input = served input

-- how a command ends in which nothing fails and memory is found, where the sources that it needs tell it
abbrev pub planned : Option Command → Option (List ℕ) → Option (List ℕ) → Option Status
planned None bundle input = Some Usage
planned (Some (At l)) None input = None
planned (Some (At l)) (Some b) input = served_in (bundle_zones b) input
planned (Some (Ago l)) bundle input = served input
planned (Some (Load n)) bundle input = Some Done

-- the command is `at`, and no zones are those of the bundle, where it is told
abbrev pub RefusesBundle : Option Command → Option (List ℕ) → Type 0
RefusesBundle (Some (At l)) bundle = IfSome bundle (λ b. bundle_zones b ≡ None)
RefusesBundle other bundle = ⊥

-- the command is one, and what it needs of the bundle is there, where that is told
abbrev pub AcceptsBundle : Option Command → Option (List ℕ) → Type 0
AcceptsBundle (Some (At l)) bundle = IfSome bundle (λ b. IsSome (bundle_zones b))
AcceptsBundle (Some (Ago l)) bundle = ⊤
AcceptsBundle (Some (Load n)) bundle = ⊤
AcceptsBundle None bundle = ⊥

-- the faults of a source that the command reads rose: of the input, or of the bundle where the command is `at`
abbrev pub ReadFaultRose : Option Command → (bundle bundle' input input' : ℕ) → Type 0
ReadFaultRose (Some (At l)) bundle bundle' input input' = Rose bundle bundle' ⊎ Rose input input'
ReadFaultRose (Some (Ago l)) bundle bundle' input input' = Rose input input'
ReadFaultRose (Some (Load n)) bundle bundle' input input' = ⊥
ReadFaultRose None bundle bundle' input input' = ⊥
