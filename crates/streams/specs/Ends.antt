-- How a run over an input ends (docs/ARCHITECTURE.md, "Statuses").
use Rattle.std.specs.Prelude.{◌≡◌, ℕ, nat_lt, if◌then◌else◌, List, length, ⊤, Option, Some, None}
use Rattle.std.specs.Option.{option_map}
use Rattle.streams.specs.declared.status.Status.{Status}
use Rattle.streams.specs.declared.status.Status.TheVariants.{Done, ReadFault, WriteFault, Memory, TooLong}

-- the most bytes of an input to which a run replies
abbrev pub most_input : ℕ
most_input = 16777216

-- how a run over an input ends in which nothing fails and memory is found, where its source tells it
abbrev pub served : Option (List ℕ) → Option Status
served input = option_map (λ i. if nat_lt most_input (length i) then TooLong else Done) input

-- a run ends as planned, or with a fault, or for want of memory
abbrev pub EndsAs : Status → Status → Type 0
EndsAs plan ReadFault = ⊤
EndsAs plan WriteFault = ⊤
EndsAs plan Memory = ⊤
EndsAs plan status = status ≡ plan

-- and so where there is a plan
abbrev pub EndsBy : Option Status → Status → Type 0
EndsBy None status = ⊤
EndsBy (Some plan) status = EndsAs plan status
