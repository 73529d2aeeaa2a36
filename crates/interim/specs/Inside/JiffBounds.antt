-- What is tested before a call of `jiff`.
use Rattle.std.specs.Prelude.{ℤ, ◌≤ℤ◌}
use Rattle.interim.specs.Refusal.{Ends}

-- the number is one of the stretch
abbrev pub LiesIn : Ends → ℤ → Type 0
LiesIn ends n = (ends.first ≤ℤ n) × (n ≤ℤ ends.last)
