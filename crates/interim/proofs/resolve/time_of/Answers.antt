use Rattle.std.proofs.Common.{arith, ◌≡◌, ℕ, ◌%◌, Bool, true, false, cond, Some, None}
use Rattle.std.specs.Prelude.{option_and_then}
use Rattle.interim.specs.DatesAndTimes.{time_at, with_micros}
use Rattle.interim.proofs.resolve.time_of.Goals as goal

same_case : (p : Bool) (x : ℕ) (t : ℕ × ℕ) → cond p (Some (x, 0)) None ≡ Some t → option_and_then (with_micros 0) (cond p (Some (x, 0)) None) ≡ Some t
same_case true x t e = e
same_case false x t e = absurd (cc)

-- no microseconds leave the time as it is
same_time : (hour min sec micros : ℕ) (t : ℕ × ℕ) → micros ≡ 0 → time_at hour min sec ≡ Some t → option_and_then (with_micros micros) (time_at hour min sec) ≡ Some t
unfolding time_at
same_time hour min sec micros t none e = rw none (same_case _ _ t e)

pub returns-then-clock-eq0 : goal.returns-then-clock-eq0
returns-then-clock-eq0 g c =
    let clock = c.args.clock in
    same_time (clock.hour % 24) clock.min clock.sec clock.microsec (g.T.Time.time c.in_ok-time.time) (omega arith) c.in_ok-time.ensures
