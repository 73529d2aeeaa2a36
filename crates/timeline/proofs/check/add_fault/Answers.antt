use Rattle.std.proofs.Common.{ℕ, ◌<◌, ◌+◌, sym, subst}
use Rattle.timeline.specs.declared.fault.ZoneFault.{ZoneFault}
use Rattle.timeline.specs.Inside.LeastFaults.{TellsLeast}
use Rattle.timeline.specs.Inside.TableChecks.{KeepsAt}
use Rattle.timeline.proofs.LeastFaults.{Told, tells_more}
use Rattle.timeline.proofs.check.add_fault.Goals as goal

pub returns : goal.returns
returns c = λ told.
    let z = c.args.zone.now in
    let n = c.args.n in
    let K : ZoneFault → ℕ → Type 0 = KeepsAt z.initial z.table z.early z.late c.args.limit in
    let P : Told → Type 0 = λ r. TellsLeast (λ f. (m : ℕ) → m < n + 1 → K f m) r in
    subst P (sym c.least_of.ensures) (tells_more K n c.args.least c.fault_at.result told c.fault_at.ensures)
