use Rattle.std.proofs.Common.{◌≡◌, ℕ, ℤ, length, ◌<◌, ◌+◌, pos, negsuc, ◌+ℤ◌, ◌<ℤ◌, to_z, of_z, to_z-of_z, FitsSigned, w64, rules, sym, subst, arith}
use Rattle.jiff_core.proofs.SignedLemmas.{signed_arith}
use Rattle.timeline.specs.declared.fault.ZoneFault.{ZoneFault}
use Rattle.timeline.specs.Inside.LeastFaults.{TellsLeast}
use Rattle.timeline.specs.Inside.TableChecks.{IsSecondAt, KeepsAt}
use Rattle.timeline.specs.Inside.Apart.{IsApart}
use Rattle.timeline.proofs.LeastFaults.{Told, tells_kept}
use Rattle.timeline.proofs.CheckLaws.{second_passed}
use Rattle.timeline.proofs.Apart.{entry_shown, in_middle}
use Rattle.timeline.proofs.check.pass_middle.Goals as goal
use Rattle.timeline.proofs.check.pass_middle.Goals.{then-not-lie_days_apart, else-not-lie_days_apart}

pub loop-n-preserved : goal.loop-n-preserved
loop-n-preserved g c =
    let z = c.args.zone.now in
    let n = c.loop-n.n in
    let K : ZoneFault → ℕ → Type 0 = KeepsAt z.initial z.table z.early z.late c.args.limit in
    let P : Told → Type 0 = λ r. TellsLeast (λ f. (m : ℕ) → m < n + 1 → K f m) r in
    let Q : ℤ → Type 0 = λ s. IsSecondAt z.table n s in
    let second = to_z w64 (of_z w64 c.second_at-second.result) in
    let fits : FitsSigned w64 c.second_at-second.result = search rules in
    let read : IsSecondAt z.table n second = subst Q (sym (to_z-of_z fits)) c.second_at-second.ensures.value in
    let previous_fits : FitsSigned w64 c.loop-n.previous = search rules in
    let R : ℤ → Type 0 = λ e. second <ℤ (e +ℤ pos 172800) in
    record {
      told = elim c.if-not-lie_days_apart.branch [
        | then-not-lie_days_apart w ↦ subst P (sym w.least-is) (w.add_fault-least.ensures c.loop-n.invariant.told)
        | else-not-lie_days_apart w ↦
            let shown = c.lie_days_apart.ensures w.if-not-lie_days_apart.false in
            let far = shown.0 in
            let low : IsApart (negsuc 9223372036854775807) second = omega (arith, signed_arith, far, previous_fits) in
            let seam = c.requires.end.shown second low (subst R (to_z-of_z c.ranges.end) shown.1) in
            subst P (sym w.least-is) (tells_kept K n _ c.loop-n.invariant.told (entry_shown z c.args.limit n _ second c.loop-n.invariant.previous read (let middle = c.requires.middle n (omega arith) (omega arith) in in_middle n z.early z.late (length z.table) second middle.0 middle.1) far seam.0 seam.1))
      ];
      previous = second_passed z.table n _ read;
      ticks = omega (arith, c.loop-n.invariant.ticks, c.second_at-second.ensures.ticks);
    }

pub returns-clause-passed : goal.returns-clause-passed
returns-clause-passed g c =
    let z = c.args.zone.now in
    let all : c.loop-n.n ≡ c.args.to = omega (arith, c.loop-n.auto.n-end) in
    let K : ZoneFault → ℕ → Type 0 = KeepsAt z.initial z.table z.early z.late c.args.limit in
    let P : ℕ → Type 0 = λ n. TellsLeast (λ f. (m : ℕ) → m < n → K f m) c.loop-n.least in
    record { told = subst P all c.loop-n.invariant.told; before = λ m next. c.loop-n.invariant.previous m (omega (arith, all, next)) }
