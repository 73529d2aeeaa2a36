use Rattle.std.proofs.Common.{◌≡◌, ℕ, ◌<◌, ◌+◌, ◌+ℤ◌, to_z-of_z, FitsSigned, w32, rules, sym, ap, subst, ◌∙◌, arith}
use Rattle.civil.specs.Calendar.{example_year}
use Rattle.jiff_core.proofs.SignedLemmas.{signed_arith}
use Rattle.timeline.specs.declared.fault.ZoneFault.{ZoneFault}
use Rattle.timeline.specs.Inside.KeptRules.{KeptRule}
use Rattle.timeline.specs.Inside.LeastFaults.{TellsLeast}
use Rattle.timeline.specs.Inside.RuleChecks.{YearKeeps}
use Rattle.timeline.proofs.KeptRules.{kept-raw, kept-sum, kept-year}
use Rattle.timeline.proofs.LeastFaults.{Told, tells_more}
use Rattle.timeline.proofs.CheckLaws.{small_moved}
use Rattle.timeline.proofs.CheckYears.{years_told}
use Rattle.timeline.proofs.YearsApart.{year_shown}
use Rattle.timeline.proofs.check.years_fault.Goals as goal

pub loop-kind-preserved : goal.loop-kind-preserved
loop-kind-preserved g c =
    let n = c.loop-kind.kind in
    record {
      ticks = omega (arith, c.loop-kind.invariant.ticks, c.year_fault-fault.ensures.ticks);
      told = λ r is.
          let K : ZoneFault → ℕ → Type 0 = λ f m. YearKeeps r (example_year m) f in
          let Q : Told → Type 0 = λ t. TellsLeast (λ f. (m : ℕ) → m < n + 1 → K f m) t in
          subst Q (sym c.least_of-least.ensures) (tells_more K n c.loop-kind.least c.year_fault-fault.result (c.loop-kind.invariant.told r is) (c.year_fault-fault.ensures.value r is));
    }

pub returns-then-places_lie_apart-clause-value : goal.returns-then-places_lie_apart-clause-value
returns-then-places_lie_apart-clause-value g c = λ r is f y from to.
    let raw = ap (λ (k : KeptRule). k.raw) is ∙ kept-raw r in
    let sum = ap (λ (k : KeptRule). k.raw +ℤ k.extra) is ∙ kept-sum r in
    let small = c.are_small.ensures.0 c.if-are_small.true in
    let raw_fits : FitsSigned w32 c.offsets-raw.result.0 = search rules in
    let sum_fits : FitsSigned w32 c.offsets-raw.result.1 = search rules in
    year_shown r y (c.places_lie_apart.ensures c.if-places_lie_apart.true r is y)
    (small_moved _ _ (to_z-of_z raw_fits ∙ c.offsets-raw.ensures.raw ∙ raw) small.0, small_moved _ _ (to_z-of_z sum_fits ∙ c.offsets-raw.ensures.sum ∙ sum) small.1) f

pub returns-clause-value : goal.returns-clause-value
returns-clause-value g c = λ r is.
    let all : c.loop-kind.kind ≡ 14 = omega (arith, c.loop-kind.auto.kind-end) in
    let P : ℕ → Type 0 = λ n. TellsLeast (λ f. (m : ℕ) → m < n → YearKeeps r (example_year m) f) c.loop-kind.least in
    let first : c.args.rule.now.first_year ≡ r.first_year = ap (λ (k : KeptRule). k.first_year) is ∙ kept-year r in
    years_told c.counts_years.ensures c.kinds_of_year.ensures c.example_years.ensures r c.loop-kind.least (omega (arith, signed_arith, first, c.offsets-raw.ensures.years)) (subst P all (c.loop-kind.invariant.told r is))
