use Rattle.std.proofs.Common.{◌≡◌, ℤ, length, Some, None, to_z, of_z, to_z-of_z, FitsSigned, w32, w64, rules, sym, subst, ap, ◌∙◌, Bor}
use Rattle.std.specs.Prelude.{option_map}
use Rattle.civil.specs.Calendar.{year_second}
use Rattle.timeline.specs.declared.offset.Offset.{Offset}
use Rattle.timeline.specs.declared.fault.ZoneFault.{ZoneFault}
use Rattle.timeline.specs.Zone.{PlainRule}
use Rattle.timeline.specs.Inside.KeptRules.{KeptRule}
use Rattle.timeline.specs.Inside.LeastFaults.{TellsLeast}
use Rattle.timeline.specs.Inside.TableChecks.{TableKeeps, table_before}
use Rattle.timeline.specs.Inside.RuleChecks.{SizeKept, RuleKeeps, YearsKeep}
use Rattle.timeline.proofs.LeastFaults.{Told, tells-both}
use Rattle.timeline.proofs.KeptRules.{kept-year}
use Rattle.timeline.proofs.CheckWhole.{T, NoRule, WithRule, none_told, some_told}
use Rattle.timeline.proofs.check.least_fault.Goals as goal

pub returns-in-None-clause-value : goal.returns-in-None-clause-value
returns-in-None-clause-value g c =
    let z = c.args.zone.now in
    let P : Offset → Type 0 = λ o. TellsLeast (SizeKept o) c.initial_fault-least.result in
    let Q : Told → Type 0 = λ t. TellsLeast (NoRule z) t in
    let size = subst P c.initial.ensures c.initial_fault-least.ensures in
    none_told z c.least_of.result (sym c.rule.ensures ∙ ap (option_map (λ (r : Bor PlainRule). r.now)) c.in-None.is)
    (subst Q (sym c.least_of.ensures) (tells-both (SizeKept z.initial) (T z None) c.initial_fault-least.result c.table_fault.result size c.table_fault.ensures.value))

pub returns-in-Some-clause-value : goal.returns-in-Some-clause-value
returns-in-Some-clause-value g c =
    let z = c.args.zone.now in
    let r = c.in-Some.rule.now in
    let kept = c.years-years.ensures in
    let year_fits : FitsSigned w32 c.first_year.result = search rules in
    let limit_fits : FitsSigned w64 c.first_second-limit.result = search rules in
    let year : to_z w32 (of_z w32 c.first_year.result) ≡ r.first_year = to_z-of_z year_fits ∙ c.first_year.ensures.value ∙ ap (λ (k : KeptRule). k.first_year) kept ∙ kept-year r in
    let limit : to_z w64 (of_z w64 c.first_second-limit.result) ≡ year_second r.first_year = to_z-of_z limit_fits ∙ c.first_second-limit.ensures.value ∙ ap year_second year in
    let L = Some (year_second r.first_year) in
    let P1 : Offset → Type 0 = λ o. TellsLeast (SizeKept o) c.initial_fault-least.result in
    let P2 : ℤ → Type 0 = λ l. TellsLeast (TableKeeps z.initial z.table z.early z.late (Some l)) c.table_fault-in-Some.result in
    let P3 : Offset → Type 0 = λ o. TellsLeast (RuleKeeps r o) c.rule_fault.result in
    let K1 : ZoneFault → Type 0 = λ f. SizeKept z.initial f × T z L f in
    let K2 : ZoneFault → Type 0 = λ f. K1 f × RuleKeeps r (table_before z.initial z.table (length z.table)) f in
    let Q1 : Told → Type 0 = λ t. TellsLeast K1 t in
    let Q2 : Told → Type 0 = λ t. TellsLeast K2 t in
    let Q3 : Told → Type 0 = λ t. TellsLeast (WithRule z r) t in
    let size = subst P1 c.initial.ensures c.initial_fault-least.ensures in
    let table = subst Q1 (sym c.least_of-least.ensures) (tells-both (SizeKept z.initial) (T z L) c.initial_fault-least.result c.table_fault-in-Some.result size (subst P2 limit c.table_fault-in-Some.ensures.value)) in
    let rule = subst Q2 (sym c.least_of-least-in-Some.ensures) (tells-both K1 (RuleKeeps r (table_before z.initial z.table (length z.table))) c.least_of-least.result c.rule_fault.result table (subst P3 (c.offset_before-last.ensures ∙ ap (table_before z.initial z.table) c.len.ensures) (c.rule_fault.ensures.value r kept))) in
    some_told z r c.least_of-in-Some.result (sym c.rule.ensures ∙ ap (option_map (λ (r : Bor PlainRule). r.now)) c.in-Some.is)
    (subst Q3 (sym c.least_of-in-Some.ensures) (tells-both K2 (YearsKeep r) c.least_of-least-in-Some.result c.years_fault.result rule (c.years_fault.ensures.value r kept)))
