use Rattle.std.proofs.Common.{◌≡◌, true, false, inl, inr, w32, w64, rules, FitsSigned, refl, sym, ◌∙◌}
use Rattle.std.proofs.lemmas.Int.{to_z-of_z}
use Rattle.timeline.specs.Inside.YearTransitions.{is_idle}
use Rattle.timeline.proofs.NextAnswers.{prev_first, prev_second, prev_year}
use Rattle.timeline.proofs.transitions.prev_in_rule.Goals.{then-not-is_idle+else-is_up_to+else-is_up_to-2, else-not-is_idle}
use Rattle.timeline.proofs.transitions.prev_in_rule.Goals as goal

pub returns-then-is_up_to : goal.returns-then-is_up_to
returns-then-is_up_to g c lawful near starts is =
    let moves : is_idle c.args.change c.args.before c.args.first ≡ false = cc in
    let second = to_z-of_z w64 c.args.second c.ranges.second in
    let last_fits : FitsSigned w64 c.args.last.since = search rules in
    let last_since = to_z-of_z w64 c.args.last.since last_fits in
    prev_second c.args.zone.now c.args.year c.args.second c.args.before c.args.first c.args.last c.args.exact c.args.change lawful near starts is moves ((rw (second, last_since) at c.if-is_up_to.ensures).0 refl)

pub returns-then-is_up_to-2 : goal.returns-then-is_up_to-2
returns-then-is_up_to-2 g c lawful near starts is =
    let moves : is_idle c.args.change c.args.before c.args.first ≡ false = cc in
    let second = to_z-of_z w64 c.args.second c.ranges.second in
    let fits : FitsSigned w64 c.args.first.since = search rules in
    let since = to_z-of_z w64 c.args.first.since fits in
    let last_fits : FitsSigned w64 c.args.last.since = search rules in
    let last_since = to_z-of_z w64 c.args.last.since last_fits in
    prev_first c.args.zone.now c.args.year c.args.second c.args.before c.args.first c.args.last c.args.exact c.args.change lawful near starts is moves (λ up. let not = (rw (second, last_since) at c.if-is_up_to.ensures).1 up in cc) ((rw (second, since) at c.if-is_up_to-2.ensures).0 refl)

pub returns : goal.returns
returns g c lawful near starts is =
    let second = to_z-of_z w64 c.args.second c.ranges.second in
    let year = to_z-of_z w32 c.args.year c.ranges.year in
    let fits : FitsSigned w64 c.args.first.since = search rules in
    let since = to_z-of_z w64 c.args.first.since fits in
    prev_year c.args.zone.now c.args.year c.args.second c.args.before c.args.first c.args.last c.args.exact c.args.change c.before_year.result lawful near starts is
    (elim c.if-not-is_idle.branch [
      | then-not-is_idle+else-is_up_to+else-is_up_to-2 w ↦ inr (λ up. let not = (rw (second, since) at w.if-is_up_to-2.ensures).1 up in cc)
      | else-not-is_idle w ↦ (let idle : is_idle c.args.change c.args.before c.args.first ≡ true = sym c.is_idle.ensures ∙ w.if-not-is_idle.false in inl idle)
    ])
    (rw year at c.before_year.ensures)
