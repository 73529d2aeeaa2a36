use Rattle.std.proofs.Common.{◌≡◌, true, false, inl, inr, w64, rules, FitsSigned, sym, ◌∙◌, arith}
use Rattle.std.proofs.lemmas.Int.{ints, to_z-of_z}
use Rattle.timeline.specs.Inside.YearTransitions.{is_idle}
use Rattle.timeline.proofs.NextAnswers.{next_first, next_second, next_year}
use Rattle.timeline.proofs.transitions.next_in_rule.Goals.{then-not-is_idle+else-second-first+else-second-last, else-not-is_idle}
use Rattle.timeline.proofs.transitions.next_in_rule.Goals as goal

pub returns-then-second-first : goal.returns-then-second-first
returns-then-second-first c lawful near starts is =
    let moves : is_idle c.args.change c.args.before c.args.first ≡ false = cc in
    let second = to_z-of_z w64 c.args.second c.ranges.second in
    let fits : FitsSigned w64 c.args.first.since = search rules in
    let since = to_z-of_z w64 c.args.first.since fits in
    let lt = rw (second, since) at c.if-second-first.true in
    next_first c.args.zone.now c.args.year c.args.second c.args.before c.args.first c.args.last c.args.change lawful near starts is moves (omega (arith, ints, lt))

pub returns-then-second-last : goal.returns-then-second-last
returns-then-second-last c lawful near starts is =
    let moves : is_idle c.args.change c.args.before c.args.first ≡ false = cc in
    let second = to_z-of_z w64 c.args.second c.ranges.second in
    let fits : FitsSigned w64 c.args.first.since = search rules in
    let since = to_z-of_z w64 c.args.first.since fits in
    let last_fits : FitsSigned w64 c.args.last.since = search rules in
    let last_since = to_z-of_z w64 c.args.last.since last_fits in
    let le = rw (second, since) at c.if-second-first.false in
    let lt = rw (second, last_since) at c.if-second-last.true in
    next_second c.args.zone.now c.args.year c.args.second c.args.before c.args.first c.args.last c.args.change lawful near starts is moves (omega (arith, ints, le)) (omega (arith, ints, lt))

pub returns : goal.returns
returns c lawful near starts is =
    let second = to_z-of_z w64 c.args.second c.ranges.second in
    let last_fits : FitsSigned w64 c.args.last.since = search rules in
    let last_since = to_z-of_z w64 c.args.last.since last_fits in
    next_year c.args.zone.now c.args.year _ c.args.second c.args.before c.args.first c.args.last c.args.change c.from_year.result lawful near starts is
    (omega (arith, ints))
    (elim c.if-not-is_idle.branch [
      | then-not-is_idle+else-second-first+else-second-last w ↦ (let le = rw (second, last_since) at w.if-second-last.false in inr (omega (arith, ints, le)))
      | else-not-is_idle w ↦ (let idle : is_idle c.args.change c.args.before c.args.first ≡ true = sym c.is_idle.ensures ∙ w.if-not-is_idle.false in inl idle)
    ])
    c.from_year.ensures
