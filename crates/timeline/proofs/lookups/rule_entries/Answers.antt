use Rattle.std.proofs.Common.{w32, pos, arith}
use Rattle.std.proofs.lemmas.Int.{ints, to_z-of_z}
use Rattle.timeline.proofs.YearEntries.{says_table, says_rule, says_past}
use Rattle.timeline.proofs.lookups.rule_entries.Goals as goal

pub returns-then-year-first_year-clause-value : goal.returns-then-year-first_year-clause-value
returns-then-year-first_year-clause-value c =
    let lt = c.if-year-first_year.true in
    let first = c.first_year.ensures.value in
    says_table c.args.rule.now c.args.year (omega (arith, ints, lt, first))

pub returns-then-year-eq2147483647-clause-value : goal.returns-then-year-eq2147483647-clause-value
returns-then-year-eq2147483647-clause-value c =
    let le = c.if-year-first_year.false in
    let first = c.first_year.ensures.value in
    let last = c.if-year-eq2147483647.true in
    says_past c.args.rule.now (pos 0) c.args.year _ (omega (arith, ints, le, first)) (omega (arith, ints, last)) c.transitions-last.ensures.before

pub returns-clause-value : goal.returns-clause-value
returns-clause-value c =
    let le = c.if-year-first_year.false in
    let first = c.first_year.ensures.value in
    let not_last = c.if-year-eq2147483647.false in
    let year = to_z-of_z w32 c.args.year c.ranges.year in
    let told = c.transitions-before.ensures in
    rw (rw year at told.before, rw year at told.first, rw year at told.second)
    (says_rule c.args.rule.now c.args.year (omega (arith, ints, le, first)) (omega (arith, ints, not_last)))
