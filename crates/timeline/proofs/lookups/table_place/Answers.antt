use Rattle.std.proofs.Common.{◌+◌, ◌-◌, ◌/◌, ◌≤ℤ◌, ◌<ℤ◌, w64, rules, to_z, of_z, FitsSigned, sym, arith}
use Rattle.std.proofs.lemmas.Int.{ints, to_z-of_z}
use Rattle.std.proofs.lemmas.Option.{slice_get_within}
use Rattle.timeline.proofs.Probes.{none_taken, halved}
use Rattle.timeline.proofs.TablePlaces.{passed_to, ahead_from, table_place_is}
use Rattle.timeline.proofs.lookups.table_place.Goals as goal

pub loop-low-init : goal.loop-low-init
loop-low-init g c = record {
  order = omega arith;
  within = omega (arith, c.len-high.ensures);
  ticks = none_taken c.args.steps.now _ _ (let len = c.len-high.ensures in omega (arith, len));
  passed = λ order k e at lt. absurd (omega (arith, lt));
  ahead = λ order k e at from. absurd (let len = c.len-high.ensures in let within = slice_get_within c.args.zone.now.table k e at in omega (arith, from, len, within));
}

pub loop-low-preserved-then-second_at-second : goal.loop-low-preserved-then-second_at-second
loop-low-preserved-then-second_at-second g c =
    let l = c.loop-low in
    let middle = l.low + (l.high - l.low) / 2 in
    let t = to_z w64 (of_z w64 c.args.second) in
    let fits : FitsSigned w64 c.second_at.result = search rules in
    let same = to_z-of_z w64 c.second_at.result fits in
    let le : c.second_at.result ≤ℤ t = (let h = rw same at c.if-second_at-second.true in omega (arith, ints, h)) in
    record {
      order = omega arith;
      within = l.invariant.within;
      ticks = rw c.second_at.ensures.ticks (halved c.args.steps.now l.steps (l.high - l.low) _ _ (omega arith) (omega arith) l.invariant.ticks);
      passed = λ order. passed_to c.args.zone.now t c.second_at.result middle order (omega arith) c.second_at.ensures.value le;
      ahead = l.invariant.ahead;
    }

pub loop-low-preserved : goal.loop-low-preserved
loop-low-preserved g c =
    let l = c.loop-low in
    let middle = l.low + (l.high - l.low) / 2 in
    let t = to_z w64 (of_z w64 c.args.second) in
    let fits : FitsSigned w64 c.second_at.result = search rules in
    let same = to_z-of_z w64 c.second_at.result fits in
    let lt : t <ℤ c.second_at.result = (let h = rw same at c.if-second_at-second.false in omega (arith, ints, h)) in
    record {
      order = omega arith;
      within = omega arith;
      ticks = rw c.second_at.ensures.ticks (halved c.args.steps.now l.steps (l.high - l.low) _ _ (omega arith) (omega arith) l.invariant.ticks);
      passed = l.invariant.passed;
      ahead = λ order. ahead_from c.args.zone.now t c.second_at.result middle order (omega arith) c.second_at.ensures.value lt;
    }

pub returns-clause-place : goal.returns-clause-place
returns-clause-place g c order =
    let l = c.loop-low in
    let second = to_z-of_z w64 c.args.second c.ranges.second in
    sym (table_place_is c.args.zone.now c.args.second l.low (record {
      within = omega arith;
      passed = λ n e at lt. rw second at (l.invariant.passed order n e at lt);
      ahead = λ n e at from. rw second at (l.invariant.ahead order n e at (omega arith));
    }))
