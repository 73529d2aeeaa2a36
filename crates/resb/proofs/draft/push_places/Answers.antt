use Rattle.std.proofs.Common.{ℕ, List, [], Bor, arith}
use Rattle.resb.specs.Inside.KeyPlaces.{places_in}
use Rattle.resb.proofs.PlacedKeys.{units_past, most_past}
use Rattle.resb.proofs.draft.push_places.Goals as goal

pub returns-then-at-gt65535-clause-err : goal.returns-then-at-gt65535-clause-err
returns-then-at-gt65535-clause-err c =
    let d : Bor (List ℕ) = record { ref_ptr = (0, 0); now = [] } in
    λ all. omega (arith, c.loop-key.invariant.near all, most_past (places_in c.args.pool.now) c.args.keys.now d c.loop-key.key-index c.loop-key-test.true, c.place-at.ensures, c.if-at-gt65535.true)

pub loop-key-preserved : goal.loop-key-preserved
loop-key-preserved c =
    let d : Bor (List ℕ) = record { ref_ptr = (0, 0); now = [] } in
    let places = places_in c.args.pool.now in
    let keys = c.args.keys.now in
    let i = c.loop-key.key-index in
    let most = most_past places keys d i c.loop-key-test.true in
    record {
      units = units_past places keys d i c.loop-key-test.true c.loop-key.units.items c.push.new.self.items _ c.place-at.result c.place-at.ensures c.in_ok-push.ensures.items c.loop-key.invariant.units;
      near = λ all. omega (arith, most, c.loop-key.invariant.near all);
      all = λ rest. c.loop-key.invariant.all (omega (arith, most, rest, c.place-at.ensures, c.if-at-gt65535.false));
    }
