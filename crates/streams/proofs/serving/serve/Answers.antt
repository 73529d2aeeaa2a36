use Rattle.std.proofs.Common.{arith, ◌≤◌, ◌+◌, drop}
use Rattle.std.proofs.lemmas.List.{take-append-le, length-take}
use Rattle.streams.proofs.BytesLemmas.{took_more}
use Rattle.streams.proofs.ServeLemmas.{HasServed, serves_piece, stands_too_long, ends_too_long, took_long, took_few}
use Rattle.streams.proofs.serving.serve.Given.{Over}
use Rattle.streams.proofs.serving.serve.Goals.{In-Ok, In-Ok-serve_piece}
use Rattle.streams.proofs.serving.serve.Goals as goal

-- a read goes no further than one byte past the limit
within : (g : Over) (c : In-Ok g) → c.serving.taken + c.in-Ok.count ≤ 16777217
within g c =
    omega (arith, c.serving.invariant.in_range, c.in-Ok.ensures.bound.0, c.read.auto.buf, length-take c.min-room.result c.serving.piece, c.min-room.ensures)

-- what was served before a piece and with it
further : (g : Over) (c : In-Ok-serve_piece g) → HasServed (g.A.Answer.reply c.args.engine.now) (g.I.Source.left c.args.input.now) (g.I.Source.left c.read.new.self) (g.O.Sink.written c.args.output.now) (g.O.Sink.written c.serve_piece.new.output) c.serve_piece.new.start (c.serving.taken + c.in-Ok.count)
further g c =
    let front = take-append-le c.in-Ok.count c.read.new.buf (drop c.min-room.result c.serving.piece) c.in-Ok.ensures.bound.0 in
    serves_piece (g.A.Answer.reply c.args.engine.now) _ _ _ _ _ _ c.serving.start c.serve_piece.new.start _ _ c.serving.taken c.in-Ok.count
    c.serving.invariant.served c.in-Ok.ensures.bytes.0 front c.in-Ok-serve_piece.ensures.ok c.in-Ok.ensures.bound.1

pub returns-in-Err-Fault-serve_piece-clause-taken : goal.returns-in-Err-Fault-serve_piece-clause-taken
returns-in-Err-Fault-serve_piece-clause-taken g c =
    let (bytes, gained, took, wrote, between, len) = c.serving.invariant.served in
    let few = within g (goal.at.returns-in-Err-Fault-serve_piece-clause-taken g c).In-Ok in
    took_more _ _ _ bytes _ 16777217 took c.in-Ok.ensures.bytes.0 (omega (arith, c.in-Ok.ensures.bound.1))

pub returns-in-Err-Memory-serve_piece-clause-taken : goal.returns-in-Err-Memory-serve_piece-clause-taken
returns-in-Err-Memory-serve_piece-clause-taken g c =
    let (bytes, gained, took, wrote, between, len) = c.serving.invariant.served in
    let few = within g (goal.at.returns-in-Err-Memory-serve_piece-clause-taken g c).In-Ok in
    took_more _ _ _ bytes _ 16777217 took c.in-Ok.ensures.bytes.0 (omega (arith, c.in-Ok.ensures.bound.1))

pub returns-then-taken-gt-MAX_INPUT-clause-stands : goal.returns-then-taken-gt-MAX_INPUT-clause-stands
returns-then-taken-gt-MAX_INPUT-clause-stands g c =
    stands_too_long _ _ _ _ _ _ _ (further g (goal.at.returns-then-taken-gt-MAX_INPUT-clause-stands g c).In-Ok-serve_piece)

pub returns-then-taken-gt-MAX_INPUT-clause-too_long : goal.returns-then-taken-gt-MAX_INPUT-clause-too_long
returns-then-taken-gt-MAX_INPUT-clause-too_long g c = λ _.
    took_long _ _ _ _ _ _ _ 16777216 (further g (goal.at.returns-then-taken-gt-MAX_INPUT-clause-too_long g c).In-Ok-serve_piece) c.if-taken-gt-MAX_INPUT.true

pub returns-then-taken-gt-MAX_INPUT-clause-ends : goal.returns-then-taken-gt-MAX_INPUT-clause-ends
returns-then-taken-gt-MAX_INPUT-clause-ends g c =
    ends_too_long _ (took_long _ _ _ _ _ _ _ 16777216 (further g (goal.at.returns-then-taken-gt-MAX_INPUT-clause-ends g c).In-Ok-serve_piece) c.if-taken-gt-MAX_INPUT.true)

pub returns-then-taken-gt-MAX_INPUT-clause-taken : goal.returns-then-taken-gt-MAX_INPUT-clause-taken
returns-then-taken-gt-MAX_INPUT-clause-taken g c =
    took_few _ _ _ _ _ _ _ 16777217 (further g (goal.at.returns-then-taken-gt-MAX_INPUT-clause-taken g c).In-Ok-serve_piece) (within g (goal.at.returns-then-taken-gt-MAX_INPUT-clause-taken g c).In-Ok)

pub serving-preserved : goal.serving-preserved
serving-preserved g c = record {
  served = further g (goal.at.serving-preserved g c).In-Ok-serve_piece;
  in_range = omega arith;
  read_later = omega (arith, c.in-Ok.ensures.cause.later);
  written_later = omega (arith, c.in-Ok-serve_piece.ensures.faults);
}
