use Rattle.std.proofs.Common.{◌≤◌, ◌++◌, string_bytes}
use Rattle.tongues.specs.Units.{unit_size}
use Rattle.timeago.specs.Formatters.{settings_of, language_of}
use Rattle.timeago.specs.Inside.Steps.{counted, chunks}
use Rattle.timeago.proofs.Kept.{kept_added, kept_on}
use Rattle.timeago.proofs.Texts.{is_below, not_below, goes_on, is_told, stops}
use Rattle.timeago.proofs.formatter.Formatter.push_chunks.Goals as goal

pub loop-turn-preserved : goal.loop-turn-preserved
loop-turn-preserved g c =
    let fits : unit_size c.args.self.now.min_unit ≤ c.loop-turn.rest = not_below _ _ _ c.is_below.ensures c.if-is_below.false in
    let s = g.L.Language.speech (language_of c.args.self.now) in
    let f = settings_of c.args.self.now in
    let before = c.in_ok-push_before.ensures.ok in
    let chunk = c.in_ok-push_chunk.ensures.ok in
    record {
      told = rw (chunk, before)
          (goes_on s f (string_bytes c.loop-turn.out) c.loop-turn.turn c.args.self.now.num_items c.loop-turn.rest
          c.allowed_unit-unit.result c.split-count.result.0 c.split-count.result.1 (string_bytes c.args.out.now ++ chunks s 0 (counted f f.items c.args.rest))
          c.loop-turn-test.true fits c.allowed_unit-unit.ensures c.split-count.ensures.count c.split-count.ensures.left c.loop-turn.invariant.told);
      kept = kept_on _ _ _ c.loop-turn.invariant.kept (kept_on _ _ _ (kept_added _ _ _ before) (kept_added _ _ _ chunk));
    }

pub returns-after-loop-turn-clause-ok : goal.returns-after-loop-turn-clause-ok
returns-after-loop-turn-clause-ok g c =
    is_told (g.L.Language.speech (language_of c.args.self.now)) (settings_of c.args.self.now) (string_bytes c.loop-turn.out) c.loop-turn.turn c.args.self.now.num_items c.loop-turn.rest _
    c.loop-turn-test.false c.loop-turn.invariant.told

pub returns-then-is_below-clause-ok : goal.returns-then-is_below-clause-ok
returns-then-is_below-clause-ok g c =
    stops (g.L.Language.speech (language_of c.args.self.now)) (settings_of c.args.self.now) (string_bytes c.loop-turn.out) c.loop-turn.turn c.args.self.now.num_items c.loop-turn.rest _
    c.loop-turn-test.true (is_below _ _ _ c.is_below.ensures c.if-is_below.true) c.loop-turn.invariant.told
