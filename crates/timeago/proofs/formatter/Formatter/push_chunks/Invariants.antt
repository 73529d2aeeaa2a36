use Rattle.std.proofs.Common.{◌≡◌, ◌++◌, ◌-◌, string_bytes}
use Rattle.timeago.specs.Appended.{Keeps}
use Rattle.timeago.specs.Formatters.{settings_of, language_of}
use Rattle.timeago.specs.Inside.Steps.{counted, chunks}
use Rattle.timeago.proofs.formatter.Formatter.push_chunks.Given as goal

-- what was told and what is still told is all that is told, and what the text held is kept
abbrev pub invariant-loop-turn : goal.invariant-loop-turn
invariant-loop-turn g l =
    let s = g.L.Language.speech (language_of l.self) in
    let f = settings_of l.self in
    record {
      told : string_bytes l.out ++ chunks s l.turn (counted f (f.items - l.turn) l.rest) ≡ string_bytes l.initial.out ++ chunks s 0 (counted f f.items l.fn.rest);
      kept : Keeps (string_bytes l.initial.out) (string_bytes l.out);
    }
