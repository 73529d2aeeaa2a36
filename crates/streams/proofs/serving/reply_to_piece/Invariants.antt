use Rattle.std.proofs.Common.{◌≡◌, ◌++◌, ℕ, List, length, string_bytes}
use Rattle.streams.specs.Whole.{Adds}
use Rattle.streams.specs.Inside.Serving.{LeadsOn}
use Rattle.streams.proofs.serving.reply_to_piece.Given as goal

-- the bytes of the piece that were gone through, and the replies to the lines that ended in them
abbrev pub invariant-ending : goal.invariant-ending
invariant-ending g l =
    (gone : List ℕ) × (l.piece ≡ gone ++ l.rest)
    × Adds (LeadsOn (g.A.Answer.reply l.engine) l.initial.start l.start gone) (string_bytes l.initial.replies) (string_bytes l.replies)

abbrev pub decreases-ending : goal.decreases-ending
decreases-ending g l = length l.rest
