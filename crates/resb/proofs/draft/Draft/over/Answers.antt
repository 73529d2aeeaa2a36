use Rattle.std.proofs.Common.{refl, arith}
use Rattle.resb.specs.Pool.{bare}
use Rattle.resb.proofs.RowParts.{no_row}
use Rattle.resb.proofs.draft.Draft.over.Goals as goal

pub returns-clause-holds : goal.returns-clause-holds
returns-clause-holds c =
    (refl, rw (c.new.ensures.words, c.new.ensures.items, c.new-2.ensures.items) (no_row (bare c.args.pool.keys.items) c.words_end-base.result c.words_end-base.ensures c.requires.near c.requires.good (omega arith)))
