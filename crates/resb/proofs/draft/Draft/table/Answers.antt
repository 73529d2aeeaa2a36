use Rattle.std.proofs.Common.{◌∙◌, sym}
use Rattle.std.proofs.lemmas.Bool.{both_ways}
use Rattle.resb.specs.Pool.{bare}
use Rattle.resb.proofs.Refusals.{makes_table, bad_names}
use Rattle.resb.proofs.draft.Draft.table.Goals as goal

pub returns-then-not-are_known : goal.returns-then-not-are_known
returns-then-not-are_known c = bad_names c.args.self.now (bare c.args.keys.now) (λ keys row h fine. both_ways _ (rw h.0 at (sym c.are_known.ensures ∙ c.if-not-are_known.true)) fine.0)

pub returns-then-not-are_distinct : goal.returns-then-not-are_distinct
returns-then-not-are_distinct c = bad_names c.args.self.now (bare c.args.keys.now) (λ keys row h fine. both_ways _ (sym c.are_distinct.ensures ∙ c.if-not-are_distinct.true) fine.1)

pub returns : goal.returns
returns c =
    makes_table c.args.self.now c.table_under.new.self (bare c.args.keys.now) c.table_under.result (sym c.are_known.ensures ∙ c.if-not-are_known.false) (sym c.are_distinct.ensures ∙ c.if-not-are_distinct.false) c.table_under.ensures
