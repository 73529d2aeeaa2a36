use Rattle.std.proofs.Common.{ap, ◌∙◌}
use Rattle.std.specs.Ordering.{nat_cmp, is_lt}
use Rattle.std.specs.Cmp.Lexicographic.{slice_cmp}
use Rattle.zoneinfo64.specs.NamedZone.{name_text}
use Rattle.zoneinfo64.proofs.bundle.is_before.Goals as goal

pub returns : goal.returns
returns c =
    let order = slice_cmp nat_cmp in
    c.is_lt.ensures ∙ ap is_lt (c.cmp.ensures ∙ ap (λ t. order t c.text-2.result.now) c.text.ensures
    ∙ ap (order (name_text c.args.first.now.name)) c.text-2.ensures)
