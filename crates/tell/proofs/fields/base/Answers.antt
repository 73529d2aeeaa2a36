use Rattle.std.proofs.Common.{◌≡◌, ◌+◌, ◌-ℤ◌, pos, neg_ℤ, arith, rules, w64, to_z, of_z}
use Rattle.std.proofs.lemmas.Grind.{common_steps}
use Rattle.tell.proofs.FieldCuts.{lead_behind, base_cut_signed}
use Rattle.tell.proofs.fields.base.Goals as goal

pub range_from-requires : goal.range_from-requires
range_from-requires c =
    grind (arith, common_steps, lead_behind c.args.text.now (c.in_ok-number-in-45.count + 2) c.utf8.text, c.in_ok-number-in-45.ensures.len, c.in_ok-number-in-45.ensures.tab)

pub returns-in_ok-number-in-45 : goal.returns-in_ok-number-in-45
returns-in_ok-number-in-45 c =
    let value : to_z w64 (of_z w64 (pos 0 -ℤ to_z w64 c.in_ok-number-in-45.number)) ≡ neg_ℤ (pos c.in_ok-number-in-45.number) = search rules in
    grind (arith, common_steps, value, base_cut_signed)
