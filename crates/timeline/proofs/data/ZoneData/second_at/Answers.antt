use Rattle.std.proofs.Common.{w64, rules, FitsSigned, arith}
use Rattle.std.proofs.lemmas.Int.{to_z-of_z}
use Rattle.timeline.proofs.TableEntries.{length-table_from, entry_since}
use Rattle.timeline.proofs.data.ZoneData.second_at.Goals as goal

pub second_at-requires : goal.second_at-requires
second_at-requires g c =
    let inside = c.self.inside in
    let same = length-table_from inside.type_offsets.items inside.seconds.list inside.type_map c.self.invariant.len in
    let within = rw (← c.self.view_is) at c.requires in
    omega (arith, same, within)

pub returns-clause-value : goal.returns-clause-value
returns-clause-value g c =
    let inside = c.self.inside in
    let fits : FitsSigned w64 c.second_at.result = search rules in
    rw (← c.self.view_is, to_z-of_z w64 c.second_at.result fits)
    (entry_since inside.type_offsets.items inside.seconds.list inside.type_map c.args.n c.second_at.result c.self.invariant.len c.second_at.ensures.value)
