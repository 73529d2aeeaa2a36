use Rattle.std.proofs.Common.{w64, sym, ap, ◌∙◌}
use Rattle.std.proofs.lemmas.Int.{to_z-of_z}
use Rattle.timeline.specs.Timeline.{before_entry}
use Rattle.timeline.proofs.LookupsBySecond.{offset_by_table}
use Rattle.timeline.proofs.lookups.table_offset_from.Goals as goal

pub returns : goal.returns
returns g c lawful before =
    let second = to_z-of_z w64 c.args.second c.ranges.second in
    let place = rw second at (c.table_place.ensures.place lawful.order) in
    c.before_entry.ensures ∙ ap (before_entry c.args.zone.now) place ∙ sym (offset_by_table _ _ lawful before)
