use Rattle.std.proofs.Common.{◌≡◌}
use Rattle.timeline.proofs.Apart.{small_zone}
use Rattle.timeline.proofs.data.ZoneData.has_small_offsets.Goals as goal

pub returns : goal.returns
returns c = λ t.
    let inside = c.self.inside in
    let same : c.as_slice.result.now ≡ inside.type_offsets.items = c.as_slice.ensures.value in
    rw (← c.self.view_is) (small_zone inside.seconds inside.rule inside.type_offsets.items inside.type_map inside.links c.self.invariant (rw same at (c.are_small_pairs.ensures.0 t)))
