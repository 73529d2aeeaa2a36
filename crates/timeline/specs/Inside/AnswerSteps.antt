-- What single transitions say of a second and of a wall second. Serves private contracts alone.
use Rattle.std.specs.Prelude.{if◌then◌else◌, int_lt, List, [], ◌∷◌, Option, Some, None, unwrap_or, ℤ, ◌+ℤ◌}
use Rattle.timeline.specs.declared.offset.Offset.{Offset}
use Rattle.timeline.specs.declared.offset.Transition.{Transition}
use Rattle.timeline.specs.declared.offset.PossibleOffset.{PossibleOffset}
use Rattle.timeline.specs.declared.offset.PossibleOffset.TheVariants as possible
use Rattle.timeline.specs.Timeline.{offset_of}

-- what a transition says of a wall second, with what holds before it: that this holds, where the wall second is before both
-- walls; its two sides, where it is between them; and nothing where it is after both
abbrev pub answer_by : ℤ → Offset → Transition → Option PossibleOffset
answer_by w before e =
    if int_lt w (e.since +ℤ before.offset)
    then Some (if int_lt w (e.since +ℤ e.offset) then possible.Single before else possible.Ambiguous before (offset_of e) e.since)
    else (if int_lt w (e.since +ℤ e.offset) then Some (possible.None before (offset_of e) e.since) else None)

-- what the first of some transitions in a row says that says something, or else what the last one brings
unfoldable pub answer_from : ℤ → Offset → List Transition → PossibleOffset
answer_from w before [] = possible.Single before
answer_from w before (e ∷ later) = unwrap_or (answer_by w before e) (answer_from w (offset_of e) later)

-- what the two transitions of a year bring at a second, with what holds before the first
abbrev pub offset_in_year : ℤ → Offset → Transition → Transition → Offset
offset_in_year t before first second =
    if int_lt t first.since then before else (if int_lt t second.since then offset_of first else offset_of second)
