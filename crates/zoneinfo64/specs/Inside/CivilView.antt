-- What a look-up by a wall second answers, as offsets alone.
use Rattle.timeline.specs.declared.offset.Offset.{Offset}
use Rattle.timeline.specs.declared.offset.PossibleOffset.{PossibleOffset}
use Rattle.timeline.specs.declared.offset.PossibleOffset.TheVariants as possible
use Rattle.zoned.specs.declared.offset.CivilOffset.{CivilOffset}
use Rattle.zoned.specs.declared.offset.CivilOffset.TheVariants as Civil

-- the offsets of a look-up's answer
abbrev pub civil_of : PossibleOffset → CivilOffset Offset
civil_of (possible.Single o) = Civil.Single o
civil_of (possible.Ambiguous before after transition) = Civil.Ambiguous before after
civil_of (possible.None before after transition) = Civil.Gap before after
