-- The laws of zones that the places and offsets of a bundle's zones stand on.
use Rattle.timeline.specs.WallPromises.{WallSecondsShow, OffsetsAreSmall}
use Rattle.timeline.specs.OffsetPromises.{OffsetsChangeAtEntries, EntriesChangeOffsets, SidesHoldAtTheTwo}

-- what `timeline` proves of lawful zones
pub record LawsBelow : Type 0 where
  pub shows : WallSecondsShow
  pub small : OffsetsAreSmall
  pub changes : OffsetsChangeAtEntries
  pub sides : EntriesChangeOffsets
  pub two : SidesHoldAtTheTwo
