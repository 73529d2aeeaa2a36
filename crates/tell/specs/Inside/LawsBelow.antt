-- The laws of phrases and zones that the answer to a line stands on.
use Rattle.timeline.specs.WallPromises.{OffsetsAreSmall}
use Rattle.zoneinfo64.specs.Promises.{ZonesPlaceAlike}
use Rattle.interim.specs.PlainFormLaws.{PlainFormsAreRead}
use Rattle.interim.specs.MeaningLaws.{PlainFormsAreInside, PlainFormsMean}

-- what the crates below prove of phrases and of zones
pub record LawsBelow : Type 0 where
  pub read : PlainFormsAreRead
  pub means : PlainFormsMean
  pub inside : PlainFormsAreInside
  pub small : OffsetsAreSmall
  pub alike : ZonesPlaceAlike
