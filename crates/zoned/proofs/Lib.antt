mod OffsetTexts
mod OneOffset
mod PlacedSeconds
