-- What serves private contracts alone: no reader needs it to know what the crate does.
pub mod CivilView
pub mod DateWords
pub mod FieldKeys
pub mod FromParts
pub mod LawsBelow
pub mod ListSteps
pub mod RuleSteps
pub mod RuleView
pub mod Spellings
pub mod Steps
pub mod Verdicts
pub mod ZoneList
pub mod ZoneParts
pub mod ZoneSteps
