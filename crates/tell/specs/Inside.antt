-- What serves private contracts alone: no reader needs it to know what the program does.
pub mod Engines
pub mod FieldsView
pub mod LawsBelow
pub mod LoadTree
pub mod LocatedView
pub mod MomentView
pub mod ReplyParts
pub mod Tellers
