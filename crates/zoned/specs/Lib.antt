pub mod Answers
pub mod CivilAnswers
pub mod Days
pub mod Moment
pub mod Offsets
pub mod Placing
pub mod Texts
