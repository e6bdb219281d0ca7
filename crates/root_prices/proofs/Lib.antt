pub mod ListLaws
pub mod KeptLaws
pub mod DoubleLaws
pub mod ReasonLaws
pub mod MeetingLaws
