-- The definitions of the trace's bytes.
pub mod Answer
pub mod AnswerLaws
pub mod Number
pub mod NumberSteps
pub mod NumberLaws
pub mod Field
pub mod FieldLaws
pub mod Ranges
pub mod Record
pub mod RecordLaws
pub mod InsideLaws
