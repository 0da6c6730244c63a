pub mod Answers
pub mod Clock
pub mod Meaning
pub mod Reading
pub mod Session
pub mod Turn
