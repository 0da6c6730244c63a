pub mod Telling
pub mod Working
pub mod Answered
pub mod Talk
pub mod Turns
pub mod Plain
pub mod Lines
