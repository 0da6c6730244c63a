pub mod Fronts
pub mod Finds
pub mod Reading
pub mod Telling
