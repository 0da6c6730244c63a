pub mod Blanks
pub mod HourLines
pub mod Added
pub mod Found
