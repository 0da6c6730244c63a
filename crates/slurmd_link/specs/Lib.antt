pub mod Asked
pub mod Lines
pub mod Links
pub mod Reports
pub mod Runs
pub mod Turns
