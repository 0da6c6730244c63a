pub mod Found
pub mod Records
pub mod Showing
pub mod Standing
