pub mod Changing
pub mod Failing
pub mod Updating
pub mod Reserving
