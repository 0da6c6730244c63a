pub mod Holding
pub mod Keys
pub mod Reserving
pub mod Scontrol
pub mod Showing
pub mod Updating
pub mod Values
