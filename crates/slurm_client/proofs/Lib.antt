pub mod OneLines
pub mod Filling
pub mod Calls
pub mod Addresses
