pub mod Entered
pub mod Entering
pub mod Following
pub mod Owning
pub mod Staying
