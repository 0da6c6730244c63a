pub mod Desks
pub mod Following
pub mod Rounds
pub mod Running
pub mod Turning
pub mod Working
