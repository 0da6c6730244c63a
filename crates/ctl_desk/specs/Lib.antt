pub mod History
pub mod Desk
