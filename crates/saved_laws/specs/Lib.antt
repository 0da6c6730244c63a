pub mod Rooms
pub mod Kept
pub mod Gone
pub mod Scripts
