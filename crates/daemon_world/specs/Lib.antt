pub mod Worlds
pub mod Claims
pub mod Together
pub mod Leaving
pub mod Finals
pub mod Turns
pub mod Courses
