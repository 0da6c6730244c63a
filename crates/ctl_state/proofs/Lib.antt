pub mod Lists
pub mod Counts
pub mod Kept
pub mod Held
pub mod LetGo
pub mod Taken
pub mod Added
pub mod Shut
pub mod Indexed
pub mod Ordering
pub mod Choosing
pub mod Lasting
mod Holding
