pub mod Sizes
pub mod Operating
pub mod Step
pub mod Entries
pub mod Answering
pub mod Views
