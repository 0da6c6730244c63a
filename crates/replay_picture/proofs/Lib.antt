mod Apart
mod Harmless
pub mod Marks
pub mod Sizes
pub mod Taken
pub mod Taking
