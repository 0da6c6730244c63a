pub mod Restored
pub mod Fits
pub mod Steps
pub mod Parts
pub mod Refusals
