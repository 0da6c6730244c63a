pub mod Order
pub mod Sizes
