pub mod Pairs
pub mod Maps
pub mod Filters
pub mod Sums
pub mod Ranges
pub mod Elements
pub mod Numbers
