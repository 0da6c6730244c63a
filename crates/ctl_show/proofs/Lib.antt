pub mod Bounded
pub mod Gathered
pub mod Ranked
pub mod RowOf
pub mod Stands
pub mod Walked
