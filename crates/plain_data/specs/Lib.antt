pub mod Assocs
pub mod Confs
pub mod Rows
pub mod Elapsed
pub mod Limits
pub mod Ratios
pub mod Files
