pub mod BadWord
pub mod Names
pub mod Operands
pub mod Pairs
pub mod Starts
pub mod Targets
pub mod Format
pub mod Refusals
