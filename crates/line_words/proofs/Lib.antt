pub mod Dropping
pub mod Positions
pub mod Quotes
pub mod WordLemmas
