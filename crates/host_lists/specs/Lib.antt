pub mod Counting
pub mod Folding
pub mod Found
pub mod Hosts
pub mod Refusals
pub mod Runs
