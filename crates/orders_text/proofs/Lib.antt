pub mod Adding
pub mod Cutting
pub mod Going
pub mod Heading
pub mod Launching
pub mod Parting
pub mod Runs
