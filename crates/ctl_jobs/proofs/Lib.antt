pub mod Naming
pub mod Refusing
pub mod Changed
pub mod Keeping
pub mod Unlike
pub mod Indexed
pub mod Made
pub mod Refused
pub mod Deciding
pub mod SubmissionKeeping
mod Unended
pub mod Named
pub mod OneNode
