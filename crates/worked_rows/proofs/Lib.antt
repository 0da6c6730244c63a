pub mod Opened
pub mod Bytes
pub mod Groups
pub mod Meaning
pub mod Modes
pub mod Numbers
pub mod Reading
pub mod Runs
