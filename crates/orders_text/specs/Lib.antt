pub mod Amounts
pub mod Drafts
pub mod Fields
pub mod Heads
pub mod Lines
pub mod Orders
pub mod Reading
