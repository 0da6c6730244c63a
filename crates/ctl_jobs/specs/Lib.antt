pub mod Actions
pub mod Changing
pub mod Submission
pub mod OneNode
pub mod Drafts
pub mod Tallied
