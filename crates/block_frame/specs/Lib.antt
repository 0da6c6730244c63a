pub mod Attachments
pub mod Frames
pub mod Grammar
pub mod LineFeeds
pub mod Looking
pub mod Replies
pub mod State
