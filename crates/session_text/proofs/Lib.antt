pub mod PlainBlocks
pub mod WordParts
pub mod WordTexts
