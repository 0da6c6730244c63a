pub mod Heading
pub mod Malformed
pub mod Orders
pub mod Refusal
pub mod Text
