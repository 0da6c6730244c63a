pub mod Requests
pub mod Reading
pub mod Calling
pub mod Address
