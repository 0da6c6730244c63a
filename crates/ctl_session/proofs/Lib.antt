pub mod Answering
pub mod Asking
pub mod Clocks
pub mod Joining
pub mod Serving
pub mod Turning
pub mod Working
