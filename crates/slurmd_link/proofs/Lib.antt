pub mod Asking
pub mod Ends
pub mod Hearing
pub mod Labels
pub mod Servers
pub mod Turning
pub mod WordBytes
