pub mod Controllers
pub mod Headers
pub mod Servers
