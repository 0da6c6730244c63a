pub mod Daemon
pub mod Turn
