pub mod Rules
pub mod Typed
