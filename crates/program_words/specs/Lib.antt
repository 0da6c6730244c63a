pub mod Controller
pub mod Bare
pub mod Server
pub mod Periods
pub mod Asked
pub mod Words
pub mod Calling
