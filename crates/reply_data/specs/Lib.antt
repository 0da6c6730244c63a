pub mod ShortName
pub mod Starts
