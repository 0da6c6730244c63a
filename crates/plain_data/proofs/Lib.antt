pub mod Lowest
pub mod Ranges
pub mod Rising
pub mod Words
