pub mod Lost
pub mod GivenBack
pub mod Named
pub mod Walked
pub mod Kept
pub mod Rising
pub mod Ways
pub mod Made
