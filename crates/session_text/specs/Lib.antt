pub mod Moments
pub mod Texts
pub mod Said
pub mod Heard
pub mod Blocks
pub mod CallTexts
pub mod Scripts
pub mod Actions
