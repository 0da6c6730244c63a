pub mod Script
pub mod Behind
pub mod Leaving
