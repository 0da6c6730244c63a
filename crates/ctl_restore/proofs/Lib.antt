mod Openings
mod Rising
mod Held
mod Finding
mod Fitting
mod Seen
mod Users
mod Positions
mod Numbered
mod Planned
pub mod Gone
mod Reserved
mod Usages
mod Assembly
mod Tasks
mod Walking
mod Standing
