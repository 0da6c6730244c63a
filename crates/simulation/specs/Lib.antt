pub mod Simulation
pub mod Run
