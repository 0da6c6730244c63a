pub mod Inputs
pub mod ScriptInputs
