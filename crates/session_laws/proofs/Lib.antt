pub mod Inputs
pub mod Ends
pub mod ScriptInputs
pub mod ScriptEnds
