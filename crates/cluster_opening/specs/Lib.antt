pub mod BadFiles
pub mod Cluster
pub mod Restoring
pub mod Files
pub mod Judging
pub mod SimulatedFiles
pub mod Renewing
