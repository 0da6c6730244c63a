pub mod LineSteps
pub mod Order
pub mod Places
pub mod Taking
