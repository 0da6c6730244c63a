pub mod Compared
pub mod Found
pub mod Handed
pub mod HoursLemmas
pub mod Order
pub mod Places
