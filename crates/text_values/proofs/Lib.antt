pub mod NodeLemmas
pub mod PartLemmas
pub mod WordLemmas
pub mod NameLemmas
pub mod SchedulerLemmas
