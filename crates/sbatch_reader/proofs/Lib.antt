pub mod JobLemmas
pub mod ArrayLemmas
pub mod DependencyLemmas
pub mod MarkLemmas
pub mod PartLemmas
