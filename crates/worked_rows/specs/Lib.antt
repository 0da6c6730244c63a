pub mod Clusters
pub mod Folds
pub mod Sentences
