pub mod CivilLemmas
pub mod DigitsLemmas
pub mod FieldsLemmas
pub mod MomentLemmas
