pub mod FieldsLemmas
pub mod LineLemmas
pub mod NumberLemmas
