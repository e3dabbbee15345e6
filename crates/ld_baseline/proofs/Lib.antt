pub mod FieldLemmas
pub mod KnownLemmas
pub mod MatchLemmas
pub mod NewsLemmas
pub mod LineLaws
