pub mod FirstLemmas
pub mod OrderLemmas
pub mod RowLemmas
pub mod ListLemmas
