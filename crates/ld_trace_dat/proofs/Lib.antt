pub mod ManyLemmas
pub mod OptionLemmas
