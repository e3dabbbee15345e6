pub mod CountLemmas
pub mod JoinLemmas
pub mod PieceLemmas
