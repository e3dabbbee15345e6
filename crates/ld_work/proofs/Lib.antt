pub mod EvenLemmas
pub mod JobLemmas
pub mod SeenLemmas
