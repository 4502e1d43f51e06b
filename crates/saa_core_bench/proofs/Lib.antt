pub mod BenchLemmas
pub mod Histories
