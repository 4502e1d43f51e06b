pub mod ScheduleLemmas
pub mod AnswerLemmas
pub mod KindLemmas
pub mod OpenLemmas
pub mod ReadingLemmas
pub mod RunLemmas
pub mod SpellingLemmas
pub mod WordLemmas
