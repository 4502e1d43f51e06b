pub mod GatheringLemmas
pub mod FuturePolls
pub mod GrantingLemmas
pub mod WakesLemmas
pub mod LineLemmas
pub mod TicketLemmas
