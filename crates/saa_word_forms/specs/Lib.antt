pub mod Turns
pub mod Workers
pub use Rattle.saa_core_spec.specs.Held
pub use Rattle.saa_core_spec.specs.Object
pub use Rattle.saa_core_words.specs.Words
pub use Rattle.saa_core_guards.specs.Guards
pub use Rattle.saa_word_steps.specs.Needs
pub use Rattle.saa_word_steps.specs.Readings as WordReadings
pub use Rattle.saa_word_steps.specs.AbstractState
pub use Rattle.saa_word_steps.specs.Steps as WordSteps
pub use Rattle.saa_word_proofs.specs.Blocking
pub use Rattle.saa_word_proofs.specs.Calls
pub use Rattle.saa_word_proofs.specs.History as TraceHistory
pub use Rattle.saa_word_proofs.specs.Promises
pub use Rattle.saa_word_proofs.specs.Registering
pub use Rattle.saa_word_proofs.specs.Rows
pub use Rattle.saa_word_threads.specs.Semaphores as WordSemaphores
pub use Rattle.saa_word_threads.specs.Locks as WordLocks
pub use Rattle.saa_word_threads.specs.Public as WordCalls
pub use Rattle.saa_word_threads.specs.Called as WordEvents
pub use Rattle.saa_word_threads.specs.Moves as WordViews
pub use Rattle.saa_word_threads.specs.Dealt as WordPlaces
pub use Rattle.saa_word_threads.specs.Kept as WordHistory
pub use Rattle.saa_word_threads.specs.Visits as WordVisits
pub use Rattle.saa_word_threads.specs.Receipts as WordReceipts
