pub use Rattle.saa_core_spec.specs.Held
pub use Rattle.saa_core_spec.specs.Object
pub use Rattle.saa_core_spec.specs.Values
pub use Rattle.saa_core_spec.specs.Settling
pub use Rattle.saa_core_spec.specs.Asking
pub use Rattle.saa_core_spec.specs.Polling
pub use Rattle.saa_core_spec.specs.Semaphore
pub use Rattle.saa_core_spec.specs.Lock
pub use Rattle.saa_core_spec.specs.Gate
pub use Rattle.saa_core_spec.specs.Barrier
pub use Rattle.saa_core_spec.specs.Run
pub use Rattle.saa_core_laws.specs.Laws
pub use Rattle.saa_core_laws.specs.RunLaws
pub use Rattle.saa_core_laws.specs.Registrations
pub use Rattle.saa_core_laws.specs.Steps
pub use Rattle.saa_core_laws.specs.Leaders
pub use Rattle.saa_core_laws.specs.Conservation
pub use Rattle.saa_core_laws.specs.WholeRuns
pub use Rattle.saa_core_words.specs.Words
pub use Rattle.saa_core_guards.specs.Guards
pub use Rattle.saa_core_words.specs.Links
pub use Rattle.saa_core.specs.BarrierInvariant
pub use Rattle.saa_core.specs.Futures
pub use Rattle.saa_core.specs.GateInvariant
pub use Rattle.saa_core.specs.GatePolls
pub use Rattle.saa_core.specs.GateParts
pub use Rattle.saa_core.specs.Waiters
pub use Rattle.saa_core.specs.GatheringParts
pub use Rattle.saa_core.specs.CoreParts
pub use Rattle.saa_core.specs.MainWord
pub use Rattle.saa_core_bench.specs.History
pub use Rattle.saa_core.specs.Slots
pub use Rattle.saa_core.specs.LockCalls
pub use Rattle.saa_core.specs.SemaphoreInvariant
pub use Rattle.saa_core.specs.Tickets
pub use Rattle.saa_core.specs.Beginning
pub use Rattle.saa_sync.specs.Forms
pub use Rattle.saa_sync.specs.UnderMutex
pub use Rattle.saa_core_waits.specs.Waits
pub use Rattle.saa_core_waits.specs.FutureStates
pub use Rattle.saa_sync.specs.BarrierAnswers
pub use Rattle.saa_sync.specs.GateAnswers
pub use Rattle.saa_sync.specs.LockAnswers
pub use Rattle.saa_sync.specs.SemaphoreAnswers
pub use Rattle.saa_sync_pool.specs.Refusals as PoolRefusals
pub use Rattle.saa_sync_queue.specs.HandedBack as QueueItems
pub use Rattle.saa_sync_queue.specs.Refusals as QueueRefusals
pub use Rattle.saa_word_steps.specs.Needs
pub use Rattle.saa_word_steps.specs.Readings as WordReadings
pub use Rattle.saa_word_steps.specs.AbstractState
pub use Rattle.saa_word_steps.specs.Steps as WordSteps
pub use Rattle.saa_word_proofs.specs.Blocking
pub use Rattle.saa_word_proofs.specs.Calls
pub use Rattle.saa_word_proofs.specs.History as TraceHistory
pub use Rattle.saa_word_proofs.specs.Promises
pub use Rattle.saa_word_proofs.specs.Registering
pub use Rattle.saa_word_proofs.specs.Represents
pub use Rattle.saa_word_proofs.specs.Rows
pub use Rattle.saa_word.specs.Kinds
pub use Rattle.saa_word.specs.Machine
pub use Rattle.saa_word.specs.Moves
pub use Rattle.saa_word.specs.Runs
pub use Rattle.saa_word.specs.Trace
pub use Rattle.saa_word.specs.Tracks
pub use Rattle.saa_word.specs.Simulation
pub use Rattle.saa_word.specs.Solo
pub use Rattle.saa_word_threads.specs.Semaphores as WordSemaphores
pub use Rattle.saa_word_threads.specs.Locks as WordLocks
pub use Rattle.saa_word_threads.specs.Public as WordCalls
pub use Rattle.saa_word_threads.specs.Called as WordEvents
pub use Rattle.saa_word_threads.specs.Moves as WordViews
pub use Rattle.saa_word_threads.specs.Dealt as WordPlaces
pub use Rattle.saa_word_threads.specs.Kept as WordHistory
pub use Rattle.saa_word_threads.specs.Visits as WordVisits
pub use Rattle.saa_word_threads.specs.Receipts as WordReceipts
pub use Rattle.saa_word_forms.specs.Turns as WordTurns
pub use Rattle.saa_word_forms.specs.Workers as WordWorkers
pub use Rattle.saa_word_pool.specs.Pools as WordPools
pub use Rattle.saa_word_lock_free.specs.Answers as LockFreeAnswers
pub use Rattle.saa_word_lock_free.specs.Calls as LockFreeCalls
pub use Rattle.saa_word_lock_free.specs.Forms as LockFreeForms
pub use Rattle.saa_word_lock_free.specs.KeptAs as LockFreeKeptAs
pub use Rattle.saa_word_lock_free.specs.LockCalls as LockFreeLockCalls
pub use Rattle.saa_word_lock_free.specs.OfLock as LockFreeLocks
pub use Rattle.saa_word_lock_free.specs.OfSemaphore as LockFreeSemaphores
pub use Rattle.saa_word_lock_free.specs.Places as LockFreePlaces
pub use Rattle.saa_word_lock_free.specs.Registered as LockFreeRegistrations
pub use Rattle.saa_word_lock_free.specs.SemaphoreCalls as LockFreeSemaphoreCalls
