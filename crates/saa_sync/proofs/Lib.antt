pub mod MutexSteps
