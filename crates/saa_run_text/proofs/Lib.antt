pub mod BehindLemmas
pub mod FieldLemmas
pub mod FirstLemmas
pub mod LineLemmas
pub mod StepLemmas
pub mod TransferLemmas
