pub mod SoloLemmas
pub mod ConservationLemmas
pub mod OrderLemmas
pub mod StepBoundLemmas
pub mod RefinementLemmas
pub mod TurnLemmas
