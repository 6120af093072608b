pub mod Known
pub mod StepLaws
pub mod FitTruthLaws
