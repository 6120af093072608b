pub mod BoundLaws
pub mod FormLaws
pub mod ObjectLaws
pub mod ParameterLaws
pub mod SeenLaws
pub mod StepLaws
pub mod TypedLaws
pub mod VoidLaws
