pub mod AloneLaws
pub mod FittingLaws
pub mod StartLaws
pub mod MainLaws
pub mod ConstantLaws
pub mod AgreesLaws
