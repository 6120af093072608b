pub mod Rounds
pub mod Differs
pub mod EffectLaws
pub mod PartLaws
pub mod StatementLaws
pub mod BodyLaws
pub mod AlikeBodies
