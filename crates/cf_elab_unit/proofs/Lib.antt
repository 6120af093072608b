pub mod BodyLaws
pub mod DefinitionsLaws
pub mod UnitLaws
