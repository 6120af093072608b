pub mod DeclaresLaws
pub mod DefinesLaws
pub mod StartsLaws
