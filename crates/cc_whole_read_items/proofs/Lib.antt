pub mod PrototypeLaws
pub mod InitialLaws
pub mod ItemLaws
pub mod ItemReads
pub mod AlikeItems
pub mod Honest
pub mod HonestReads
pub mod WholeLaws
