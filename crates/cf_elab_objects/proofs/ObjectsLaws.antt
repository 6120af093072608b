pub mod AliasLaws
pub mod BlockLaws
pub mod LinkLaws
pub mod NumberLaws
pub mod States
