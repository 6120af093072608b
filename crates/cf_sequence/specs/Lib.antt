pub mod Made
pub mod Expressions
pub mod Statements
pub mod Built
pub mod Sequenced
pub mod Follows
