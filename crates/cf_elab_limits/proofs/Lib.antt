pub mod ByteLaws
pub mod SinceLaws
pub mod WithinLaws
