pub mod Causes
pub mod MadePrograms
pub mod Meanings
pub mod Pieces
pub mod Runs
pub mod Unhindered
pub mod WordLists
