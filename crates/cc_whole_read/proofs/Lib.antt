pub mod Answering
pub mod Numbered
pub mod OneAnswer
pub mod ReadBack
pub mod SpelledTrees
mod Telling
mod Wide
