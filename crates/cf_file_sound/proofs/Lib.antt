mod Files
mod Fitting
mod Formed
mod Joined
pub mod Lists
mod Meaning
mod Names
mod Objects
mod Rows
mod Simple
mod Standing
mod Typed
