pub mod Checks
mod Items
mod Main
mod Names
mod Program
mod Same
mod Spelled
mod Statements
mod Typed
mod Valid
mod Walk
mod Words
