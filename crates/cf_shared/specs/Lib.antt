pub mod At
pub mod formers
