pub mod ReadBody
