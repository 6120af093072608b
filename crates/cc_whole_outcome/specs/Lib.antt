pub mod CMean
