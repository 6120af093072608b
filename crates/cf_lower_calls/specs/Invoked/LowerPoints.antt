-- What the crates above take of `cf_lower_points`.
pub use Rattle.cf_lower_points.specs.Leading.{opened_behind, point_behind}
