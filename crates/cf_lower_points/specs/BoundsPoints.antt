-- What the crates above take of `cf_lower_bounds`.
pub use Rattle.cf_lower_bounds.specs.Points.{AllOpen, At, InFrame, IsOpen, Open, Point, Stands, Begun, Valued, local_count, point_at, these}
