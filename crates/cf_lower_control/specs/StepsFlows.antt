-- What the crates above take of `cf_lower_steps`.
pub use Rattle.cf_lower_steps.specs.Flows.{Between, Leaves, Simulates, Ways}
