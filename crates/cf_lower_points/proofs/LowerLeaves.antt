-- What the crates above take of `cf_lower_leaves`.
pub use Rattle.cf_lower_actions.proofs.LowerLeaves.{IsSet, changed-keeps, here-after, register-set}
