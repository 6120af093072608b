-- What the crates above take of `cf_lower_leaves`.
pub use Rattle.cf_lower_leaves.proofs.After.{here-after}
pub use Rattle.cf_lower_leaves.proofs.Remains.{changed-keeps}
pub use Rattle.cf_lower_leaves.proofs.Setting.{IsSet, register-set}
