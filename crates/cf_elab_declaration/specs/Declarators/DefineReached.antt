-- What the crates above take of `cf_elab_define`.
pub use Rattle.cf_elab_declare.specs.Defines.Reached.{maybe_reached}
