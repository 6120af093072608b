-- What the crates above take of `cf_elab_declaration`.
unfoldable pub use Rattle.cf_elab_declaration.specs.Declarations.Shut.{IsBuilt, SpecifiersAreBuilt, declaration, words}
pub use Rattle.cf_elab_declaration.specs.Declarations.Shut.{specifier}
