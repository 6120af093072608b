-- An object whose name is declared, and whose initialiser comes next.
use Rattle.std.specs.Prelude.{ℕ, Bool}
use Rattle.cf_elab_declare.specs.declared.declares.begun.Begun.{Begun as Held}
use Rattle.cf_elab_declare.specs.declared.declares.begun.Begun.TheVariants as held
use Rattle.cf_elab_declare.specs.Defines.Reached.{StaticNames, names_seen}

pub data Begun : Type 0 where
  only_declared : Begun
  of_file : Bool → Begun  -- whether its name is local to the file
  static_local : StaticNames → Begun
  local : ℕ → Begun

abbrev pub begun_seen : Held → Begun
begun_seen held.Declared = only_declared
begun_seen (held.InFile internal) = of_file internal
begun_seen (held.Static n) = static_local (names_seen n)
begun_seen (held.Local i) = local i
