-- What a declarator's name is declared as, and whether in the file's own scope.
use Rattle.std.specs.Prelude.{Bool}
use Rattle.cf_elab.specs.Shape.{Shaped}
use Rattle.cf_elab_declare.specs.declared.declares.heads.Headed.{Headed as Held}
use Rattle.cf_elab_shape.specs.Shapes.Seen.{shaped_seen}

pub record Headed : Type 0 where
  pub in_file : Bool
  pub shaped : Shaped

abbrev pub headed_seen : Held → Headed
headed_seen h = record { in_file = h.in_file; shaped = shaped_seen h.shaped }
