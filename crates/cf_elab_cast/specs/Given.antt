-- The arguments behind a type (5.2.3).
use Rattle.std.specs.Prelude.{List, [], ◌∷◌}
use Rattle.cf_elab.specs.Operand.{Value}
use Rattle.cf_elab_cast.specs.declared.arguments.Given.{Given}
use Rattle.cf_elab_cast.specs.declared.arguments.Given.TheVariants as given

abbrev pub given_by : List Value → Given
given_by [] = given.None
given_by (v ∷ []) = given.One v
given_by (v ∷ w ∷ vs) = given.Several
