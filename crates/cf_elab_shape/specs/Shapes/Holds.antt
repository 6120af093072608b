-- What holds of declarators whose bounds and parameters are elaborated.
use Rattle.std.specs.Prelude.{None, ◌≡◌, ℕ, false, List, All}
use Rattle.cf_types.specs.Table.{Table, AreParameters}
use Rattle.cf_elab.specs.Operand.{sort_of, is_void}
use Rattle.cf_elab.specs.Shape.{Parameter, Shape, inner, pointing, referring, to_member, taking, holding}
use Rattle.cf_elab_env.specs.Holds.{IsType}

-- a parameter that is an object: its type is not void, which `(void)` and K26 see to (8.2.5); and that has no default argument, as none has so far
pub record IsParameter (types : Table) (p : Parameter) : Type 0 where
  pub typed : IsType types p.type
  pub object : is_void (sort_of types p.type) ≡ false
  pub no_default : p.default ≡ None

abbrev pub AreObjects : Table → List Parameter → Type 0
AreObjects types ps = All (λ p. IsParameter types p) ps

abbrev pub IsShape : Table → Shape → Type 0
IsShape types inner = Unit {0}
IsShape types (pointing at c s) = IsShape types s
IsShape types (referring at s) = IsShape types s
IsShape types (to_member at k c s) = IsShape types s
IsShape types (taking at ps c s) = AreObjects types ps × IsShape types s
IsShape types (holding at b s) = IsShape types s

-- types that may be those of the parameters in the type of a function
pub record AreTaken (types : Table) (ts : List ℕ) : Type 0 where
  pub typed : All (λ t. IsType types t) ts
  pub fine : AreParameters types.types ts
