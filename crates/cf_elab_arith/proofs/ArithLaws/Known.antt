-- What is known of values of integer types.
use Rattle.std.proofs.Common.{◌≡◌, ℕ, Bool, true, false, ◌||◌, ℤ, IsTrue, Option, None, Some, refl, subst, sym, if◌then◌else◌}
use Rattle.cf_base.specs.declared.kind.Kind.{Kind}
use Rattle.cf_base.specs.declared.arith.Arith.{Arith}
use Rattle.cf_base.specs.Integers.{fits}
use Rattle.cf_base.specs.Promotion.{usual}
use Rattle.cf_types.specs.Operators.{is_shift}
use Rattle.cf_types.specs.Table.{Table}
use Rattle.cf_elab.specs.Operand.{Value, Sort, integral, sort_of}
use Rattle.cf_elab.specs.Choice.{operand_kind, operator_kind}
use Rattle.cf_elab_env.specs.Holds.{Known, IsType, FitsIn, fits_sort}
use Rattle.cf_elab_fit.specs.NumbersNumbers.{NumberOf, TakesRight}

fits_in : (types : Table) (t : ℕ) (k : Kind) (n : Option ℤ) → sort_of types t ≡ integral k → NumberOf k n → FitsIn types t n
fits_in types t k None e f = tt
fits_in types t k (Some z) e f = let P : Sort → Type 0 = λ s. IsTrue (fits_sort s z) in subst P (sym e) f

-- a value of an integer type is known by its type and its number
pub integer_known : (types : Table) (v : Value) (k : Kind) → IsType types v.type → sort_of types v.type ≡ integral k → NumberOf k v.number → Known types v
integer_known types v k typed e f = record { typed = typed; number = fits_in types v.type k v.number e f }

taken : (b : Bool) (k u : Kind) (z : ℤ) → IsTrue (fits (if b then k else u) z) → IsTrue (b || fits u z)
taken true k u z h = refl
taken false k u z h = h

taken-right : (b : Bool) (l r u : Kind) (z : ℤ) → IsTrue (fits (if b then r else u) z) → IsTrue (b || fits (if b then l else u) z)
taken-right true l r u z h = refl
taken-right false l r u z h = h

-- the right operand, converted to its type, is taken
pub right_taken : (op : Arith) (l r : Kind) (n : Option ℤ) → NumberOf (operand_kind op l r) n → TakesRight op (operator_kind op l r) n
right_taken op l r None h = tt
right_taken op l r (Some z) h = taken-right (is_shift op) l r (usual l r) z h
