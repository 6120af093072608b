-- What is written for a scalar is what is written for its cell.
use Rattle.std.proofs.Common.{◌≡◌, ℕ, refl}
use Rattle.cc_whole.specs.declared.types.CType.{CType}
use Rattle.cc_whole.specs.Plain.{Expression}
use Rattle.cf_core.specs.Types.{Name}
use Rattle.cf_lower_layout.specs.Sorts.{Sort, number, address, code}
use Rattle.cf_lower.specs.Written.{c_type, register_name, register_type}
use Rattle.cf_lower.specs.Expressions.{in_register, as_value, as_stored, loaded}
use Rattle.cf_lower_names.specs.Cells.{sort_for, cell_of}

pub type_by_cell : (s : Sort) → c_type (sort_for (cell_of s)) ≡ c_type s
type_by_cell (number k) = refl
type_by_cell (address t) = refl
type_by_cell (code t) = refl

pub name_by_cell : (s : Sort) (r : ℕ) → register_name (sort_for (cell_of s)) r ≡ register_name s r
name_by_cell (number k) r = refl
name_by_cell (address t) r = refl
name_by_cell (code t) r = refl

pub register_by_cell : (s : Sort) (r : ℕ) → in_register (sort_for (cell_of s)) r ≡ in_register s r
register_by_cell (number k) r = refl
register_by_cell (address t) r = refl
register_by_cell (code t) r = refl

pub value_by_cell : (s : Sort) (e : Expression) → as_value (sort_for (cell_of s)) e ≡ as_value s e
value_by_cell (number k) e = refl
value_by_cell (address t) e = refl
value_by_cell (code t) e = refl

pub stored_by_cell : (s : Sort) (e : Expression) → as_stored (sort_for (cell_of s)) e ≡ as_stored s e
stored_by_cell (number k) e = refl
stored_by_cell (address t) e = refl
stored_by_cell (code t) e = refl

pub loaded_by_cell : (s : Sort) (e : Expression) → loaded (sort_for (cell_of s)) e ≡ loaded s e
loaded_by_cell (number k) e = refl
loaded_by_cell (address t) e = refl
loaded_by_cell (code t) e = refl
