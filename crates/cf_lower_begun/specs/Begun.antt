-- What stands in both programs before constant initialisers take effect: each static object in the variable of its number, zeroed (3.4,
-- 8.4), and in each variable of a literal its bytes (2.5.4).
use Rattle.std.specs.Prelude.{◌≡◌, ℕ, ◌≤◌, true, List, length, Option, Some, None, slice_get}
use Rattle.cf_core.specs.Types.{SourceType}
use Rattle.cf_core.specs.Classes.{Class}
use Rattle.cf_core.specs.Core.{Static}
use Rattle.cf_core.specs.Calls.{Program}
use Rattle.cf_core.specs.Objects.{literal_of}
use Rattle.cf_core.specs.Program.{static_object_of, length_of}
use Rattle.cc_whole.specs.declared.unit.CInitialiser.TheVariants as initialiser
use Rattle.cc_whole.specs.declared.unit.CVariable.{CVariable}
use Rattle.cc_whole_memory.specs.Blocks.{Block}
use Rattle.cc_whole_mean.specs.Types.{variable_size}
use Rattle.cf_lower_layout.specs.Layout.{LaidOut}
use Rattle.cf_lower.specs.Written.{variable_type}
use Rattle.cf_lower.specs.Functions.{but_last}
use Rattle.cf_lower_program.specs.Starts.{is_text}
use Rattle.cf_lower_relate.specs.Map.{Fixed, Map, shown}
use Rattle.cf_lower_relate.specs.Relation.{InCells}

-- each static object in the block of its number
abbrev pub static_map : Program → Map
static_map P = record {
  count = length_of P.statics;
  block = λ o. o;
  base = λ o. 0;
  type = λ o. (static_object_of P.classes (slice_get P.statics o)).type;
  stage = λ o. shown;
}

-- the variable of an object of this type, which has no initialiser
pub record VariableOf (classes : List Class) (t : SourceType) (v : Option CVariable) : Type 0 where
  pub one : CVariable
  pub is : v ≡ Some one
  pub type : one.ty ≡ variable_type classes t
  pub start : one.initialiser ≡ None

-- the first variables are those of static objects, which are laid out
pub record StaticsFirst (P : Program) (vs : List CVariable) : Type 0 where
  pub laid : (o : ℕ) (x : Static) → slice_get P.statics o ≡ Some x → LaidOut P.classes x.type
  pub variables : (o : ℕ) (x : Static) → slice_get P.statics o ≡ Some x → VariableOf P.classes x.type (slice_get vs o)

-- the bytes of a literal stand in a block
pub record HasText (K : Fixed) (F : Map) (bytes : List ℕ) (x : Option Block) : Type 0 where
  pub block : Block
  pub is : x ≡ Some block
  pub room : length bytes ≤ block.size
  pub cells : InCells K F (literal_of bytes) 0 block.cells

-- the variable of a literal: its initialiser leaves out the ending 0
pub record TextVariable (bytes : List ℕ) (v : CVariable) : Type 0 where
  pub ends : is_text bytes ≡ true
  pub start : v.initialiser ≡ Some (initialiser.Text (but_last bytes))
  pub room : length bytes ≤ variable_size v.ty
