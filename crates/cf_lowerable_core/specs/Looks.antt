-- The tests that need neither names nor the types of expressions, function by function and object by object.
use Rattle.std.specs.Prelude.{◌≡◌, ℕ, ◌^◌, Bool, true, ◌&&◌, ◌||◌, not, nat_le, ◌==◌, ℤ, List, [], ◌∷◌, length, is_some}
use Rattle.std.specs.List.{list_all}
use Rattle.cf_core.specs.Core.{Core, case_label, Function, Static, CoreFile}
use Rattle.cf_core.specs.Nodes.{nodes}
use Rattle.cf_core.specs.Types.{SourceType, is_void}
use Rattle.cf_lower_layout.specs.Sorts.{sort_of}
use Rattle.cf_lower_program.specs.Types.{is_laid, is_lowered}
use Rattle.cf_sequence_lowered.specs.Counts.{is_small, all_small, none_shared_and_local}
use Rattle.cf_sequence_lowered.specs.Labels.{labels_agree, all_labels_agree}
use Rattle.cf_sequence_lowered.specs.Operators.{operand_is_promoted, operands_are_promoted}
use Rattle.cf_sequence_lowered.specs.Texts.{literal_fits, literals_fit}
use Rattle.cf_sequence_lowered.specs.Types.{is_of_object, is_of_function, is_of_static, node_types_fit, core_types_fit}

-- Whether a function may be named or called, by the types of its parameters and of its result.

abbrev pub gives_scalar : SourceType → Bool
gives_scalar r = is_void r || is_some (sort_of r)

abbrev pub takes_scalars : List SourceType → Bool
takes_scalars ps = nat_le (length ps) (2 ^ 64) && list_all (λ p. is_some (sort_of p)) ps

abbrev pub parts_are_scalars : List SourceType → SourceType → Bool
parts_are_scalars ps r = takes_scalars ps && gives_scalar r

abbrev pub parts_are_laid : List SourceType → SourceType → Bool
parts_are_laid ps r = parts_are_scalars ps r && list_all is_laid ps

abbrev pub signature_looks : List SourceType → SourceType → Bool
signature_looks ps r = (list_all is_lowered ps && is_lowered r) && parts_are_laid ps r

-- whether the last of these is 0, or this where there is none
abbrev pub ends_in_zero : Bool → List ℕ → Bool
ends_in_zero before [] = before
ends_in_zero before (b ∷ bytes) = ends_in_zero (b == 0) bytes

-- a test of the number of a label
abbrev pub label_passes : (ℤ → Bool) → Core → Bool
label_passes test (case_label z) = test z
label_passes test e = true

-- a node of a function
abbrev pub node_looks : Core → Bool
node_looks e = node_types_fit e && (literal_fits e && labels_agree e)

abbrev pub type_of_function : Function → SourceType
type_of_function f = f.type

abbrev pub head_looks : Function → Bool
head_looks f = is_of_function f.type && (list_all is_of_object f.locals && not (f.is_shared && f.is_local))

abbrev pub body_looks : Function → Bool
body_looks f = is_small f && list_all node_looks (nodes f.body)

abbrev pub function_looks : Function → Bool
function_looks f = head_looks f && body_looks f

-- a node of the initialiser of a static object
abbrev pub start_looks : Core → Bool
start_looks e = node_types_fit e && (literal_fits e && operand_is_promoted e)

abbrev pub object_looks : Static → Bool
object_looks x = is_of_static x.type && not (x.is_shared && x.is_local)

abbrev pub static_looks : Static → Bool
static_looks x = object_looks x && list_all start_looks (nodes x.start)

abbrev pub looks : CoreFile → Bool
looks file = list_all function_looks file.functions && list_all static_looks file.statics

-- what these tests are together
pub record Looked (file : CoreFile) : Type 0 where
  pub types : core_types_fit file ≡ true
  pub operators : operands_are_promoted file ≡ true
  pub texts : literals_fit file ≡ true
  pub labels : all_labels_agree file ≡ true
  pub counts : all_small file ≡ true
  pub shared : none_shared_and_local file ≡ true
