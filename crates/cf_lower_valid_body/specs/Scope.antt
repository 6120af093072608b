-- What names stand for where the C statements of a plain function stand, and what is asked of each of its actions.
use Rattle.std.specs.Prelude.{◌≡◌, ℕ, ◌<◌, Bool, true, false, ◌&&◌, not, List, [], ◌∷◌, ◌++◌, Option, Some, None, length, slice_get}
use Rattle.std.specs.List.{list_all}
use Rattle.cf_core.specs.Types.{Name, SourceType, parameters, result as result_type}
use Rattle.cf_lower_layout.specs.Sorts.{Sort, sort_of}
use Rattle.cf_plain.specs.Plain.{Action, text, static_object, function, call, pointer_call, Plains, PlainFunction}
use Rattle.cf_plain.specs.Named.{all_actions}
use Rattle.cf_plain.specs.Valid as plain
use Rattle.cf_plain_kept.specs.Kept.{function_kept}
use Rattle.cc_whole.specs.declared.types.CType.{CType}
use Rattle.cc_whole.specs.declared.types.CType.TheVariants as ty
use Rattle.cc_whole.specs.declared.types.CVariableType.{CVariableType}
use Rattle.cc_whole.specs.declared.types.CVariableType.TheVariants as variable
use Rattle.cc_whole.specs.declared.unit.CPrototype.{CPrototype}
use Rattle.cc_whole.specs.Plain.{Statement, in_order}
use Rattle.cc_whole.specs.Types.{value_type, local_type, signature_of}
use Rattle.cc_whole.specs.Fault.{Checks, fine}
use Rattle.cc_whole.specs.Known.{Named, Known, lookup, is_main, function as a_function, object}
use Rattle.cc_whole.specs.Statements.{checked_statements}
use Rattle.cf_lower.specs.Kept.{nothing_kept}
use Rattle.cf_lower.specs.Written.{c_type, register_type, int_constant, variable_type, result_of, local_name, register_name, flag_name, result_name, literal_name}
use Rattle.cf_lower.specs.Written as written
use Rattle.cf_lower.specs.Statements.{signature, all_lowered, no_value}
use Rattle.cf_lower.specs.Functions.{all_bound, all_nesting, inside}
use Rattle.cf_lower_kept.specs.Ready.{function_ready, is_code}
use Rattle.cf_lower_program.specs.Types.{is_lowered, is_well_typed, types_at}
use Rattle.cf_lower_program.specs.Starts.{text_fits}
use Rattle.cf_lower_program.specs.Labels.{all_labels_fit}

-- it is so of each
abbrev pub Each : {A : Type 0} → (A → Type 0) → List A → Type 0
Each P [] = Unit {0}
Each P (x ∷ xs) = P x × Each P xs

-- ---- a function's own names: parameters and locals of these types, registers and flags below these numbers

pub record Own (names : List Named) (types : List SourceType) (registers flags : ℕ) : Type 0 where
  pub register : (s : Sort) (r : ℕ) → r < registers → lookup names (register_name s r) ≡ Some (object (variable.Scalar (register_type s)))
  pub flag : (d : ℕ) → d < flags → lookup names (flag_name d) ≡ Some (object (variable.Scalar ty.Int))
  pub local : (i : ℕ) (t : SourceType) → slice_get types i ≡ Some t → lookup names (local_name i) ≡ Some (object (local_type (written.local_type [] t)))

-- ---- names of the file

-- an object with a value of this type
pub record NamesObject (names : List Named) (name : Name) (t : CType) : Type 0 where
  pub type : CVariableType
  pub means : lookup names name ≡ Some (object type)
  pub value : value_type type ≡ t

-- a function of this type, which may be named
pub record NamesFunction (names : List Named) (name : Name) (t : SourceType) : Type 0 where
  pub prototype : CPrototype
  pub means : lookup names name ≡ Some (a_function prototype)
  pub signature : signature_of prototype ≡ signature t
  pub not_main : is_main name ≡ false

-- the C local for what a function of this type gives, if that is something
abbrev pub TakesResult : List Named → SourceType → Type 0
TakesResult names t =
    (s : Sort) → sort_of (result_type t) ≡ Some s → lookup names (result_name (c_type s)) ≡ Some (object (variable.Scalar (c_type s)))

-- what an action of a function of this name names
abbrev pub Names : List Named → Name → Action → Type 0
Names names f (text j b) = NamesObject names (literal_name f j) ty.Pointer
Names names f (static_object name t) = NamesObject names name (value_type (variable_type [] t))
Names names f (function name t) = NamesFunction names name t
Names names f (call name t on is into) = NamesFunction names name t × TakesResult names t
Names names f (pointer_call on r t is into) = TakesResult names t
Names names f a = Unit {0}

abbrev pub is_lowered_action : Action → Bool
is_lowered_action a = list_all is_lowered (types_at a) && is_well_typed a && text_fits a

pub record Fits (names : List Named) (f : Name) (a : Action) : Type 0 where
  pub lowered : is_lowered_action a ≡ true
  pub names_it : Names names f a

-- ---- functions

-- at a statement of a function that is no helper
abbrev pub standing : List Named → Option CType → Bool → Bool → Known
standing names result breaks continues =
    record { names = names; in_helper = false; result = result; in_loop = continues; may_break = breaks }

-- objects are laid out, none is a function
abbrev pub is_local_type : SourceType → Bool
is_local_type t = is_lowered t && not (is_code t)

pub record Stands (names : List Named) (f : PlainFunction) : Type 0 where
  pub kept : function_kept f ≡ true
  pub ready : function_ready f ≡ true
  pub fit : plain.all_fit (parameters f.type ++ f.locals) false false f.body ≡ true
  pub labels : all_labels_fit f.body ≡ true
  pub types : list_all is_local_type (parameters f.type ++ f.locals) ≡ true
  pub actions : Each (Fits names f.name) (all_actions f.body)
  pub own : Own names (parameters f.type ++ f.locals) (all_bound f.body) (all_nesting f.body)

-- the statements of a function's C
abbrev pub statements_of : PlainFunction → List Statement
statements_of f = all_lowered f.body (inside [] f) nothing_kept ++ no_value (result_type f.type)

abbrev pub BodyIsValid : List Named → PlainFunction → Type 0
BodyIsValid names f =
    checked_statements (in_order (statements_of f)) (standing names (result_of (result_type f.type)) false false) ≡ fine
