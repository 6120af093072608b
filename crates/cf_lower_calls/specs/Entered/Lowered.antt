-- What both programs have to have for all their functions to do the same: the C is lowered, names stand for what they stand for, and statements have what they need wherever a
-- function is entered.
use Rattle.std.specs.Prelude.{◌≡◌, ℕ, ◌≤◌, true, false, List, [], Some}
use Rattle.cf_core.specs.Types.{Name, is_class, parameters, result as result_type}
use Rattle.cf_core.specs.Core.{Function, plain_function}
use Rattle.cf_core.specs.Run.{State}
use Rattle.cf_core.specs.Calls.{function_named}
use Rattle.cf_core.specs.Objects.{static_number}
use Rattle.cf_plain.specs.Plain.{PlainFunction}
use Rattle.cf_plain.specs.Running.{plain_named, header}
use Rattle.cf_plain_frames.specs.Simple.{functions_simple}
use Rattle.cc_whole.specs.Plain as c_tree
use Rattle.cc_whole_locals.specs.Names.{is_local, is_parameter}
use Rattle.cc_whole_memory.specs.declared.value.Value.{Value}
use Rattle.cc_whole_memory.specs.Blocks.{Memory}
use Rattle.cc_whole_mean.specs.declared.named.Named.TheVariants as meant
use Rattle.cc_whole_mean.specs.declared.named.Shape.TheVariants.{Array as array}
use Rattle.cc_whole_mean.specs.Flow.{born_arguments}
use Rattle.cf_lower.specs.Kept.{Keeping, nothing_kept}
use Rattle.cf_lower.specs.Written.{literal_name}
use Rattle.cf_lower.specs.Functions.{lowered_parameters}
use Rattle.cf_lower_kept.specs.Opened.{parameters_open}
use Rattle.cf_lower_relate.specs.Map.{Map, Numbered}
use Rattle.cf_lower_steps.specs.Lowering.{is_function}
use Rattle.cf_lower_turns.specs.Around.{function}
use Rattle.cf_lower_turns.specs.Texts.{Text}
use Rattle.cf_lower_turns.specs.Scene.{Scene}
use Rattle.cf_lower_calls.specs.Returns.Called.{Programs, fixed, Pair, Entry, FunctionsAlike}
use Rattle.cf_lower_bounds.specs.Points.{point_at}
use Rattle.cf_lower_bounds.specs.Bounds.{NeededTo}
use Rattle.cf_lower_calls.specs.Born.Laid.{c_locals, own_of, flags_of, is_laid_out}
use Rattle.cf_lower_calls.specs.Entered.Linked.{linked_function}
use Rattle.cf_lower_calls.specs.Entered.Bodies.{scene_of, scope_in}

module _ (B : Programs) where
  -- of the programs: no classes, functions have numbers of their own, and the C's names of functions and literals stand for these
  pub record Fitting : Type 0 where
    pub none : B.program.classes ≡ []
    pub simple : functions_simple B.functions ≡ true
    pub numbered : Numbered (fixed B)
    pub named : (name : Name) → is_function B.program name ≡ true → B.c_program.names name ≡ Some (meant.Function (B.function name))
    pub typed : (name : Name) (f : Function) → function_named B.program name ≡ Some f → B.signature name ≡ f.type
    pub literals : (f : Name) (j : ℕ) (x : Text) → B.texts f j ≡ Some x → B.c_program.names (literal_name f j) ≡ Some (meant.Variable x.block array)

  -- none of the function's C locals has this name
  pub record IsOutside (f : PlainFunction) (name : Name) : Type 0 where
    pub locals : is_local name (c_locals B.program.classes f) ≡ false
    pub parameters : is_parameter name (lowered_parameters 0 (parameters f.type)) ≡ false

  -- of each function: its C is lowered, and its C locals hide no function, static object or literal
  pub record IsLowered (f : Function) (g : c_tree.Function) : Type 0 where
    pub plain : PlainFunction
    pub found : plain_named B.functions f.name ≡ Some plain
    pub is : f ≡ header plain
    pub role : plain.role ≡ plain_function
    pub scalar : is_class (result_type plain.type) ≡ false
    pub made : g ≡ linked_function B.program.classes plain
    pub laid : is_laid_out B.program.classes plain ≡ true
    pub functions : (name : Name) → is_function B.program name ≡ true → IsOutside plain name
    pub statics : (name : Name) (o : ℕ) → static_number B.program name ≡ Some o → IsOutside plain name
    pub literals : (j : ℕ) (x : Text) → B.texts plain.name j ≡ Some x → IsOutside plain (literal_name plain.name j)

  -- the function where it is entered with this map, memory and arguments
  abbrev pub entered_scene : PlainFunction → Map → Memory → List Value → ℕ → Scene
  entered_scene f E first cs depth =
      scene_of B f (own_of f first.next (born_arguments cs first).next) (flags_of f (born_arguments cs first).next)
      (scope_in B (linked_function B.program.classes f) (c_locals B.program.classes f) cs first) E first depth

  -- its statements have what they need up to a bound of ticks, from where its parameters have their values to where nothing stands
  pub record HasNeeds (n : ℕ) (f : PlainFunction) (E : Map) (first : Memory) (cs : List Value) (depth : ℕ) : Type 0 where
    pub last : Keeping
    pub needs : NeededTo (entered_scene f E first cs depth) n f.body function (point_at nothing_kept (parameters_open 0 (parameters f.type))) (point_at last [])

  abbrev pub AllLowered : Type 0
  AllLowered = (f : Function) (g : c_tree.Function) → Pair B f g → IsLowered f g

  -- up to a bound of ticks up to which functions do the same, the statements of all have what they need
  abbrev pub AllHaveNeeds : Type 0
  AllHaveNeeds =
      (n : ℕ) → ((k : ℕ) → k ≤ n → FunctionsAlike B k) → (f : PlainFunction) → plain_named B.functions f.name ≡ Some f → (E : Map) (s : State) (first : Memory) (os : List ℕ)
      (cs : List Value) (depth : ℕ) → Entry B (header f) E s first os cs → HasNeeds n f E first cs depth
