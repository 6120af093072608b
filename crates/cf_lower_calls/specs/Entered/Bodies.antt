-- What a function of both programs has to have for its callers to rely on it: its C is made of its plain statements, and these have what they need wherever it is
-- entered.
use Rattle.std.specs.Prelude.{◌≡◌, ℕ, false, List, [], ◌++◌, Some}
use Rattle.cf_core.specs.Types.{is_class, parameters, result as result_type}
use Rattle.cf_core.specs.Core.{Function, plain_function}
use Rattle.cf_core.specs.Run.{State}
use Rattle.cf_lower_layout.specs.Sorts.{sort_of}
use Rattle.cf_plain.specs.Plain.{PlainFunction}
use Rattle.cf_plain.specs.Running.{plain_named, header}
use Rattle.cc_whole.specs.Plain as c_tree
use Rattle.cc_whole.specs.declared.statement.CLocal.{CLocal}
use Rattle.cc_whole.specs.Plain.{body, in_order}
use Rattle.cc_whole_memory.specs.declared.value.Value.{Value}
use Rattle.cc_whole_memory.specs.Blocks.{Memory}
use Rattle.cc_whole_mean.specs.Flow.{born_arguments, born_locals}
use Rattle.cc_whole_mean.specs.Scope.{Scope, bind_parameters, bind_locals}
use Rattle.cf_lower.specs.Kept.{Keeping, nothing_kept}
use Rattle.cf_lower.specs.Functions.{inside}
use Rattle.cf_lower.specs.Statements.{all_lowered, no_value}
use Rattle.cf_lower_kept.specs.Opened.{parameters_open}
use Rattle.cf_lower_relate.specs.Map.{Map}
use Rattle.cf_lower_steps.specs.Own.{Own}
use Rattle.cf_lower_turns.specs.Around.{function}
use Rattle.cf_lower_turns.specs.Flags.{Flags}
use Rattle.cf_lower_turns.specs.Scene.{Scene}
use Rattle.cf_lower_calls.specs.Invoked.LowerActions.{Fits}
use Rattle.cf_lower_calls.specs.Returns.Called.{Programs, fixed, Pair, Entry}
use Rattle.cf_lower_calls.specs.Frames.Frame.{body_of, Frame, TypesFit}
use Rattle.cf_lower_bounds.specs.Points.{point_at}
use Rattle.cf_lower_bounds.specs.Bounds.{NeededTo}

-- a function that was entered with this map and memory, where so many more may be entered
abbrev pub scene_of : Programs → PlainFunction → Own → Flags → Scope → Map → Memory → ℕ → Scene
scene_of B f own flags scope E first depth = record {
  program = B.program;
  functions = B.functions;
  function = B.function;
  signature = B.signature;
  c_program = B.c_program;
  body = body_of own flags scope B.texts E first;
  inside = inside B.program.classes f;
  result = sort_of (result_type f.type);
  helper = false;
  depth = depth;
}

module _ (B : Programs) where
  -- the C locals behind the parameters are named so
  abbrev pub scope_in : c_tree.Function → List CLocal → List Value → Memory → Scope
  scope_in g locals cs first =
      bind_locals locals (born_arguments cs first).next (bind_parameters g.prototype.parameters first.next B.c_program.names)

  -- where it is entered, its C frame is born, and its statements have what they need up to a bound of ticks
  pub record BodyFits (n : ℕ) (f : PlainFunction) (g : c_tree.Function) (locals : List CLocal) (E : Map) (first : Memory) (cs : List Value) (depth : ℕ) : Type 0 where
    pub own : Own
    pub flags : Flags
    pub frame : Frame (fixed B) own flags (scope_in g locals cs first) first cs (born_locals locals (born_arguments cs first))
    pub typed : TypesFit own (parameters f.type)
    pub fits : Fits (scene_of B f own flags (scope_in g locals cs first) E first depth)
    pub last : Keeping
    pub needs : NeededTo (scene_of B f own flags (scope_in g locals cs first) E first depth) n f.body function
        (point_at nothing_kept (parameters_open 0 (parameters f.type))) (point_at last [])

  -- the plain function of this name, and what its C is made of
  pub record FunctionFits (n : ℕ) (f : Function) (g : c_tree.Function) : Type 0 where
    pub plain : PlainFunction
    pub found : plain_named B.functions f.name ≡ Some plain
    pub is : f ≡ header plain
    pub role : plain.role ≡ plain_function
    pub scalar : is_class (result_type plain.type) ≡ false
    pub locals : List CLocal
    pub made : g.body
        ≡ body locals (in_order (all_lowered plain.body (inside B.program.classes plain) nothing_kept ++ no_value (result_type plain.type)))
    pub entered : (E : Map) (s : State) (first : Memory) (os : List ℕ) (cs : List Value) (depth : ℕ) → Entry B f E s first os cs
        → BodyFits n plain g locals E first cs depth

  -- all functions of both programs have that
  abbrev pub AllFit : ℕ → Type 0
  AllFit n = (f : Function) (g : c_tree.Function) → Pair B f g → FunctionFits n f g
