-- Files: what is so of each node of a built file is told of each action of its plain file.
use Rattle.std.proofs.Common.{◌≡◌, ◌+◌, Bool, true, ◌&&◌, ◌||◌, not, List, map, length, arith}
use Rattle.std.specs.Prelude.{ℤ, bytes_eq, codes}
use Rattle.std.specs.List.{list_all, flat_map}
use Rattle.cf_base.proofs.Tests.{both}
use Rattle.cf_core.specs.Types.{parameters}
use Rattle.cf_core.specs.Core.{Core, Function, Static, CoreFile}
use Rattle.cf_core.specs.Nodes.{nodes}
use Rattle.cf_plain.specs.Plain.{Action, PlainFunction, PlainStatic}
use Rattle.cf_plain.specs.Plain as plain
use Rattle.cf_plain.specs.Named.{all_actions}
use Rattle.cf_sequence.specs.Built.{is_built_file, is_built_function, is_built_static, is_body, is_chain, is_plain_role, is_none}
use Rattle.cf_sequence.specs.Statements.{type_of_static}
use Rattle.cf_sequence.specs.Sequenced.{sequenced_body, sequenced_start, sequenced_function, sequenced_static, sequenced_file}
use Rattle.cf_sequence.proofs.OwnNames.{is_own}
use Rattle.cf_lower_program.specs.Types.{file_actions}
use Rattle.cf_sequence_lowered.proofs.Each.{Each, each-two, each-of, each-flat, each-as, each-both}
use Rattle.cf_sequence_lowered.proofs.Functions.{function-passes, start-passes, registers_of, width_of, space-of}
use Rattle.cf_sequence_lowered.proofs.Suits.{Suits, Passed}
use Rattle.cf_sequence_lowered.proofs.Told.{all-actions-pass}

-- a built function
pub record BuiltFunction (f : Function) : Type 0 where
  pub plain_role : is_plain_role f.role ≡ true
  pub chain : is_chain f.type ≡ true
  pub body : is_body f ≡ true

built-function : (f : Function) → is_built_function f ≡ true → BuiltFunction f
built-function f ok =
    let main_ok : Bool = not (bytes_eq f.name (codes "__main")) || is_none (parameters f.type) in
    let one = both (is_plain_role f.role) (is_chain f.type && (main_ok && is_body f)) ok in
    let two = both (is_chain f.type) (main_ok && is_body f) one.1 in
    record { plain_role = one.0; chain = two.0; body = (both main_ok (is_body f) two.1).1 }

module _ (file : CoreFile) (built : is_built_file file ≡ true) where
  rest-built : (is_none file.classes ≡ true) × (list_all (is_own file.statics) file.statics && list_all is_built_function file.functions ≡ true)
  rest-built = both (is_none file.classes) (list_all (is_own file.statics) file.statics && list_all is_built_function file.functions) built

  pub no-classes : is_none file.classes ≡ true
  no-classes = rest-built.0

  pub built-functions : Each BuiltFunction file.functions
  built-functions =
      each-as (λ (f : Function). is_built_function f ≡ true) BuiltFunction file.functions built-function
      (each-of is_built_function file.functions (both (list_all (is_own file.statics) file.statics) (list_all is_built_function file.functions) rest-built.1).1)

  pub built-statics : Each (λ (x : Static). is_built_static file.statics x ≡ true) file.statics
  built-statics =
      each-as (λ (x : Static). is_own file.statics x ≡ true) (λ (x : Static). is_built_static file.statics x ≡ true) file.statics (λ x ok. (both (is_built_static file.statics x) _ ok).0)
      (each-of (is_own file.statics) file.statics (both (list_all (is_own file.statics) file.statics) (list_all is_built_function file.functions) rest-built.1).0)

-- any labels will do
abbrev pub AnyLabels : List ℤ → Type 0
AnyLabels zs = Unit {0}

module _ (T : Action → Type 0) (U : Core → Type 0) (suits : Suits T AnyLabels U 0) where
  -- what is asked of a function, and of a static object, beside its nodes
  abbrev pub FunctionSuits : Function → Type 0
  FunctionSuits f = Each U (nodes f.body) × Each (Passed T AnyLabels U 0) (parameters f.type)

  abbrev pub StaticSuits : List Static → Static → Type 0
  StaticSuits all x = Each U (nodes x.start) × T (plain.static_object x.name (type_of_static all x.name))

  pub function-actions : (file : CoreFile) (f : Function) → BuiltFunction f → FunctionSuits f → Each T (all_actions (sequenced_body file.classes file.statics f))
  function-actions file f built u =
      let es : List Core = nodes f.body in
      all-actions-pass T AnyLabels (registers_of es) (sequenced_body file.classes file.statics f) (length es)
      (function-passes T AnyLabels U (registers_of es) 0 (width_of es) suits (length es) file.classes file.statics f built.body u.0 u.1
      (space-of 0 (length (parameters f.type) + length f.locals) es (omega arith)))

  pub start-actions : (file : CoreFile) (x : Static) → is_built_static file.statics x ≡ true → StaticSuits file.statics x → Each T (all_actions (sequenced_start file.classes file.statics x))
  start-actions file x built u =
      let es : List Core = nodes x.start in
      all-actions-pass T AnyLabels (registers_of es) (sequenced_start file.classes file.statics x) (length es)
      (start-passes T AnyLabels U (registers_of es) 0 (width_of es) suits (length es) file.classes file.statics x built u.0 u.1 (space-of 0 0 es (omega arith)) (omega arith))

  -- the actions of a file
  pub actions-pass : (file : CoreFile) → is_built_file file ≡ true → Each FunctionSuits file.functions → Each (StaticSuits file.statics) file.statics
      → Each T (file_actions (sequenced_file file))
  actions-pass file built fs xs =
      each-two T (flat_map (λ (f : PlainFunction). all_actions f.body) (map (sequenced_function file.classes file.statics) file.functions))
      (flat_map (λ (x : PlainStatic). all_actions x.start) (map (sequenced_static file.classes file.statics) file.statics))
      (each-flat T (λ (f : PlainFunction). all_actions f.body) (sequenced_function file.classes file.statics) file.functions
      (each-both BuiltFunction FunctionSuits (λ (f : Function). Each T (all_actions (sequenced_body file.classes file.statics f))) file.functions (function-actions file)
      (built-functions file built) fs))
      (each-flat T (λ (x : PlainStatic). all_actions x.start) (sequenced_static file.classes file.statics) file.statics
      (each-both (λ (x : Static). is_built_static file.statics x ≡ true) (StaticSuits file.statics) (λ (x : Static). Each T (all_actions (sequenced_start file.classes file.statics x))) file.statics
      (start-actions file) (built-statics file built) xs))
