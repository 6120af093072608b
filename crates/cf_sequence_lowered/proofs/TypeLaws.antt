-- Types: those of a core are those of its plain file.
use Rattle.std.proofs.Common.{◌≡◌, ℕ, Bool, true, ◌&&◌, not, List, [], ◌∷◌, ◌++◌, map, refl}
use Rattle.std.specs.List.{list_all, flat_map}
use Rattle.cf_base.proofs.Tests.{both, all_of}
use Rattle.cf_core.specs.Types.{SourceType, takes, parameters}
use Rattle.cf_core.specs.Core as core
use Rattle.cf_core.specs.Core.{Core, Function, Static, CoreFile}
use Rattle.cf_core.specs.Nodes.{nodes}
use Rattle.cf_plain.specs.Plain.{Action, PlainFunction, PlainStatic}
use Rattle.cf_plain.specs.Plain as plain
use Rattle.cf_sequence.specs.Built.{is_built_file}
use Rattle.cf_sequence.specs.Made.{makes, added}
use Rattle.cf_sequence.specs.Statements.{type_of_static}
use Rattle.cf_sequence.specs.Sequenced.{sequenced_function, sequenced_static, sequenced_file}
use Rattle.cf_sequence.proofs.Calling.{never}
use Rattle.cf_lower_kept.specs.Ready.{is_code}
use Rattle.cf_lower_program.specs.Types.{is_laid, is_lowered, is_callable, file_actions, types_at, types_in, is_well_typed, objects_laid, types_lowered}
use Rattle.cf_sequence_lowered.specs.Nodes.{in_file, in_functions, in_statics}
use Rattle.cf_sequence_lowered.specs.Types.{is_of_object, is_of_function, is_of_static, node_types_fit, core_types_fit}
use Rattle.cf_sequence_lowered.proofs.Each.{Each, each-two, each-as, each-of, all-of, each-both, each-flat, each-joined, each-mapped}
use Rattle.cf_sequence_lowered.proofs.Files.{AnyLabels, FunctionSuits, StaticSuits, actions-pass}
use Rattle.cf_sequence_lowered.proofs.Objects.{types-named}
use Rattle.cf_sequence_lowered.proofs.Suits.{Suits, Declared, Passed, Stays, is_neutral}

abbrev Fits : Action → Type 0
Fits a = (list_all is_lowered (types_at a) ≡ true) × (is_well_typed a ≡ true)

abbrev Node : Core → Type 0
Node e = node_types_fit e ≡ true

abbrev Low : SourceType → Type 0
Low t = is_lowered t ≡ true

abbrev Laid : SourceType → Type 0
Laid t = is_laid t ≡ true

neutral-fits : (a : Action) → is_neutral a ≡ true → Fits a
neutral-fits (plain.local i) ok = (refl, refl)
neutral-fits (plain.member r i) ok = (refl, refl)
neutral-fits (plain.read r) ok = (refl, refl)
neutral-fits (plain.dereference r) ok = (refl, refl)
neutral-fits (plain.decay r) ok = (refl, refl)
neutral-fits (plain.index r q) ok = (refl, refl)
neutral-fits (plain.truth r) ok = (refl, refl)
neutral-fits (plain.logical_not r) ok = (refl, refl)
neutral-fits (plain.pointer_operate op r q) ok = (refl, refl)
neutral-fits (plain.store r q) ok = (refl, refl)
neutral-fits (plain.first r q) ok = (refl, refl)
neutral-fits (plain.zeros r) ok = (refl, refl)
neutral-fits (plain.begin_list r) ok = (refl, refl)
neutral-fits (plain.end_list r) ok = (refl, refl)
neutral-fits (plain.reach name) ok = (refl, refl)
neutral-fits (plain.finish_static name) ok = (refl, refl)
neutral-fits a ok = never ok

-- one type alone
alone : (t : SourceType) → is_lowered t ≡ true → list_all is_lowered (t ∷ []) ≡ true
alone t ok = all_of (is_lowered t) true ok refl

low-parameters : (t : SourceType) → is_lowered t ≡ true → Each Low (parameters t)
low-parameters (takes p t) ok = let parts = both (is_lowered p) (is_lowered t) ok in (parts.0, low-parameters t parts.1)
low-parameters t ok = tt

-- the parts of what is asked
record OfFunction (t : SourceType) : Type 0 where
  low : is_lowered t ≡ true
  callable : is_callable t ≡ true
  laid : Each Laid (parameters t)

of-function : (t : SourceType) → is_of_function t ≡ true → OfFunction t
of-function t ok =
    let one = both (is_lowered t) (is_callable t && list_all is_laid (parameters t)) ok in
    let two = both (is_callable t) (list_all is_laid (parameters t)) one.1 in
    record { low = one.0; callable = two.0; laid = each-of is_laid (parameters t) two.1 }

stays : (i : ℕ) (t : SourceType) → is_lowered t ≡ true → Stays Fits AnyLabels Node 0 i t
stays i t ok = ((alone t ok, refl), (alone t ok, refl))

declared-parameters : (t : SourceType) → is_lowered t ≡ true → Each (Declared Fits AnyLabels Node 0) (parameters t)
declared-parameters t ok = each-as Low (Declared Fits AnyLabels Node 0) (parameters t) (λ p low i. (alone p low, refl)) (low-parameters t ok)

named-function : (t : SourceType) → is_of_function t ≡ true → (list_all is_lowered (t ∷ []) ≡ true) × (is_callable t ≡ true)
named-function t ok = let p = of-function t ok in (alone t (OfFunction.low p), OfFunction.callable p)

suits : Suits Fits AnyLabels Node 0
suits = record {
  neutral = neutral-fits;
  counter = λ i. (refl, refl);
  number = λ z u. (refl, refl);
  text = λ j bytes u. (refl, refl);
  static_object = λ name t u. let p = both (is_lowered t) (is_laid t && not (is_code t)) u in (alone t p.0, p.1);
  function = λ name t u. named-function t u;
  convert = λ t e r u. (alone t u, refl);
  from_void = λ t e r u. (alone t u, refl);
  operate = λ op k a b r q u. (refl, refl);
  unary = λ op k e r u. (refl, refl);
  update = λ a b change r q u. (refl, refl);
  step = λ is_postfix change e r q u. (refl, refl);
  temporary = λ t e i u. stays i t (both (is_lowered t) (is_laid t) u).0;
  declare = λ t e i u. stays i t u;
  held = λ t e i u. stays i t u;
  call = λ name t args k into u le. named-function t u;
  called = λ name t args u. named-function t u;
  passed = λ name t args u. declared-parameters t (OfFunction.low (of-function t u));
  pointer_call = λ e t args r k into u le. named-function t u;
  passed_on = λ e t args u. declared-parameters t (OfFunction.low (of-function t u));
  string = λ bytes r u. (refl, refl);
  switch = λ e es u. tt;
}

-- the locals that are added for a node
abbrev OfObject : SourceType → Type 0
OfObject t = Low t × Laid t

parameters-of : (t : SourceType) → is_of_function t ≡ true → Each OfObject (parameters t)
parameters-of t ok =
    let p = of-function t ok in each-both Low Laid OfObject (parameters t) (λ t low laid. (low, laid)) (low-parameters t (OfFunction.low p)) (OfFunction.laid p)

makes-fit : (e : Core) → Node e → Each OfObject (makes e)
makes-fit (core.call name t object args) u = parameters-of t u
makes-fit (core.virtual_call signature t e args) u = parameters-of t u
makes-fit (core.pointer_call object e t args) u = parameters-of t u
makes-fit (core.build name t args) u = parameters-of t u
makes-fit (core.temporary t e) u = (both (is_lowered t) (is_laid t) u, tt)
makes-fit e u = tt

-- what is asked of a function and of a static object
record FunctionFits (f : Function) : Type 0 where
  type : is_of_function f.type ≡ true
  locals : Each OfObject f.locals
  body : Each Node (nodes f.body)

record StaticFits (x : Static) : Type 0 where
  type : is_of_static x.type ≡ true
  start : Each Node (nodes x.start)

all-locals : (f : Function) → FunctionFits f → Each OfObject (f.locals ++ added (nodes f.body))
all-locals f fits =
    each-two OfObject f.locals (added (nodes f.body)) (FunctionFits.locals fits)
    (each-joined OfObject makes (nodes f.body) (each-as Node (λ (e : Core). Each OfObject (makes e)) (nodes f.body) makes-fit (FunctionFits.body fits)))

module _ (file : CoreFile) (built : is_built_file file ≡ true) (ok : core_types_fit file ≡ true) where
  abbrev functions_good : Bool
  functions_good = list_all (λ (f : Function). is_of_function f.type && list_all is_of_object f.locals) file.functions

  abbrev statics_good : Bool
  statics_good = list_all (λ (x : Static). is_of_static x.type) file.statics

  rest : (statics_good ≡ true) × (in_file node_types_fit file ≡ true)
  rest = both statics_good (in_file node_types_fit file) (both functions_good (statics_good && in_file node_types_fit file) ok).1

  nodes_good : (in_functions node_types_fit file ≡ true) × (in_statics node_types_fit file ≡ true)
  nodes_good = both (in_functions node_types_fit file) (in_statics node_types_fit file) rest.1

  functions-fit : Each FunctionFits file.functions
  functions-fit =
      each-both (λ (f : Function). is_of_function f.type && list_all is_of_object f.locals ≡ true) (λ (f : Function). list_all node_types_fit (nodes f.body) ≡ true) FunctionFits file.functions
      (λ f types body.
      let p = both (is_of_function f.type) (list_all is_of_object f.locals) types in
      record {
        type = p.0;
        locals = each-as (λ (t : SourceType). is_of_object t ≡ true) OfObject f.locals (λ t ok. both (is_lowered t) (is_laid t) ok) (each-of is_of_object f.locals p.1);
        body = each-of node_types_fit (nodes f.body) body;
      })
      (each-of (λ (f : Function). is_of_function f.type && list_all is_of_object f.locals) file.functions (both functions_good (statics_good && in_file node_types_fit file) ok).0)
      (each-of (λ (f : Function). list_all node_types_fit (nodes f.body)) file.functions nodes_good.0)

  statics-typed : Each (λ (x : Static). is_of_static x.type ≡ true) file.statics
  statics-typed = each-of (λ (x : Static). is_of_static x.type) file.statics rest.0

  statics-fit : Each StaticFits file.statics
  statics-fit =
      each-both (λ (x : Static). is_of_static x.type ≡ true) (λ (x : Static). list_all node_types_fit (nodes x.start) ≡ true) StaticFits file.statics
      (λ x type start. record { type = type; start = each-of node_types_fit (nodes x.start) start }) statics-typed
      (each-of (λ (x : Static). list_all node_types_fit (nodes x.start)) file.statics nodes_good.1)

  actions-fit : Each Fits (file_actions (sequenced_file file))
  actions-fit =
      actions-pass Fits Node suits file built
      (each-as FunctionFits (FunctionSuits Fits Node suits) file.functions
      (λ f fits. (
        FunctionFits.body fits,
        each-as Low (Passed Fits AnyLabels Node 0) (parameters f.type) (λ t low i. stays i t low) (low-parameters f.type (OfFunction.low (of-function f.type (FunctionFits.type fits)))),
      ))
      functions-fit)
      (each-both StaticFits (λ (x : Static). is_of_static (type_of_static file.statics x.name) ≡ true) (StaticSuits Fits Node suits file.statics) file.statics
      (λ x fits named.
      let t = type_of_static file.statics x.name in
      let p = both (is_lowered t) (is_laid t && not (is_code t)) named in
      (StaticFits.start fits, (alone t p.0, p.1)))
      statics-fit (types-named (λ (t : SourceType). is_of_static t ≡ true) file.statics statics-typed))

  abbrev function : Function → PlainFunction
  function f = sequenced_function file.classes file.statics f

  abbrev static : Static → PlainStatic
  static x = sequenced_static file.classes file.statics x

  lowered-types : Each Low (types_in (sequenced_file file))
  lowered-types =
      let fs : List SourceType = flat_map (λ (f : PlainFunction). f.type ∷ f.locals) (map function file.functions) in
      let xs : List SourceType = flat_map (λ (x : PlainStatic). x.type ∷ x.locals) (map static file.statics) in
      let in_actions : List SourceType = flat_map types_at (file_actions (sequenced_file file)) in
      each-two Low (fs ++ xs) in_actions
      (each-two Low fs xs
      (each-flat Low (λ (f : PlainFunction). f.type ∷ f.locals) function file.functions
      (each-as FunctionFits (λ (f : Function). Each Low (f.type ∷ (f.locals ++ added (nodes f.body)))) file.functions
      (λ f fits. (OfFunction.low (of-function f.type (FunctionFits.type fits)), each-as OfObject Low (f.locals ++ added (nodes f.body)) (λ t p. p.0) (all-locals f fits))) functions-fit))
      (each-flat Low (λ (x : PlainStatic). x.type ∷ x.locals) static file.statics
      (each-as StaticFits (λ (x : Static). Each Low (x.type ∷ added (nodes x.start))) file.statics
      (λ x fits. (
        (both (is_lowered x.type) (is_laid x.type && not (is_code x.type)) (StaticFits.type fits)).0,
        each-as OfObject Low (added (nodes x.start)) (λ t p. p.0)
            (each-joined OfObject makes (nodes x.start) (each-as Node (λ (e : Core). Each OfObject (makes e)) (nodes x.start) makes-fit (StaticFits.start fits))),
      )) statics-fit)))
      (each-joined Low types_at (file_actions (sequenced_file file))
      (each-as Fits (λ (a : Action). Each Low (types_at a)) (file_actions (sequenced_file file)) (λ a p. each-of is_lowered (types_at a) p.0) actions-fit))

  all-laid : objects_laid (sequenced_file file) ≡ true
  all-laid =
      let in_function : PlainFunction → Bool = λ f. is_callable f.type && list_all is_laid (parameters f.type ++ f.locals) in
      all_of (list_all in_function (map function file.functions)) (list_all (λ (x : PlainStatic). is_laid x.type) (map static file.statics))
      (all-of in_function (map function file.functions)
      (each-mapped (λ (f : PlainFunction). in_function f ≡ true) function file.functions
      (each-as FunctionFits (λ (f : Function). in_function (function f) ≡ true) file.functions
      (λ f fits.
      let p = of-function f.type (FunctionFits.type fits) in
      let locals : List SourceType = f.locals ++ added (nodes f.body) in
      all_of (is_callable f.type) (list_all is_laid (parameters f.type ++ locals)) (OfFunction.callable p)
      (all-of is_laid (parameters f.type ++ locals)
      (each-two Laid (parameters f.type) locals (OfFunction.laid p) (each-as OfObject Laid locals (λ t p. p.1) (all-locals f fits))))) functions-fit)))
      (all-of (λ (x : PlainStatic). is_laid x.type) (map static file.statics)
      (each-mapped (λ (x : PlainStatic). is_laid x.type ≡ true) static file.statics
      (each-as StaticFits (λ (x : Static). is_laid x.type ≡ true) file.statics
      (λ x fits. (both (is_laid x.type) (not (is_code x.type)) (both (is_lowered x.type) (is_laid x.type && not (is_code x.type)) (StaticFits.type fits)).1).0) statics-fit)))

  pub types-lowered : types_lowered (sequenced_file file) ≡ true
  types-lowered =
      let P = sequenced_file file in
      all_of (list_all is_lowered (types_in P) && list_all is_well_typed (file_actions P)) (objects_laid P)
      (all_of (list_all is_lowered (types_in P)) (list_all is_well_typed (file_actions P)) (all-of is_lowered (types_in P) lowered-types)
      (all-of is_well_typed (file_actions P) (each-as Fits (λ (a : Action). is_well_typed a ≡ true) (file_actions P) (λ a p. p.1) actions-fit))) all-laid
