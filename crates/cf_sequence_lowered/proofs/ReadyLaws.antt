-- Functions: where the nodes of a core are ready, its plain functions are ready for lowering.
use Rattle.std.proofs.Common.{◌≡◌, ℕ, zero, suc, ◌+◌, Bool, true, false, ◌&&◌, not, if◌then◌else◌, List, [], ◌∷◌, ◌++◌, map, length, reverse, refl, sym, ap, subst}
use Rattle.std.specs.Prelude.{Option, Some, None, slice_get}
use Rattle.std.specs.List.{list_all}
use Rattle.cf_base.proofs.Tests.{both, all_of}
use Rattle.cf_core.specs.Types.{SourceType, parameters, result, is_class}
use Rattle.cf_core.specs.Core as core
use Rattle.cf_core.specs.Core.{Core, Role, plain_function, Function, Static, CoreFile}
use Rattle.cf_core.specs.Nodes.{nodes}
use Rattle.cf_core.specs.Valid as valid
use Rattle.cf_core.specs.Valid.{Body, body_of, fits}
use Rattle.cf_plain.specs.Plain.{Plain, Plains, PlainFunction, act, set, branch, loop, switch, case_label, default_label, leave, continue, give, parts, nothing, more}
use Rattle.cf_plain_kept.specs.Kept.{Keeping, nothing_set, after, function_kept}
use Rattle.cf_lower_kept.specs.Ready.{names_well, names_well_if, ready, all_ready, function_ready, functions_ready}
use Rattle.cf_sequence.specs.Built.{is_built_file, is_plain_role, is_statement, arms_fit}
use Rattle.cf_sequence.specs.Made.{makes, added, declared, numbered}
use Rattle.cf_sequence.specs.Expressions.{finished}
use Rattle.cf_sequence.specs.Statements.{statement}
use Rattle.cf_sequence.specs.Sequenced.{inside, flowed_off, sequenced_body, sequenced_function, sequenced_file}
use Rattle.cf_sequence.proofs.Calling.{never}
use Rattle.cf_sequence_kept.proofs.Files.{file-keeps}
use Rattle.cf_sequence_valid.proofs.Stands.{stand-added, still-there}
use Rattle.cf_sequence_valid.proofs.Values as locals_of
use Rattle.cf_sequence_lowered.specs.Ready.{node_is_ready, function_is_ready, core_is_ready}
use Rattle.cf_sequence_lowered.proofs.Each.{Each, each-two, each-as, each-of, all-of, each-both, each-joined, each-mapped, each-unmapped}
use Rattle.cf_sequence_lowered.proofs.Files.{BuiltFunction, built-functions}
use Rattle.cf_sequence_lowered.proofs.ReadySteps.{Behind, Good, GoodAll, Alone, alone, before, good-some, runs-then, runs-finished}
use Rattle.cf_sequence_lowered.proofs.ReadyStatements.{Works, run-statement}

-- ---- statements that are good are ready

module _ (locals : List SourceType) (R : SourceType) where
  behind-ready : (rest : Plains) (o : Option Keeping) → ((h : Keeping) → GoodAll locals R rest h → all_ready locals R rest h ≡ true) → Behind o (λ h. GoodAll locals R rest h)
      → (elim o [ None ↦ false | Some h ↦ all_ready locals R rest h ]) ≡ true
  behind-ready rest None go ok = absurd ok
  behind-ready rest (Some h) go ok = go h ok

  mutual
    good-ready : (s : Plain) (g : Keeping) → Good locals R s g → ready locals R s g ≡ true
    good-ready (act a) g ok = ok
    good-ready (set r a) g ok = ok
    good-ready (branch r ss ts) g ok = all_of (all_ready locals R ss g) (all_ready locals R ts g) (good-all ss g ok.0) (good-all ts g ok.1)
    good-ready (loop ss ts) g ok = all_of (all_ready locals R ss nothing_set) (all_ready locals R ts nothing_set) (good-all ss nothing_set ok.0) (good-all ts nothing_set ok.1)
    good-ready (switch r ss) g ok = good-all ss nothing_set ok
    good-ready (parts ps) g ok = absurd ok
    good-ready (case_label z) g ok = refl
    good-ready default_label g ok = refl
    good-ready leave g ok = refl
    good-ready continue g ok = refl
    good-ready (give r) g ok = refl

    good-all : (ss : Plains) (g : Keeping) → GoodAll locals R ss g → all_ready locals R ss g ≡ true
    good-all nothing g ok = refl
    good-all (more s rest) g ok =
        all_of (ready locals R s g) _ (good-ready s g ok.0) (behind-ready rest (after locals R s g) (λ h ok. good-all rest h ok) ok.1)

-- ---- the names of locals

named-by : (ts : List SourceType) (i : ℕ) → Each (λ t. names_well t ≡ true) ts → names_well_if (slice_get ts i) ≡ true
named-by [] i u = refl
named-by (t ∷ ts) zero u = u.0
named-by (t ∷ ts) (suc i) u = named-by ts i u.1

module _ (file : CoreFile) (f : Function) where
  abbrev Ready : Core → Type 0
  Ready e = node_is_ready (Body.scope (body_of file f)) e ≡ true

  makes-named : (e : Core) → Ready e → Each (λ t. names_well t ≡ true) (makes e)
  makes-named (core.call name t object args) u = each-of names_well (parameters t) u
  makes-named (core.virtual_call signature t e args) u = each-of names_well (parameters t) u
  makes-named (core.pointer_call object e t args) u = each-of names_well (parameters t) u
  makes-named (core.build name t args) u = each-of names_well (parameters t) u
  makes-named (core.temporary t e) u = (u, tt)
  makes-named e u = tt

negated : (b : Bool) → not b ≡ true → b ≡ false
negated true e = never e
negated false e = refl

plain-statement : (body : Body) (role : Role) (e : Core) → is_plain_role role ≡ true → valid.body_fits body role e ≡ true → fits body false false e ≡ true
plain-statement body plain_function e ok is = is
plain-statement body role e ok is = never ok

together : (xs ys zs : List SourceType) → (xs ++ ys) ++ zs ≡ xs ++ (ys ++ zs)
together [] ys zs = refl
together (x ∷ xs) ys zs = ap (λ l. x ∷ l) (together xs ys zs)

module _ (file : CoreFile) where
  abbrev function : Function → PlainFunction
  function f = sequenced_function file.classes file.statics f

  record Asked (f : Function) : Type 0 where
    form : BuiltFunction f
    fitting : valid.function_fits file f ≡ true
    ready_one : function_is_ready file f ≡ true
    kept_one : function_kept (function f) ≡ true

  function-is-ready : (f : Function) → Asked f → function_ready (function f) ≡ true
  function-is-ready f a =
      let own : List SourceType = parameters f.type ++ f.locals in
      let extra : List SourceType = added (nodes f.body) in
      let locals : List SourceType = parameters f.type ++ (f.locals ++ extra) in
      let fitting = both _ (valid.body_fits (body_of file f) f.role f.body) (Asked.fitting a) in
      let stated = is_statement (length (parameters f.type)) f.body in
      let forms = both (not (is_class (result f.type))) (stated && arms_fit (length (parameters f.type) + length f.locals) f.body) (BuiltFunction.body (Asked.form a)) in
      let stands = (both stated (arms_fit (length (parameters f.type) + length f.locals) f.body) forms.1).0 in
      let scalar : is_class (result f.type) ≡ false = negated (is_class (result f.type)) forms.0 in
      let keeps : locals_of.Kept (Body.scope (body_of file f)) locals =
      record { kept = λ i t e. subst (λ l. slice_get l i ≡ Some t) (together (parameters f.type) f.locals extra) (still-there own extra i t e) } in
      let parts = both (list_all names_well own) (list_all (node_is_ready (Body.scope (body_of file f))) (nodes f.body)) (Asked.ready_one a) in
      let nodes_ready : Each (Ready file f) (nodes f.body) = each-of (node_is_ready (Body.scope (body_of file f))) (nodes f.body) parts.1 in
      let all_named : Each (λ (t : SourceType). names_well t ≡ true) locals =
      subst (Each (λ (t : SourceType). names_well t ≡ true)) (together (parameters f.type) f.locals extra)
      (each-two (λ (t : SourceType). names_well t ≡ true) own extra (each-of names_well own parts.0)
      (each-joined (λ (t : SourceType). names_well t ≡ true) makes (nodes f.body)
      (each-as (Ready file f) (λ (e : Core). Each (λ (t : SourceType). names_well t ≡ true) (makes e)) (nodes f.body) (makes-named file f) nodes_ready))) in
      let R : SourceType = result f.type in
      let w : Works (body_of file f) locals keeps (λ i. named-by locals i all_named) f.body =
      run-statement (body_of file f) locals keeps (λ i. named-by locals i all_named) f.body (length (parameters f.type)) false false stands
      (plain-statement (body_of file f) f.role f.body (BuiltFunction.plain_role (Asked.form a)) fitting.1) nodes_ready in
      let k : ℕ = length (parameters f.type) + length f.locals in
      let F : Plains → Plains = statement (inside file.classes file.statics f) f.body k in
      let flowed : Plains = finished (reverse (numbered 0 (parameters f.type))) nothing in
      let ends : Alone locals R (flowed_off f) =
      subst (λ b. Alone locals R (if b then nothing else flowed)) (sym scalar)
      (alone locals R (finished (reverse (numbered 0 (parameters f.type)))) (runs-finished locals R (reverse (numbered 0 (parameters f.type))))) in
      let whole : Alone locals R (sequenced_body file.classes file.statics f) =
      before locals R (λ rest. F (finished (declared f.body) rest)) (flowed_off f)
      (runs-then locals R F (finished (declared f.body)) (Works.code w (inside file.classes file.statics f) scalar k (stand-added (parameters f.type) f.locals extra))
      (runs-finished locals R (declared f.body))) ends in
      good-all locals R (sequenced_body file.classes file.statics f) nothing_set
      (good-some locals R (sequenced_body file.classes file.statics f) nothing_set whole (Asked.kept_one a))

module _ (file : CoreFile) (is : valid.valid_file file ≡ true) (built : is_built_file file ≡ true) where
  fitting-functions : Each (λ (f : Function). valid.function_fits file f ≡ true) file.functions
  fitting-functions =
      each-of (valid.function_fits file) file.functions
      (both _ (list_all (valid.function_fits file) file.functions) (both _ (list_all (valid.static_fits file) file.statics) is).0).1

  kept-functions : Each (λ (f : Function). function_kept (function file f) ≡ true) file.functions
  kept-functions =
      each-unmapped (λ (f : PlainFunction). function_kept f ≡ true) (function file) file.functions (each-of function_kept (map (function file) file.functions) (file-keeps file is built))

  pub functions-are-ready : core_is_ready file ≡ true → functions_ready (sequenced_file file) ≡ true
  functions-are-ready ok =
      let one : Each (λ (f : Function). BuiltFunction f × (valid.function_fits file f ≡ true)) file.functions =
      each-both BuiltFunction (λ (f : Function). valid.function_fits file f ≡ true) (λ (f : Function). BuiltFunction f × (valid.function_fits file f ≡ true)) file.functions (λ f a b. (a, b))
      (built-functions file built) fitting-functions in
      let two : Each (λ (f : Function). (function_is_ready file f ≡ true) × (function_kept (function file f) ≡ true)) file.functions =
      each-both (λ (f : Function). function_is_ready file f ≡ true) (λ (f : Function). function_kept (function file f) ≡ true)
      (λ (f : Function). (function_is_ready file f ≡ true) × (function_kept (function file f) ≡ true)) file.functions (λ f a b. (a, b)) (each-of (function_is_ready file) file.functions ok)
      kept-functions in
      all-of function_ready (map (function file) file.functions)
      (each-mapped (λ (f : PlainFunction). function_ready f ≡ true) (function file) file.functions
      (each-both (λ (f : Function). BuiltFunction f × (valid.function_fits file f ≡ true))
      (λ (f : Function). (function_is_ready file f ≡ true) × (function_kept (function file f) ≡ true)) (λ (f : Function). function_ready (function file f) ≡ true) file.functions
      (λ f a b. function-is-ready file f (record { form = a.0; fitting = a.1; ready_one = b.0; kept_one = b.1 })) one two))
