-- Arguments, and calls of functions that are no members (5.2.2).
use Rattle.std.proofs.Common.{◌≡◌, ℕ, zero, suc, ◌-◌, ◌<◌, Bool, true, false, ◌&&◌, ◌||◌, length, if◌then◌else◌, List, [], ◌∷◌, ◌++◌, map, drop, Option, Some, None, slice_get, get_or, unwrap_or, IsTrue, All, refl, sym, ap, subst, ◌∙◌, true≢false, arith}
use Rattle.std.proofs.lemmas.List.{append-nil}
use Rattle.std.proofs.lemmas.List.Elements.{All-head, All-tail}
use Rattle.std.proofs.lemmas.Option.{slice_get-get_or, slice_get_within}
use Rattle.cf_types.specs.Table.{AreParameters, is_parameter, passes, passing, parts_of_fun}
use Rattle.cf_types.specs.declared.ty.Fun.{Fun}
use Rattle.cf_types.specs.declared.ty.Ty.{Ty}
use Rattle.cf_types.specs.declared.ty.Ty.TheVariants as ty
use Rattle.cf_classes.specs.TypeTree.{params_of, fun_of}
use Rattle.cf_convert.specs.Constness.{type_at, bare}
use Rattle.cf_core.specs.declared.node.Core.{Core as Node}
use Rattle.cf_core.specs.declared.node.Core.TheVariants as node
use Rattle.cf_core.specs.FromClasses.{signature_of}
use Rattle.cf_core.specs.FromTypes.{type_step, fun_type, taking}
use Rattle.cf_core.specs.Numbers.{are_known, has_type, all_of}
use Rattle.cf_core.specs.Places.{is_reference as tree_is_reference}
use Rattle.cf_core.specs.Typed.{typing, typings, fit}
use Rattle.cf_core.specs.Types.{SourceType, void, integer, enumeration, class, pointer, reference, array, takes, gives, data_member, function_member, const, is_void, parameters, result}
use Rattle.cf_core.specs.Typing.{of_result, is_function}
use Rattle.cf_core.specs.View.{listed}
use Rattle.cf_core_typed.specs.Same.{is_operand, is_normal}
use Rattle.cf_core_typed.specs.Meets.{IsPlace, IsValue}
use Rattle.cf_core_typed.proofs.Calls.{call-is, result-place, result-value, is_plain_result}
use Rattle.cf_core_typed.proofs.Same.{and-both}
use Rattle.cf_elab.specs.Answer.{Made, onward, need, each}
use Rattle.cf_elab.specs.Arguments.{with_arguments, defaulted, fun_at, result_of}
use Rattle.cf_elab.specs.Call as row
use Rattle.cf_elab.specs.Complete.{complete}
use Rattle.cf_elab.specs.Env.{Env, FunctionEntry, Default}
use Rattle.cf_elab.specs.Initial.{no_keeper}
use Rattle.cf_elab.specs.Operand.{Value, result_step, place_of, computed}
use Rattle.cf_elab.specs.UserFit.{initial, arguments}
use Rattle.cf_elab_env.proofs.Growth.{here}
use Rattle.cf_elab_env.proofs.Sorts.{below_at}
use Rattle.cf_elab_valid.specs.Answers.{Fine}
use Rattle.cf_elab_valid.specs.Scene.{Scene, IsScene, tree, typed, core, scope_of, Within, Steps, Inside, Classless, Holds, EntryFits, AllFit}
use Rattle.cf_elab_valid.proofs.Arithmetic.{IsOperand, plain-operand}
use Rattle.cf_elab_valid.proofs.Early.{early-bare, early-inside, early-known}
use Rattle.cf_elab_valid.proofs.Initial.{StartFits, initial-fine}
use Rattle.cf_elab_valid.proofs.Nodes.{core-Call, known-Call}
use Rattle.cf_elab_valid.proofs.Trees.{tree-at, tree-normal}
use Rattle.cf_elab_valid.proofs.Values.{value-plain, place-fits, has_type-is}
use Rattle.cf_elab_valid.proofs.Ways.{begins-get, fits-later, inside-later, made-fine, onward-fine, within-before, When}

abbrev pub ParamsFit : Scene → Env → List ℕ → Type 0
ParamsFit s e [] = Unit {0}
ParamsFit s e (p ∷ ps) = Inside e p × (is_void (tree s p) ≡ false) × ParamsFit s e ps

params-later : (s : Scene) (a b : Env) (ps : List ℕ) → Steps a b → ParamsFit s a ps → ParamsFit s b ps
params-later s a b [] g f = tt
params-later s a b (p ∷ ps) g f = (inside-later a b p g f.0, f.1, params-later s a b ps g f.2)

pub all-later : (s : Scene) (a b : Env) (vs : List Value) → Steps a b → AllFit s a vs → AllFit s b vs
all-later s a b [] g f = tt
all-later s a b (v ∷ vs) g f = (fits-later s a b v g f.0, all-later s a b vs g f.1)

-- initialisers of the parameters, where there are as many values as parameters
pub record ArgumentsFit (s : Scene) (ps : List ℕ) (vs : List Value) (ns : List Node) (e : Env) : Type 0 where
  pub numbers : all_of s.tables (map (are_known s.tables) ns) ≡ true
  pub starts : length vs ≡ length ps → fit (scope_of s) (map (tree s) ps) (typings (scope_of s) (listed (map (core s) ns))) ≡ true

module _ (s : Scene) (scene : IsScene s) where
  with_arguments-fine : (at : ℕ) (ps : List ℕ) (vs : List Value) (e : Env) → Classless e → When s e (Holds s e) → When s e (ParamsFit s e ps) → When s e (AllFit s e vs)
      → Fine s (ArgumentsFit s ps vs) e (with_arguments (initial no_keeper) at ps vs e)
  with_arguments-fine at [] vs e c h pf vf = made-fine s (ArgumentsFit s [] vs) e [] c h (λ w. record { numbers = refl; starts = λ _. refl })
  with_arguments-fine at (p ∷ ps) [] e c h pf vf = made-fine s (ArgumentsFit s (p ∷ ps) []) e [] c h (λ w. record { numbers = refl; starts = λ n. absurd (omega (arith, n)) })
  with_arguments-fine at (p ∷ ps) (v ∷ vs) e c h pf vf =
      onward-fine s (StartFits s (tree s p)) (ArgumentsFit s (p ∷ ps) (v ∷ vs)) e (initial no_keeper at p v e) _ (initial-fine s scene e v c h (λ w. (vf w).0) at p (λ w. (pf w).0) (λ w. (pf w).1))
      (λ x e1 g1 c1 h1 q. onward-fine s (ArgumentsFit s ps vs) (ArgumentsFit s (p ∷ ps) (v ∷ vs)) e1 (with_arguments (initial no_keeper) at ps vs e1) (λ rest f. Made (x.node ∷ rest) f)
      (with_arguments-fine at ps vs e1 c1 h1 (λ w. params-later s e e1 ps g1 (pf (within-before e e1 s g1 w)).2) (λ w. all-later s e e1 vs g1 (vf (within-before e e1 s g1 w)).1))
      (λ rest e2 g2 c2 h2 r. made-fine s (ArgumentsFit s (p ∷ ps) (v ∷ vs)) e2 (x.node ∷ rest) c2 h2
      (λ w. let first = q (within-before e1 e2 s g2 w) in record {
        numbers = and-both (are_known s.tables x.node) (all_of s.tables (map (are_known s.tables) rest)) first.numbers (r w).numbers;
        starts = λ n. and-both ((typed s x.node).start (tree s p)) (fit (scope_of s) (map (tree s) ps) (typings (scope_of s) (listed (map (core s) rest)))) first.starts ((r w).starts (omega (arith, n)));
      })))

  none_dropped : (n : ℕ) (ds : List Default) → ds ≡ [] → drop n ds ≡ []
  none_dropped zero ds e = e
  none_dropped (suc n) ds e = subst (λ l. drop (suc n) l ≡ []) (sym e) refl

  -- without default arguments
  pub arguments-fine : (at : ℕ) (ps : List ℕ) (ds : List Default) (vs : List Value) (e : Env) → ds ≡ [] → Classless e → When s e (Holds s e) → When s e (ParamsFit s e ps) → When s e (AllFit s e vs)
      → Fine s (ArgumentsFit s ps vs) e (arguments at ps ds vs e)
  arguments-fine at ps ds vs e none c h pf vf =
      onward-fine s (ArgumentsFit s ps vs) (ArgumentsFit s ps vs) e (with_arguments (initial no_keeper) at ps vs e) _ (with_arguments-fine at ps vs e c h pf vf)
      (λ given e1 g c1 h1 q. subst (λ l. Fine s (ArgumentsFit s ps vs) e1 (onward (each defaulted l e1) (λ rest f. Made (given ++ rest) f))) (sym (none_dropped (length ds - (length ps - length vs)) ds none))
      (subst (λ l. Fine s (ArgumentsFit s ps vs) e1 (Made l e1)) (sym (append-nil given)) (made-fine s (ArgumentsFit s ps vs) e1 given c1 h1 q)))

  -- ---- what a call gives

  plain_result : (u : SourceType) → is_operand u ≡ true → is_plain_result u ≡ true
  plain_result void h = refl
  plain_result (integer k) h = refl
  plain_result (enumeration n) h = refl
  plain_result (pointer t) h = refl
  plain_result (data_member c t) h = refl
  plain_result (function_member c t) h = refl
  plain_result (const t) h = plain_result t h
  plain_result (class c) h = absurd (true≢false (sym h))
  plain_result (reference t) h = absurd (true≢false (sym h))
  plain_result (array t n) h = absurd (true≢false (sym h))
  plain_result (takes p t) h = absurd (true≢false (sym h))
  plain_result (gives t c) h = absurd (true≢false (sym h))

  const_no_reference : (u : SourceType) → is_normal (const u) ≡ true → tree_is_reference u ≡ false
  const_no_reference void h = refl
  const_no_reference (integer k) h = refl
  const_no_reference (enumeration n) h = refl
  const_no_reference (class c) h = refl
  const_no_reference (pointer t) h = refl
  const_no_reference (array t n) h = refl
  const_no_reference (takes p t) h = refl
  const_no_reference (gives t c) h = refl
  const_no_reference (data_member c t) h = refl
  const_no_reference (function_member c t) h = refl
  const_no_reference (reference t) h = absurd (true≢false (sym h))
  const_no_reference (const t) h = absurd (true≢false (sym h))

  taking_no_reference : (ps : List SourceType) (r : SourceType) (b : Bool) → tree_is_reference (taking ps (gives r b)) ≡ false
  taking_no_reference [] r b = refl
  taking_no_reference (p ∷ ps) r b = refl

  fun_no_reference : (o : Option Fun) → tree_is_reference (fun_type (tree s) o) ≡ false
  fun_no_reference None = refl
  fun_no_reference (Some g) = taking_no_reference (map (tree s) g.params) (tree s g.result) g.is_const

  abbrev pub is_ref : Ty → Bool
  is_ref (ty.Ref u) = true
  is_ref x = false

  -- a type that is no reference is none as a tree
  pub step_no_reference : (t : ℕ) (x : Ty) → is_normal (tree s t) ≡ true → tree s t ≡ type_step s.tables (tree s) x → is_ref x ≡ false → tree_is_reference (tree s t) ≡ false
  step_no_reference t (ty.Ref u) n e r = absurd (true≢false r)
  step_no_reference t (ty.Const u) n e r = ap tree_is_reference e ∙ const_no_reference (tree s u) (subst (λ x. is_normal x ≡ true) e n)
  step_no_reference t (ty.Fun g) n e r = ap tree_is_reference e ∙ fun_no_reference (slice_get s.tables.types.funs g)
  step_no_reference t ty.Void n e r = ap tree_is_reference e
  step_no_reference t (ty.Int k) n e r = ap tree_is_reference e
  step_no_reference t (ty.Enum k) n e r = ap tree_is_reference e
  step_no_reference t (ty.Class k) n e r = ap tree_is_reference e
  step_no_reference t (ty.Ptr k) n e r = ap tree_is_reference e
  step_no_reference t (ty.Array k m) n e r = ap tree_is_reference e
  step_no_reference t (ty.MemData k m) n e r = ap tree_is_reference e
  step_no_reference t (ty.MemFun k m) n e r = ap tree_is_reference e

  abbrev returned_value : Env → Value → Value
  returned_value e v = if v.is_lvalue then v else record v { type = bare e.types v.type }

  operand_there : (a b : Bool) → (a || b) ≡ true → b ≡ false → a ≡ true
  operand_there true b h n = refl
  operand_there false b h n = absurd (true≢false (sym h ∙ n))

  pub called-fine : (at r : ℕ) (n : Node) (e : Env) → Classless e → When s e (Holds s e) → When s e (Inside e r) → When s e ((is_operand (tree s r) || tree_is_reference (tree s r)) ≡ true)
      → When s e (are_known s.tables n ≡ true) → When s e (typed s n ≡ of_result (tree s r)) → Fine s (IsOperand s) e (row.called at r n e)
  called-fine at r n e c h i fine known is = by (complete e r)
    where
      at_end : (x : Ty) → type_at e.types r ≡ x → (w : Within e s) → slice_get s.tables.types.types r ≡ Some x
      at_end x at_r w = begins-get e.types.types s.tables.types.types r x w.types (here e.types r (i w) ∙ ap Some at_r)

      value_there : (x : Ty) → type_at e.types r ≡ x → is_ref x ≡ false → Fine s (IsOperand s) e (Made (computed at n (bare e.types r)) e)
      value_there x at_r no_ref =
          made-fine s (IsOperand s) e (computed at n (bare e.types r)) c h
          (λ w. let normal = tree-normal s.tables scene.table r (early-known s.tables scene.table e.types w.types r (i w)) in
          let no_reference = step_no_reference r x normal (tree-at s.tables scene.table r x (at_end x at_r w)) no_ref in
          let operand = operand_there (is_operand (tree s r)) (tree_is_reference (tree s r)) (fine w) no_reference in
          plain-operand s (tree s r) (computed at n (bare e.types r)) e
          (value-plain s e (tree s r) at (bare e.types r) n None false (early-inside s.tables scene.table e.types w.types r (i w)) (sym (early-bare s.tables scene.table e.types w.types r (i w))) (known w) operand
          (subst (λ y. IsValue y (tree s r)) (sym (is w)) (result-value (tree s r) normal (plain_result (tree s r) operand))) tt))

      returned : (x : Ty) → type_at e.types r ≡ x → Fine s (IsOperand s) e (Made (returned_value e (result_step at n r x)) e)
      returned (ty.Ref u) at_r =
          made-fine s (IsOperand s) e (place_of at n u false) c h
          (λ w. let there = at_end (ty.Ref u) at_r w in
          let whole = tree-at s.tables scene.table r (ty.Ref u) there in
          let below = below_at s.tables.types r (ty.Ref u) scene.table there in
          let inside : Inside e u = let r_in = i w in omega arith in
          let aims = scene.none_to_reference r (ty.Ref u) there in
          place-fits s e at u n None false inside (known w) aims.1 aims.0
          (subst (λ y. IsPlace y (tree s u)) (sym (is w ∙ ap of_result whole)) (result-place (tree s u) (tree-normal s.tables scene.table u (early-known s.tables scene.table e.types w.types u inside)))) tt)
      returned ty.Void at_r = value_there ty.Void at_r refl
      returned (ty.Int k) at_r = value_there (ty.Int k) at_r refl
      returned (ty.Enum k) at_r = value_there (ty.Enum k) at_r refl
      returned (ty.Class k) at_r = value_there (ty.Class k) at_r refl
      returned (ty.Ptr k) at_r = value_there (ty.Ptr k) at_r refl
      returned (ty.Array k m) at_r = value_there (ty.Array k m) at_r refl
      returned (ty.Fun k) at_r = value_there (ty.Fun k) at_r refl
      returned (ty.MemData k m) at_r = value_there (ty.MemData k m) at_r refl
      returned (ty.MemFun k m) at_r = value_there (ty.MemFun k m) at_r refl
      returned (ty.Const k) at_r = value_there (ty.Const k) at_r refl

      by : (m : Bool) → Fine s (IsOperand s) e (onward (need m 30 at e) (λ _ f. Made (returned_value e (result_step at n r (type_at e.types r))) f))
      by false = tt
      by true = returned (type_at e.types r) refl

  -- ---- a declared function

  module _ (e : Env) (w : Within e s) (h : Holds s e) (f : FunctionEntry) (k : EntryFits s e f) where
    own_fun : fun_at e.types f.type ≡ slice_get e.types.funs k.fun
    own_fun =
        let found : type_at e.types f.type ≡ ty.Fun k.fun = ap (λ o. unwrap_or o ty.Void) k.here in
        let plain : bare e.types f.type ≡ f.type = rw found refl in
        ap (λ b. fun_of e.types (slice_get e.types.types b)) plain ∙ ap (fun_of e.types) k.here

    fun_here : slice_get e.types.funs k.fun ≡ Some (get_or e.types.funs k.fun (record { result = 0; params = []; is_const = false }))
    fun_here = slice_get-get_or e.types.funs k.fun (record { result = 0; params = []; is_const = false }) (h.parts f.type (ty.Fun k.fun) k.here)

    pub fun-is : fun_at e.types f.type ≡ Some (get_or e.types.funs k.fun (record { result = 0; params = []; is_const = false }))
    fun-is = own_fun ∙ fun_here

    fun_end : slice_get s.tables.types.funs k.fun ≡ Some (get_or e.types.funs k.fun (record { result = 0; params = []; is_const = false }))
    fun_end = begins-get e.types.funs s.tables.types.funs k.fun (get_or e.types.funs k.fun (record { result = 0; params = []; is_const = false })) w.funs fun_here

    type_end : slice_get s.tables.types.types f.type ≡ Some (ty.Fun k.fun)
    type_end = begins-get e.types.types s.tables.types.types f.type (ty.Fun k.fun) w.types k.here

    pub fun-tree : (g : Fun) → fun_at e.types f.type ≡ Some g → tree s f.type ≡ taking (map (tree s) g.params) (gives (tree s g.result) g.is_const)
    fun-tree g is =
        tree-at s.tables scene.table f.type (ty.Fun k.fun) type_end ∙ ap (fun_type (tree s)) (fun_end ∙ sym fun-is ∙ is)

    pub result-fits : (g : Fun) → fun_at e.types f.type ≡ Some g → (is_operand (tree s g.result) || tree_is_reference (tree s g.result)) ≡ true
    result-fits g is = scene.none_to_reference f.type (ty.Fun k.fun) type_end g (fun_end ∙ sym fun-is ∙ is)

  -- ---- a call of one function, with as many arguments as it has parameters

  pub taken_parameters : (ps : List SourceType) (r : SourceType) (b : Bool) → parameters (taking ps (gives r b)) ≡ ps
  taken_parameters [] r b = refl
  taken_parameters (p ∷ ps) r b = ap (λ l. p ∷ l) (taken_parameters ps r b)

  pub taken_result : (ps : List SourceType) (r : SourceType) (b : Bool) → result (taking ps (gives r b)) ≡ r
  taken_result [] r b = refl
  taken_result (p ∷ ps) r b = taken_result ps r b

  pub taken_function : (ps : List SourceType) (r : SourceType) (b : Bool) → is_function (taking ps (gives r b)) ≡ true
  taken_function [] r b = refl
  taken_function (p ∷ ps) r b = refl

  parameter_no_void : (x : Ty) → is_parameter x ≡ true → is_void (type_step s.tables (tree s) x) ≡ false
  parameter_no_void ty.Void h = absurd (true≢false (sym h))
  parameter_no_void (ty.Const k) h = absurd (true≢false (sym h))
  parameter_no_void (ty.Fun k) h = absurd (true≢false (sym h))
  parameter_no_void (ty.Array k m) h = absurd (true≢false (sym h))
  parameter_no_void (ty.Int k) h = refl
  parameter_no_void (ty.Enum k) h = refl
  parameter_no_void (ty.Class k) h = refl
  parameter_no_void (ty.Ptr k) h = refl
  parameter_no_void (ty.Ref k) h = refl
  parameter_no_void (ty.MemData k m) h = refl
  parameter_no_void (ty.MemFun k m) h = refl

  parameters-fit : (e : Env) (n : ℕ) → n < length e.types.types → Within e s → (ps : List ℕ) → All (λ p. p < n) ps → AreParameters s.tables.types.types ps → ParamsFit s e ps
  parameters-fit e n lt w [] below fine = tt
  parameters-fit e n lt w (p ∷ ps) below fine =
      let first : p < n = All-head (λ q. q < n) p ps below in
      let inside : Inside e p = omega arith in
      let known = early-known s.tables scene.table e.types w.types p inside in
      let x = type_at s.tables.types p in
      let at = here s.tables.types p known in
      let ok : is_parameter x ≡ true = ap (passing is_parameter) (sym at) ∙ All-head (λ q. IsTrue (passes is_parameter s.tables.types.types q)) p ps fine in (
        inside,
        ap is_void (tree-at s.tables scene.table p x at) ∙ parameter_no_void x ok,
        parameters-fit e n lt w ps (All-tail (λ q. q < n) p ps below) (All-tail (λ q. IsTrue (passes is_parameter s.tables.types.types q)) p ps fine),
      )

  module _ (at : ℕ) (f : FunctionEntry) (e : Env) (there : When s e (EntryFits s e f)) (g : Fun) (is : fun_at e.types f.type ≡ Some g) where
    entry_params : (w : Within e s) → Holds s e → ParamsFit s e g.params
    entry_params w h =
        let k = there w in
        let here = type_end e w h f k in
        let of_fun : slice_get s.tables.types.funs k.fun ≡ Some g = fun_end e w h f k ∙ sym (fun-is e w h f k) ∙ is in
        let names = (scene.table.earlier f.type (ty.Fun k.fun) here).parts_known in
        let parts : All (λ p. p < f.type) (g.result ∷ g.params) = subst (λ o. All (λ p. p < f.type) (parts_of_fun o)) of_fun names in
        parameters-fit e f.type (slice_get_within e.types.types f.type (ty.Fun k.fun) k.here) w g.params (All-tail (λ p. p < f.type) g.result g.params parts) (scene.table.parameters k.fun g of_fun)

    pub entry_result : (w : Within e s) → Holds s e → Inside e g.result
    entry_result w h =
        let k = there w in
        let here = type_end e w h f k in
        let of_fun : slice_get s.tables.types.funs k.fun ≡ Some g = fun_end e w h f k ∙ sym (fun-is e w h f k) ∙ is in
        let names = (scene.table.earlier f.type (ty.Fun k.fun) here).parts_known in
        let parts : All (λ p. p < f.type) (g.result ∷ g.params) = subst (λ o. All (λ p. p < f.type) (parts_of_fun o)) of_fun names in
        let first : g.result < f.type = All-head (λ p. p < f.type) g.result g.params parts in
        let inside = slice_get_within e.types.types f.type (ty.Fun k.fun) k.here in
        omega arith

    -- where there are as many arguments as parameters
    pub fun-call-fine : (make : List Node → Node) → f.defaults ≡ []
        → ((w : Within e s) → Holds s e → (ns : List Node) → fit (scope_of s) (map (tree s) g.params) (typings (scope_of s) (listed (map (core s) ns))) ≡ true → typed s (make ns) ≡ of_result (tree s g.result))
        → ((w : Within e s) (ns : List Node) → all_of s.tables (map (are_known s.tables) ns) ≡ true → are_known s.tables (make ns) ≡ true)
        → (vs : List Value) → Classless e → When s e (Holds s e) → When s e (AllFit s e vs) → When s e (length vs ≡ length g.params)
        → Fine s (IsOperand s) e (onward (arguments at g.params f.defaults vs e) (λ ns b. row.called at g.result (make ns) b))
    fun-call-fine make none typing_of known_of vs c h vf count =
        onward-fine s (ArgumentsFit s g.params vs) (IsOperand s) e (arguments at g.params f.defaults vs e) (λ ns b. row.called at g.result (make ns) b)
        (arguments-fine at g.params f.defaults vs e none c h (λ w. entry_params w (h w)) vf)
        (λ ns e1 st c1 h1 q. called-fine at g.result (make ns) e1 c1 h1 (λ w. let early = within-before e e1 s st w in inside-later e e1 g.result st (entry_result early (h early)))
        (λ w. let early = within-before e e1 s st w in result-fits e early (h early) f (there early) g is)
        (λ w. known_of (within-before e e1 s st w) ns (q w).numbers)
        (λ w. let early = within-before e e1 s st w in typing_of early (h early) ns ((q w).starts (count early))))

    call_typed : (w : Within e s) → Holds s e → (ns : List Node) → fit (scope_of s) (map (tree s) g.params) (typings (scope_of s) (listed (map (core s) ns))) ≡ true
        → typed s (node.Call at f.link f.type None ns) ≡ of_result (tree s g.result)
    call_typed w h ns fits =
        let whole = fun-tree e w h f (there w) g is in
        let ps = map (tree s) g.params in
        let r = tree s g.result in
        ap (λ c. typing (scope_of s) c) (core-Call s.tables (signature_of s.tables) at f.link f.type ns)
        ∙ call-is (scope_of s) (λ y. y ≡ of_result (tree s g.result)) f.link (tree s f.type) (listed (map (core s) ns)) (ap is_function whole ∙ taken_function ps r g.is_const)
        (ap (λ l. fit (scope_of s) l (typings (scope_of s) (listed (map (core s) ns)))) (ap parameters whole ∙ taken_parameters ps r g.is_const) ∙ fits)
        (ap (λ t. of_result (result t)) whole ∙ ap of_result (taken_result ps r g.is_const))

    call_known : (w : Within e s) (ns : List Node) → all_of s.tables (map (are_known s.tables) ns) ≡ true → are_known s.tables (node.Call at f.link f.type None ns) ≡ true
    call_known w ns known =
        let k = there w in
        known-Call s.tables at f.link f.type ns
        ∙ and-both (has_type s.tables f.type && true) (all_of s.tables (map (are_known s.tables) ns))
        (and-both (has_type s.tables f.type) true (has_type-is s e f.type w (slice_get_within e.types.types f.type (ty.Fun k.fun) k.here)) refl) known

    pub named-call-fine : f.defaults ≡ [] → (vs : List Value) → Classless e → When s e (Holds s e) → When s e (AllFit s e vs) → When s e (length vs ≡ length g.params)
        → Fine s (IsOperand s) e (onward (arguments at g.params f.defaults vs e) (λ ns b. row.called at g.result (node.Call at f.link f.type None ns) b))
    named-call-fine none vs c h vf count = fun-call-fine (λ ns. node.Call at f.link f.type None ns) none call_typed call_known vs c h vf count

  -- a call that no end is behind
  pub never-called : (at r : ℕ) (make : List Node → Node) (ps : List ℕ) (ds : List Default) (vs : List Value) (e : Env) → ds ≡ [] → Classless e → When s e (Holds s e) → When s e (AllFit s e vs)
      → (Within e s → ⊥) → Fine s (IsOperand s) e (onward (arguments at ps ds vs e) (λ ns b. row.called at r (make ns) b))
  never-called at r make ps ds vs e none c h vf never =
      onward-fine s (ArgumentsFit s ps vs) (IsOperand s) e (arguments at ps ds vs e) (λ ns b. row.called at r (make ns) b) (arguments-fine at ps ds vs e none c h (λ w. absurd (never w)) vf)
      (λ ns e1 st c1 h1 q. called-fine at r (make ns) e1 c1 h1 (λ w. absurd (never (within-before e e1 s st w))) (λ w. absurd (never (within-before e e1 s st w)))
      (λ w. absurd (never (within-before e e1 s st w))) (λ w. absurd (never (within-before e e1 s st w))))

  -- a call of a declared function, where there are as many arguments as it has parameters
  pub call_entry-fine : (at : ℕ) (vs : List Value) (f : FunctionEntry) (e : Env) (n : ℕ) → slice_get e.entries n ≡ Some f → (g : Fun) → fun_at e.types f.type ≡ Some g → Classless e → When s e (Holds s e)
      → When s e (AllFit s e vs) → When s e (length vs ≡ length g.params) → Fine s (IsOperand s) e (row.call_entry at vs (Some f) e)
  call_entry-fine at vs f e n entry g is c h vf count =
      subst (λ o. Fine s (IsOperand s) e (onward (arguments at (params_of o) f.defaults vs e) (λ ns b. row.called at (result_of o) (node.Call at f.link f.type None ns) b))) (sym is)
      (named-call-fine at f e (λ w. (h w).entries n f entry) g is (c.no_defaults n f entry) vs c h vf count)
