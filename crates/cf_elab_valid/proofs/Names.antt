-- Constants, and names by themselves (2.5, 3.2, 5.1).
use Rattle.std.proofs.Common.{◌≡◌, ℕ, Bool, true, false, not, if◌then◌else◌, List, [], ◌∷◌, ◌++◌, map, ℤ, pos, Option, Some, None, slice_get, refl, sym, ap, subst, ◌∙◌, true≢false, arith}
use Rattle.std.specs.Prelude.{option_map}
use Rattle.std.proofs.lemmas.Option.{slice_get-map, slice_get_within}
use Rattle.cf_types.specs.declared.ty.Fun.{Fun}
use Rattle.cf_types.specs.declared.ty.Ty.{Ty}
use Rattle.cf_types.specs.declared.ty.Ty.TheVariants as ty
use Rattle.cf_convert.specs.Constness.{type_at}
use Rattle.cf_lookup.specs.Scope.{found}
use Rattle.cf_core.specs.declared.node.Core.TheVariants as node
use Rattle.cf_core.specs.FromClasses.{signature_of}
use Rattle.cf_core.specs.FromTypes.{type_step, fun_type, taking}
use Rattle.cf_core.specs.Numbers.{are_known, has_type}
use Rattle.cf_core.specs.Typed.{typing}
use Rattle.cf_core.specs.Types.{SourceType, gives}
use Rattle.cf_core.specs.Typing.{of_name, of_place, is_function, holds_number}
use Rattle.cf_core_typed.specs.Meets.{IsPlace, IsValue}
use Rattle.cf_core_typed.proofs.Same.{function-operand}
use Rattle.cf_core_typed.proofs.Values.{allow, of_place-is, of_number-is}
use Rattle.cf_elab.specs.Answer.{Answer, Made, Refused, Passed, Elab, onward, need}
use Rattle.cf_elab.specs.Env.{Env, Name, Home, local_home, static_home, Entity, Object, object, functions, alias, class_name, enum_name, enumerator, FunctionEntry}
use Rattle.cf_elab.specs.Expression.{one}
use Rattle.cf_elab.specs.Enumeration.{number_or_zero}
use Rattle.cf_elab.specs.Names.{home_node, object_value, enumerator_value, entity_of, operand_of, some_main}
use Rattle.cf_elab.specs.Operand.{Value, Operand, value, functions as named_functions, methods, field_name, bound_method, place_of, constant, result_step, value_of, one_function, function_value}
use Rattle.cf_elab.specs.Paths.{found_alone, operand_found}
use Rattle.cf_elab_env.proofs.Finding.{found-alone}
use Rattle.cf_elab_env.proofs.Growth.{here}
use Rattle.cf_elab_env.proofs.Sorts.{below_at}
use Rattle.cf_elab_valid.specs.Answers.{Fine, FineOperand}
use Rattle.cf_elab_valid.specs.Scene.{Scene, IsScene, tree, typed, scope_of, Within, Steps, Inside, HomeFits, EntityFits, Classless, Holds, Fits, OperandFits, IsShown}
use Rattle.cf_elab_valid.proofs.Arithmetic.{IsOperand}
use Rattle.cf_elab_valid.proofs.Calls.{is_ref, step_no_reference, fun-tree, fun-is}
use Rattle.cf_elab_valid.proofs.Early.{early-known}
use Rattle.cf_elab_valid.proofs.Nodes.{core-Number, core-Local, core-Static, core-Function, known-Number, known-Local, known-Static, known-Function}
use Rattle.cf_elab_valid.proofs.Numbers.{number-operand}
use Rattle.cf_elab_valid.proofs.Scopes.{found-numbered}
use Rattle.cf_elab_valid.proofs.Trees.{tree-at, tree-normal}
use Rattle.cf_elab_valid.proofs.Values.{place-fits, has_type-is}
use Rattle.cf_elab_valid.proofs.Ways.{begins-get, steps-none, steps-through, made-fine, When}

-- an operand, and what it leads to
pub operand-onward : {B : Type 0} (s : Scene) (Q : B → Env → Type 0) (e : Env) (first : Answer Operand) (go : Operand → Env → Answer B) → FineOperand s e first
    → ((o : Operand) (e1 : Env) → IsShown o → Steps e e1 → Classless e1 → When s e1 (Holds s e1) → When s e1 (OperandFits s o e1) → Fine s Q e1 (go o e1)) → Fine s Q e (onward first go)
operand-onward {B} s Q e (Made o e1) go f next = further (go o e1) (next o e1 f.1 f.0.steps f.0.classless f.0.holds f.0.made)
  where
    further : (r : Answer B) → Fine s Q e1 r → Fine s Q e r
    further (Made b e2) g = record { steps = steps-through e e1 e2 f.0.steps g.steps; classless = g.classless; holds = g.holds; made = g.made }
    further (Refused rule at) g = tt
    further (Passed bound most) g = tt
operand-onward s Q e (Refused rule at) go f next = tt
operand-onward s Q e (Passed bound most) go f next = tt

pub operand-made : (s : Scene) (e : Env) (v : Value) → Classless e → When s e (Holds s e) → When s e (Fits s e v) → FineOperand s e (Made (value v) e)
operand-made s e v c h f = (record { steps = steps-none e; classless = c; holds = h; made = f }, tt)

-- one value, as an operand
pub one-fine : (s : Scene) (e : Env) (run : Elab Value) → Fine s (IsOperand s) e (run e) → FineOperand s e (one run e)
one-fine s e run f = by (run e) f
  where
    by : (r : Answer Value) → Fine s (IsOperand s) e r → FineOperand s e (onward r (λ v g. Made (value v) g))
    by (Made v b) g = (record { steps = g.steps; classless = g.classless; holds = g.holds; made = g.made }, tt)
    by (Refused rule at) g = tt
    by (Passed bound most) g = tt

module _ (s : Scene) (scene : IsScene s) where
  -- ---- constants

  pub constant-fits : (at : ℕ) (z : ℤ) (t : ℕ) (e : Env) → Inside e t → holds_number z (tree s t) ≡ true → Fits s e (constant at z t)
  constant-fits at z t e i h = record {
    inside = i;
    numbers = known-Number s.tables at z;
    allowed = number-operand z (tree s t) h;
    meets = subst (λ c. IsValue (typing (scope_of s) c) (tree s t)) (sym (core-Number s.tables (signature_of s.tables) at z)) (of_number-is z (tree s t) h);
    number = h;
  }

  -- ---- objects

  -- a name of a type that is no reference is a place of it
  of_name_is : (t : ℕ) (x : Ty) → tree s t ≡ type_step s.tables (tree s) x → is_ref s scene x ≡ false → of_name (Some (tree s t)) ≡ of_place (tree s t)
  of_name_is t x e r = ap (λ u. of_name (Some u)) e ∙ by x r ∙ sym (ap of_place e)
    where
      fun_name : (ps : List SourceType) (q : SourceType) (b : Bool) → of_name (Some (taking ps (gives q b))) ≡ of_place (taking ps (gives q b))
      fun_name [] q b = refl
      fun_name (p ∷ ps) q b = refl

      of_fun : (o : Option Fun) → of_name (Some (fun_type (tree s) o)) ≡ of_place (fun_type (tree s) o)
      of_fun None = refl
      of_fun (Some g) = fun_name (map (tree s) g.params) (tree s g.result) g.is_const

      by : (x : Ty) → is_ref s scene x ≡ false → of_name (Some (type_step s.tables (tree s) x)) ≡ of_place (type_step s.tables (tree s) x)
      by (ty.Ref u) r = absurd (true≢false r)
      by (ty.Fun g) r = of_fun (slice_get s.tables.types.funs g)
      by ty.Void r = refl
      by (ty.Int k) r = refl
      by (ty.Enum k) r = refl
      by (ty.Class k) r = refl
      by (ty.Ptr k) r = refl
      by (ty.Array k m) r = refl
      by (ty.MemData k m) r = refl
      by (ty.MemFun k m) r = refl
      by (ty.Const k) r = refl

  home_typed : (at t : ℕ) (home : Home) → HomeFits s t home → typed s (home_node at t home).node ≡ of_name (Some (tree s t))
  home_typed at t (local_home i) h =
      ap (typing (scope_of s)) (core-Local s.tables (signature_of s.tables) at i) ∙ ap of_name (slice_get-map (tree s) s.locals i ∙ ap (option_map (tree s)) h)
  home_typed at t (static_home name) h = ap (typing (scope_of s)) (core-Static s.tables (signature_of s.tables) at name t)

  home_known : (at t : ℕ) (home : Home) → has_type s.tables t ≡ true → are_known s.tables (home_node at t home).node ≡ true
  home_known at t (local_home i) h = known-Local s.tables at i
  home_known at t (static_home name) h = known-Static s.tables at name t ∙ h

  module _ (e : Env) (w : Within e s) (at : ℕ) (x : Object) (f : EntityFits s e (object x)) where
    at_end : (y : Ty) → type_at e.types x.type ≡ y → slice_get s.tables.types.types x.type ≡ Some y
    at_end y is = begins-get e.types.types s.tables.types.types x.type y w.types (here e.types x.type f.0 ∙ ap Some is)

    known_node : are_known s.tables (home_node at x.type x.home).node ≡ true
    known_node = home_known at x.type x.home (has_type-is s e x.type w f.0)

    -- the object itself
    own_fits : (y : Ty) (b : Bool) → type_at e.types x.type ≡ y → is_ref s scene y ≡ false
        → Fits s e (record { at = at; node = (home_node at x.type x.home).node; type = x.type; is_lvalue = true; number = x.number; is_fixed = b })
    own_fits y b is r =
        let whole = tree-at s.tables scene.table x.type y (at_end y is) in
        let normal = tree-normal s.tables scene.table x.type (early-known s.tables scene.table e.types w.types x.type f.0) in
        place-fits s e at x.type (home_node at x.type x.home).node x.number b f.0 known_node f.2 (step_no_reference s scene x.type y normal whole r)
        (subst (λ p. IsPlace p (tree s x.type)) (sym (home_typed at x.type x.home f.1 ∙ of_name_is x.type y whole r)) (of_place-is (tree s x.type) normal)) f.3

    -- what a reference refers to
    referred_fits : (u : ℕ) → type_at e.types x.type ≡ ty.Ref u → Fits s e (place_of at (home_node at x.type x.home).node u false)
    referred_fits u is =
        let there = at_end (ty.Ref u) is in
        let whole = tree-at s.tables scene.table x.type (ty.Ref u) there in
        let below = below_at s.tables.types x.type (ty.Ref u) scene.table there in
        let inside : Inside e u = let own = f.0 in omega arith in
        let aims = scene.none_to_reference x.type (ty.Ref u) there in
        place-fits s e at u (home_node at x.type x.home).node None false inside known_node aims.1 aims.0
        (subst (λ p. IsPlace p (tree s u)) (sym (home_typed at x.type x.home f.1 ∙ ap (λ t. of_name (Some t)) whole))
        (of_place-is (tree s u) (tree-normal s.tables scene.table u (early-known s.tables scene.table e.types w.types u inside)))) tt

    pub object-fits : Fits s e (object_value e at x)
    object-fits = by (type_at e.types x.type) refl
      where
        own : (y : Ty) → type_at e.types x.type ≡ y → is_ref s scene y ≡ false → Fits s e (record (home_node at x.type x.home) { number = x.number })
        own y is r = as_home x.home refl
          where
            as_home : (h : Home) → x.home ≡ h → Fits s e (record (home_node at x.type x.home) { number = x.number })
            as_home (local_home i) q = subst (λ k. Fits s e (record (home_node at x.type k) { number = x.number })) (sym q) (subst (λ k. Fits s e (record { at = at; node = (home_node at x.type k).node; type = x.type; is_lvalue = true; number = x.number; is_fixed = false })) q (own_fits y false is r))
            as_home (static_home name) q = subst (λ k. Fits s e (record (home_node at x.type k) { number = x.number })) (sym q) (subst (λ k. Fits s e (record { at = at; node = (home_node at x.type k).node; type = x.type; is_lvalue = true; number = x.number; is_fixed = true })) q (own_fits y true is r))

        by : (y : Ty) → type_at e.types x.type ≡ y
            → Fits s e (let r = result_step at (home_node at x.type x.home).node x.type y in if r.is_lvalue then r else record (home_node at x.type x.home) { number = x.number })
        by (ty.Ref u) is = referred_fits u is
        by ty.Void is = own ty.Void is refl
        by (ty.Int k) is = own (ty.Int k) is refl
        by (ty.Enum k) is = own (ty.Enum k) is refl
        by (ty.Class k) is = own (ty.Class k) is refl
        by (ty.Ptr k) is = own (ty.Ptr k) is refl
        by (ty.Array k m) is = own (ty.Array k m) is refl
        by (ty.Fun k) is = own (ty.Fun k) is refl
        by (ty.MemData k m) is = own (ty.MemData k m) is refl
        by (ty.MemFun k m) is = own (ty.MemFun k m) is refl
        by (ty.Const k) is = own (ty.Const k) is refl

  -- ---- what a name stands for

  enumerator-fits : (at t : ℕ) (z : Option ℤ) (e : Env) → Inside e t → holds_number (number_or_zero z) (tree s t) ≡ true → Fits s e (enumerator_value at t z)
  enumerator-fits at t (Some z) e i h = constant-fits at z t e i h
  enumerator-fits at t None e i h =
      let f = constant-fits at (pos 0) t e i h in record { inside = f.inside; numbers = f.numbers; allowed = f.allowed; meets = f.meets; number = tt }

  pub operand_of-fine : (at : ℕ) (o : Option Entity) (e : Env) → Classless e → When s e (Holds s e) → When s e ((x : Entity) → o ≡ Some x → EntityFits s e x) → FineOperand s e (operand_of at o e)
  operand_of-fine at None e c h f = tt
  operand_of-fine at (Some (object x)) e c h f = operand-made s e (object_value e at x) c h (λ w. object-fits e w at x (f w (object x) refl))
  operand_of-fine at (Some (functions fs)) e c h f = by (some_main e fs)
    where
      by : (m : Bool) → FineOperand s e (onward (need (not m) 11 at e) (λ _ g. Made (named_functions at fs) g))
      by true = tt
      by false = (record { steps = steps-none e; classless = c; holds = h; made = λ w. tt }, tt)
  operand_of-fine at (Some (alias t)) e c h f = tt
  operand_of-fine at (Some (class_name k)) e c h f = tt
  operand_of-fine at (Some (enum_name n)) e c h f = tt
  operand_of-fine at (Some (enumerator t z)) e c h f =
      operand-made s e (enumerator_value at t z) c h (λ w. let g = f w (enumerator t z) refl in enumerator-fits at t z e g.0 g.1)

  entity-fits : (e : Env) → Holds s e → (name : Name) (n : Option ℕ) → found name e.scopes ≡ n → (x : Entity) → entity_of e n ≡ Some x → EntityFits s e x
  entity-fits e h name None is x at = absurd cc
  entity-fits e h name (Some n) is x at = h.entities n x (found-numbered name (e.scopes.outer ++ e.scopes.inner ∷ []) n is) at

  -- an identifier by itself
  pub name-fine : (at : ℕ) (name : Name) (e : Env) → Classless e → When s e (Holds s e) → FineOperand s e (operand_found at (found_alone e false name) e)
  name-fine at name e c h =
      subst (λ f. FineOperand s e (operand_found at f e)) (sym (found-alone e name c.none_open c.no_body))
      (operand_of-fine at (entity_of e (found name e.scopes)) e c h (λ w x is. entity-fits e (h w) name (found name e.scopes) refl x is))

  -- ---- the value of an operand

  function-fits : (at n : ℕ) (f : FunctionEntry) (e : Env) → Within e s → Holds s e → slice_get e.entries n ≡ Some f → Fits s e (function_value at f)
  function-fits at n f e w h entry =
      let k = h.entries n f entry in
      let inside = slice_get_within e.types.types f.type (ty.Fun k.fun) k.here in
      let g = fun-is s scene e w h f k in
      let whole = fun-tree s scene e w h f k _ g in
      let fn : is_function (tree s f.type) ≡ true = ap is_function whole ∙ is_taking _ _ _ in
      let no = function-operand (tree s f.type) fn in
      place-fits s e at f.type (node.Function at f.link f.type) None true inside (known-Function s.tables at f.link f.type ∙ has_type-is s e f.type w inside) no.2 no.1
      (subst (λ c. IsPlace (typing (scope_of s) c) (tree s f.type)) (sym (core-Function s.tables (signature_of s.tables) at f.link f.type))
      (allow (λ p. IsPlace p (tree s f.type)) (is_function (tree s f.type)) (of_place (tree s f.type)) fn
      (of_place-is (tree s f.type) (tree-normal s.tables scene.table f.type (early-known s.tables scene.table e.types w.types f.type inside))))) tt
    where
      is_taking : (ps : List SourceType) (q : SourceType) (b : Bool) → is_function (taking ps (gives q b)) ≡ true
      is_taking [] q b = refl
      is_taking (p ∷ ps) q b = refl

  one_function-fine : (at n : ℕ) (e : Env) → Classless e → When s e (Holds s e) → (o : Option FunctionEntry) → slice_get e.entries n ≡ o → Fine s (IsOperand s) e (one_function at o e)
  one_function-fine at n e c h None is = tt
  one_function-fine at n e c h (Some f) is = made-fine s (IsOperand s) e (function_value at f) c h (λ w. function-fits at n f e w (h w) is)

  pub value_of-fine : (o : Operand) (e : Env) → IsShown o → Classless e → When s e (Holds s e) → When s e (OperandFits s o e) → Fine s (IsOperand s) e (value_of o e)
  value_of-fine (value v) e shown c h f = made-fine s (IsOperand s) e v c h f
  value_of-fine (named_functions at []) e shown c h f = tt
  value_of-fine (named_functions at (n ∷ [])) e shown c h f = one_function-fine at n e c h (slice_get e.entries n) refl
  value_of-fine (named_functions at (n ∷ m ∷ rest)) e shown c h f = tt
  value_of-fine (methods m) e shown c h f = absurd shown
  value_of-fine (field_name a b d m) e shown c h f = absurd shown
  value_of-fine (bound_method a b d) e shown c h f = absurd shown
