-- The rows of implicit conversion (4), where no class is defined.
use Rattle.std.proofs.Common.{◌≡◌, ℕ, Bool, true, false, ◌&&◌, if◌then◌else◌, List, [], ◌∷◌, ◌++◌, reverse, Option, Some, None, IsTrue, All, slice_get, unwrap_or, refl, sym, ap, subst, ◌∙◌, true≢false}
use Rattle.std.specs.Option.{option_map}
use Rattle.cf_base.specs.declared.kind.Kind.{Kind}
use Rattle.cf_classes.specs.declared.class.ClassDef.{ClassDef}
use Rattle.cf_types.specs.declared.ty.Ty.{Ty}
use Rattle.cf_types.specs.declared.ty.Ty.TheVariants as ty
use Rattle.cf_types.specs.Table.{Table}
use Rattle.cf_convert.specs.Better.{class_reached}
use Rattle.cf_convert.specs.Constness.{type_at, bare}
use Rattle.cf_convert.specs.Converts.{steps, to_reference, to_value, value_steps, takes_null, decayed, first_step}
use Rattle.cf_convert.specs.UserConversion.{Nothing, by_user}
use Rattle.cf_convert.specs.declared.conv.Val.{Val}
use Rattle.cf_convert.specs.declared.conv.ConvStep.{ConvStep}
use Rattle.cf_convert.specs.declared.conv.ConvStep.TheVariants.{Read, Decay, AddConst, Promote, Integer, Null, ToVoid, ToBase, ToMember}
use Rattle.cf_core.specs.FromTypes.{type_step}
use Rattle.cf_core.specs.Types.{SourceType, integer, pointer, without_const}
use Rattle.cf_core_typed.specs.Same.{Same}
use Rattle.cf_elab.specs.Answer.{Answer, Made, Refused, Passed, Elab, onward}
use Rattle.cf_elab.specs.Env.{Env}
use Rattle.cf_elab.specs.Fit as row
use Rattle.cf_elab.specs.Fit.{all_steps, stepped, base_of_classes, step_checked, fitted, fit_by, no_user, to_kind, misfit}
use Rattle.cf_elab.specs.Members.{fine_base}
use Rattle.cf_elab.specs.Made.{of_kind}
use Rattle.cf_elab.specs.Answer.{for_each, need}
use Rattle.cf_elab.specs.Operand.{Value, Sort, array_sort, function_sort, sort_of, ty_sort, pointer_sort, is_reference, is_zero, val, defs, plain, read_value}
use Rattle.cf_elab.specs.UserFit as user
use Rattle.cf_elab_env.specs.Holds.{without_class}
use Rattle.cf_elab_env.proofs.Making.{sort_int}
use Rattle.cf_elab_env.proofs.Sorts.{at_place}
use Rattle.cf_elab_fit.proofs.NoUser.{no_user_function}
use Rattle.cf_elab_valid.specs.Answers.{Fine}
use Rattle.cf_elab_valid.specs.Conversion.{with_last}
use Rattle.cf_elab_valid.specs.Scene.{Scene, IsScene, tree, Within, Steps, Inside, Classless, Holds, Fits, IsPlain}
use Rattle.cf_elab_valid.proofs.Early.{early-bare, early-form, early-inside, early-part, early-sort}
use Rattle.cf_elab_valid.proofs.Fit.{all_steps-const, leads-fine}
use Rattle.cf_elab_valid.proofs.Making.{IsType, of_kind-fine}
use Rattle.cf_elab_valid.proofs.Plain.{decayed_tree, is_plain_sort, plain-as, plain-fine, read-fits}
use Rattle.cf_elab_valid.proofs.Steps.{null-way}
use Rattle.cf_elab_valid.proofs.Trees.{tree-at}
use Rattle.cf_elab_valid.proofs.Ways.{begins-get, steps-none, within-before, inside-later, fits-when, made-fine, fine-within, onward-fine, steps-through, When}

-- ---- no type names a class

pub classless-type : (types : Table) → All (λ t. IsTrue (without_class t)) types.types → (t : ℕ) → IsTrue (without_class (type_at types t))
classless-type types all t = by (slice_get types.types t) refl
  where
    by : (o : Option Ty) → slice_get types.types t ≡ o → IsTrue (without_class (unwrap_or o ty.Void))
    by None h = refl
    by (Some v) h = at_place (λ w. IsTrue (without_class w)) types.types t v all h

pub no_defs : (e : Env) → Classless e → defs e ≡ []
no_defs e c = ap reverse c.none

-- ---- checks leave the environment

abbrev pub Still : {A : Type 0} → Env → Answer A → Type 0
Still e (Made a b) = b ≡ e
Still e (Refused rule at) = Unit {0}
Still e (Passed bound most) = Unit {0}

pub needed : (e : Env) (b : Bool) (rule at : ℕ) → Still e (need b rule at e)
needed e true rule at = refl
needed e false rule at = tt

base_checked : (e : Env) (at : ℕ) (a b : Option ℕ) → Still e (base_of_classes at a b e)
base_checked e at (Some d) (Some b) = needed e (fine_base e d b) 14 at
base_checked e at None b = refl
base_checked e at (Some d) None = refl

checked : (e : Env) (at t : ℕ) (v : Value) (y : ConvStep) → Still e (step_checked at t v y e)
checked e at t v (ToBase p) = base_checked e at (class_reached e.types v.type) (class_reached e.types t)
checked e at t v (ToMember p) = base_checked e at (class_reached e.types t) (class_reached e.types v.type)
checked e at t v Read = refl
checked e at t v Decay = refl
checked e at t v AddConst = refl
checked e at t v Promote = refl
checked e at t v (Integer k) = refl
checked e at t v Null = refl
checked e at t v ToVoid = refl

pub still-onward : {A B : Type 0} (e : Env) (r : Answer A) (go : A → Env → Answer B) → Still e r → ((a : A) → Still e (go a e)) → Still e (onward r go)
still-onward e (Made a b) go h next = subst (λ f. Still e (go a f)) (sym h) (next a)
still-onward e (Refused rule at) go h next = tt
still-onward e (Passed bound most) go h next = tt

pub all_checked : (e : Env) (at t : ℕ) (v : Value) (ss : List ConvStep) → Still e (for_each (step_checked at t v) ss e)
all_checked e at t v [] = refl
all_checked e at t v (y ∷ ys) = still-onward e (step_checked at t v y e) (λ _. for_each (step_checked at t v) ys) (checked e at t v y) (λ _. all_checked e at t v ys)

pub still-fine : {A B : Type 0} (s : Scene) (Q : B → Env → Type 0) (e : Env) (r : Answer A) (go : Env → Answer B) → Still e r → Fine s Q e (go e) → Fine s Q e (onward r (λ _. go))
still-fine s Q e (Made a b) go h f = subst (λ x. Fine s Q e (go x)) (sym h) f
still-fine s Q e (Refused rule at) go h f = tt
still-fine s Q e (Passed bound most) go h f = tt

mapped_some : (f : List ConvStep → List ConvStep) (o : Option (List ConvStep)) (ss : List ConvStep) → option_map f o ≡ Some ss → (core : List ConvStep) × (o ≡ Some core) × (ss ≡ f core)
mapped_some f None ss h = absurd cc
mapped_some f (Some core) ss h = (core, refl, cc)

pointee_of : Ty → ℕ
pointee_of (ty.Ptr p) = p
pointee_of v = 0

same_pointee : (p q : ℕ) → ty.Ptr p ≡ ty.Ptr q → p ≡ q
unfolding pointee_of
same_pointee p q h = ap pointee_of h

plain_pointer : (p : ℕ) (v : Ty) → is_plain_sort (pointer_sort p v) ≡ true
plain_pointer p ty.Void = refl
plain_pointer p (ty.Int k) = refl
plain_pointer p (ty.Enum k) = refl
plain_pointer p (ty.Class k) = refl
plain_pointer p (ty.Ptr k) = refl
plain_pointer p (ty.Ref k) = refl
plain_pointer p (ty.Array k n) = refl
plain_pointer p (ty.Fun k) = refl
plain_pointer p (ty.MemData k n) = refl
plain_pointer p (ty.MemFun k n) = refl
plain_pointer p (ty.Const k) = refl

decayed_plain : (s : Scene) (t : ℕ) (k : Sort) → is_plain_sort k ≡ true → decayed_tree s t k ≡ tree s t
decayed_plain s t (array_sort u n) h = absurd (true≢false (sym h))
decayed_plain s t (function_sort f) h = absurd (true≢false (sym h))
decayed_plain s t k h = refl

abbrev is_ref_type : Ty → Bool
is_ref_type (ty.Ref u) = true
is_ref_type v = false

-- where the type is no reference, the steps are those to its value
module _ (types : Table) (ds : List (ℕ × ClassDef)) (v : Val) (t : ℕ) where
  abbrev typed_steps : Ty → Option (List ConvStep)
  typed_steps (ty.Ref u) = to_reference types ds v u
  typed_steps other = to_value types ds v (bare types t)

  no_reference : (x : Ty) → is_ref_type x ≡ false → typed_steps x ≡ to_value types ds v (bare types t)
  no_reference (ty.Ref u) h = absurd (true≢false h)
  no_reference x h = refl

  pub steps_at : (x : Ty) → type_at types t ≡ x → is_ref_type x ≡ false → steps types ds v t ≡ to_value types ds v (bare types t)
  steps_at x is h = ap typed_steps is ∙ no_reference x h

module _ (s : Scene) (scene : IsScene s) where
  -- where no end is reached, all that counts is the way
  pub all_steps-never : (t : ℕ) (ss : List ConvStep) (x : Value) (e : Env) (Q : Value → Env → Type 0) → Classless e → (Within e s → ⊥) → Fine s Q e (all_steps t ss x e)
  all_steps-never t [] x e Q c n = made-fine s Q e (record x { type = t }) c (λ w. absurd (n w)) (λ w. absurd (n w))
  all_steps-never t (Read ∷ ss) x e Q c n = all_steps-never t ss (read_value e.types x) e Q c n
  all_steps-never t (Decay ∷ ss) x e Q c n =
      onward-fine s (IsPlain s (decayed_tree s x.type (sort_of e.types x.type))) Q e (plain x e) (all_steps t ss) (plain-fine s scene e x c (λ w. absurd (n w)) (λ w. absurd (n w)))
      (λ y f g d h p. all_steps-never t ss y f Q d (λ w. n (within-before e f s g w)))
  all_steps-never t (AddConst ∷ ss) x e Q c n = all_steps-never t ss x e Q c n
  all_steps-never t (Promote ∷ ss) x e Q c n = all_steps-never t ss _ e Q c n
  all_steps-never t (Integer k ∷ ss) x e Q c n = all_steps-never t ss _ e Q c n
  all_steps-never t (Null ∷ ss) x e Q c n = all_steps-never t ss _ e Q c n
  all_steps-never t (ToVoid ∷ ss) x e Q c n = all_steps-never t ss _ e Q c n
  all_steps-never t (ToBase p ∷ ss) x e Q c n = all_steps-never t ss _ e Q c n
  all_steps-never t (ToMember p ∷ ss) x e Q c n = all_steps-never t ss _ e Q c n

  -- the steps are told by an environment before the one in which they are done
  module _ (e0 : Env) (v : Value) (c0 : Classless e0) (f0 : When s e0 (Fits s e0 v)) (e : Env) (g0 : Steps e0 e) (c : Classless e) (h : When s e (Holds s e)) where
    f : When s e (Fits s e v)
    f = fits-when s e0 e v g0 f0

    before : Within e s → Within e0 s
    before w = within-before e0 e s g0 w

    sort_stays : Within e s → sort_of e.types v.type ≡ sort_of e0.types v.type
    sort_stays w = sym (early-sort s.tables scene.table e.types w.types v.type (f w).inside) ∙ early-sort s.tables scene.table e0.types (before w).types v.type (f0 (before w)).inside

    abbrev source : SourceType
    source = decayed_tree s v.type (sort_of e0.types v.type)

    abbrev from : Ty
    from = type_at e0.types (bare e0.types v.type)

    plain_case : (t : ℕ) (rest : List ConvStep) (Q : Value → Env → Type 0)
        → ((x : Value) (e1 : Env) → Steps e e1 → Classless e1 → When s e1 (Holds s e1) → When s e1 (IsPlain s (decayed_tree s v.type (sort_of e0.types v.type)) x e1) → Fine s Q e1 (all_steps t rest x e1))
        → is_plain_sort (sort_of e0.types v.type) ≡ true → (b : Bool) → v.is_lvalue ≡ b → Fine s Q e (all_steps t ((if b then Read ∷ [] else []) ++ rest) v e)
    plain_case t rest Q next p true l =
        next (read_value e.types v) e (steps-none e) c h
        (λ w. subst (λ a. IsPlain s a (read_value e.types v) e) (sym (decayed_plain s v.type (sort_of e0.types v.type) p)) (read-fits s scene e w v (ap is_plain_sort (sort_stays w) ∙ p) (f w)))
    plain_case t rest Q next p false l =
        next v e (steps-none e) c h
        (λ w. record { fits = f w; no_place = l; same = ap without_const (sym (decayed_plain s v.type (sort_of e0.types v.type) p)) })

    -- the first step makes a plain value
    first-fine : (t : ℕ) (rest : List ConvStep) (Q : Value → Env → Type 0)
        → ((x : Value) (e1 : Env) → Steps e e1 → Classless e1 → When s e1 (Holds s e1) → When s e1 (IsPlain s (decayed_tree s v.type (sort_of e0.types v.type)) x e1) → Fine s Q e1 (all_steps t rest x e1))
        → Fine s Q e (all_steps t (first_step v.is_lvalue (type_at e0.types (bare e0.types v.type)) ++ rest) v e)
    first-fine t rest Q next = by (type_at e0.types (bare e0.types v.type)) refl
      where
        decay : Fine s Q e (onward (plain v e) (all_steps t rest))
        decay =
            onward-fine s (IsPlain s (decayed_tree s v.type (sort_of e0.types v.type))) Q e (plain v e) (all_steps t rest)
            (fine-within s (IsPlain s (decayed_tree s v.type (sort_of e.types v.type))) (IsPlain s (decayed_tree s v.type (sort_of e0.types v.type))) e (plain v e)
            (λ x b g w p. subst (λ k. IsPlain s (decayed_tree s v.type k) x b) (sort_stays (within-before e b s g w)) p) (plain-fine s scene e v c h f)) next

        sorted : (w : Ty) → type_at e0.types (bare e0.types v.type) ≡ w → is_plain_sort (ty_sort e0.types w) ≡ true → is_plain_sort (sort_of e0.types v.type) ≡ true
        sorted w is p = ap (λ x. is_plain_sort (ty_sort e0.types x)) is ∙ p

        by : (w : Ty) → type_at e0.types (bare e0.types v.type) ≡ w → Fine s Q e (all_steps t (first_step v.is_lvalue w ++ rest) v e)
        by (ty.Array u n) is = decay
        by (ty.Fun g) is = decay
        by (ty.Class k) is = absurd (true≢false (sym (subst (λ x. IsTrue (without_class x)) is (classless-type e0.types c0.no_type (bare e0.types v.type)))))
        by ty.Void is = plain_case t rest Q next (sorted ty.Void is refl) v.is_lvalue refl
        by (ty.Int k) is = plain_case t rest Q next (sorted (ty.Int k) is refl) v.is_lvalue refl
        by (ty.Enum k) is = plain_case t rest Q next (sorted (ty.Enum k) is refl) v.is_lvalue refl
        by (ty.Ptr p) is = plain_case t rest Q next (sorted (ty.Ptr p) is (plain_pointer p (type_at e0.types (bare e0.types p)))) v.is_lvalue refl
        by (ty.Ref p) is = plain_case t rest Q next (sorted (ty.Ref p) is refl) v.is_lvalue refl
        by (ty.MemData k p) is = plain_case t rest Q next (sorted (ty.MemData k p) is refl) v.is_lvalue refl
        by (ty.MemFun k p) is = plain_case t rest Q next (sorted (ty.MemFun k p) is refl) v.is_lvalue refl
        by (ty.Const p) is = plain_case t rest Q next (sorted (ty.Const p) is refl) v.is_lvalue refl

    -- ---- what the source is, once it is plain

    abbrev Formed : SourceType → Ty → Type 0
    Formed a w = Same a (type_step s.tables (tree s) w)

    source-formed : Within e0 s → Formed (decayed_tree s v.type (sort_of e0.types v.type)) (decayed (bare e0.types v.type) (type_at e0.types (bare e0.types v.type)))
    source-formed w = by (type_at e0.types (bare e0.types v.type)) refl
      where
        form : (x : Ty) → type_at e0.types (bare e0.types v.type) ≡ x → Formed (tree s v.type) x
        form x is = early-form s.tables scene.table e0.types w.types v.type (f0 w).inside x is

        by : (x : Ty) → type_at e0.types (bare e0.types v.type) ≡ x → Formed (decayed_tree s v.type (ty_sort e0.types x)) (decayed (bare e0.types v.type) x)
        by (ty.Array u n) is = refl
        by (ty.Fun g) is = ap (λ x. pointer x) (early-bare s.tables scene.table e0.types w.types v.type (f0 w).inside)
        by (ty.Ptr p) is = ap without_const (decayed_plain s v.type (pointer_sort p (type_at e0.types (bare e0.types p))) (plain_pointer p (type_at e0.types (bare e0.types p)))) ∙ form (ty.Ptr p) is
        by ty.Void is = form ty.Void is
        by (ty.Int k) is = form (ty.Int k) is
        by (ty.Enum k) is = form (ty.Enum k) is
        by (ty.Class k) is = form (ty.Class k) is
        by (ty.Ref p) is = form (ty.Ref p) is
        by (ty.MemData k p) is = form (ty.MemData k p) is
        by (ty.MemFun k p) is = form (ty.MemFun k p) is
        by (ty.Const p) is = form (ty.Const p) is

    source-plain : IsTrue (without_class (decayed (bare e0.types v.type) (type_at e0.types (bare e0.types v.type))))
    source-plain = by (type_at e0.types (bare e0.types v.type)) (classless-type e0.types c0.no_type (bare e0.types v.type))
      where
        by : (x : Ty) → IsTrue (without_class x) → IsTrue (without_class (decayed (bare e0.types v.type) x))
        by (ty.Array u n) h = refl
        by (ty.Fun g) h = refl
        by (ty.Ptr p) h = h
        by ty.Void h = h
        by (ty.Int k) h = h
        by (ty.Enum k) h = h
        by (ty.Class k) h = h
        by (ty.Ref p) h = h
        by (ty.MemData k p) h = h
        by (ty.MemFun k p) h = h
        by (ty.Const p) h = h

    source-pointee : (p : ℕ) → decayed (bare e0.types v.type) (type_at e0.types (bare e0.types v.type)) ≡ ty.Ptr p → Within e0 s → Inside e0 p
    source-pointee p is w = by (type_at e0.types (bare e0.types v.type)) refl is
      where
        by : (x : Ty) → type_at e0.types (bare e0.types v.type) ≡ x → decayed (bare e0.types v.type) x ≡ ty.Ptr p → Inside e0 p
        by (ty.Array u n) at is = subst (Inside e0) (same_pointee u p is) (early-part s.tables scene.table e0.types w.types v.type (f0 w).inside (ty.Array u n) u at (λ h. h))
        by (ty.Fun g) at is = subst (Inside e0) (same_pointee (bare e0.types v.type) p is) (early-inside s.tables scene.table e0.types w.types v.type (f0 w).inside)
        by (ty.Ptr q) at is = subst (Inside e0) (same_pointee q p is) (early-part s.tables scene.table e0.types w.types v.type (f0 w).inside (ty.Ptr q) q at (λ h. h))
        by ty.Void at is = absurd cc
        by (ty.Int k) at is = absurd cc
        by (ty.Enum k) at is = absurd cc
        by (ty.Class k) at is = absurd cc
        by (ty.Ref q) at is = absurd cc
        by (ty.MemData k q) at is = absurd cc
        by (ty.MemFun k q) at is = absurd cc
        by (ty.Const q) at is = absurd cc

    -- ---- the row

    -- by the steps to a type without its own const
    way-fine : (t u : ℕ) (ss : List ConvStep) → When s e0 (Inside e0 t) → When s e0 (Inside e0 u) → When s e0 (Same (tree s t) (tree s u)) → to_value e0.types (defs e0) (val v) u ≡ Some ss
        → When s e0 (Formed (tree s u) (type_at e0.types u)) → ((q : ℕ) → type_at e0.types u ≡ ty.Ptr q → Within e0 s → Inside e0 q) → Fine s (IsPlain s (tree s t)) e (all_steps t ss v e)
    way-fine t u ss i j same is form part =
        let found = mapped_some (λ l. first_step v.is_lvalue (type_at e0.types (bare e0.types v.type)) ++ l) (wanted u) ss is in
        let way = null-way s.tables scene.table e0.types (defs e0) (Within e0 s) (λ w. w.types) (classless-type e0.types c0.no_type) (decayed_tree s v.type (sort_of e0.types v.type)) (tree s t)
        (is_zero v.number) (decayed (bare e0.types v.type) (type_at e0.types (bare e0.types v.type))) (type_at e0.types u) found.0 found.1
        source-plain (classless-type e0.types c0.no_type u) source-formed (λ w. same w ∙ form w) source-pointee part in
        let all : ss ≡ first_step v.is_lvalue (type_at e0.types (bare e0.types v.type)) ++ with_last way.const way.core = found.2 ∙ ap (λ l. first_step v.is_lvalue (type_at e0.types (bare e0.types v.type)) ++ l) way.is in
        subst (λ l. Fine s (IsPlain s (tree s t)) e (all_steps t l v e)) (sym all)
        (first-fine t (with_last way.const way.core) (IsPlain s (tree s t))
        (λ x e1 g d k p. subst (λ r. Fine s (IsPlain s (tree s t)) e1 r) (sym (all_steps-const t way.const way.core x e1))
        (leads-fine s scene t way.core x (decayed_tree s v.type (sort_of e0.types v.type)) e1 d k (λ w. inside-later e0 e1 t (steps-through e0 e e1 g0 g) (i (within-before e0 e1 s (steps-through e0 e e1 g0 g) w))) way.single p (λ w. way.right (within-before e0 e1 s (steps-through e0 e e1 g0 g) w)))))
      where
        wanted : ℕ → Option (List ConvStep)
        wanted u = if is_zero v.number && takes_null (type_at e0.types u) then Some (Null ∷ []) else value_steps e0.types (defs e0) (decayed (bare e0.types v.type) (type_at e0.types (bare e0.types v.type))) (type_at e0.types u)

    -- to a type that is no reference
    steps-fine : (t : ℕ) → When s e0 (Inside e0 t) → ((u : ℕ) → type_at e0.types t ≡ ty.Ref u → Within e0 s → ⊥)
        → (ss : List ConvStep) → steps e0.types (defs e0) (val v) t ≡ Some ss → Fine s (IsPlain s (tree s t)) e (all_steps t ss v e)
    steps-fine t i no_ref ss found = by (type_at e0.types t) refl
      where
        there : to_value e0.types (defs e0) (val v) (bare e0.types t) ≡ Some ss → Fine s (IsPlain s (tree s t)) e (all_steps t ss v e)
        there h =
            way-fine t (bare e0.types t) ss i (λ w. early-inside s.tables scene.table e0.types w.types t (i w)) (λ w. early-bare s.tables scene.table e0.types w.types t (i w)) h
            (λ w. sym (early-bare s.tables scene.table e0.types w.types t (i w)) ∙ early-form s.tables scene.table e0.types w.types t (i w) (type_at e0.types (bare e0.types t)) refl)
            (λ q is w. early-part s.tables scene.table e0.types w.types t (i w) (ty.Ptr q) q is (λ h. h))

        by : (x : Ty) → type_at e0.types t ≡ x → Fine s (IsPlain s (tree s t)) e (all_steps t ss v e)
        by (ty.Ref u) is = all_steps-never t ss v e (IsPlain s (tree s t)) c (λ w. no_ref u is (before w))
        by ty.Void is = there (sym (steps_at e0.types (defs e0) (val v) t ty.Void is refl) ∙ found)
        by (ty.Int k) is = there (sym (steps_at e0.types (defs e0) (val v) t (ty.Int k) is refl) ∙ found)
        by (ty.Enum k) is = there (sym (steps_at e0.types (defs e0) (val v) t (ty.Enum k) is refl) ∙ found)
        by (ty.Class k) is = there (sym (steps_at e0.types (defs e0) (val v) t (ty.Class k) is refl) ∙ found)
        by (ty.Ptr p) is = there (sym (steps_at e0.types (defs e0) (val v) t (ty.Ptr p) is refl) ∙ found)
        by (ty.Array p n) is = there (sym (steps_at e0.types (defs e0) (val v) t (ty.Array p n) is refl) ∙ found)
        by (ty.Fun g) is = there (sym (steps_at e0.types (defs e0) (val v) t (ty.Fun g) is refl) ∙ found)
        by (ty.MemData k p) is = there (sym (steps_at e0.types (defs e0) (val v) t (ty.MemData k p) is refl) ∙ found)
        by (ty.MemFun k p) is = there (sym (steps_at e0.types (defs e0) (val v) t (ty.MemFun k p) is refl) ∙ found)
        by (ty.Const p) is = there (sym (steps_at e0.types (defs e0) (val v) t (ty.Const p) is refl) ∙ found)

    pub converted-later : (at t : ℕ) → When s e0 (Inside e0 t) → ((u : ℕ) → type_at e0.types t ≡ ty.Ref u → Within e0 s → ⊥)
        → (ss : List ConvStep) → steps e0.types (defs e0) (val v) t ≡ Some ss → Fine s (IsPlain s (tree s t)) e (row.converted at t ss v e)
    converted-later at t i no_ref ss found =
        still-fine s (IsPlain s (tree s t)) e (for_each (step_checked at t v) ss e) (all_steps t ss v) (all_checked e at t v ss) (steps-fine t i no_ref ss found)

  module _ (e : Env) (v : Value) (c : Classless e) (h : When s e (Holds s e)) (f : When s e (Fits s e v)) where
    pub converted-fine : (at t : ℕ) → When s e (Inside e t) → ((u : ℕ) → type_at e.types t ≡ ty.Ref u → Within e s → ⊥)
        → (ss : List ConvStep) → steps e.types (defs e) (val v) t ≡ Some ss → Fine s (IsPlain s (tree s t)) e (row.converted at t ss v e)
    converted-fine at t i no_ref ss found = converted-later e v c f e (steps-none e) c h at t i no_ref ss found

    -- by a standard conversion, or in another way
    pub fitted-fine : (other : ℕ → Value → ℕ → Elab Value) (at t : ℕ) → When s e (Inside e t) → When s e (is_reference (sort_of e.types t) ≡ false)
        → Fine s (IsPlain s (tree s (bare e.types t))) e (other at v (bare e.types t) e) → Fine s (IsPlain s (tree s t)) e (fit_by other at v t e)
    fitted-fine other at t i no_ref otherwise =
        plain-as s (tree s (bare e.types t)) (tree s t) e (fit_by other at v t e) (λ w. sym (early-bare s.tables scene.table e.types w.types t (i w)))
        (by (steps e.types (defs e) (val v) (bare e.types t)) refl)
      where
        never : (u : ℕ) → type_at e.types (bare e.types t) ≡ ty.Ref u → Within e s → ⊥
        never u is w = true≢false (sym (ap (λ x. is_reference (ty_sort e.types x)) is) ∙ no_ref w)

        by : (o : Option (List ConvStep)) → steps e.types (defs e) (val v) (bare e.types t) ≡ o → Fine s (IsPlain s (tree s (bare e.types t))) e (fitted other at v (bare e.types t) o e)
        by None is = otherwise
        by (Some ss) is = converted-fine at (bare e.types t) (λ w. early-inside s.tables scene.table e.types w.types t (i w)) never ss is

    pub fit-fine : (at t : ℕ) → When s e (Inside e t) → When s e (is_reference (sort_of e.types t) ≡ false) → Fine s (IsPlain s (tree s t)) e (row.fit at v t e)
    fit-fine at t i no_ref = fitted-fine no_user at t i no_ref tt

    no_function : (at t : ℕ) (Q : Value → Env → Type 0) → Fine s Q e (user.user_value at v t e)
    no_function at t Q =
        let nothing : by_user e.types (defs e) (val v) t ≡ Nothing = ap (λ d. by_user e.types d (val v) t) (no_defs e c) ∙ no_user_function e.types (val v) t in
        subst (λ u. Fine s Q e (user.by_function at v t u e)) (sym nothing) tt

    pub user_fit-fine : (at t : ℕ) → When s e (Inside e t) → When s e (is_reference (sort_of e.types t) ≡ false) → Fine s (IsPlain s (tree s t)) e (user.fit at v t e)
    user_fit-fine at t i no_ref = fitted-fine user.user_value at t i no_ref (no_function at (bare e.types t) (IsPlain s (tree s (bare e.types t))))

  -- ---- to an integer type

  pub to_kind-fine : (k : Kind) (v : Value) (e : Env) → Classless e → When s e (Holds s e) → When s e (Fits s e v) → Fine s (IsPlain s (integer k)) e (to_kind k v e)
  to_kind-fine k v e c h f =
      onward-fine s (IsType (ty.Int k)) (IsPlain s (integer k)) e (of_kind k e) (λ t. row.fit 0 v t) (of_kind-fine s k e c h)
      (λ t e1 g d held is. plain-as s (tree s t) (integer k) e1 (row.fit 0 v t e1)
      (λ w. ap without_const (tree-at s.tables scene.table t (ty.Int k) (begins-get e1.types.types s.tables.types.types t (ty.Int k) w.types (is w).here)))
      (fit-fine e1 v d held (fits-when s e e1 v g f) 0 t (λ w. (is w).inside) (λ w. ap is_reference (sort_int e1.types t k (is w).here))))
