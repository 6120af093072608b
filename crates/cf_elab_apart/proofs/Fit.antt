-- Values that are read, and Fit: what is made of a value that fits and is apart is no place and apart (4).
use Rattle.std.proofs.Common.{◌≡◌, ℕ, Bool, true, false, ◌&&◌, if◌then◌else◌, List, [], ◌∷◌, ◌++◌, ℤ, Option, Some, None, IsTrue, is_some, refl, sym, ap, subst, ◌∙◌, true≢false}
use Rattle.std.specs.Option.{option_map}
use Rattle.cf_types.specs.declared.ty.Ty.{Ty}
use Rattle.cf_types.specs.declared.ty.Ty.TheVariants as ty
use Rattle.cf_convert.specs.Constness.{type_at, bare}
use Rattle.cf_convert.specs.Converts.{steps, to_value, value_steps, takes_null, decayed, first_step}
use Rattle.cf_convert.specs.UserConversion.{Nothing, by_user}
use Rattle.cf_convert.specs.declared.conv.ConvStep.{ConvStep}
use Rattle.cf_convert.specs.declared.conv.ConvStep.TheVariants.{Read, Decay, Null}
use Rattle.cf_core.specs.Types.{SourceType, void, array}
use Rattle.cf_core_typed.specs.Same.{is_operand}
use Rattle.cf_core_typed.proofs.Same.{function-operand, same-operand}
use Rattle.cf_elab.specs.Answer.{Elab, for_each}
use Rattle.cf_elab.specs.Env.{Env}
use Rattle.cf_elab.specs.Fit as row
use Rattle.cf_elab.specs.Fit.{all_steps, step_checked, fitted, fit_by, no_user}
use Rattle.cf_elab.specs.Operand.{Value, Sort, array_sort, function_sort, class_sort, sort_of, ty_sort, is_reference, is_class, is_zero, val, defs, plain_sort, plain, read_value}
use Rattle.cf_elab.specs.UserFit as user
use Rattle.cf_elab_env.specs.Holds.{without_class}
use Rattle.cf_elab_fit.proofs.NoUser.{no_user_function}
use Rattle.cf_elab_valid.specs.Answers.{Fine}
use Rattle.cf_elab_valid.specs.Scene.{Scene, IsScene, tree, Within, Steps, Inside, Classless, Holds, HoldsKnown, Fits, IsPlain}
use Rattle.cf_elab_valid.specs.Sorts.{SortIs}
use Rattle.cf_elab_valid.proofs.Early.{early-sort-is}
use Rattle.cf_elab_valid.proofs.FitRows.{classless-type, no_defs, all_checked, steps_at, converted-fine, fit-fine}
use Rattle.cf_elab_valid.proofs.Numbers.{no-number}
use Rattle.cf_elab_valid.proofs.Plain.{decayed_tree, plain-fine}
use Rattle.cf_elab_valid.proofs.Unary.{placed-fits, classless-sort}
use Rattle.cf_elab_valid.proofs.Ways.{fits-later, within-before, When}
use Rattle.cf_elab_apart.specs.Apart.{Apart}
use Rattle.cf_elab_apart.proofs.Answers.{Known, known-then, known-as, known-any, still-known, fine-both, known-fine}
use Rattle.cf_elab_apart.proofs.Settled.{Settled, read-settled, decayed-settled, steps-settled}

-- a value that fits and is apart
abbrev pub Both : Scene → Value → Env → Type 0
Both s v e = Fits s e v × Apart s v

-- at another place of the text
pub placed-both : (s : Scene) (v : Value) (at : ℕ) (e : Env) → Both s v e → Both s (record v { at = at }) e
placed-both s v at e b = (placed-fits s v at e b.0, record { fixed = λ q. b.1.fixed q; number = λ l z. b.1.number l z })

pub both-when : (s : Scene) (a b : Env) (v : Value) → Steps a b → When s a (Both s v a) → When s b (Both s v b)
both-when s a b v g k = λ w. let h = k (within-before a b s g w) in (fits-later s a b v g h.0, h.1)

-- a plain value that is apart
abbrev pub PlainBoth : Scene → SourceType → Value → Env → Type 0
PlainBoth s t v e = IsPlain s t v e × Apart s v

-- what is no operand has no number
numberless : (z : Option ℤ) (t : SourceType) → is_operand t ≡ false → HoldsKnown z t → is_some z ≡ true → ⊥
numberless None t o h is = true≢false (sym is)
numberless (Some z) t o h is = true≢false (sym (no-number (Some z) t void o h))

mapped : (f : List ConvStep → List ConvStep) (o : Option (List ConvStep)) (ss : List ConvStep) → option_map f o ≡ Some ss → (core : List ConvStep) × (ss ≡ f core)
mapped f None ss h = absurd cc
mapped f (Some core) ss h = (core, cc)

module _ (s : Scene) (scene : IsScene s) (e : Env) (v : Value) (c : Classless e) (h : When s e (Holds s e)) (b : When s e (Both s v e)) where
  fits : When s e (Fits s e v)
  fits w = (b w).0

  abbrev pub Rests : Value → Type 0
  Rests = Settled s (Within e s)

  -- no place, and apart, where the environment before leads to the end
  abbrev pub Waits : Value → Type 0
  Waits x = Within e s → (x.is_lvalue ≡ false) × Apart s x

  rested : (x : Value) → Rests x → Waits x
  rested x k w = (k.0, k.1 w)

  sorted : (k : Sort) → sort_of e.types v.type ≡ k → Within e s → SortIs s.tables k (tree s v.type)
  sorted k is w = subst (λ k. SortIs s.tables k (tree s v.type)) is (early-sort-is s.tables scene.table e.types w.types scene.no_class scene.none_to_reference v.type (b w).0.inside)

  -- ---- what is read

  pub plain-rests : Known Rests (plain v e)
  plain-rests = by (sort_of e.types v.type) refl
    where
      by : (k : Sort) → sort_of e.types v.type ≡ k → Known Rests (plain_sort e.types v k e)
      by (array_sort t n) is =
          decayed-settled s (Within e s) v t e
          (λ w. ((b w).1.fixed, λ z. absurd (numberless v.number (tree s v.type) (same-operand (tree s v.type) (array (tree s t) n) (sorted (array_sort t n) is w).same) (b w).0.number z)))
      by (function_sort f) is =
          decayed-settled s (Within e s) v (bare e.types v.type) e
          (λ w. ((b w).1.fixed, λ z. absurd (numberless v.number (tree s v.type) (function-operand (tree s v.type) (sorted (function_sort f) is w)).0 (b w).0.number z)))
      by (class_sort k) is = absurd (true≢false (sym (ap is_class is) ∙ classless-sort e c v.type))
      by other is = read-settled s (Within e s) e.types v (λ w. (b w).1)

  pub plain-both : Fine s (PlainBoth s (decayed_tree s v.type (sort_of e.types v.type))) e (plain v e)
  plain-both =
      fine-both s (IsPlain s (decayed_tree s v.type (sort_of e.types v.type))) (λ x f. Apart s x) e (plain v e) (plain-fine s scene e v c h fits)
      (known-fine s (IsPlain s (decayed_tree s v.type (sort_of e.types v.type))) (Apart s) e (plain v e) (plain-fine s scene e v c h fits)
      (known-as Rests (λ x. Within e s → Apart s x) (plain v e) (λ x k. k.1) plain-rests))

  -- ---- the steps of a conversion

  abbrev from : Ty
  from = type_at e.types (bare e.types v.type)

  first-rests : (t : ℕ) (more : List ConvStep) → Known Rests (all_steps t (first_step v.is_lvalue (type_at e.types (bare e.types v.type)) ++ more) v e)
  first-rests t more = by (type_at e.types (bare e.types v.type)) (classless-type e.types c.no_type (bare e.types v.type))
    where
      decay : Known Rests (all_steps t (Decay ∷ more) v e)
      decay = known-then Rests Rests (plain v e) (all_steps t more) plain-rests (λ y f q. steps-settled s (Within e s) t more y f q)

      read : (l : Bool) → v.is_lvalue ≡ l → Known Rests (all_steps t ((if l then Read ∷ [] else []) ++ more) v e)
      read true l = steps-settled s (Within e s) t more (read_value e.types v) e (read-settled s (Within e s) e.types v (λ w. (b w).1))
      read false l = steps-settled s (Within e s) t more v e (l, λ w. (b w).1)

      by : (x : Ty) → IsTrue (without_class x) → Known Rests (all_steps t (first_step v.is_lvalue x ++ more) v e)
      by (ty.Array u n) p = decay
      by (ty.Fun g) p = decay
      by (ty.Class k) p = absurd (true≢false (sym p))
      by ty.Void p = read v.is_lvalue refl
      by (ty.Int k) p = read v.is_lvalue refl
      by (ty.Enum k) p = read v.is_lvalue refl
      by (ty.Ptr k) p = read v.is_lvalue refl
      by (ty.Ref k) p = read v.is_lvalue refl
      by (ty.MemData k n) p = read v.is_lvalue refl
      by (ty.MemFun k n) p = read v.is_lvalue refl
      by (ty.Const k) p = read v.is_lvalue refl

  steps-wait : (t : ℕ) → ((u : ℕ) → type_at e.types t ≡ ty.Ref u → Within e s → ⊥) → (ss : List ConvStep) → steps e.types (defs e) (val v) t ≡ Some ss → Known Waits (all_steps t ss v e)
  steps-wait t no_ref ss found = by (type_at e.types t) refl
    where
      wanted : ℕ → Option (List ConvStep)
      wanted u = if is_zero v.number && takes_null (type_at e.types u) then Some (Null ∷ []) else value_steps e.types (defs e) (decayed (bare e.types v.type) (type_at e.types (bare e.types v.type))) (type_at e.types u)

      there : to_value e.types (defs e) (val v) (bare e.types t) ≡ Some ss → Known Waits (all_steps t ss v e)
      there is =
          let m = mapped (λ l. first_step v.is_lvalue (type_at e.types (bare e.types v.type)) ++ l) (wanted (bare e.types t)) ss is in
          subst (λ l. Known Waits (all_steps t l v e)) (sym m.1) (known-as Rests Waits (all_steps t (first_step v.is_lvalue (type_at e.types (bare e.types v.type)) ++ m.0) v e) rested (first-rests t m.0))

      by : (x : Ty) → type_at e.types t ≡ x → Known Waits (all_steps t ss v e)
      by (ty.Ref u) is = known-any Waits (all_steps t ss v e) (λ x w. absurd (no_ref u is w))
      by ty.Void is = there (sym (steps_at e.types (defs e) (val v) t ty.Void is refl) ∙ found)
      by (ty.Int k) is = there (sym (steps_at e.types (defs e) (val v) t (ty.Int k) is refl) ∙ found)
      by (ty.Enum k) is = there (sym (steps_at e.types (defs e) (val v) t (ty.Enum k) is refl) ∙ found)
      by (ty.Class k) is = there (sym (steps_at e.types (defs e) (val v) t (ty.Class k) is refl) ∙ found)
      by (ty.Ptr p) is = there (sym (steps_at e.types (defs e) (val v) t (ty.Ptr p) is refl) ∙ found)
      by (ty.Array p n) is = there (sym (steps_at e.types (defs e) (val v) t (ty.Array p n) is refl) ∙ found)
      by (ty.Fun g) is = there (sym (steps_at e.types (defs e) (val v) t (ty.Fun g) is refl) ∙ found)
      by (ty.MemData k p) is = there (sym (steps_at e.types (defs e) (val v) t (ty.MemData k p) is refl) ∙ found)
      by (ty.MemFun k p) is = there (sym (steps_at e.types (defs e) (val v) t (ty.MemFun k p) is refl) ∙ found)
      by (ty.Const p) is = there (sym (steps_at e.types (defs e) (val v) t (ty.Const p) is refl) ∙ found)

  converted-waits : (at t : ℕ) → ((u : ℕ) → type_at e.types t ≡ ty.Ref u → Within e s → ⊥) → (ss : List ConvStep) → steps e.types (defs e) (val v) t ≡ Some ss → Known Waits (row.converted at t ss v e)
  converted-waits at t no_ref ss found = still-known Waits e (for_each (step_checked at t v) ss e) (all_steps t ss v) (all_checked e at t v ss) (steps-wait t no_ref ss found)

  pub converted-both : (at t : ℕ) → When s e (Inside e t) → ((u : ℕ) → type_at e.types t ≡ ty.Ref u → Within e s → ⊥) → (ss : List ConvStep) → steps e.types (defs e) (val v) t ≡ Some ss
      → Fine s (PlainBoth s (tree s t)) e (row.converted at t ss v e)
  converted-both at t i no_ref ss found =
      let fine = converted-fine s scene e v c h fits at t i no_ref ss found in
      fine-both s (IsPlain s (tree s t)) (λ x f. Apart s x) e (row.converted at t ss v e) fine
      (known-fine s (IsPlain s (tree s t)) (Apart s) e (row.converted at t ss v e) fine (known-as Waits (λ x. Within e s → Apart s x) (row.converted at t ss v e) (λ x k w. (k w).1) (converted-waits at t no_ref ss found)))

  -- ---- Fit

  fitted-waits : (other : ℕ → Value → ℕ → Elab Value) (at t : ℕ) → When s e (is_reference (sort_of e.types t) ≡ false) → Known Waits (other at v (bare e.types t) e) → Known Waits (fit_by other at v t e)
  fitted-waits other at t no_ref otherwise = by (steps e.types (defs e) (val v) (bare e.types t)) refl
    where
      never : (u : ℕ) → type_at e.types (bare e.types t) ≡ ty.Ref u → Within e s → ⊥
      never u is w = true≢false (sym (ap (λ x. is_reference (ty_sort e.types x)) is) ∙ no_ref w)

      by : (o : Option (List ConvStep)) → steps e.types (defs e) (val v) (bare e.types t) ≡ o → Known Waits (fitted other at v (bare e.types t) o e)
      by None is = otherwise
      by (Some ss) is = converted-waits at (bare e.types t) never ss is

  pub fit-waits : (at t : ℕ) → When s e (is_reference (sort_of e.types t) ≡ false) → Known Waits (row.fit at v t e)
  fit-waits at t no_ref = fitted-waits no_user at t no_ref tt

  no_function : (at t : ℕ) → Known Waits (user.user_value at v t e)
  no_function at t =
      let nothing : by_user e.types (defs e) (val v) t ≡ Nothing = ap (λ d. by_user e.types d (val v) t) (no_defs e c) ∙ no_user_function e.types (val v) t in
      subst (λ u. Known Waits (user.by_function at v t u e)) (sym nothing) tt

  pub user_fit-waits : (at t : ℕ) → When s e (is_reference (sort_of e.types t) ≡ false) → Known Waits (user.fit at v t e)
  user_fit-waits at t no_ref = fitted-waits user.user_value at t no_ref (no_function at (bare e.types t))

  pub fit-both : (at t : ℕ) → When s e (Inside e t) → When s e (is_reference (sort_of e.types t) ≡ false) → Fine s (PlainBoth s (tree s t)) e (row.fit at v t e)
  fit-both at t i no_ref =
      fine-both s (IsPlain s (tree s t)) (λ x f. Apart s x) e (row.fit at v t e) (fit-fine s scene e v c h fits at t i no_ref)
      (known-fine s (IsPlain s (tree s t)) (Apart s) e (row.fit at v t e) (fit-fine s scene e v c h fits at t i no_ref)
      (known-as Waits (λ x. Within e s → Apart s x) (row.fit at v t e) (λ x k w. (k w).1) (fit-waits at t no_ref)))
