-- How a reference or a scalar takes a value that is apart (8.4, 8.4.3).
use Rattle.std.proofs.Common.{◌≡◌, ℕ, Bool, true, false, ◌||◌, length, nat_le, List, Option, Some, None, IsTrue, is_some, refl, sym, ap, subst, ◌∙◌, true≢false}
use Rattle.cf_base.specs.declared.limit.Bound.TheVariants as bound_of
use Rattle.cf_types.specs.declared.ty.Ty.{Ty}
use Rattle.cf_types.specs.declared.ty.Ty.TheVariants as ty
use Rattle.cf_classes.specs.OwnedName.{temporary_name}
use Rattle.cf_convert.specs.Constness.{type_at, bare, is_const}
use Rattle.cf_convert.specs.Converts.{binds}
use Rattle.cf_convert.specs.declared.conv.ConvStep.{ConvStep}
use Rattle.cf_core.specs.declared.node.Core.TheVariants as node
use Rattle.cf_core.specs.declared.node.Holder.TheVariants as holder
use Rattle.cf_core.specs.Places.{is_reference as tree_is_reference}
use Rattle.cf_elab.specs.Answer.{Made, Elab, onward, need, gives, for_each}
use Rattle.cf_elab.specs.Complete.{within, most_name}
use Rattle.cf_elab.specs.Env.{Env, Name}
use Rattle.cf_elab.specs.Fit as fit_row
use Rattle.cf_elab.specs.Fit.{all_steps, step_checked}
use Rattle.cf_elab.specs.Initial as row
use Rattle.cf_elab.specs.Initial.{Start, Keeper, kept, is_constant_value, fixed_start, start_of}
use Rattle.cf_elab.specs.Objects.{static_keeper, define_static, static_of}
use Rattle.cf_elab.specs.Operand.{Value, Sort, integral, enumeral, object_pointer, void_pointer, function_pointer, data_pointer, method_pointer, class_sort, array_sort, function_sort, void_sort, reference_sort, is_reference, sort_of, ty_sort, val, defs}
use Rattle.cf_elab.specs.UserFit as user
use Rattle.cf_elab_env.specs.Holds.{without_class}
use Rattle.cf_elab_valid.specs.Scene.{Scene, IsScene, tree, Within, Inside, Classless, Holds}
use Rattle.cf_elab_valid.specs.Sorts.{SortIs, Refers}
use Rattle.cf_elab_valid.proofs.Compared.{no_reference_sort}
use Rattle.cf_elab_valid.proofs.Early.{SortInside, early-inside, early-sort-is, early-sort-inside}
use Rattle.cf_elab_valid.proofs.FitRows.{classless-type, all_checked, needed}
use Rattle.cf_elab_valid.proofs.Unary.{bare_once}
use Rattle.cf_elab_valid.proofs.Ways.{When}
use Rattle.cf_elab_apart.specs.Apart.{Alike, Apart, StartApart}
use Rattle.cf_elab_apart.proofs.Alike.{alike-Bind, alike-BindStatic}
use Rattle.cf_elab_apart.proofs.Answers.{Known, known-onward, known-then, still-known}
use Rattle.cf_elab_apart.proofs.Fit.{Both, Waits, user_fit-waits}
use Rattle.cf_elab_apart.proofs.Settled.{StaysFixed, steps-fixed}

module _ (s : Scene) where
  constant-alike : (x : Value) → x.is_lvalue ≡ false → Apart s x → is_constant_value x ≡ true → Alike s x.node
  constant-alike x l a = by (is_some x.number) refl
    where
      by : (b : Bool) → is_some x.number ≡ b → (b || x.is_fixed) ≡ true → Alike s x.node
      by true is h = a.number l is
      by false is h = a.fixed h

  -- ---- what keeps a temporary

  abbrev pub KeeperApart : ℕ → Keeper → Type 0
  KeeperApart u k = (at : ℕ) (x : Value) → x.is_lvalue ≡ false → Apart s x → StartApart s (row.keeps at u k x)

  pub static_keeper-apart : (reference : Name) (owner : Option Name) (place u : ℕ) (e : Env) → Known (KeeperApart u) (static_keeper reference owner place u e)
  static_keeper-apart reference owner place u e =
      known-onward (KeeperApart u) (within (nat_le (length (temporary_name reference)) most_name) bound_of.Names most_name e)
      (λ _ f. onward (define_static (static_of (temporary_name reference) u (node.Blank place) owner true true) f) (λ _. gives (kept (holder.StaticTemporary (temporary_name reference)))))
      (λ _ f. known-onward (KeeperApart u) (define_static (static_of (temporary_name reference) u (node.Blank place) owner true true) f) (λ _. gives (kept (holder.StaticTemporary (temporary_name reference))))
      (λ _ g at x l a. record { alike = λ q. alike-BindStatic s at (temporary_name reference) x.node (constant-alike x l a q) }))

module _ (s : Scene) (scene : IsScene s) (keeper : ℕ → Elab Keeper) (keeps : (u : ℕ) (e : Env) → Known (KeeperApart s u) (keeper u e)) (e : Env) (v : Value) (c : Classless e) (h : When s e (Holds s e)) (b : When s e (Both s v e)) where
  -- apart, where the environment before leads to the end
  abbrev pub StartWaits : Start → Type 0
  StartWaits x = Within e s → StartApart s x

  -- ---- references

  no_reference : (u : ℕ) → When s e (Inside e u) → When s e (tree_is_reference (tree s u) ≡ false) → When s e (is_reference (sort_of e.types u) ≡ false)
  no_reference u i r w = by (sort_of e.types u) (early-sort-is s.tables scene.table e.types w.types scene.no_class scene.none_to_reference u (i w))
    where
      by : (k : Sort) → SortIs s.tables k (tree s u) → is_reference k ≡ false
      by (reference_sort t) is = absurd (true≢false (sym (ap tree_is_reference is.same) ∙ r w))
      by (integral k) is = refl
      by (enumeral k) is = refl
      by (object_pointer t) is = refl
      by void_pointer is = refl
      by (function_pointer t) is = refl
      by (data_pointer k t) is = refl
      by (method_pointer k t) is = refl
      by (class_sort k) is = refl
      by (array_sort t m) is = refl
      by (function_sort g) is = refl
      by void_sort is = refl

  direct : (at u : ℕ) (ss : List ConvStep) → Known StartWaits (onward (fit_row.converted at u ss v e) (λ x g. Made (fixed_start (node.Bind at holder.NoTemporary x.node) x.is_fixed) g))
  direct at u ss =
      known-then (StaysFixed s (Within e s)) StartWaits (fit_row.converted at u ss v e) (λ x g. Made (fixed_start (node.Bind at holder.NoTemporary x.node) x.is_fixed) g)
      (still-known (StaysFixed s (Within e s)) e (for_each (step_checked at u v) ss e) (all_steps u ss v) (all_checked e at u v ss) (steps-fixed s (Within e s) u ss v e (λ w. (b w).1.fixed)))
      (λ x g k w. record { alike = λ q. alike-Bind s at x.node (k w q) })

  temporary : (at u : ℕ) → When s e (is_reference (sort_of e.types u) ≡ false)
      → Known StartWaits (onward (need (is_const e.types u) 29 at e) (λ _ g. onward (user.fit at v u g) (λ x k. onward (keeper u k) (λ y n. Made (row.keeps at u y x) n))))
  temporary at u r =
      still-known StartWaits e (need (is_const e.types u) 29 at e) (λ g. onward (user.fit at v u g) (λ x k. onward (keeper u k) (λ y n. Made (row.keeps at u y x) n))) (needed e (is_const e.types u) 29 at)
      (known-then (Waits s scene e v c h b) StartWaits (user.fit at v u e) (λ x k. onward (keeper u k) (λ y n. Made (row.keeps at u y x) n)) (user_fit-waits s scene e v c h b at u r)
      (λ x f p. known-then (KeeperApart s u) StartWaits (keeper u f) (λ y n. Made (row.keeps at u y x) n) (keeps u f) (λ y n k w. k at x (p w).0 (p w).1)))

  bound : (at u : ℕ) → When s e (is_reference (sort_of e.types u) ≡ false) → Known StartWaits (row.bound user.fit keeper at u v e)
  bound at u r = by (binds e.types (defs e) (val v) u)
    where
      by : (o : Option (List ConvStep)) → Known StartWaits (row.bound_or user.fit keeper at u v o e)
      by (Some ss) = direct at u ss
      by None = temporary at u r

  -- ---- the row

  scalar : (at t : ℕ) → When s e (is_reference (sort_of e.types t) ≡ false) → Known StartWaits (onward (user.fit at v t e) (λ x g. Made (start_of x) g))
  scalar at t r =
      known-then (Waits s scene e v c h b) StartWaits (user.fit at v t e) (λ x g. Made (start_of x) g) (user_fit-waits s scene e v c h b at t r)
      (λ x g p w. record { alike = λ q. constant-alike s x (p w).0 (p w).1 q })

  taken : (at t : ℕ) → When s e (Inside e t) → When s e (bare e.types t ≡ t) → Known StartWaits (row.taken user.fit keeper at t v (type_at e.types t) e)
  taken at t i own = by (type_at e.types t) refl
    where
      sort : (x : Ty) → type_at e.types t ≡ x → Within e s → sort_of e.types t ≡ ty_sort e.types x
      sort x is w = ap (λ b. ty_sort e.types (type_at e.types b)) (own w) ∙ ap (ty_sort e.types) is

      by : (x : Ty) → type_at e.types t ≡ x → Known StartWaits (row.taken user.fit keeper at t v x e)
      by (ty.Ref u) is = bound at u (no_reference u inside_u (λ w. (there w).no_reference))
        where
          there : Within e s → Refers s.tables u (tree s t)
          there w = subst (λ k. SortIs s.tables k (tree s t)) (sort (ty.Ref u) is w) (early-sort-is s.tables scene.table e.types w.types scene.no_class scene.none_to_reference t (i w))

          inside_u : Within e s → Inside e u
          inside_u w = subst (SortInside (length e.types.types)) (sort (ty.Ref u) is w) (early-sort-inside s.tables scene.table e.types w.types t (i w))
      by (ty.Class k) is = absurd (true≢false (sym (subst (λ x. IsTrue (without_class x)) is (classless-type e.types c.no_type t))))
      by ty.Void is = scalar at t (λ w. ap is_reference (sort ty.Void is w))
      by (ty.Int k) is = scalar at t (λ w. ap is_reference (sort (ty.Int k) is w))
      by (ty.Enum k) is = scalar at t (λ w. ap is_reference (sort (ty.Enum k) is w))
      by (ty.Ptr k) is = scalar at t (λ w. ap is_reference (sort (ty.Ptr k) is w) ∙ no_reference_sort k (type_at e.types (bare e.types k)))
      by (ty.Array k m) is = scalar at t (λ w. ap is_reference (sort (ty.Array k m) is w))
      by (ty.Fun k) is = scalar at t (λ w. ap is_reference (sort (ty.Fun k) is w))
      by (ty.MemData k m) is = scalar at t (λ w. ap is_reference (sort (ty.MemData k m) is w))
      by (ty.MemFun k m) is = scalar at t (λ w. ap is_reference (sort (ty.MemFun k m) is w))
      by (ty.Const k) is = scalar at t (λ w. ap is_reference (sort (ty.Const k) is w))

  pub initial-waits : (at t : ℕ) → When s e (Inside e t) → Known StartWaits (user.initial keeper at t v e)
  initial-waits at t i = taken at (bare e.types t) (λ w. early-inside s.tables scene.table e.types w.types t (i w)) (λ w. bare_once s scene e w t (i w))
