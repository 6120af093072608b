-- What operators ask of types of the language without classes, and that all of them are complete.
use Rattle.std.proofs.Common.{◌≡◌, ℕ, zero, suc, ◌+◌, ◌<◌, Bool, true, false, List, [], ◌∷◌, length, get_or, Option, None, Some, slice_get, is_some, All, IsTrue, refl, sym, ap, subst, ◌∙◌, true≢false, arith}
use Rattle.std.specs.Option.{option_map_or}
use Rattle.std.proofs.lemmas.Option.{slice_get_within, slice_get-get_or, get_or_from_slice_get}
use Rattle.cf_base.specs.declared.kind.Kind.{Kind}
use Rattle.cf_types.specs.declared.ty.Ty.{Ty}
use Rattle.cf_types.specs.declared.ty.Ty.TheVariants as ty
use Rattle.cf_types.specs.Table.{Table, IsTable, NamesBelow}
use Rattle.cf_types.proofs.Tables.{names_below}
use Rattle.cf_classes.specs.ClassTable.{definition}
use Rattle.cf_classes.specs.TypeTree.{class_step, class_in}
use Rattle.cf_classes.proofs.Trees.{of_type-at}
use Rattle.cf_elab.specs.Complete.{complete}
use Rattle.cf_elab.specs.Env.{Env}
use Rattle.cf_elab.specs.Operand.{ty_sort, void_sort, defs}
use Rattle.cf_elab_env.specs.Holds.{without_class, HasNoClass}

-- what holds of all items holds of one at its place
pub at_place : {A : Type 0} (P : A → Type 0) (xs : List A) (i : ℕ) (x : A) → All P xs → slice_get xs i ≡ Some x → P x
at_place P xs i x all h = subst P (get_or_from_slice_get xs i x x h) (all i x (slice_get_within xs i x h))

pub no_class_at : (types : Table) (t : ℕ) (v : Ty) → HasNoClass types → slice_get types.types t ≡ Some v → IsTrue (without_class v)
no_class_at types t v all h = at_place (λ w. IsTrue (without_class w)) types.types t v all h

-- the type at a place names types before it, and functions of the table
pub below_at : (types : Table) (t : ℕ) (v : Ty) → IsTable types → slice_get types.types t ≡ Some v → NamesBelow t v
below_at types t v table h = names_below types.funs t (length types.funs) v (table.earlier t v h)

pub fun_known : (types : Table) (t : ℕ) (v : Ty) (f : ℕ) → IsTable types → slice_get types.types t ≡ Some v → v ≡ ty.Fun f → f < length types.funs
fun_known types t v f table h is = (table.earlier t (ty.Fun f) (h ∙ ap Some is)).fun_known 0 f (omega arith)

-- no type is left but void, and const, which stands on no const
pub rest_is_void : (types : Table) (v : Ty) → IsTrue (without_class v) → ((k : Kind) → v ≡ ty.Int k → ⊥) → ((e : ℕ) → v ≡ ty.Enum e → ⊥)
    → ((t : ℕ) → v ≡ ty.Ptr t → ⊥) → ((t : ℕ) → v ≡ ty.Ref t → ⊥) → ((t m : ℕ) → v ≡ ty.Array t m → ⊥) → ((f : ℕ) → v ≡ ty.Fun f → ⊥)
    → void_sort ≡ ty_sort types v
rest_is_void types ty.Void no_class i e p r a f = refl
rest_is_void types (ty.Const t) no_class i e p r a f = refl
rest_is_void types (ty.Int k) no_class i e p r a f = absurd (i k refl)
rest_is_void types (ty.Enum m) no_class i e p r a f = absurd (e m refl)
rest_is_void types (ty.Class c) no_class i e p r a f = absurd (true≢false (sym no_class))
rest_is_void types (ty.Ptr t) no_class i e p r a f = absurd (p t refl)
rest_is_void types (ty.Ref t) no_class i e p r a f = absurd (r t refl)
rest_is_void types (ty.Array t m) no_class i e p r a f = absurd (a t m refl)
rest_is_void types (ty.Fun g) no_class i e p r a f = absurd (f g refl)
rest_is_void types (ty.MemData c t) no_class i e p r a f = absurd (true≢false (sym no_class))
rest_is_void types (ty.MemFun c g) no_class i e p r a f = absurd (true≢false (sym no_class))

-- ---- complete types

module _ (types : Table) (table : IsTable types) (all : HasNoClass types) where
  no_class_step : (t : ℕ) (rec : ℕ → Option ℕ) (v : Ty) → IsTrue (without_class v) → NamesBelow t v → ((u : ℕ) → u < t → rec u ≡ None) → class_step rec v ≡ None
  no_class_step t rec ty.Void h below none = refl
  no_class_step t rec (ty.Int k) h below none = refl
  no_class_step t rec (ty.Enum e) h below none = refl
  no_class_step t rec (ty.Class c) h below none = absurd (true≢false (sym h))
  no_class_step t rec (ty.Ptr u) h below none = refl
  no_class_step t rec (ty.Ref u) h below none = refl
  no_class_step t rec (ty.Array u m) h below none = none u below
  no_class_step t rec (ty.Fun f) h below none = refl
  no_class_step t rec (ty.MemData c u) h below none = absurd (true≢false (sym h))
  no_class_step t rec (ty.MemFun c f) h below none = absurd (true≢false (sym h))
  no_class_step t rec (ty.Const u) h below none = none u below

  no_class_below : (n t : ℕ) → t < n → t < length types.types → class_in types t ≡ None
  no_class_below zero t before known = absurd (omega arith)
  no_class_below (suc n) t before known =
      let v = get_or types.types t ty.Void in
      let here : slice_get types.types t ≡ Some v = slice_get-get_or types.types t ty.Void known in
      let r = of_type-at None class_step types t v here in
      r.2 ∙ no_class_step t r.0 v (no_class_at types t v all here) (below_at types t v table here) (λ u earlier. r.1 u earlier ∙ no_class_below n u (omega arith) (omega arith))

  -- no type holds a class
  pub no_class_in : (t : ℕ) → t < length types.types → class_in types t ≡ None
  no_class_in t known = no_class_below (t + 1) t (omega arith) known

pub all_complete : (env : Env) → IsTable env.types → HasNoClass env.types → (t : ℕ) → t < length env.types.types → true ≡ complete env t
all_complete env table all t known = sym (ap (λ c. option_map_or (λ c. is_some (definition (defs env) c)) c true) (no_class_in env.types table all t known))
