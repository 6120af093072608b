-- A type by its number is made of what the table has at this number.
use Rattle.std.proofs.Common.{◌≡◌, ℕ, suc, ◌<◌, ◌≤◌, ◌==◌, Bool, true, false, List, [], ◌∷◌, length, map, reverse, Option, Some, None, slice_get, All, refl, sym, ap, ◌∙◌, arith}
use Rattle.std.proofs.lemmas.List.{length-reverse}
use Rattle.std.proofs.lemmas.Bool.{eqb-true}
use Rattle.cf_types.specs.declared.ty.Ty.{Ty}
use Rattle.cf_types.specs.declared.ty.Ty.TheVariants as ty
use Rattle.cf_types.specs.declared.ty.Fun.{Fun}
use Rattle.cf_types.specs.Table.{Table, Names, parts_of_fun}
use Rattle.cf_classes.specs.Fit.{enum_of_type}
use Rattle.cf_classes.specs.TypeTree.{of_types}
use Rattle.cf_classes.proofs.Trees.{of_type-at}
use Rattle.cf_core.specs.Types.{SourceType, void, gives, pointer, reference, array, data_member, function_member, const}
use Rattle.cf_core.specs.FromTypes.{Tables, type_of, type_step, taking, fun_type, class_code}
use Rattle.cf_lower_types.specs.Bare.{HasEnum}
use Rattle.cf_lower_types.specs.Ordered.{AreOrdered}

-- ---- numbers that the table does not have

module _ (none : SourceType) (make : (ℕ → SourceType) → Ty → SourceType) where
  passed : (xs : List Ty) (t : ℕ) → length xs ≤ t → of_types none make xs t ≡ none
  passed [] t h = refl
  passed (x ∷ xs) t h = by (t == length xs) refl (passed xs t (omega arith))
    where
      by : (b : Bool) → (t == length xs) ≡ b → of_types none make xs t ≡ none
          → elim b as (λ _. SourceType) [ true ↦ make (of_types none make xs) x | false ↦ of_types none make xs t ] ≡ none
      by true e rest = absurd (omega (arith, eqb-true t (length xs) e))
      by false e rest = rest

pub missing : (tables : Tables) (t : ℕ) → length tables.types.types ≤ t → type_of tables t ≡ void
missing tables t h =
    let same = length-reverse tables.types.types in
    passed void (type_step tables) (reverse tables.types.types) t (omega (arith, same))

-- ---- numbers that it has

module _ (tables : Tables) (rec : ℕ → SourceType) (t : ℕ) (same : (u : ℕ) → u < t → rec u ≡ type_of tables u) where
  pub all_same : (ps : List ℕ) → All (λ p. p < t) ps → map rec ps ≡ map (type_of tables) ps
  all_same [] all = refl
  all_same (p ∷ ps) all =
      ap (λ u. u ∷ map rec ps) (same p (all 0 p (omega arith)))
      ∙ ap (λ l. type_of tables p ∷ l) (all_same ps (λ k d lt. all (suc k) d (omega arith)))

  fun_same : (o : Option Fun) → All (λ p. p < t) (parts_of_fun o) → fun_type rec o ≡ fun_type (type_of tables) o
  fun_same None all = refl
  fun_same (Some f) all =
      ap (λ l. taking l (gives (rec f.result) f.is_const)) (all_same f.params (λ k d lt. all (suc k) d (omega arith)))
      ∙ ap (λ w. taking (map (type_of tables) f.params) (gives w f.is_const)) (same f.result (all 0 f.result (omega arith)))

  step_same : (v : Ty) → Names tables.types.funs t (length tables.types.funs) v → type_step tables rec v ≡ type_step tables (type_of tables) v
  step_same ty.Void names = refl
  step_same (ty.Int k) names = refl
  step_same (ty.Enum e) names = refl
  step_same (ty.Class c) names = refl
  step_same (ty.Ptr u) names = ap pointer (same u (names.parts_known 0 u (omega arith)))
  step_same (ty.Ref u) names = ap reference (same u (names.parts_known 0 u (omega arith)))
  step_same (ty.Array u n) names = ap (λ w. array w n) (same u (names.parts_known 0 u (omega arith)))
  step_same (ty.Fun f) names = fun_same (slice_get tables.types.funs f) names.parts_known
  step_same (ty.MemData c u) names = ap (data_member (class_code tables.classes c)) (same u (names.parts_known 0 u (omega arith)))
  step_same (ty.MemFun c f) names = ap (function_member (class_code tables.classes c)) (fun_same (slice_get tables.types.funs f) names.parts_known)
  step_same (ty.Const u) names = ap const (same u (names.parts_known 0 u (omega arith)))

pub found : (tables : Tables) (t : ℕ) (v : Ty) → slice_get tables.types.types t ≡ Some v → Names tables.types.funs t (length tables.types.funs) v
    → type_of tables t ≡ type_step tables (type_of tables) v
found tables t v h names = let r = of_type-at void (type_step tables) tables.types t v h in r.2 ∙ step_same tables r.0 t r.1 v names

pub no_names : (tables : Tables) (t : ℕ) → Names tables.types.funs t (length tables.types.funs) ty.Void
no_names tables t = record { parts_known = λ k d lt. absurd (omega arith); fun_known = λ k d lt. absurd (omega arith) }

has_enum : (tables : Tables) (v : Ty) → All (λ e. e < length tables.classes.enums) (enum_of_type v) → HasEnum tables v
has_enum tables (ty.Enum e) all = all 0 e (omega arith)
has_enum tables v all = tt

-- ---- in ordered tables

module _ (tables : Tables) (types : Table) (same : types ≡ tables.types) (t : ℕ) where
  pub found_in : (v : Ty) → AreOrdered tables → slice_get types.types t ≡ Some v → type_of tables t ≡ type_step tables (type_of tables) v
  found_in v ordered h =
      let here : slice_get tables.types.types t ≡ Some v = sym (ap (λ (x : Table). slice_get x.types t) same) ∙ h in
      found tables t v here (ordered.names t v here)

  pub names_in : (v : Ty) → AreOrdered tables → slice_get types.types t ≡ Some v → Names tables.types.funs t (length tables.types.funs) v
  names_in v ordered h = ordered.names t v (sym (ap (λ (x : Table). slice_get x.types t) same) ∙ h)

  pub enum_in : (v : Ty) → AreOrdered tables → slice_get types.types t ≡ Some v → HasEnum tables v
  enum_in v ordered h = has_enum tables v (ordered.fit.enums_given t v (sym (ap (λ (x : Table). slice_get x.types t) same) ∙ h))

  pub missing_in : (n : ℕ) → n ≡ length types.types → (t < n → ⊥) → type_of tables t ≡ void
  missing_in n len past =
      let count : n ≡ length tables.types.types = len ∙ ap (λ (x : Table). length x.types) same in
      missing tables t (omega (arith, count, past))
