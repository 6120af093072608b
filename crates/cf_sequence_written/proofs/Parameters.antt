-- The parameters of a type by its number are those of the type.
use Rattle.std.proofs.Common.{◌≡◌, ◌∙◌, ℕ, zero, suc, ◌<◌, ◌≤◌, ◌==◌, Bool, true, false, List, [], ◌∷◌, length, map, reverse, Option, Some, None, slice_get, All, refl, ap, sym, subst, arith}
use Rattle.std.proofs.lemmas.List.{length-reverse}
use Rattle.std.proofs.lemmas.Bool.{eqb-true}
use Rattle.cf_types.specs.declared.ty.Ty.{Ty}
use Rattle.cf_types.specs.declared.ty.Ty.TheVariants as ty
use Rattle.cf_types.specs.declared.ty.Fun.{Fun}
use Rattle.cf_types.specs.Table.{Names, parts_of_fun}
use Rattle.cf_classes.specs.TypeTree.{of_types, params_of, fun_of}
use Rattle.cf_classes.proofs.Trees.{of_type-at}
use Rattle.cf_core.specs.Types.{SourceType, void, array, gives, const, parameters, result, plain, element}
use Rattle.cf_core.specs.Places.{bound}
use Rattle.cf_core.specs.FromTypes.{Tables, type_of, type_step, taking, fun_type}
use Rattle.cf_sequence.specs.Built.{is_row}
use Rattle.cf_sequence.proofs.Calling.{never}
use Rattle.cf_sequence_expr.specs.Parameters.{parameters_at}
use Rattle.cf_sequence_stmt.specs.declared.rows.Row.{Row}
use Rattle.cf_sequence_stmt.specs.Rows.{row_in, row_of, row_at}

pub parameters-taking : (ps : List SourceType) (t : SourceType) (c : Bool) → parameters (taking ps (gives t c)) ≡ ps
parameters-taking [] t c = refl
parameters-taking (p ∷ ps) t c = ap (λ qs. p ∷ qs) (parameters-taking ps t c)

pub result-taking : (ps : List SourceType) (t : SourceType) (c : Bool) → result (taking ps (gives t c)) ≡ t
result-taking [] t c = refl
result-taking (p ∷ ps) t c = result-taking ps t c

past : (xs : List Ty) (t : ℕ) → slice_get xs t ≡ None → length xs ≤ t
past [] t h = omega arith
past (x ∷ xs) zero h = cc
past (x ∷ xs) (suc t) h = let le = past xs t h in omega (arith, le)

-- a number behind the last names none
beyond : {A : Type 0} (none : A) (make : (ℕ → A) → Ty → A) (xs : List Ty) (t : ℕ) → length xs ≤ t → of_types none make xs t ≡ none
beyond none make [] t le = refl
beyond {A} none make (x ∷ xs) t le = by (t == length xs) refl (λ less. beyond none make xs t less)
  where
    by : (b : Bool) → (t == length xs) ≡ b → (length xs ≤ t → of_types none make xs t ≡ none) → elim b as (λ _. A) [ true ↦ make (of_types none make xs) x | false ↦ of_types none make xs t ] ≡ none
    by true e rest = absurd (omega (arith, eqb-true t (length xs) e, le))
    by false e rest = rest (omega (arith, le))

same-below : {A : Type 0} (f g : ℕ → A) (t : ℕ) → ((u : ℕ) → u < t → f u ≡ g u) → (us : List ℕ) → All (λ u. u < t) us → map f us ≡ map g us
same-below f g t same [] all = refl
same-below f g t same (u ∷ us) all =
    ap (λ z. z ∷ map f us) (same u (all 0 u (omega arith))) ∙ ap (λ l. g u ∷ l) (same-below f g t same us (λ i d within. all (suc i) d (omega (arith, within))))

module _ (tables : Tables) (names : (i : ℕ) (v : Ty) → slice_get tables.types.types i ≡ Some v → Names tables.types.funs i (length tables.types.funs) v) where
  abbrev T : ℕ → SourceType
  T = type_of tables

  of-fun : (t : ℕ) (rec : ℕ → SourceType) → ((u : ℕ) → u < t → rec u ≡ T u) → (o : Option Fun) → All (λ u. u < t) (parts_of_fun o)
      → map T (params_of o) ≡ parameters (fun_type rec o)
  of-fun t rec same None all = refl
  of-fun t rec same (Some fun) all =
      sym (same-below rec T t same fun.params (λ i d within. all (suc i) d (omega (arith, within))))
      ∙ sym (parameters-taking (map rec fun.params) (rec fun.result) fun.is_const)

  of-type : (t : ℕ) (v : Ty) → slice_get tables.types.types t ≡ Some v → map T (params_of (fun_of tables.types (Some v))) ≡ parameters (T t)
  of-type t (ty.Fun f) h =
      let r = of_type-at void (type_step tables) tables.types t (ty.Fun f) h in
      of-fun t r.0 r.1 (slice_get tables.types.funs f) (names t (ty.Fun f) h).parts_known ∙ sym (ap parameters r.2)
  of-type t (ty.Ptr u) h = sym (ap parameters (of_type-at void (type_step tables) tables.types t (ty.Ptr u) h).2)
  of-type t (ty.Ref u) h = sym (ap parameters (of_type-at void (type_step tables) tables.types t (ty.Ref u) h).2)
  of-type t (ty.Array u n) h = sym (ap parameters (of_type-at void (type_step tables) tables.types t (ty.Array u n) h).2)
  of-type t (ty.MemData c u) h = sym (ap parameters (of_type-at void (type_step tables) tables.types t (ty.MemData c u) h).2)
  of-type t (ty.MemFun c f) h = sym (ap parameters (of_type-at void (type_step tables) tables.types t (ty.MemFun c f) h).2)
  of-type t (ty.Const u) h = sym (ap parameters (of_type-at void (type_step tables) tables.types t (ty.Const u) h).2)
  of-type t ty.Void h = sym (ap parameters (of_type-at void (type_step tables) tables.types t ty.Void h).2)
  of-type t (ty.Int k) h = sym (ap parameters (of_type-at void (type_step tables) tables.types t (ty.Int k) h).2)
  of-type t (ty.Enum e) h = sym (ap parameters (of_type-at void (type_step tables) tables.types t (ty.Enum e) h).2)
  of-type t (ty.Class c) h = sym (ap parameters (of_type-at void (type_step tables) tables.types t (ty.Class c) h).2)

  found : (t : ℕ) (o : Option Ty) → slice_get tables.types.types t ≡ o → map T (params_of (fun_of tables.types o)) ≡ parameters (T t)
  found t None h =
      let le = past tables.types.types t h in let count = length-reverse tables.types.types in
      sym (ap parameters (beyond void (type_step tables) (reverse tables.types.types) t (omega (arith, le, count))))
  found t (Some v) h = of-type t v h

  pub parameters-are : (t : ℕ) → map (type_of tables) (parameters_at tables.types t) ≡ parameters (type_of tables t)
  parameters-are t = found t (slice_get tables.types.types t) refl

-- ---- arrays

-- the elements of an array type, found by numbers
pub record RowOf (tables : Tables) (t : ℕ) : Type 0 where
  pub row : Row
  pub is : row_at tables.types t ≡ Some row
  pub element_is : type_of tables row.element ≡ element (plain (type_of tables t))
  pub bound_is : row.bound ≡ bound (type_of tables t)

some-row : (q r : Row) → Some q ≡ Some r → q ≡ r
some-row q r e = cc

no-row : (ps : List SourceType) (t : SourceType) (c : Bool) → is_row (taking ps (gives t c)) ≡ false
no-row [] t c = refl
no-row (p ∷ ps) t c = refl

no-const-row : (ps : List SourceType) (t : SourceType) (c : Bool) → is_row (const (taking ps (gives t c))) ≡ false
no-const-row [] t c = refl
no-const-row (p ∷ ps) t c = refl

no-fun-row : (rec : ℕ → SourceType) (o : Option Fun) → is_row (fun_type rec o) ≡ false
no-fun-row rec None = refl
no-fun-row rec (Some f) = no-row (map rec f.params) (rec f.result) f.is_const

no-const-fun-row : (rec : ℕ → SourceType) (o : Option Fun) → is_row (const (fun_type rec o)) ≡ false
no-const-fun-row rec None = refl
no-const-fun-row rec (Some f) = no-const-row (map rec f.params) (rec f.result) f.is_const

module _ (tables : Tables) (names : (i : ℕ) (v : Ty) → slice_get tables.types.types i ≡ Some v → Names tables.types.funs i (length tables.types.funs) v) where
  no-type : (t : ℕ) → slice_get tables.types.types t ≡ None → type_of tables t ≡ void
  no-type t h =
      let le = past tables.types.types t h in let count = length-reverse tables.types.types in
      beyond void (type_step tables) (reverse tables.types.types) t (omega (arith, le, count))

  -- the type that an array or a const type names comes before it
  array-below : (t u n : ℕ) → slice_get tables.types.types t ≡ Some (ty.Array u n) → u < t
  array-below t u n h = (names t (ty.Array u n) h).parts_known 0 u (omega arith)

  const-below : (t u : ℕ) → slice_get tables.types.types t ≡ Some (ty.Const u) → u < t
  const-below t u h = (names t (ty.Const u) h).parts_known 0 u (omega arith)

  row-here : (t u n : ℕ) → slice_get tables.types.types t ≡ Some (ty.Array u n) → type_of tables t ≡ array (type_of tables u) n
  row-here t u n h =
      let r = of_type-at void (type_step tables) tables.types t (ty.Array u n) h in r.2 ∙ ap (λ z. array z n) (r.1 u (array-below t u n h))

  const-here : (t u : ℕ) → slice_get tables.types.types t ≡ Some (ty.Const u) → type_of tables t ≡ const (type_of tables u)
  const-here t u h =
      let r = of_type-at void (type_step tables) tables.types t (ty.Const u) h in r.2 ∙ ap (λ z. const z) (r.1 u (const-below t u h))

  const-row : (t u : ℕ) → slice_get tables.types.types t ≡ Some (ty.Const u) → (o : Option Ty) → slice_get tables.types.types u ≡ o → is_row (type_of tables t) ≡ true → RowOf tables t
  const-row t u h (Some (ty.Array v n)) g ok =
      let is : type_of tables t ≡ const (array (type_of tables v) n) = const-here t u h ∙ ap (λ z. const z) (row-here u v n g) in
      record {
        row = record { element = v; bound = n };
        is = ap (row_of tables.types) h ∙ ap row_in g;
        element_is = sym (ap (λ z. element (plain z)) is);
        bound_is = sym (ap bound is);
      }
  const-row t u h (Some (ty.Fun f)) g ok =
      let r = of_type-at void (type_step tables) tables.types u (ty.Fun f) g in
      never (sym (no-const-fun-row r.0 (slice_get tables.types.funs f)) ∙ sym (ap (λ z. is_row (const z)) r.2) ∙ sym (ap is_row (const-here t u h)) ∙ ok)
  const-row t u h None g ok = never (sym (ap is_row (const-here t u h ∙ ap (λ z. const z) (no-type u g))) ∙ ok)
  const-row t u h (Some v) g ok =
      let r = of_type-at void (type_step tables) tables.types u v g in
      never (sym (ap is_row (const-here t u h ∙ ap (λ z. const z) r.2)) ∙ ok)

  row-found : (t : ℕ) (o : Option Ty) → slice_get tables.types.types t ≡ o → is_row (type_of tables t) ≡ true → RowOf tables t
  row-found t (Some (ty.Array u n)) h ok = record {
    row = record { element = u; bound = n };
    is = ap (row_of tables.types) h;
    element_is = sym (ap (λ z. element (plain z)) (row-here t u n h));
    bound_is = sym (ap bound (row-here t u n h));
  }
  row-found t (Some (ty.Const u)) h ok = const-row t u h (slice_get tables.types.types u) refl ok
  row-found t (Some (ty.Fun f)) h ok =
      let r = of_type-at void (type_step tables) tables.types t (ty.Fun f) h in
      never (sym (no-fun-row r.0 (slice_get tables.types.funs f)) ∙ sym (ap is_row r.2) ∙ ok)
  row-found t None h ok = never (sym (ap is_row (no-type t h)) ∙ ok)
  row-found t (Some v) h ok = let r = of_type-at void (type_step tables) tables.types t v h in never (sym (ap is_row r.2) ∙ ok)

  pub rows-are : (t : ℕ) → is_row (type_of tables t) ≡ true → RowOf tables t
  rows-are t ok = row-found t (slice_get tables.types.types t) refl ok

  -- the type of the elements is there in the tables where the array's is
  row-known-in : (o : Option Ty) (u : ℕ) → slice_get tables.types.types u ≡ o → (r : Row) → row_in o ≡ Some r → r.element < u
  row-known-in (Some (ty.Array v n)) u h r is = subst (λ (q : Row). q.element < u) (some-row (record { element = v; bound = n }) r is) (array-below u v n h)
  row-known-in o u h r is = absurd (let k = is in cc)

  pub element-below : (t : ℕ) (r : Row) → row_at tables.types t ≡ Some r → r.element < t
  element-below t r is = by (slice_get tables.types.types t) refl is
    where
      by : (o : Option Ty) → slice_get tables.types.types t ≡ o → row_of tables.types o ≡ Some r → r.element < t
      by (Some (ty.Const u)) h e =
          let inner = row-known-in (slice_get tables.types.types u) u refl r e in let outer = const-below t u h in omega (arith, inner, outer)
      by (Some (ty.Array u n)) h e = row-known-in (Some (ty.Array u n)) t h r e
      by o h e = absurd (let k = e in cc)
