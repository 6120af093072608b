-- The table of types stays one as it grows.
use Rattle.std.proofs.Common.{◌≡◌, ℕ, ◌<◌, ◌≤◌, ◌+◌, ◌^◌, inl, inr, List, [], ◌∷◌, ◌++◌, length, Some, slice_get, get_or, position, if◌then◌else◌, Bool, true, false, refl, sym, ap, ◌∙◌, subst, All, Option, None, IsTrue, true≢false, arith, length-append}
use Rattle.std.proofs.lemmas.Option.{slice_get-get_or, slice_get_within}
use Rattle.std.proofs.lemmas.List.Quantifiers.{position-Some}
use Rattle.std.specs.List.{list_any}
use Rattle.std.specs.Cmp.{IsEquivalence}
use Rattle.indexmap.specs.IndexSet.{insert_key}
use Rattle.cf_types.specs.declared.ty.Ty.{Ty}
use Rattle.cf_types.specs.declared.ty.Ty.TheVariants as ty
use Rattle.cf_types.specs.declared.ty.Fun.{Fun}
use Rattle.cf_types.specs.Table.{Table, IsTable, Names, NamesBelow, parts, parts_of_fun, fun_in, fun_parts, HasOnce, Enters, AreParameters, passes, passing, is_normal, is_parameter, takes_const}
use Rattle.cf_types.proofs.Places.{get-left, get-front, get-last, get-snoc, HasOnce-snoc, Enters-old, Enters-new, absent_from_any}

-- a list that was not full has grown by an item that it did not have
module _ {A : Type 0} (old new : List A) (u : A) where
  absent_before : (i : ℕ) → Enters old new u i → new ≡ old ++ u ∷ [] → (j : ℕ) → slice_get old j ≡ Some u → ⊥
  absent_before i enters grown j h =
      let here : slice_get new j ≡ Some u = subst (λ l. slice_get l j ≡ Some u) (sym grown) (get-left old (u ∷ []) j u h) in
      let there : slice_get new (length old) ≡ Some u = subst (λ l. slice_get l (length old) ≡ Some u) (sym grown) (get-last old u) in
      omega (arith, slice_get_within old j u h, enters.only j here, enters.only (length old) there)

  room_before : new ≡ old ++ u ∷ [] → length new ≤ 2 ^ 32 → length old < 2 ^ 32
  room_before grown fits = let longer : length new ≡ length old + 1 = ap length grown ∙ length-append old (u ∷ []) in omega arith

-- what names these functions names them among more, and in the same way
parts_of-longer : (funs : List Fun) (u : Fun) (f : ℕ) → f < length funs → parts_of_fun (slice_get (funs ++ u ∷ []) f) ≡ parts_of_fun (slice_get funs f)
parts_of-longer funs u f h = ap parts_of_fun (get-front funs (u ∷ []) f h)

parts-longer : (funs : List Fun) (u : Fun) (v : Ty) → All (λ f. f < length funs) (fun_in v) → parts (funs ++ u ∷ []) v ≡ parts funs v
parts-longer funs u (ty.Fun f) h = parts_of-longer funs u f (h 0 f (omega arith))
parts-longer funs u (ty.MemFun c f) h = parts_of-longer funs u f (h 0 f (omega arith))
parts-longer funs u ty.Void h = refl
parts-longer funs u (ty.Int k) h = refl
parts-longer funs u (ty.Enum n) h = refl
parts-longer funs u (ty.Class c) h = refl
parts-longer funs u (ty.Ptr p) h = refl
parts-longer funs u (ty.Ref p) h = refl
parts-longer funs u (ty.Array p n) h = refl
parts-longer funs u (ty.MemData c p) h = refl
parts-longer funs u (ty.Const p) h = refl

Names-longer : (funs : List Fun) (u : Fun) (i : ℕ) (v : Ty) → Names funs i (length funs) v → Names (funs ++ u ∷ []) i (length (funs ++ u ∷ [])) v
Names-longer funs u i v h = record {
  parts_known = subst (All (λ p. p < i)) (sym (parts-longer funs u v h.fun_known)) h.parts_known;
  fun_known = λ k d w. omega (arith, h.fun_known k d w, length-append funs (u ∷ []));
}

-- a type passes a test in a longer table too
passes-longer : (test : Ty → Bool) (types : List Ty) (u : Ty) (t : ℕ) → IsTrue (passes test types t) → IsTrue (passes test (types ++ u ∷ []) t)
passes-longer test types u t h = by (slice_get types t) refl h
  where
    by : (o : Option Ty) → slice_get types t ≡ o → IsTrue (passing test o) → IsTrue (passes test (types ++ u ∷ []) t)
    by None e k = absurd (true≢false (sym k))
    by (Some v) e k = ap (passing test) (get-left types (u ∷ []) t v e) ∙ k

normal-longer : (types : List Ty) (u v : Ty) → IsTrue (is_normal types v) → IsTrue (is_normal (types ++ u ∷ []) v)
normal-longer types u (ty.Const t) h = passes-longer takes_const types u t h
normal-longer types u ty.Void h = refl
normal-longer types u (ty.Int k) h = refl
normal-longer types u (ty.Enum e) h = refl
normal-longer types u (ty.Class c) h = refl
normal-longer types u (ty.Ptr t) h = refl
normal-longer types u (ty.Ref t) h = refl
normal-longer types u (ty.Array t n) h = refl
normal-longer types u (ty.Fun f) h = refl
normal-longer types u (ty.MemData c t) h = refl
normal-longer types u (ty.MemFun c f) h = refl

parameters-longer : (types : List Ty) (u : Ty) (params : List ℕ) → AreParameters types params → AreParameters (types ++ u ∷ []) params
parameters-longer types u params h = λ k d w. passes-longer is_parameter types u (get_or params k d) (h k d w)

module _ (t : Table) (u : Ty) (old : IsTable t) (normal : IsTrue (is_normal t.types u)) (names : Names t.funs (length t.types) (length t.funs) u) where
  with_type : ((i : ℕ) → slice_get t.types i ≡ Some u → ⊥) → length t.types < 2 ^ 32 → IsTable (record { types = t.types ++ u ∷ []; funs = t.funs })
  with_type absent room = record {
    earlier = λ i v h. elim (get-snoc t.types u i v h) [
      | inl a ↦ old.earlier i v a
      | inr b ↦ let P = λ (n : ℕ). λ (w : Ty). Names t.funs n (length t.funs) w in subst (λ n. P n v) (sym b.0) (subst (P (length t.types)) b.1 names)
    ];
    known = λ f fun h k d w. omega (arith, old.known f fun h k d w, length-append t.types (u ∷ []));
    normal = λ i v h. elim (get-snoc t.types u i v h) [
      | inl a ↦ normal-longer t.types u v (old.normal i v a)
      | inr b ↦ subst (λ w. IsTrue (is_normal (t.types ++ u ∷ []) w)) b.1 (normal-longer t.types u u normal)
    ];
    parameters = λ f fun h. parameters-longer t.types u fun.params (old.parameters f fun h);
    one_number = HasOnce-snoc t.types u absent old.one_number;
    one_fun_number = old.one_fun_number;
    types_fit = omega (arith, length-append t.types (u ∷ []));
    funs_fit = old.funs_fit;
  }

  -- a table stays one when it gets a type that names what it has
  pub entered_type : (new : List Ty) (i : ℕ) → Enters t.types new u i → length new ≤ 2 ^ 32 → IsTable (record { types = new; funs = t.funs })
  entered_type new i enters fits = elim enters.kept [
    | inl kept ↦ subst (λ l. IsTable (record { types = l; funs = t.funs })) (sym kept) old
    | inr grown ↦
        subst (λ l. IsTable (record { types = l; funs = t.funs })) (sym grown)
        (with_type (absent_before t.types new u i enters grown) (room_before t.types new u grown fits))
  ]

module _ (t : Table) (u : Fun) (old : IsTable t) (names : All (λ p. p < length t.types) (fun_parts u)) (params : AreParameters t.types u.params) where
  with_fun : ((i : ℕ) → slice_get t.funs i ≡ Some u → ⊥) → length t.funs < 2 ^ 32 → IsTable (record { types = t.types; funs = t.funs ++ u ∷ [] })
  with_fun absent room = record {
    earlier = λ i v h. Names-longer t.funs u i v (old.earlier i v h);
    known = λ f fun h. elim (get-snoc t.funs u f fun h) [
      | inl a ↦ old.known f fun a
      | inr b ↦ subst (λ v. All (λ p. p < length t.types) (fun_parts v)) b.1 names
    ];
    normal = old.normal;
    parameters = λ f fun h. elim (get-snoc t.funs u f fun h) [
      | inl a ↦ old.parameters f fun a
      | inr b ↦ subst (λ (v : Fun). AreParameters t.types v.params) b.1 params
    ];
    one_number = old.one_number;
    one_fun_number = HasOnce-snoc t.funs u absent old.one_fun_number;
    types_fit = old.types_fit;
    funs_fit = omega (arith, length-append t.funs (u ∷ []));
  }

  -- a table stays one when it gets a function type over types that it has
  pub entered_fun : (new : List Fun) (i : ℕ) → Enters t.funs new u i → length new ≤ 2 ^ 32 → IsTable (record { types = t.types; funs = new })
  entered_fun new i enters fits = elim enters.kept [
    | inl kept ↦ subst (λ l. IsTable (record { types = t.types; funs = l })) (sym kept) old
    | inr grown ↦
        subst (λ l. IsTable (record { types = t.types; funs = l })) (sym grown)
        (with_fun (absent_before t.funs new u i enters grown) (room_before t.funs new u grown fits))
  ]

module _ {A : Type 0} (eq : A → A → Bool) (same : (x y : A) → eq x y ≡ true → x ≡ y) (laws : IsEquivalence eq) (items : List A) (u : A) (i : ℕ) (old : HasOnce items) where
  -- an item that is found keeps its place
  pub found_item : position (eq u) items ≡ Some i → Enters items items u i
  found_item at =
      let p = position-Some (eq u) items i u at in
      Enters-old items u i old (slice_get-get_or items i u p.0 ∙ ap Some (sym (same u (get_or items i u) p.1)))

  -- and one that isn't found goes last
  pub new_item : (new : List A) → list_any (eq u) items ≡ false → new ≡ insert_key eq items u → i ≡ length items → Enters items new u i
  new_item new none grown last =
      let e : new ≡ items ++ u ∷ [] = grown ∙ ap (λ b. if b then items else items ++ u ∷ []) none in
      subst (λ l. Enters items l u i) (sym e)
      (subst (Enters items (items ++ u ∷ []) u) (sym last) (Enters-new items u (absent_from_any (eq u) items u (laws.refl u) none) old))

-- in a table the type that a type names stands before it
pub names_below : (funs : List Fun) (i n : ℕ) (v : Ty) → Names funs i n v → NamesBelow i v
names_below funs i n ty.Void h = tt
names_below funs i n (ty.Int k) h = tt
names_below funs i n (ty.Enum e) h = tt
names_below funs i n (ty.Class c) h = tt
names_below funs i n (ty.Ptr t) h = h.parts_known 0 t (omega arith)
names_below funs i n (ty.Ref t) h = h.parts_known 0 t (omega arith)
names_below funs i n (ty.Array t k) h = h.parts_known 0 t (omega arith)
names_below funs i n (ty.Fun f) h = tt
names_below funs i n (ty.MemData c t) h = h.parts_known 0 t (omega arith)
names_below funs i n (ty.MemFun c f) h = tt
names_below funs i n (ty.Const t) h = h.parts_known 0 t (omega arith)
