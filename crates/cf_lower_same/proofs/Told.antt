-- What forms tell of types is so.
use Rattle.std.proofs.Common.{◌≡◌, ℕ, ◌<◌, Bool, true, false, ◌&&◌, ◌==◌, if◌then◌else◌, List, [], ◌∷◌, length, map, get_or, Option, Some, None, slice_get, refl, sym, ap, ◌∙◌, subst, true≢false, arith}
use Rattle.std.proofs.lemmas.Option.{slice_get-get_or}
use Rattle.cf_types.specs.declared.ty.Fun.{Fun}
use Rattle.cf_core.specs.Types.{SourceType, takes, gives, type_eq, without_const}
use Rattle.cf_core.specs.FromTypes.{Tables, type_of, fun_type, taking}
use Rattle.cf_lower_types.specs.declared.form.Form.{Form}
use Rattle.cf_lower_types.specs.declared.form.Form.TheVariants as form
use Rattle.cf_lower_types.specs.Bare.{bare, form_type, fun_at, Named}
use Rattle.cf_lower_same.specs.declared.alike.Alike.{Alike}
use Rattle.cf_lower_same.specs.declared.alike.Alike.TheVariants as told
use Rattle.cf_lower_same.specs.Alike.{same_enums, same, same_params, same_funs, same_functions, alike, Tells, Below}

and_true : (b : Bool) → b && true ≡ b
and_true true = refl
and_true false = refl

and_false : (c : Bool) → false ≡ c && false
and_false true = refl
and_false false = refl

and_assoc : (a b c : Bool) → (a && b) && c ≡ a && (b && c)
and_assoc true b c = refl
and_assoc false b c = refl

-- a function is no other type
abbrev pub is_function : SourceType → Bool
is_function (takes p t) = true
is_function (gives t c) = true
is_function other = false

module _ (tables : Tables) where
  -- ---- functions

  abbrev signature : List ℕ → ℕ → Bool → SourceType
  signature ps r c = without_const (taking (map (type_of tables) ps) (gives (type_of tables r) c))

  abbrev fun_tree : Option Fun → SourceType
  fun_tree o = without_const (fun_type (type_of tables) o)

  same_signatures : (ps qs : List ℕ) (r s : ℕ) (c d : Bool) → same_params tables ps qs && same tables r s ≡ type_eq (signature ps r c) (signature qs s d)
  same_signatures [] [] r s c d = sym (and_true (same tables r s))
  same_signatures [] (q ∷ qs) r s c d = refl
  same_signatures (p ∷ ps) [] r s c d = refl
  same_signatures (p ∷ ps) (q ∷ qs) r s c d =
      and_assoc (same tables p q) (same_params tables ps qs) (same tables r s) ∙ ap (λ b. same tables p q && b) (same_signatures ps qs r s c d)

  some_fun : (f : ℕ) → f < length tables.types.funs → (fun : Fun) × (slice_get tables.types.funs f ≡ Some fun)
  some_fun f h =
      let x : Fun = record { result = 0; params = []; is_const = false } in
      (get_or tables.types.funs f x, slice_get-get_or tables.types.funs f x h)

  functions_decided : (f g : ℕ) → f < length tables.types.funs → g < length tables.types.funs → same_functions tables f g ≡ type_eq (form_type tables (form.Function f)) (form_type tables (form.Function g))
  functions_decided f g h k =
      let x = some_fun f h in
      let y = some_fun g k in
      ap (λ o. same_funs tables o (slice_get tables.types.funs g)) x.1 ∙ ap (same_funs tables (Some x.0)) y.1
      ∙ same_signatures x.0.params y.0.params x.0.result y.0.result x.0.is_const y.0.is_const
      ∙ sym (ap (λ o. type_eq (fun_tree o) (fun_tree (slice_get tables.types.funs g))) x.1 ∙ ap (λ o. type_eq (fun_tree (Some x.0)) (fun_tree o)) y.1)

  signature_right : (s : SourceType) → is_function s ≡ false → (ps : List ℕ) (r : ℕ) (c : Bool) → type_eq s (signature ps r c) ≡ false
  signature_right (takes p t) h ps r c = absurd (true≢false h)
  signature_right (gives t d) h ps r c = absurd (true≢false h)
  signature_right s h [] r c = refl
  signature_right s h (p ∷ ps) r c = refl

  signature_left : (s : SourceType) → is_function s ≡ false → (ps : List ℕ) (r : ℕ) (c : Bool) → type_eq (signature ps r c) s ≡ false
  signature_left (takes p t) h ps r c = absurd (true≢false h)
  signature_left (gives t d) h ps r c = absurd (true≢false h)
  signature_left s h [] r c = refl
  signature_left s h (p ∷ ps) r c = refl

  pub no_function_left : (s : SourceType) (f : ℕ) → is_function s ≡ false → f < length tables.types.funs → false ≡ type_eq s (form_type tables (form.Function f))
  no_function_left s f h k =
      let x = some_fun f k in
      sym (ap (λ o. type_eq s (fun_tree o)) x.1 ∙ signature_right s h x.0.params x.0.result x.0.is_const)

  pub no_function_right : (f : ℕ) (s : SourceType) → is_function s ≡ false → f < length tables.types.funs → false ≡ type_eq (form_type tables (form.Function f)) s
  no_function_right f s h k =
      let x = some_fun f k in
      sym (ap (λ o. type_eq (fun_tree o) s) x.1 ∙ signature_left s h x.0.params x.0.result x.0.is_const)

  -- ---- what is told, by the forms

  arrays_decided : (b : Bool) (t u : ℕ) → Tells tables (if b then told.Types t u else told.Known false) (same tables t u && b)
  arrays_decided true t u = sym (and_true (same tables t u))
  arrays_decided false t u = and_false (same tables t u)

  decided : (n m : ℕ) (a b : Form) → Named tables n a → Named tables m b → Tells tables (alike a b) (type_eq (form_type tables a) (form_type tables b))
  unfolding same_enums
  decided n m (form.Class c) (form.Class d) p q = tt
  decided n m (form.DataMember c t) (form.DataMember d u) p q = tt
  decided n m (form.FunctionMember c f) (form.FunctionMember d g) p q = tt
  decided n m (form.Array t i) (form.Array u j) p q = arrays_decided (i == j) t u
  decided n m (form.Function f) (form.Function g) p q = functions_decided f g p.within q.within
  decided n m a (form.Function g) p q = no_function_left (form_type tables a) g refl q.within
  decided n m (form.Function f) b p q = no_function_right f (form_type tables b) refl p.within
  decided n m a b p q = refl

  below : (n m : ℕ) (a b : Form) → Named tables n a → Named tables m b → Below tables n m (alike a b)
  below n m (form.Enumeration e) (form.Enumeration f) p q = (p, q)
  below n m (form.Pointer t) (form.Pointer u) p q = (p, q)
  below n m (form.Reference t) (form.Reference u) p q = (p, q)
  below n m (form.Array t i) (form.Array u j) p q = by (i == j)
    where
      by : (b : Bool) → Below tables n m (if b then told.Types t u else told.Known false)
      by true = (p, q)
      by false = tt
  below n m (form.Function f) (form.Function g) p q = (p, q)
  below n m (form.Function f) b p q = tt
  below n m a (form.Function g) p q = tt
  below n m a b p q = tt

  -- ---- of two types

  module _ (t u : ℕ) (a b : Form) (x : Alike) (is : x ≡ alike a b) (first_named : Named tables t a) (second_named : Named tables u b) where
    pub compared_tells : bare tables t ≡ form_type tables a → bare tables u ≡ form_type tables b → Tells tables x (type_eq (bare tables t) (bare tables u))
    compared_tells p q =
        subst (λ y. Tells tables y (type_eq (bare tables t) (bare tables u))) (sym is)
        (subst (λ w. Tells tables (alike a b) (type_eq w (bare tables u))) (sym p)
        (subst (λ w. Tells tables (alike a b) (type_eq (form_type tables a) w)) (sym q) (decided t u a b first_named second_named)))

    pub compared_below : Below tables t u x
    compared_below = subst (Below tables t u) (sym is) (below t u a b first_named second_named)
