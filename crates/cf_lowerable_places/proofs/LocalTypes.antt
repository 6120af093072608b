-- The locals of a function by their types, if they are there.
use Rattle.std.proofs.Common.{◌≡◌, ℕ, zero, suc, ◌<◌, ◌≤◌, Bool, true, false, ◌&&◌, not, nat_lt, List, [], ◌∷◌, length, map, Option, Some, None, slice_get, refl, sym, ap, subst, ◌∙◌, arith}
use Rattle.std.specs.Prelude.{is_some}
use Rattle.std.proofs.lemmas.Bool.Decides.{nat_tests}
use Rattle.std.proofs.lemmas.List.{length-map}
use Rattle.cf_core.specs.FromTypes.{Tables, type_of}
use Rattle.cf_core.specs.Places.{is_reference, is_scalar}
use Rattle.cf_core.specs.Types.{SourceType, void, without_const, type_eq}
use Rattle.cf_lower.specs.Kept.{referred, type_or_void, type_of_local, is_argument}
use Rattle.cf_lower_held.specs.declared.scene.Scene.{Scene}
use Rattle.cf_lower_held.specs.Scenes.{locals_in}
use Rattle.cf_lower_kept.specs.Ready.{is_code}
use Rattle.cf_lower_layout.specs.Sorts.{sort_of}
use Rattle.cf_lower_place.specs.Calls.{is_passed}
use Rattle.cf_lower_place.specs.Leaf.{const_on_none, is_object_local, is_reference_local, is_local, is_laid, may_begin}
use Rattle.cf_lower_types.specs.Bare.{Refers, classes_of}
use Rattle.cf_lowerable_places.specs.Fits.{view_in}

below : {A : Type 0} (xs : List A) (i : ℕ) (x : A) → slice_get xs i ≡ Some x → i < length xs
below [] i x e = cc
below (y ∷ ys) zero x e = omega arith
below (y ∷ ys) (suc i) x e = omega (arith, below ys i x e)

beyond : {A : Type 0} (xs : List A) (i : ℕ) → slice_get xs i ≡ None → length xs ≤ i
beyond [] i e = omega arith
beyond (y ∷ ys) zero e = cc
beyond (y ∷ ys) (suc i) e = omega (arith, beyond ys i e)

within : {A B : Type 0} (f : A → B) (xs : List A) (i : ℕ) (x : A) → slice_get xs i ≡ Some x → nat_lt i (length (map f xs)) ≡ true
within f xs i x e = by (length (map f xs)) (length-map xs f) (below xs i x e)
  where
    by : (n : ℕ) → n ≡ length xs → i < length xs → nat_lt i n ≡ true
    by n same lt = grind (arith, nat_tests)

past : {A B : Type 0} (f : A → B) (xs : List A) (i : ℕ) → slice_get xs i ≡ None → nat_lt i (length (map f xs)) ≡ false
past f xs i e = by (length (map f xs)) (length-map xs f) (beyond xs i e)
  where
    by : (n : ℕ) → n ≡ length xs → length xs ≤ i → nat_lt i n ≡ false
    by n same le = grind (arith, nat_tests)

found : (f : ℕ → SourceType) (xs : List ℕ) (i x : ℕ) → slice_get xs i ≡ Some x → type_or_void (slice_get (map f xs) i) ≡ f x
found f [] i x e = cc
found f (y ∷ ys) zero x e = ap f (same y x e)
  where
    same : (a b : ℕ) → Some a ≡ Some b → a ≡ b
    same a b e = cc
found f (y ∷ ys) (suc i) x e = found f ys i x e

missing : (f : ℕ → SourceType) (xs : List ℕ) (i : ℕ) → slice_get xs i ≡ None → type_or_void (slice_get (map f xs) i) ≡ void
missing f [] i e = refl
missing f (y ∷ ys) zero e = cc
missing f (y ∷ ys) (suc i) e = missing f ys i e

module _ (x : Scene) (i : ℕ) (o : Option ℕ) (is : o ≡ slice_get x.types i) where
  module _ (t : ℕ) (some : o ≡ Some t) where
    at : slice_get x.types i ≡ Some t
    at = sym is ∙ some

    pub is_there : true ≡ nat_lt i (length (locals_in x).types)
    is_there = sym (within (type_of x.tables.now) x.types i t at)

    its_type : type_of_local (locals_in x) i ≡ type_of x.tables.now t
    its_type = found (type_of x.tables.now) x.types i t at

    -- what is asked of a local that is there, and of its type
    asked : (P : SourceType → Bool) (b : Bool) → b ≡ P (type_of x.tables.now t) → b ≡ (nat_lt i (length (locals_in x).types) && P (type_of_local (locals_in x) i))
    asked P b e = e ∙ ap P (sym its_type) ∙ ap (λ c. c && P (type_of_local (locals_in x) i)) is_there

    pub object_there : (b : Bool)
        → b ≡ (not (is_argument (locals_in x) i && is_scalar (type_of x.tables.now t)) && (not (is_reference (type_of x.tables.now t)) && not (is_code (type_of x.tables.now t))))
        → b ≡ is_object_local (locals_in x) i
    object_there b e =
        e ∙ ap (λ u. not (is_argument (locals_in x) i && is_scalar u) && (not (is_reference u) && not (is_code u))) (sym its_type)
        ∙ ap (λ c. (c && not (is_argument (locals_in x) i && is_scalar (type_of_local (locals_in x) i)))
        && (not (is_reference (type_of_local (locals_in x) i)) && not (is_code (type_of_local (locals_in x) i)))) is_there

    pub reference_there : (b : Bool) → b ≡ (is_reference (type_of x.tables.now t) && const_on_none (referred (type_of x.tables.now t))) → b ≡ is_reference_local (locals_in x) i
    reference_there b e = asked (λ u. is_reference u && const_on_none (referred u)) b e

    pub local_there : (u : SourceType) (b : Bool) → b ≡ type_eq (without_const u) (without_const (type_of x.tables.now t)) → b ≡ is_local (locals_in x) i u
    local_there u b e = asked (λ w. type_eq (without_const u) (without_const w)) b e

    pub passed_there : (b : Bool) → b ≡ ((is_argument (locals_in x) i && is_scalar (type_of x.tables.now t)) && is_some (sort_of (type_of x.tables.now t))) → b ≡ is_passed (locals_in x) i
    passed_there b e = asked (λ u. (is_argument (locals_in x) i && is_scalar u) && is_some (sort_of u)) b e

    pub place_there : without_const (type_of x.tables.now t) ≡ without_const (type_of_local (locals_in x) i)
    place_there = ap without_const (sym its_type)

  module _ (none : o ≡ None) where
    gone : slice_get x.types i ≡ None
    gone = sym is ∙ none

    pub is_missing : false ≡ nat_lt i (length (locals_in x).types)
    is_missing = sym (past (type_of x.tables.now) x.types i gone)

    pub object_missing : false ≡ is_object_local (locals_in x) i
    object_missing =
        ap (λ c. (c && not (is_argument (locals_in x) i && is_scalar (type_of_local (locals_in x) i)))
        && (not (is_reference (type_of_local (locals_in x) i)) && not (is_code (type_of_local (locals_in x) i)))) is_missing

    pub reference_missing : false ≡ is_reference_local (locals_in x) i
    reference_missing = ap (λ c. c && (is_reference (type_of_local (locals_in x) i) && const_on_none (referred (type_of_local (locals_in x) i)))) is_missing

    pub local_missing : (u : SourceType) → false ≡ is_local (locals_in x) i u
    local_missing u = ap (λ c. c && type_eq (without_const u) (without_const (type_of_local (locals_in x) i))) is_missing

    pub passed_missing : false ≡ is_passed (locals_in x) i
    passed_missing =
        ap (λ c. c && ((is_argument (locals_in x) i && is_scalar (type_of_local (locals_in x) i)) && is_some (sort_of (type_of_local (locals_in x) i)))) is_missing

    pub place_missing : void ≡ without_const (type_of_local (locals_in x) i)
    place_missing = ap without_const (sym (missing (type_of x.tables.now) x.types i gone))

-- ---- references

module _ (tables : Tables) (t : ℕ) (o : Option ℕ) (refers : Refers tables t o) where
  pub refers_some : (u : ℕ) (b : Bool) → o ≡ Some u → b ≡ const_on_none (type_of tables u) → b ≡ (is_reference (type_of tables t) && const_on_none (referred (type_of tables t)))
  refers_some u b some e =
      let found : Refers tables t (Some u) = subst (Refers tables t) some refers in
      e ∙ ap const_on_none (sym found.1) ∙ ap (λ c. c && const_on_none (referred (type_of tables t))) (sym found.0)

  pub refers_none : o ≡ None → false ≡ (is_reference (type_of tables t) && const_on_none (referred (type_of tables t)))
  refers_none none =
      let found : Refers tables t None = subst (Refers tables t) none refers in
      ap (λ c. c && const_on_none (referred (type_of tables t))) (sym found)

-- ---- objects that begin

pub begins : (x : Scene) (i : ℕ) (t : SourceType) (b c : Bool) → b ≡ is_local (locals_in x) i t → b ≡ true → c ≡ is_laid (classes_of x.tables.now) t → c ≡ may_begin (view_in x) i t
begins x i t b c local sure laid = laid ∙ ap (λ a. a && is_laid (classes_of x.tables.now) t) (sym sure ∙ local)

pub begins_not : (x : Scene) (i : ℕ) (t : SourceType) (b : Bool) → b ≡ is_local (locals_in x) i t → b ≡ false → false ≡ may_begin (view_in x) i t
begins_not x i t b local not_so = ap (λ a. a && is_laid (classes_of x.tables.now) t) (sym not_so ∙ local)
