-- A name in scope, found by the place of the last one that is equal.
use Rattle.std.proofs.Common.{◌≡◌, ℕ, zero, suc, ◌<◌, Bool, true, false, List, [], ◌∷◌, ◌++◌, length, map, reverse, Some, get_or, slice_get, refl, ap, sym, subst, ◌∙◌, arith}
use Rattle.std.specs.Prelude.{bytes_eq, find, None, Option, option_map, if◌then◌else◌}
use Rattle.std.proofs.lemmas.List.{length-reverse, length-map, reverse-reverse}
use Rattle.std.proofs.lemmas.Option.{slice_get-map}
use Rattle.std.proofs.lemmas.Grind.{reverse_onto}
use Rattle.cc_whole.specs.Known.{Meant, Named, lookup}
use Rattle.cf_name_places.specs.Places.{last_place}
use Rattle.cc_whole_valid.specs.declared.scope.Entry.{Entry}
use Rattle.cc_whole_valid.specs.Memory.{meant_of, named_of, last_first, names_of}
use Rattle.cc_whole_valid.proofs.ListLaws.{length-last_first}

front-stays : {A : Type 0} (xs ys : List A) (i : ℕ) → i < length xs → slice_get (xs ++ ys) i ≡ slice_get xs i
front-stays [] ys i h = absurd (omega arith)
front-stays (x ∷ xs) ys zero h = refl
front-stays (x ∷ xs) ys (suc i) h = front-stays xs ys i (omega arith)

last-there : {A : Type 0} (xs : List A) (y : A) → slice_get (xs ++ y ∷ []) (length xs) ≡ Some y
last-there [] y = refl
last-there (x ∷ xs) y = last-there xs y

-- a place is one of the names
within : (x : List ℕ) (names : List (List ℕ)) (i : ℕ) → last_place x names ≡ Some i → i < length names
within x [] i e = absurd (cc)
within x (y ∷ names) i e = by (within x names i) (bytes_eq y x) e
  where
    by : (last_place x names ≡ Some i → i < length names) → (b : Bool) → (if b then Some (length names) else last_place x names) ≡ Some i → i < suc (length names)
    by less true is = let same : length names ≡ i = cc in omega (arith, same)
    by less false is = let h : i < length names = less is in omega (arith, h)

at-place : (ys : List Named) (x : List ℕ) (i : ℕ) → last_place x (names_of ys) ≡ Some i → lookup ys x ≡ option_map (λ (n : Named). n.meant) (slice_get (reverse ys) i)
at-place [] x i e = absurd (cc)
at-place (y ∷ ys) x i e = by (at-place ys x i) (bytes_eq y.name x) e
  where
    order : reverse (y ∷ ys) ≡ reverse ys ++ y ∷ []
    order = reverse_onto ys y []

    long : length (names_of ys) ≡ length (reverse ys)
    long = length-map ys (λ (n : Named). n.name) ∙ sym (length-reverse ys)

    by : (last_place x (names_of ys) ≡ Some i → lookup ys x ≡ option_map (λ (n : Named). n.meant) (slice_get (reverse ys) i))
        → (b : Bool) → (if b then Some (length (names_of ys)) else last_place x (names_of ys)) ≡ Some i
        → option_map (λ (n : Named). n.meant) (if b then Some y else find (λ (n : Named). bytes_eq n.name x) ys) ≡ option_map (λ (n : Named). n.meant) (slice_get (reverse (y ∷ ys)) i)
    by behind true is =
        let same : length (reverse ys) ≡ i = let here : length (names_of ys) ≡ i = cc in sym long ∙ here in
        ap (option_map (λ (n : Named). n.meant)) (sym (ap (λ l. slice_get l i) order ∙ subst (λ k. slice_get (reverse ys ++ y ∷ []) k ≡ Some y) same (last-there (reverse ys) y)))
    by behind false is =
        behind is
        ∙ ap (option_map (λ (n : Named). n.meant)) (sym (ap (λ l. slice_get l i) order ∙ front-stays (reverse ys) (y ∷ []) i (subst (λ k. i < k) long (within x (names_of ys) i is))))

pub no-place : (ys : List Named) (x : List ℕ) → last_place x (names_of ys) ≡ None → lookup ys x ≡ None
no-place [] x e = refl
no-place (y ∷ ys) x e = by (no-place ys x) (bytes_eq y.name x) e
  where
    by : (last_place x (names_of ys) ≡ None → lookup ys x ≡ None) → (b : Bool) → (if b then Some (length (names_of ys)) else last_place x (names_of ys)) ≡ None
        → option_map (λ (n : Named). n.meant) (if b then Some y else find (λ (n : Named). bytes_eq n.name x) ys) ≡ None
    by behind true is = absurd (cc)
    by behind false is = behind is

get-there : {A : Type 0} (xs : List A) (i : ℕ) (d : A) → i < length xs → slice_get xs i ≡ Some (get_or xs i d)
get-there [] i d h = absurd (omega arith)
get-there (x ∷ xs) zero d h = refl
get-there (x ∷ xs) (suc i) d h = get-there xs i d (omega arith)

-- the entries in memory, the last one of which is the first name
module _ (xs : List Entry) (x : List ℕ) (i : ℕ) (there : last_place x (names_of (last_first xs)) ≡ Some i) where
  pub inside : i < length xs
  inside = subst (λ n. i < n) (length-map (last_first xs) (λ (n : Named). n.name) ∙ length-last_first xs) (within x (names_of (last_first xs)) i there)

  pub found : (d : Entry) → d ≡ get_or xs i d → Some (meant_of d.entity) ≡ lookup (last_first xs) x
  found d is = sym (at-place (last_first xs) x i there
      ∙ ap (λ l. option_map (λ (n : Named). n.meant) (slice_get l i)) (reverse-reverse (map named_of xs))
      ∙ ap (option_map (λ (n : Named). n.meant)) (slice_get-map named_of xs i ∙ ap (option_map named_of) (get-there xs i d inside ∙ ap Some (sym is))))
