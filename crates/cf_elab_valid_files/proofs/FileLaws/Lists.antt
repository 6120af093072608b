-- Lists whose items all pass, and names that differ.
use Rattle.std.proofs.Common.{◌≡◌, ℕ, zero, suc, Bool, true, false, not, ◌&&◌, ◌||◌, List, [], ◌∷◌, ◌++◌, map, find, bytes_eq, Option, Some, None, slice_get, refl, sym, ap, subst, ◌∙◌, true≢false}
use Rattle.std.specs.List.{list_any, list_all}
use Rattle.cf_core.specs.Core.{Function, Static}
use Rattle.cf_core.specs.declared.unit.CoreFn.{CoreFn}
use Rattle.cf_core.specs.declared.unit.CoreStatic.{CoreStatic}
use Rattle.cf_core.specs.FromTypes.{Tables}
use Rattle.cf_core.specs.FromUnit.{function_of, static_of}
use Rattle.cf_core.specs.Types.{Name}
use Rattle.cf_core.specs.Valid.{all_differ}
use Rattle.cf_core_typed.proofs.Same.{and-both, and-left, and-right}
use Rattle.cf_elab_valid.proofs.Options.{some_is}
use Rattle.cf_elab_valid_files.proofs.FunctionsLaws.Ends.{same-name, any-at}

pub all-from : {A : Type 0} (test : A → Bool) (xs : List A) → ((n : ℕ) (x : A) → slice_get xs n ≡ Some x → test x ≡ true) → list_all test xs ≡ true
all-from test [] k = refl
all-from test (x ∷ xs) k = and-both (test x) (list_all test xs) (k 0 x refl) (all-from test xs (λ n y h. k (suc n) y h))

pub all-mapped : {A B : Type 0} (test : B → Bool) (f : A → B) (xs : List A) → ((n : ℕ) (x : A) → slice_get xs n ≡ Some x → test (f x) ≡ true) → list_all test (map f xs) ≡ true
all-mapped test f [] k = refl
all-mapped test f (x ∷ xs) k = and-both (test (f x)) (list_all test (map f xs)) (k 0 x refl) (all-mapped test f xs (λ n y h. k (suc n) y h))

pub any-mapped : {A B : Type 0} (test : B → Bool) (f : A → B) (xs : List A) → list_any (λ x. test (f x)) xs ≡ list_any test (map f xs)
any-mapped test f [] = refl
any-mapped test f (x ∷ xs) = ap (λ b. test (f x) || b) (any-mapped test f xs)

pub map-through : {A B C : Type 0} (f : A → B) (g : B → C) (xs : List A) → map g (map f xs) ≡ map (λ x. g (f x)) xs
map-through f g [] = refl
map-through f g (x ∷ xs) = ap (λ l. g (f x) ∷ l) (map-through f g xs)

-- ---- names that differ

pub differ-behind : (xs ys : List Name) → all_differ (xs ++ ys) ≡ true → all_differ ys ≡ true
differ-behind [] ys h = h
differ-behind (x ∷ xs) ys h = differ-behind xs ys (and-right (not (list_any (bytes_eq x) (xs ++ ys))) (all_differ (xs ++ ys)) h)

no-other : (b : Bool) → not b ≡ true → b ≡ false
no-other true h = absurd (true≢false (sym h))
no-other false h = refl

get-mapped : {A B : Type 0} (f : A → B) (xs : List A) (n : ℕ) (x : A) → slice_get xs n ≡ Some x → slice_get (map f xs) n ≡ Some (f x)
get-mapped f [] n x h = absurd cc
get-mapped f (y ∷ ys) zero x h = ap (λ z. Some (f z)) (some_is y x h)
get-mapped f (y ∷ ys) (suc n) x h = get-mapped f ys n x h

abbrev name_of : CoreStatic → Name
name_of x = x.name

-- of static objects whose names differ each is found by its name
pub find-own : (T : Tables) (xs : List CoreStatic) (n : ℕ) (x : CoreStatic) → slice_get xs n ≡ Some x → all_differ (map (λ (y : CoreStatic). y.name) xs) ≡ true → find (λ (y : Static). bytes_eq y.name x.name) (map (static_of T) xs) ≡ Some (static_of T x)
find-own T [] n x h d = absurd cc
find-own T (y ∷ ys) zero x h d =
    subst (λ (z : CoreStatic). find (λ (v : Static). bytes_eq v.name z.name) (map (static_of T) (y ∷ ys)) ≡ Some (static_of T z)) (some_is y x h) (first (same-name y.name))
  where
    first : bytes_eq y.name y.name ≡ true → find (λ (v : Static). bytes_eq v.name y.name) (map (static_of T) (y ∷ ys)) ≡ Some (static_of T y)
    first is = rw is refl
find-own T (y ∷ ys) (suc n) x h d = by (λ k. find-own T ys n x h k) (bytes_eq y.name x.name) refl
  where
    rest : all_differ (map (λ (z : CoreStatic). z.name) ys) ≡ true
    rest = and-right (not (list_any (bytes_eq y.name) (map (λ (z : CoreStatic). z.name) ys))) (all_differ (map (λ (z : CoreStatic). z.name) ys)) d

    apart : list_any (bytes_eq y.name) (map (λ (z : CoreStatic). z.name) ys) ≡ false
    apart = no-other (list_any (bytes_eq y.name) (map (λ (z : CoreStatic). z.name) ys)) (and-left (not (list_any (bytes_eq y.name) (map (λ (z : CoreStatic). z.name) ys))) (all_differ (map (λ (z : CoreStatic). z.name) ys)) d)

    by : (all_differ (map (λ (z : CoreStatic). z.name) ys) ≡ true → find (λ (v : Static). bytes_eq v.name x.name) (map (static_of T) ys) ≡ Some (static_of T x)) → (b : Bool) → bytes_eq y.name x.name ≡ b
        → find (λ (v : Static). bytes_eq v.name x.name) (map (static_of T) (y ∷ ys)) ≡ Some (static_of T x)
    by own true is = absurd (true≢false (sym (any-at (bytes_eq y.name) (map (λ (z : CoreStatic). z.name) ys) n x.name (get-mapped (λ (z : CoreStatic). z.name) ys n x h) is) ∙ apart))
    by own false is = rw is (own rest)
