-- Items that a file names: those that it declares for others, and each with its name.
use Rattle.std.proofs.Common.{◌≡◌, ℕ, Bool, true, false, ◌||◌, cond, List, [], ◌∷◌, map, refl, ap, subst, inl, inr}
use Rattle.std.specs.Prelude.{bytes_eq}
use Rattle.cf_base.proofs.Tests.{bytes_same}
use Rattle.cc_whole.specs.Plain.{Item, declares, declares_variable, defines, defines_variable, name_of}
use Rattle.cc_whole.specs.Known.{is_in}
use Rattle.cf_lower.specs.Functions.{other_names}
use Rattle.cc_whole_sections.specs.Sections.{In, item_name}

pub named-name : (i : Item) → item_name i ≡ name_of i
named-name (declares p) = refl
named-name (declares_variable t name) = refl
named-name (defines f) = refl
named-name (defines_variable v) = refl

pub record Mapped {A B : Type 0} (f : A → B) (xs : List A) (y : B) : Type 0 where
  pub one : A
  pub there : In one xs
  pub is : f one ≡ y

pub mapped-from : {A B : Type 0} (f : A → B) (xs : List A) (y : B) → In y (map f xs) → Mapped f xs y
mapped-from f [] y h = absurd h
mapped-from f (x ∷ xs) y (inl e) = record { one = x; there = inl refl; is = e }
mapped-from f (x ∷ xs) y (inr h) = let rest = mapped-from f xs y h in record { one = rest.one; there = inr rest.there; is = rest.is }

-- ---- names of other files

abbrev Names : Type 0
Names = List (List ℕ)

pub other-from : (names : Names) (is : List Item) (i : Item) → In i (other_names names is) → In i is
other-from names [] i h = h
other-from names (j ∷ rest) i h = go (λ k. other-from names rest i k) (λ k. other-from (name_of j ∷ names) rest i k) (is_in names (name_of j)) h
  where
    go : (In i (other_names names rest) → In i rest) → (In i (other_names (name_of j ∷ names) rest) → In i rest) → (b : Bool)
        → In i (cond b (other_names names rest) (j ∷ other_names (name_of j ∷ names) rest)) → In i (j ∷ rest)
    go again on true k = inr (again k)
    go again on false (inl e) = inl e
    go again on false (inr k) = inr (on k)

later : (a b x : Bool) → ((a || b) || x) ≡ true → (b || (a || x)) ≡ true
later true true x e = refl
later true false x e = refl
later false true x e = refl
later false false x e = e

first-there : (names : Names) (j : Item) (x : Bool) → (is_in names (name_of j) || (bytes_eq (name_of j) (name_of j) || x)) ≡ true
first-there names j x = go (is_in names (name_of j))
  where
    go : (b : Bool) → (b || (bytes_eq (name_of j) (name_of j) || x)) ≡ true
    go true = refl
    go false = ap (λ c. c || x) (bytes_same (name_of j) (name_of j) refl)

-- each name is one of these, or of one of the items that are declared
pub other-there : (names : Names) (is : List Item) (i : Item) → In i is → (is_in names (name_of i) || is_in (map name_of (other_names names is)) (name_of i)) ≡ true
other-there names [] i h = absurd h
other-there names (j ∷ rest) i h = go (λ k. other-there names rest i k) (λ k. other-there (name_of j ∷ names) rest i k) (is_in names (name_of j)) refl h
  where
    go : (In i rest → (is_in names (name_of i) || is_in (map name_of (other_names names rest)) (name_of i)) ≡ true)
        → (In i rest → (is_in (name_of j ∷ names) (name_of i) || is_in (map name_of (other_names (name_of j ∷ names) rest)) (name_of i)) ≡ true) → (b : Bool)
        → is_in names (name_of j) ≡ b → In i (j ∷ rest)
        → (is_in names (name_of i) || is_in (map name_of (cond b (other_names names rest) (j ∷ other_names (name_of j ∷ names) rest))) (name_of i)) ≡ true
    go again on true e (inl k) =
        ap (λ c. c || is_in (map name_of (other_names names rest)) (name_of i)) (subst (λ (x : Item). is_in names (name_of x) ≡ true) k e)
    go again on true e (inr k) = again k
    go again on false e (inl k) =
        subst (λ (x : Item). (is_in names (name_of x) || (bytes_eq (name_of j) (name_of x) || is_in (map name_of (other_names (name_of j ∷ names) rest)) (name_of x))) ≡ true)
        k (first-there names j (is_in (map name_of (other_names (name_of j ∷ names) rest)) (name_of j)))
    go again on false e (inr k) =
        later (bytes_eq (name_of j) (name_of i)) (is_in names (name_of i)) (is_in (map name_of (other_names (name_of j ∷ names) rest)) (name_of i)) (on k)
