-- Items of a list, and what names mean by the first of each.
use Rattle.std.proofs.Common.{◌≡◌, Bool, true, false, ◌||◌, if◌then◌else◌, List, [], ◌∷◌, ◌++◌, ◌⊎◌, inl, inr, map, Option, Some, refl, ap, sym, subst, ◌∙◌}
use Rattle.std.specs.Prelude.{bytes_eq, find, option_map, is_some}
use Rattle.std.specs.List.{list_all}
use Rattle.cf_base.proofs.Tests.{both, all_of, same_bytes, bytes_same}
use Rattle.cc_whole.specs.Known.{Meant, Named, lookup, is_in}
use Rattle.cc_whole.specs.Plain.{Item, declares, declares_variable, defines, defines_variable, name_of}
use Rattle.cc_whole.specs.Valid.{named_by}
use Rattle.cf_core.specs.Types.{Name}
use Rattle.cf_lower.specs.Functions.{other_names}

-- it stands in the list
abbrev pub In : {A : Type 0} → A → List A → Type 0
In x [] = ⊥
In x (y ∷ ys) = (y ≡ x) ⊎ In x ys

-- it is so of each
abbrev pub Every : {A : Type 0} → (A → Type 0) → List A → Type 0
Every {A} P xs = (x : A) → In x xs → P x

pub in-left : {A : Type 0} (x : A) (xs ys : List A) → In x xs → In x (xs ++ ys)
in-left x [] ys h = absurd h
in-left x (y ∷ xs) ys (inl e) = inl e
in-left x (y ∷ xs) ys (inr h) = inr (in-left x xs ys h)

pub in-right : {A : Type 0} (x : A) (xs ys : List A) → In x ys → In x (xs ++ ys)
in-right x [] ys h = h
in-right x (y ∷ xs) ys h = inr (in-right x xs ys h)

pub in-mapped : {A B : Type 0} (f : A → B) (x : A) (xs : List A) → In x xs → In (f x) (map f xs)
in-mapped f x [] h = h
in-mapped f x (y ∷ ys) (inl e) = inl (ap f e)
in-mapped f x (y ∷ ys) (inr h) = inr (in-mapped f x ys h)

pub every-append : {A : Type 0} (P : A → Type 0) (xs ys : List A) → Every P xs → Every P ys → Every P (xs ++ ys)
every-append P [] ys f g x h = g x h
every-append P (y ∷ xs) ys f g x (inl e) = f x (inl e)
every-append P (y ∷ xs) ys f g x (inr h) = every-append P xs ys (λ z k. f z (inr k)) g x h

pub every-mapped : {A B : Type 0} (P : B → Type 0) (f : A → B) (xs : List A) → Every (λ x. P (f x)) xs → Every P (map f xs)
every-mapped P f [] h y k = absurd k
every-mapped P f (x ∷ xs) h y (inl e) = subst P e (h x (inl refl))
every-mapped P f (x ∷ xs) h y (inr k) = every-mapped P f xs (λ z l. h z (inr l)) y k

pub all-in : {A : Type 0} (test : A → Bool) (xs : List A) → list_all test xs ≡ true → Every (λ x. test x ≡ true) xs
all-in test [] e y k = absurd k
all-in test (x ∷ xs) e y (inl k) = subst (λ z. test z ≡ true) k (both (test x) (list_all test xs) e).0
all-in test (x ∷ xs) e y (inr k) = all-in test xs (both (test x) (list_all test xs) e).1 y k

pub in-all : {A : Type 0} (test : A → Bool) (xs : List A) → Every (λ x. test x ≡ true) xs → list_all test xs ≡ true
in-all test [] h = refl
in-all test (x ∷ xs) h = all_of (test x) (list_all test xs) (h x (inl refl)) (in-all test xs (λ y k. h y (inr k)))

-- ---- names of items

pub named-name : (i : Item) → (named_by i).name ≡ name_of i
named-name (declares p) = refl
named-name (declares_variable t name) = refl
named-name (defines f) = refl
named-name (defines_variable v) = refl

-- an item of this name
pub record Stands (items : List Item) (name : Name) : Type 0 where
  pub item : Item
  pub there : In item items
  pub is : name_of item ≡ name

pub stands : (items : List Item) (name : Name) → is_in (map name_of items) name ≡ true → Stands items name
stands [] name e = absurd (cc)
stands (i ∷ items) name e = go (λ h. stands items name h) (bytes_eq (name_of i) name) refl e
  where
    go : (is_in (map name_of items) name ≡ true → Stands items name) → (b : Bool) → bytes_eq (name_of i) name ≡ b → (b || is_in (map name_of items) name) ≡ true
        → Stands (i ∷ items) name
    go again true is h = record { item = i; there = inl refl; is = same_bytes (name_of i) name is }
    go again false is h = let rest = again h in record { item = rest.item; there = inr rest.there; is = rest.is }

-- ---- what names mean

-- what is found is what an item of the name means
pub record Found (items : List Item) (name : Name) (m : Meant) : Type 0 where
  pub item : Item
  pub there : In item items
  pub is : name_of item ≡ name
  pub means : (named_by item).meant ≡ m

abbrev by_first : Item → List Item → Name → Bool → Option Meant
by_first i items name b =
    option_map (λ (x : Named). x.meant) (if b then Some (named_by i) else find (λ (x : Named). bytes_eq x.name name) (map named_by items))

pub found-by : (items : List Item) (name : Name) (m : Meant) → lookup (map named_by items) name ≡ Some m → Found items name m
found-by [] name m e = absurd (cc)
found-by (i ∷ items) name m e = go (λ h. found-by items name m h) (bytes_eq (named_by i).name name) refl e
  where
    go : (lookup (map named_by items) name ≡ Some m → Found items name m) → (b : Bool) → bytes_eq (named_by i).name name ≡ b → by_first i items name b ≡ Some m
        → Found (i ∷ items) name m
    go again true is h = record { item = i; there = inl refl; is = sym (named-name i) ∙ same_bytes (named_by i).name name is; means = cc }
    go again false is h = let rest = again h in record { item = rest.item; there = inr rest.there; is = rest.is; means = rest.means }

-- and something is found where an item has the name
pub found-some : (items : List Item) (i : Item) (name : Name) → In i items → name_of i ≡ name → is_some (lookup (map named_by items) name) ≡ true
found-some [] i name h e = absurd h
found-some (j ∷ items) i name (inl k) e =
    let is : bytes_eq (named_by j).name name ≡ true =
    bytes_same (named_by j).name name (named-name j ∙ ap name_of k ∙ e) in
    subst (λ b. is_some (by_first j items name b) ≡ true) (sym is) refl
found-some (j ∷ items) i name (inr h) e = go (found-some items i name h e) (bytes_eq (named_by j).name name)
  where
    go : is_some (lookup (map named_by items) name) ≡ true → (b : Bool) → is_some (by_first j items name b) ≡ true
    go again true = refl
    go again false = again

-- ---- names of other files

pub other-from : (names : List Name) (items : List Item) (i : Item) → In i (other_names names items) → In i items
other-from names [] i h = h
other-from names (j ∷ rest) i h = go (λ k. other-from names rest i k) (λ k. other-from (name_of j ∷ names) rest i k) (is_in names (name_of j)) h
  where
    go : (In i (other_names names rest) → In i rest) → (In i (other_names (name_of j ∷ names) rest) → In i rest) → (b : Bool)
        → In i (if b then other_names names rest else j ∷ other_names (name_of j ∷ names) rest) → In i (j ∷ rest)
    go again on true k = inr (again k)
    go again on false (inl e) = inl e
    go again on false (inr k) = inr (on k)

later : (a b x : Bool) → ((a || b) || x) ≡ true → (b || (a || x)) ≡ true
later true true x e = refl
later true false x e = refl
later false true x e = refl
later false false x e = e

first-there : (names : List Name) (j : Item) (x : Bool) → (is_in names (name_of j) || (bytes_eq (name_of j) (name_of j) || x)) ≡ true
first-there names j x = go (is_in names (name_of j))
  where
    go : (b : Bool) → (b || (bytes_eq (name_of j) (name_of j) || x)) ≡ true
    go true = refl
    go false = ap (λ c. c || x) (bytes_same (name_of j) (name_of j) refl)

-- each name is one of these, or of one of the items that are left
pub other-there : (names : List Name) (items : List Item) (i : Item) → In i items
    → (is_in names (name_of i) || is_in (map name_of (other_names names items)) (name_of i)) ≡ true
other-there names [] i h = absurd h
other-there names (j ∷ rest) i h = go (λ k. other-there names rest i k) (λ k. other-there (name_of j ∷ names) rest i k) (is_in names (name_of j)) refl h
  where
    go : (In i rest → (is_in names (name_of i) || is_in (map name_of (other_names names rest)) (name_of i)) ≡ true)
        → (In i rest → (is_in (name_of j ∷ names) (name_of i) || is_in (map name_of (other_names (name_of j ∷ names) rest)) (name_of i)) ≡ true) → (b : Bool)
        → is_in names (name_of j) ≡ b → In i (j ∷ rest)
        → (is_in names (name_of i) || is_in (map name_of (if b then other_names names rest else j ∷ other_names (name_of j ∷ names) rest)) (name_of i)) ≡ true
    go again on true e (inl k) =
        ap (λ c. c || is_in (map name_of (other_names names rest)) (name_of i)) (subst (λ (x : Item). is_in names (name_of x) ≡ true) k e)
    go again on true e (inr k) = again k
    go again on false e (inl k) =
        subst (λ (x : Item). (is_in names (name_of x) || (bytes_eq (name_of j) (name_of x) || is_in (map name_of (other_names (name_of j ∷ names) rest)) (name_of x))) ≡ true)
        k (first-there names j (is_in (map name_of (other_names (name_of j ∷ names) rest)) (name_of j)))
    go again on false e (inr k) =
        later (bytes_eq (name_of j) (name_of i)) (is_in names (name_of i)) (is_in (map name_of (other_names (name_of j ∷ names) rest)) (name_of i)) (on k)
