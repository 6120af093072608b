-- What is kept of placed items defines what all of them define.
use Rattle.std.proofs.Common.{◌≡◌, ℕ, Bool, true, false, not, ◌&&◌, ◌||◌, cond, List, [], ◌∷◌, ◌++◌, Option, Some, None, map, refl, ap, sym, subst, ◌∙◌, ◌⊎◌, inl, inr}
use Rattle.std.specs.Prelude.{bytes_eq, find}
use Rattle.std.specs.List.{list_any, list_all}
use Rattle.std.proofs.lemmas.Bool.{and_parts, and_from, true≢false}
use Rattle.std.proofs.lemmas.List.Folds.{list_any-append}
use Rattle.std.proofs.lemmas.Slice.Eq.{bytes_eq-Decides}
use Rattle.cc_whole.specs.declared.unit.CItem.{CItem}
use Rattle.cc_whole.specs.Plain.{Item, item_of, items_of}
use Rattle.cc_whole.specs.Known.{is_library}
use Rattle.cc_whole.specs.Uses.{uses_of_item}
use Rattle.cc_whole.specs.ValidUnit.{is_static, defines_name, defined_in, uses_defined}
use Rattle.cc_whole_link.specs.Placed.{Placed, its_name, defines_it, is_shared, defines_named}
use Rattle.cc_whole_link.specs.Link.{Refusal, undefined_use, Breaks, undefined, twice, shared, typed, kept, FirstBroken, none, here, later, repeats, kept_items}
use Rattle.cc_whole_closed.proofs.Uses.{Names}
use Rattle.cc_whole_closed.proofs.Items.{never_static, item_keeps, IsRenamed, AllRenamed}
use Rattle.cc_whole_closed.proofs.Items as renamed

pub or_right : (a b : Bool) → b ≡ true → (a || b) ≡ true
or_right true b e = refl
or_right false b e = e

pub or_left : (a b : Bool) → a ≡ true → (a || b) ≡ true
or_left a b e = ap (λ t. t || b) e

or_split : (a b : Bool) → (a || b) ≡ true → (a ≡ true) ⊎ (b ≡ true)
or_split true b e = inl refl
or_split false b e = inr e

-- ---- definitions

any_weaker : {A : Type 0} (p q : A → Bool) → ((a : A) → p a ≡ true → q a ≡ true) → (xs : List A) → list_any p xs ≡ true → list_any q xs ≡ true
any_weaker p q h [] e = e
any_weaker p q h (x ∷ xs) e = go (any_weaker p q h xs) (or_split (p x) (list_any p xs) e)
  where
    go : (list_any p xs ≡ true → list_any q xs ≡ true) → (p x ≡ true) ⊎ (list_any p xs ≡ true) → (q x || list_any q xs) ≡ true
    go again (inl f) = or_left (q x) (list_any q xs) (h x f)
    go again (inr f) = or_right (q x) (list_any q xs) (again f)

-- a shared definition that is left out stands before
repeated : (before_it : List Placed) (i : Placed) (name : List ℕ) → repeats before_it i ≡ true → defines_named name i ≡ true → list_any (defines_named name) before_it ≡ true
repeated before_it i name e d =
    let is : its_name i ≡ name = (bytes_eq-Decides (its_name i) name).0 (and_parts (defines_it i) (bytes_eq (its_name i) name) d).1 in
    subst (λ n. list_any (defines_named n) before_it ≡ true) is
    (any_weaker (λ b. defines_named (its_name i) b && (is_shared i && is_shared b)) (defines_named (its_name i))
    (λ b f. (and_parts (defines_named (its_name i) b) (is_shared i && is_shared b) f).0) before_it (and_parts (defines_it i) _ e).1)

or_nothing : (c : Bool) → (c || false) ≡ true → c ≡ true
or_nothing true h = refl
or_nothing false h = h

-- at an item that is left out or not
module _ (name : List ℕ) (before_it : List Placed) (i : Placed) (rest : List Placed) where
  abbrev Told : Bool → Type 0
  Told b = (list_any (defines_named name) before_it ≡ true)
      ⊎ (defined_in (items_of (cond b (kept_items (before_it ++ i ∷ []) rest) (i.now ∷ kept_items (before_it ++ i ∷ []) rest))) name ≡ true)

  abbrev Behind : Type 0
  Behind = (list_any (defines_named name) (before_it ++ i ∷ []) ≡ true) ⊎ (defined_in (items_of (kept_items (before_it ++ i ∷ []) rest)) name ≡ true)

  kept_on : (b : Bool) → defined_in (items_of (kept_items (before_it ++ i ∷ []) rest)) name ≡ true → Told b
  kept_on true f = inr f
  kept_on false f = inr (or_right (defines_name name (item_of i.now)) (defined_in (items_of (kept_items (before_it ++ i ∷ []) rest)) name) f)

  here_on : (b : Bool) → repeats before_it i ≡ b → defines_named name i ≡ true → Told b
  here_on true r d = inl (repeated before_it i name r d)
  here_on false r d = inr (or_left (defines_name name (item_of i.now)) (defined_in (items_of (kept_items (before_it ++ i ∷ []) rest)) name) d)

  either_on : (b : Bool) → repeats before_it i ≡ b → (list_any (defines_named name) before_it ≡ true) ⊎ ((defines_named name i || false) ≡ true) → Told b
  either_on b r (inl g) = inl g
  either_on b r (inr g) = here_on b r (or_nothing (defines_named name i) g)

  behind_on : (b : Bool) → repeats before_it i ≡ b → Behind → Told b
  behind_on b r (inl g) =
      either_on b r (or_split (list_any (defines_named name) before_it) (defines_named name i || false) (sym (list_any-append (defines_named name) before_it (i ∷ [])) ∙ g))
  behind_on b r (inr g) = kept_on b g

  at_item : (list_any (defines_named name) rest ≡ true → Behind) → (b : Bool) → repeats before_it i ≡ b
      → (defines_named name i ≡ true) ⊎ (list_any (defines_named name) rest ≡ true) → Told b
  at_item again b r (inl d) = here_on b r d
  at_item again b r (inr f) = behind_on b r (again f)

kept_defines : (name : List ℕ) (before_it rest : List Placed) → list_any (defines_named name) rest ≡ true
    → (list_any (defines_named name) before_it ≡ true) ⊎ (defined_in (items_of (kept_items before_it rest)) name ≡ true)
kept_defines name before_it [] e = absurd (true≢false (sym e))
kept_defines name before_it (i ∷ rest) e =
    at_item name before_it i rest (kept_defines name (before_it ++ i ∷ []) rest) (repeats before_it i) refl (or_split (defines_named name i) (list_any (defines_named name) rest) e)

pub all_defined : (name : List ℕ) (all : List Placed) → list_any (defines_named name) all ≡ true → defined_in (items_of (kept_items [] all)) name ≡ true
all_defined name all e = go (kept_defines name [] all e)
  where
    go : (list_any (defines_named name) [] ≡ true) ⊎ (defined_in (items_of (kept_items [] all)) name ≡ true) → defined_in (items_of (kept_items [] all)) name ≡ true
    go (inl f) = absurd (true≢false (sym f))
    go (inr f) = f

-- ---- items that break nothing

pub record Sound (all : List Placed) (i : Placed) : Type 0 where
  pub known : undefined_use all i ≡ None
  pub renamed : IsRenamed i

pub data AllSound (all : List Placed) : List Placed → Type 0 where
  empty : AllSound all []
  also : (i : Placed) (rest : List Placed) → Sound all i → AllSound all rest → AllSound all (i ∷ rest)

no_use : (all before_it : List Placed) (i : Placed) (r : Option Refusal) → Breaks all before_it i r → r ≡ None → undefined_use all i ≡ None
no_use all before_it i _ (undefined name u) e = absurd (cc)
no_use all before_it i _ (twice name u t) e = u
no_use all before_it i _ (shared u t d) e = u
no_use all before_it i _ (typed u t d k) e = u
no_use all before_it i _ (kept u t d k) e = u

pub all_sound : (all before_it rest : List Placed) (r : Option Refusal) → FirstBroken all before_it rest r → r ≡ None → AllRenamed rest → AllSound all rest
all_sound all before_it _ _ (none _) e a = empty
all_sound all before_it _ _ (here _ i rest r b) e a = absurd (cc)
all_sound all before_it _ _ (later _ i rest r b f) e (renamed.AllRenamed.more _ _ is a) =
    also i rest (record { known = no_use all before_it i None b refl; renamed = is }) (all_sound all (before_it ++ i ∷ []) rest r f e a)

-- ---- what is kept

pub none_static : (all before_it rest : List Placed) → AllSound all rest → list_all (λ i. not (is_static i)) (items_of (kept_items before_it rest)) ≡ true
none_static all before_it _ empty = refl
none_static all before_it _ (also i rest s more) = go (none_static all (before_it ++ i ∷ []) rest more) (repeats before_it i)
  where
    go : list_all (λ i. not (is_static i)) (items_of (kept_items (before_it ++ i ∷ []) rest)) ≡ true → (b : Bool)
        → list_all (λ i. not (is_static i)) (items_of (cond b (kept_items (before_it ++ i ∷ []) rest) (i.now ∷ kept_items (before_it ++ i ∷ []) rest))) ≡ true
    go again true = again
    go again false =
        let is = s.renamed in
        let moves : is_static (item_of i.now) ≡ false = ap (λ x. is_static (item_of x)) is.now ∙ never_static i.was is.renaming in
        and_from (not (is_static (item_of i.now))) (list_all (λ i. not (is_static i)) (items_of (kept_items (before_it ++ i ∷ []) rest))) (ap not moves) again

-- used names are defined, or the library's
abbrev pub known_name : List Placed → List ℕ → Bool
known_name all name = is_library name || list_any (defines_named name) all

found_none : (all : List Placed) (names : Names) → find (λ name. not (is_library name) && not (list_any (defines_named name) all)) names ≡ None → list_all (known_name all) names ≡ true
found_none all [] e = refl
found_none all (n ∷ names) e = go (found_none all names) (is_library n) (list_any (defines_named n) all) e
  where
    go : (find (λ name. not (is_library name) && not (list_any (defines_named name) all)) names ≡ None → list_all (known_name all) names ≡ true) → (a b : Bool) → cond (not a && not b) (Some n) (find (λ name. not (is_library name) && not (list_any (defines_named name) all)) names) ≡ None
        → ((a || b) && list_all (known_name all) names) ≡ true
    go again true b f = again f
    go again false true f = again f
    go again false false f = absurd (cc)

before_map : (p : List ℕ → Bool) (r : List ℕ → List ℕ) (names : Names) → list_all p (map r names) ≡ true → list_all (λ n. p (r n)) names ≡ true
before_map p r [] e = refl
before_map p r (n ∷ names) e = let parts = and_parts (p (r n)) (list_all p (map r names)) e in and_from (p (r n)) (list_all (λ n. p (r n)) names) parts.0 (before_map p r names parts.1)

all_weaker : (p q : List ℕ → Bool) → ((n : List ℕ) → p n ≡ true → q n ≡ true) → (names : Names) → list_all p names ≡ true → list_all q names ≡ true
all_weaker p q h [] e = refl
all_weaker p q h (n ∷ names) e =
    let parts = and_parts (p n) (list_all p names) e in and_from (q n) (list_all q names) (h n parts.0) (all_weaker p q h names parts.1)

uses_known : (all : List Placed) (i : Placed) → Sound all i → list_all (known_name all) (uses_of_item (item_of i.now)) ≡ true
uses_known all i s =
    let is = s.renamed in
    let old : list_all (known_name all) (map is.renaming (uses_of_item (item_of i.was))) ≡ true =
    ap (list_all (known_name all)) (sym is.uses) ∙ found_none all i.uses s.known in
    subst (λ x. list_all (known_name all) (uses_of_item (item_of x)) ≡ true) (sym is.now)
    (item_keeps (known_name all) is.renaming i.was (before_map (known_name all) is.renaming (uses_of_item (item_of i.was)) old))

-- among items that define all that is defined
module _ (all : List Placed) (items : List Item) (holds : (name : List ℕ) → list_any (defines_named name) all ≡ true → defined_in items name ≡ true) where
  pub name_there : (name : List ℕ) → known_name all name ≡ true → (is_library name || defined_in items name) ≡ true
  name_there name e = go (or_split (is_library name) (list_any (defines_named name) all) e)
    where
      go : (is_library name ≡ true) ⊎ (list_any (defines_named name) all ≡ true) → (is_library name || defined_in items name) ≡ true
      go (inl f) = or_left (is_library name) (defined_in items name) f
      go (inr f) = or_right (is_library name) (defined_in items name) (holds name f)

  pub kept_uses : (before_it rest : List Placed) → AllSound all rest → list_all (uses_defined items) (items_of (kept_items before_it rest)) ≡ true
  kept_uses before_it _ empty = refl
  kept_uses before_it _ (also i rest s more) = go (kept_uses (before_it ++ i ∷ []) rest more) (repeats before_it i)
    where
      go : list_all (uses_defined items) (items_of (kept_items (before_it ++ i ∷ []) rest)) ≡ true → (b : Bool)
          → list_all (uses_defined items) (items_of (cond b (kept_items (before_it ++ i ∷ []) rest) (i.now ∷ kept_items (before_it ++ i ∷ []) rest))) ≡ true
      go again true = again
      go again false =
          and_from (uses_defined items (item_of i.now)) (list_all (uses_defined items) (items_of (kept_items (before_it ++ i ∷ []) rest)))
          (all_weaker (known_name all) (λ name. is_library name || defined_in items name) name_there (uses_of_item (item_of i.now)) (uses_known all i s)) again
