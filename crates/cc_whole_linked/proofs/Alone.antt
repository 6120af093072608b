-- A valid program that is linked alone is itself.
use Rattle.std.proofs.Common.{◌≡◌, ℕ, zero, suc, ◌<◌, Bool, true, false, not, ◌&&◌, ◌||◌, cond, List, [], ◌∷◌, ◌++◌, length, Option, Some, None, option_map, map, Result, Ok, Err, refl, ap, sym, subst, ◌∙◌, append-nil, arith}
use Rattle.std.specs.Prelude.{bytes_eq, codes, find, Contains, IsTrue}
use Rattle.std.specs.List.{list_any, list_all, slice_index_or}
use Rattle.std.proofs.lemmas.List.Folds.{list_any-append}
use Rattle.std.proofs.lemmas.Slice.Eq.{bytes_eq-Decides}
use Rattle.cc_whole.specs.declared.unit.CItem.{CItem}
use Rattle.cc_whole.specs.declared.unit.CProgram.{CProgram}
use Rattle.cc_whole.specs.declared.unit.CPrototype.{CPrototype}
use Rattle.cc_whole.specs.declared.types.CVariableType.{CVariableType}
use Rattle.cc_whole.specs.declared.unit.CInitialiser.{CInitialiser}
use Rattle.cc_whole.specs.Plain.{Item, declares, declares_variable, defines, defines_variable, item_of, items_of, name_of}
use Rattle.cc_whole.specs.Fault.{Checks, moved, ◌before◌, holds}
use Rattle.cc_whole.specs.Known.{Meant, function, object, Named, lookup, is_in, is_library}
use Rattle.cc_whole.specs.Landmarks.{item_marks, marks_before, marks_before_name, static_marks}
use Rattle.cc_whole.specs.Spellable.{spellable_items}
use Rattle.cc_whole.specs.Uses.{uses_of_item}
use Rattle.cc_whole.specs.Valid.{agrees, checked_name, checked_prototype, checked_variable, may_be_shared, named_by, is_definition, defined_after, checked_item, checked_items}
use Rattle.cc_whole.specs.ValidUnit.{keeps, is_static, defines_name, defined_in, uses_defined, valid_items, valid_program}
use Rattle.cc_whole_link.specs.Placed.{Placed, placed, placed_items, placed_units, statics, its_name, is_shared, is_shared_item, defines_named, inner_names}
use Rattle.cc_whole_link.specs.Link as link
use Rattle.cc_whole_link.specs.Link.{Refusal, undefined_use, second, clashes, captured, is_the_main, second_definition, Differs, other_type, Breaks, FirstBroken, repeats, kept_items, with_main, Links}
use Rattle.cc_whole_linked.specs.Alone.{alone}
use Rattle.cc_whole_linked.proofs.Identity.{item-same}
use Rattle.cc_whole_linked.proofs.Agrees.{both-left, both-right, agrees-through}

-- ---- tests of lists

any-never : {A : Type 0} (p : A → Bool) → ((a : A) → p a ≡ false) → (xs : List A) → list_any p xs ≡ false
any-never p h [] = refl
any-never p h (x ∷ xs) = ap (λ b. b || list_any p xs) (h x) ∙ any-never p h xs

neither-left : (a b : Bool) → (a || b) ≡ false → a ≡ false
neither-left true b e = e
neither-left false b e = refl

neither-right : (a b : Bool) → (a || b) ≡ false → b ≡ false
neither-right true b e = absurd (cc)
neither-right false b e = e

neither : (a b : Bool) → a ≡ false → b ≡ false → (a || b) ≡ false
neither a b e h = ap (λ t. t || b) e ∙ h

not-true : (b : Bool) → (b ≡ true → ⊥) → b ≡ false
not-true true h = absurd (h refl)
not-true false h = refl

-- what passes one test passes another, which nothing passes
any-fewer : {A : Type 0} (p q : A → Bool) → ((a : A) → p a ≡ true → q a ≡ true) → (xs : List A) → list_any q xs ≡ false → list_any p xs ≡ false
any-fewer p q h [] e = refl
any-fewer p q h (x ∷ xs) e =
    neither (p x) (list_any p xs)
    (not-true (p x) (λ t. let bad : true ≡ false = sym (h x t) ∙ neither-left (q x) (list_any q xs) e in cc))
    (any-fewer p q h xs (neither-right (q x) (list_any q xs) e))

any-more : {A : Type 0} (p : A → Bool) (xs : List A) (x : A) → list_any p xs ≡ false → p x ≡ false → list_any p (xs ++ x ∷ []) ≡ false
any-more p xs x e h = list_any-append p xs (x ∷ []) ∙ neither (list_any p xs) (p x || false) e (neither (p x) false h refl)

any-at : {A : Type 0} (p : A → Bool) (x : A) → p x ≡ true → (xs : List A) (k : ℕ) → k < length xs → slice_index_or xs k x ≡ x → list_any p xs ≡ true
any-at p x t [] k lt e = absurd (omega (arith, lt))
any-at p x t (y ∷ xs) zero lt e = ap (λ b. b || list_any p xs) (ap p e ∙ t)
any-at p x t (y ∷ xs) (suc k) lt e = ap (λ b. p y || b) (any-at p x t xs k (omega (arith, lt)) e) ∙ or-true (p y)
  where
    or-true : (b : Bool) → (b || true) ≡ true
    or-true true = refl
    or-true false = refl

any-Contains : {A : Type 0} (p : A → Bool) (xs : List A) (x : A) → Contains xs x → p x ≡ true → list_any p xs ≡ true
any-Contains p xs x c t = any-at p x t xs c.0 c.1 c.2

find-none : {A : Type 0} (p : A → Bool) (xs : List A) → list_any p xs ≡ false → find p xs ≡ None
find-none p [] e = refl
find-none p (x ∷ xs) e =
    ap (λ b. cond b (Some x) (find p xs)) (neither-left (p x) (list_any p xs) e) ∙ find-none p xs (neither-right (p x) (list_any p xs) e)

all-front : {A : Type 0} (p : A → Bool) (x : A) (xs : List A) → list_all p (x ∷ xs) ≡ true → p x ≡ true
all-front p x xs e = both-left (p x) (list_all p xs) e

all-rest : {A : Type 0} (p : A → Bool) (x : A) (xs : List A) → list_all p (x ∷ xs) ≡ true → list_all p xs ≡ true
all-rest p x xs e = both-right (p x) (list_all p xs) e

map-itself : (xs : List (List ℕ)) → map (λ x. x) xs ≡ xs
map-itself [] = refl
map-itself (x ∷ xs) = ap (λ l. x ∷ l) (map-itself xs)

-- ---- the items, as they stand

abbrev stands : CItem → Placed
stands i = record { unit = 1; was = i; now = i; uses = uses_of_item (item_of i); is_static = false; longer_names = [] }

not-false : (b : Bool) → not b ≡ true → b ≡ false
not-false true e = sym e
not-false false e = refl

no-statics : (items : List CItem) → list_all (λ i. not (is_static i)) (items_of items) ≡ true → statics (items_of items) ≡ []
no-statics [] e = refl
no-statics (i ∷ items) e =
    ap (λ b. cond b (name_of (item_of i) ∷ statics (items_of items)) (statics (items_of items)))
    (not-false (is_static (item_of i)) (all-front (λ i. not (is_static i)) (item_of i) (items_of items) e))
    ∙ no-statics items (all-rest (λ i. not (is_static i)) (item_of i) (items_of items) e)

placed-stands : (i : CItem) → is_static (item_of i) ≡ false → placed 1 [] i ≡ stands i
placed-stands i e =
    ap (λ now. record { unit = 1; was = i; now = now; uses = map (λ x. x) (uses_of_item (item_of i)); is_static = false; longer_names = [] }) (item-same i e)
    ∙ ap (λ uses. record { unit = 1; was = i; now = i; uses = uses; is_static = false; longer_names = [] }) (map-itself (uses_of_item (item_of i)))

all-stand : (items : List CItem) → list_all (λ i. not (is_static i)) (items_of items) ≡ true → map (placed 1 []) items ≡ map stands items
all-stand [] e = refl
all-stand (i ∷ items) e =
    ap (λ p. p ∷ map (placed 1 []) items)
    (placed-stands i (not-false (is_static (item_of i)) (all-front (λ i. not (is_static i)) (item_of i) (items_of items) e)))
    ∙ ap (λ l. stands i ∷ l) (all-stand items (all-rest (λ i. not (is_static i)) (item_of i) (items_of items) e))

placed-alone : (p : CProgram) → list_all (λ i. not (is_static i)) (items_of p.items) ≡ true → placed_units 1 (alone p ∷ []) ≡ map stands p.items
placed-alone p e =
    append-nil (placed_items 1 p.items) ∙ ap (λ names. map (placed 1 names) p.items) (no-statics p.items e) ∙ all-stand p.items e

defined-stands : (name : List ℕ) (items : List CItem) → list_any (defines_named name) (map stands items) ≡ defined_in (items_of items) name
defined-stands name [] = refl
defined-stands name (i ∷ items) = ap (λ b. defines_name name (item_of i) || b) (defined-stands name items)

-- ---- what validity says of an item behind others

keeps-first : (c d : Checks) → keeps (c before d) ≡ true → keeps c ≡ true
keeps-first (Ok u) d e = refl
keeps-first (Err f) d e = e

keeps-then : (c d : Checks) → keeps (c before d) ≡ true → keeps d ≡ true
keeps-then (Ok u) d e = e
keeps-then (Err f) d e = absurd (cc)

keeps-moved : (n : ℕ) (c : Checks) → keeps (moved n c) ≡ true → keeps c ≡ true
keeps-moved n (Ok u) e = refl
keeps-moved n (Err f) e = e

keeps-holds : (b : Bool) (rule place : ℕ) → keeps (holds b rule place) ≡ true → b ≡ true
keeps-holds true rule place e = refl
keeps-holds false rule place e = e

abbrev fits_name : List Named → List (List ℕ) → Bool → List ℕ → Meant → Bool
fits_name names defined d name m = agrees (lookup names name) m && not (d && is_in defined name)

name-fits : (names : List Named) (defined : List (List ℕ)) (d : Bool) (name : List ℕ) (m : Meant) (place : ℕ)
    → keeps (checked_name names defined d name m place) ≡ true → fits_name names defined d name m ≡ true
name-fits names defined d name m place e = keeps-holds (fits_name names defined d name m) 2 place (keeps-first (holds (fits_name names defined d name m) 2 place) _ e)

prototype-fits : (names : List Named) (defined : List (List ℕ)) (d : Bool) (p : CPrototype)
    → keeps (checked_prototype names defined d p) ≡ true → fits_name names defined d p.name (function p) ≡ true
prototype-fits names defined d p e =
    name-fits names defined d p.name (function p) (marks_before_name p) (keeps-first (checked_name names defined d p.name (function p) (marks_before_name p)) _ e)

variable-fits : (names : List Named) (defined : List (List ℕ)) (d : Bool) (t : CVariableType) (name : List ℕ) (start : Option CInitialiser)
    → keeps (checked_variable names defined d t name start) ≡ true → fits_name names defined d name (object t) ≡ true
variable-fits names defined d t name start e =
    name-fits names defined d name (object t) (marks_before t) (keeps-first (checked_name names defined d name (object t) (marks_before t)) _ e)

item-fits : (i : Item) (names : List Named) (defined : List (List ℕ)) → keeps (checked_item i names defined) ≡ true
    → fits_name names defined (is_definition i) (name_of i) (named_by i).meant ≡ true
item-fits (declares p) names defined e = prototype-fits names defined false p e
item-fits (declares_variable t name) names defined e = variable-fits names defined false t name None e
item-fits (defines f) names defined e =
    prototype-fits names defined true f.prototype
    (keeps-first (checked_prototype names defined true f.prototype) _ (keeps-then (may_be_shared f.is_shared f.prototype.is_static) _ e))
item-fits (defines_variable v) names defined e =
    let rest = keeps-then (may_be_shared v.is_shared v.is_static) _ e in
    variable-fits names defined true v.ty v.name v.initialiser
    (keeps-first (checked_variable names defined true v.ty v.name v.initialiser) _ (keeps-moved (static_marks v.is_static) _ rest))

-- ---- an item breaks nothing

abbrev disagrees : List ℕ → Meant → Placed → Bool
disagrees name m b = bytes_eq (its_name b) name && not (agrees (Some (named_by (item_of b.now)).meant) m)

-- what is known of the items before, where these names stand for what they declare and these are defined
record Before (before_it : List Placed) (names : List Named) (defined : List (List ℕ)) : Type 0 where
  definitions : (name : List ℕ) → list_any (defines_named name) before_it ≡ is_in defined name
  types : (name : List ℕ) (m : Meant) → agrees (lookup names name) m ≡ true → list_any (disagrees name m) before_it ≡ false
  one_unit : (i : CItem) → list_any (clashes (stands i)) before_it ≡ false

at-first : Before [] [] []
at-first = record { definitions = λ name. refl; types = λ name m e. refl; one_unit = λ i. refl }

or-swap : (a b : Bool) → (a || (b || false)) ≡ (b || a)
or-swap true true = refl
or-swap true false = refl
or-swap false true = refl
or-swap false false = refl

definitions-more : (before_it : List Placed) (defined : List (List ℕ)) (i : CItem) (name : List ℕ) → list_any (defines_named name) before_it ≡ is_in defined name
    → list_any (defines_named name) (before_it ++ stands i ∷ []) ≡ is_in (defined_after (item_of i) defined) name
definitions-more before_it defined i name e =
    list_any-append (defines_named name) before_it (stands i ∷ []) ∙ ap (λ b. b || (defines_named name (stands i) || false)) e ∙ by (is_definition (item_of i))
  where
    by : (d : Bool) → (is_in defined name || ((d && bytes_eq (name_of (item_of i)) name) || false)) ≡ is_in (cond d (name_of (item_of i) ∷ defined) defined) name
    by true = or-swap (is_in defined name) (bytes_eq (name_of (item_of i)) name)
    by false = or-false (is_in defined name)
      where
        or-false : (a : Bool) → (a || false) ≡ a
        or-false true = refl
        or-false false = refl

and-not : (a b : Bool) → (a && not b) ≡ true → b ≡ false
and-not true true e = sym e
and-not true false e = refl
and-not false b e = absurd (cc)

both-of : (a b : Bool) → a ≡ true → b ≡ true → (a && b) ≡ true
both-of a b e h = ap (λ t. t && b) e ∙ h

types-more : (before_it : List Placed) (names : List Named) (i : CItem) (m : Meant) (name : List ℕ)
    → ((name : List ℕ) (m : Meant) → agrees (lookup names name) m ≡ true → list_any (disagrees name m) before_it ≡ false)
    → agrees (lookup names (name_of (item_of i))) (named_by (item_of i)).meant ≡ true
    → (t : Bool) → bytes_eq (named_by (item_of i)).name name ≡ t → bytes_eq (name_of (item_of i)) name ≡ t
    → agrees (option_map (λ (x : Named). x.meant) (cond t (Some (named_by (item_of i))) (find (λ (x : Named). bytes_eq x.name name) names))) m ≡ true
    → list_any (disagrees name m) (before_it ++ stands i ∷ []) ≡ false
types-more before_it names i m name all own true e h fits =
    let it = (named_by (item_of i)).meant in
    let is : name_of (item_of i) ≡ name = (bytes_eq-Decides (name_of (item_of i)) name).0 h in
    any-more (disagrees name m) before_it (stands i)
    (any-fewer (disagrees name m) (disagrees (name_of (item_of i)) it)
    (λ b d. both-of (bytes_eq (its_name b) (name_of (item_of i))) _
    (subst (λ n. bytes_eq (its_name b) n ≡ true) (sym is) (both-left (bytes_eq (its_name b) name) _ d))
    (other-not (agrees (Some (named_by (item_of b.now)).meant) it) (λ a.
    let bad : true ≡ false = sym (agrees-through (named_by (item_of b.now)).meant it m a fits) ∙ and-not (bytes_eq (its_name b) name) _ d in cc)))
    before_it (all (name_of (item_of i)) it own))
    (ap (λ a. bytes_eq (name_of (item_of i)) name && not a) fits ∙ and-false (bytes_eq (name_of (item_of i)) name))
  where
    other-not : (a : Bool) → (a ≡ true → ⊥) → not a ≡ true
    other-not true f = absurd (f refl)
    other-not false f = refl

    and-false : (a : Bool) → (a && false) ≡ false
    and-false true = refl
    and-false false = refl
types-more before_it names i m name all own false e h fits =
    any-more (disagrees name m) before_it (stands i) (all name m fits) (ap (λ t. t && not (agrees (Some (named_by (item_of i)).meant) m)) h)

name-is : (i : Item) → (named_by i).name ≡ name_of i
name-is (declares p) = refl
name-is (declares_variable t name) = refl
name-is (defines f) = refl
name-is (defines_variable v) = refl

one-more : (before_it : List Placed) (names : List Named) (defined : List (List ℕ)) (i : CItem) → Before before_it names defined
    → keeps (checked_item (item_of i) names defined) ≡ true
    → Before (before_it ++ stands i ∷ []) (named_by (item_of i) ∷ names) (defined_after (item_of i) defined)
one-more before_it names defined i b e =
    let fits = item-fits (item_of i) names defined e in
    record {
      definitions = λ name. definitions-more before_it defined i name (b.definitions name);
      types = λ name m agreed. types-more before_it names i m name b.types (both-left _ _ fits) (bytes_eq (named_by (item_of i)).name name) refl
          (ap (λ n. bytes_eq n name) (sym (name-is (item_of i)))) agreed;
      one_unit = λ j. any-more (clashes (stands j)) before_it (stands i) (b.one_unit j) refl;
    }

shared-defines : (i : Item) → is_shared_item i ≡ true → is_definition i ≡ true
shared-defines (declares p) e = e
shared-defines (declares_variable t name) e = e
shared-defines (defines f) e = refl
shared-defines (defines_variable v) e = refl

module _ (all before_it : List Placed) (names : List Named) (defined : List (List ℕ)) (i : CItem) (b : Before before_it names defined)
    (fits : fits_name names defined (is_definition (item_of i)) (name_of (item_of i)) (named_by (item_of i)).meant ≡ true) where
  -- no definition of its name stands before one
  none-before : is_definition (item_of i) ≡ true → list_any (defines_named (name_of (item_of i))) before_it ≡ false
  none-before d =
      b.definitions (name_of (item_of i))
      ∙ not-false (is_in defined (name_of (item_of i)))
      (sym (ap (λ t. not (t && is_in defined (name_of (item_of i)))) d)
      ∙ both-right (agrees (lookup names (name_of (item_of i))) (named_by (item_of i)).meant) _ fits)

  -- where a test asks for such a definition
  none-of : (p : Placed → Bool) → ((x : Placed) → p x ≡ true → defines_named (name_of (item_of i)) x ≡ true)
      → (is_definition (item_of i) && list_any p before_it) ≡ false
  none-of p h = by (is_definition (item_of i)) refl
    where
      by : (d : Bool) → is_definition (item_of i) ≡ d → (d && list_any p before_it) ≡ false
      by true e = any-fewer p (defines_named (name_of (item_of i))) h before_it (none-before e)
      by false e = refl

  not-second : second_definition before_it (stands i) ≡ None
  not-second =
      ap (λ t. cond t (Some (name_of (item_of i))) (cond (list_any (clashes (stands i)) before_it) (Some (codes "main")) (captured (stands i))))
      (none-of (second (stands i)) (λ x e. both-left (defines_named (name_of (item_of i)) x) _ e))
      ∙ ap (λ t. cond t (Some (codes "main")) (captured (stands i))) (b.one_unit i)
      ∙ find-none (is_in []) (inner_names (item_of i)) (any-never (is_in []) (λ x. refl) (inner_names (item_of i)))

  not-differing : Differs before_it (stands i) → ⊥
  not-differing d =
      let defines : is_definition (item_of i) ≡ true = shared-defines (item_of i) (both-left (is_shared (stands i)) (is_shared d.other) (truth (is_shared (stands i) && is_shared d.other) d.both_shared)) in
      let bad : true ≡ false = sym (any-Contains (defines_named (name_of (item_of i))) before_it d.other d.stands (truth (defines_named (name_of (item_of i)) d.other) d.same_name)) ∙ none-before defines in cc
    where
      truth : (t : Bool) → IsTrue t → t ≡ true
      truth t u = u

  one-type : list_any (other_type (stands i)) before_it ≡ false
  one-type = b.types (name_of (item_of i)) (named_by (item_of i)).meant (both-left (agrees (lookup names (name_of (item_of i))) (named_by (item_of i)).meant) _ fits)

  not-repeated : repeats before_it (stands i) ≡ false
  not-repeated = none-of (λ x. defines_named (name_of (item_of i)) x && (is_shared (stands i) && is_shared x)) (λ x e. both-left (defines_named (name_of (item_of i)) x) _ e)

  breaks-none : undefined_use all (stands i) ≡ None → Breaks all before_it (stands i) None
  breaks-none uses = link.Breaks.kept uses not-second not-differing one-type

-- ---- the program

uses-there : (items : List CItem) (names : List (List ℕ)) → list_all (λ name. is_library name || defined_in (items_of items) name) names ≡ true
    → list_any (λ name. not (is_library name) && not (list_any (defines_named name) (map stands items))) names ≡ false
uses-there items [] e = refl
uses-there items (name ∷ names) e =
    neither (not (is_library name) && not (list_any (defines_named name) (map stands items))) _
    (ap (λ t. not (is_library name) && not t) (defined-stands name items)
    ∙ by (is_library name) (defined_in (items_of items) name) (all-front (λ name. is_library name || defined_in (items_of items) name) name names e))
    (uses-there items names (all-rest (λ name. is_library name || defined_in (items_of items) name) name names e))
  where
    by : (a b : Bool) → (a || b) ≡ true → (not a && not b) ≡ false
    by true b e = refl
    by false true e = refl
    by false false e = sym e

module _ (items : List CItem) where
  abbrev all : List Placed
  all = map stands items

  record Stays (before_it : List Placed) (rest : List CItem) : Type 0 where
    pub first : FirstBroken all before_it (map stands rest) None
    pub kept : kept_items before_it (map stands rest) ≡ rest

  stays : (before_it : List Placed) (names : List Named) (defined : List (List ℕ)) (rest : List CItem) → Before before_it names defined
      → keeps (checked_items (items_of rest) names defined) ≡ true → list_all (uses_defined (items_of items)) (items_of rest) ≡ true → Stays before_it rest
  stays before_it names defined [] b e u = record { first = link.FirstBroken.none before_it; kept = refl }
  stays before_it names defined (i ∷ rest) b e u =
      let here : keeps (checked_item (item_of i) names defined) ≡ true = keeps-first (checked_item (item_of i) names defined) _ e in
      let fits = item-fits (item_of i) names defined here in
      let uses : undefined_use all (stands i) ≡ None =
      find-none _ (uses_of_item (item_of i)) (uses-there items (uses_of_item (item_of i)) (all-front (uses_defined (items_of items)) (item_of i) (items_of rest) u)) in
      let others : Stays (before_it ++ stands i ∷ []) rest =
      stays (before_it ++ stands i ∷ []) (named_by (item_of i) ∷ names) (defined_after (item_of i) defined) rest (one-more before_it names defined i b here)
      (keeps-moved (item_marks (item_of i)) (checked_items (items_of rest) (named_by (item_of i) ∷ names) (defined_after (item_of i) defined))
      (keeps-then (checked_item (item_of i) names defined) _ e))
      (all-rest (uses_defined (items_of items)) (item_of i) (items_of rest) u) in
      record {
        first = link.FirstBroken.later before_it (stands i) (map stands rest) None (breaks-none all before_it names defined i b fits uses) others.first;
        kept = ap (λ t. cond t (kept_items (before_it ++ stands i ∷ []) (map stands rest)) (i ∷ kept_items (before_it ++ stands i ∷ []) (map stands rest)))
            (not-repeated all before_it names defined i b fits)
            ∙ ap (λ l. i ∷ l) others.kept;
      }

pub links-alone : (p : CProgram) → valid_program p ≡ true → Links (alone p ∷ []) (Ok p)
links-alone p e =
    let items = items_of p.items in
    let valid : valid_items items ≡ true = both-left (valid_items items) _ e in
    let closed = both-right (valid_items items) _ e in
    let statics : list_all (λ i. not (is_static i)) items ≡ true = both-left (list_all (λ i. not (is_static i)) items) _ closed in
    let rest = both-right (list_all (λ i. not (is_static i)) items) _ closed in
    let main : defined_in items (codes "main") ≡ true = both-left (defined_in items (codes "main")) _ rest in
    let uses : list_all (uses_defined items) items ≡ true = both-right (defined_in items (codes "main")) _ rest in
    let all_stand : placed_units 1 (alone p ∷ []) ≡ map stands p.items = placed-alone p statics in
    let s = stays p.items [] [] [] p.items at-first (both-right (spellable_items items) _ valid) uses in
    let otherwise : Result CProgram Refusal = cond (list_any (defines_named (codes "__main")) (map stands p.items))
    (Ok (record { items = kept_items [] (map stands p.items) ++ link.added_main (map stands p.items) ∷ [] })) (Err (link.refusal 4 (codes "__main"))) in
    let answer : with_main (map stands p.items) ≡ Ok p =
    ap (λ t. cond t (Ok (record { items = kept_items [] (map stands p.items) })) otherwise) (defined-stands (codes "main") p.items ∙ main)
    ∙ ap (λ l. Ok (record { items = l })) s.kept in
    subst (λ r. Links (alone p ∷ []) r) (ap with_main all_stand ∙ answer)
    (link.Links.linked refl (subst (λ l. FirstBroken l [] l None) (sym all_stand) s.first))
