-- What is linked of one unit defines each name once.
use Rattle.std.proofs.Common.{◌≡◌, ℕ, Bool, true, false, not, ◌&&◌, ◌||◌, cond, List, [], ◌∷◌, ◌++◌, map, Result, Ok, refl, ap, sym, subst, ◌∙◌, inl, inr, append-nil}
use Rattle.std.specs.Prelude.{Option, Some, None, bytes_eq}
use Rattle.std.specs.List.{list_any}
use Rattle.std.proofs.lemmas.Bool.{true≢false}
use Rattle.cf_base.proofs.Tests.{same_bytes, bytes_same, all_of}
use Rattle.cc_whole.specs.declared.unit.CItem.{CItem}
use Rattle.cc_whole.specs.declared.unit.CProgram.{CProgram}
use Rattle.cc_whole.specs.declared.unit.CUnit.{CUnit}
use Rattle.cc_whole.specs.declared.unit.CVariable.{CVariable}
use Rattle.cc_whole.specs.Known.{is_in}
use Rattle.cc_whole.specs.Plain.{Function, Item, declares, declares_variable, defines, defines_variable, item_of, items_of, name_of, functions_of, variables_of}
use Rattle.cc_whole.specs.Valid.{is_definition, defined_after}
use Rattle.cc_whole_link.specs.Rename.{Renaming, item_renamed}
use Rattle.cc_whole_link.specs.Placed.{Placed, placed, placed_units, statics, static_renaming, longer, its_name, defines_it, is_shared, defines_named}
use Rattle.cc_whole_link.specs.Link as link
use Rattle.cc_whole_link.specs.Link.{Refusal, second, second_definition, Breaks, FirstBroken, Links, version, broken, linked, with_main}
use Rattle.cc_whole_sections.specs.Sections.{In, Every, DefinedOnce}
use Rattle.cc_whole_sections.proofs.Names.{in-left, in-right}
use Rattle.cf_lower_valid.proofs.Inner.{every-mapped}
use Rattle.cf_lower_valid.proofs.Others.{named-name}
use Rattle.cf_lower_valid.proofs.Once.{Differ, either-way}
use Rattle.cf_lower_alone.proofs.AloneLaws.Items.{name-as, definition-as, shared-as}
use Rattle.cf_lower_alone.proofs.AloneLaws.Placed.{Stays}
use Rattle.cf_lower_alone.proofs.AloneLaws.Statics.{any-there, not-true}

-- ---- in the unit

-- a name that is defined before is defined by none
unit-apart : (is : List Item) (defined : List (List ℕ)) → DefinedOnce is defined → (n : List ℕ) → is_in defined n ≡ true
    → Every (λ i. is_definition i ≡ true → bytes_eq n (name_of i) ≡ false) is
unit-apart [] defined once n e i h = absurd h
unit-apart (j ∷ is) defined once n e i (inl k) =
    subst (λ i. is_definition i ≡ true → bytes_eq n (name_of i) ≡ false) k
    (λ d. not-true (bytes_eq n (name_of j))
    (λ t. true≢false (sym e ∙ ap (is_in defined) (same_bytes n (name_of j) t ∙ sym (named-name j)) ∙ once.0 d)))
unit-apart (j ∷ is) defined once n e i (inr k) = unit-apart is (defined_after j defined) once.1 n (more (is_definition j)) i k
  where
    or-right : (a b : Bool) → b ≡ true → (a || b) ≡ true
    or-right true b e = refl
    or-right false b e = e

    more : (b : Bool) → is_in (cond b (name_of j ∷ defined) defined) n ≡ true
    more true = or-right (bytes_eq (name_of j) n) (is_in defined n) e
    more false = e

-- of two definitions, one behind the other, the names differ
abbrev pub ItemsOnce : List Item → Type 0
ItemsOnce [] = Unit {0}
ItemsOnce (i ∷ is) = (is_definition i ≡ true → Every (λ j. is_definition j ≡ true → bytes_eq (name_of i) (name_of j) ≡ false) is) × ItemsOnce is

items-once : (is : List Item) (defined : List (List ℕ)) → DefinedOnce is defined → ItemsOnce is
items-once [] defined once = tt
items-once (i ∷ is) defined once = (
  λ d. unit-apart is (defined_after i defined) once.1 (name_of i)
      (ap (λ b. is_in (cond b (name_of i ∷ defined) defined) (name_of i)) d
      ∙ ap (λ b. b || is_in defined (name_of i)) (bytes_same (name_of i) (name_of i) refl)),
  items-once is (defined_after i defined) once.1,
)

-- ---- in the program

breaks-second : (all before_it : List Placed) (i : Placed) (r : Option Refusal) → Breaks all before_it i r → r ≡ None → second_definition before_it i ≡ None
breaks-second all before_it i _ (link.Breaks.undefined name u) e = absurd (cc)
breaks-second all before_it i _ (link.Breaks.twice name u t) e = absurd (cc)
breaks-second all before_it i _ (link.Breaks.shared u t d) e = absurd (cc)
breaks-second all before_it i _ (link.Breaks.typed u t d k) e = absurd (cc)
breaks-second all before_it i _ (link.Breaks.kept u t d k) e = t

-- it defines what no other before it defines, but for what both share
abbrev NoSecond : Placed → Placed → Type 0
NoSecond b i = defines_it i ≡ true → second i b ≡ false

first-some : (b : Bool) (n : List ℕ) (o : Option (List ℕ)) → cond b (Some n) o ≡ None → b ≡ true → ⊥
first-some true n o e h = absurd (cc)
first-some false n o e h = true≢false (sym h)

none-second : (before_it : List Placed) (i : Placed) → second_definition before_it i ≡ None → Every (λ b. NoSecond b i) before_it
none-second before_it i e b h d =
    not-true (second i b)
    (λ t. first-some (defines_it i && list_any (second i) before_it) (its_name i) _ e
    (all_of (defines_it i) (list_any (second i) before_it) d (any-there (second i) before_it b h t)))

abbrev PlacedApart : List Placed → Type 0
PlacedApart [] = Unit {0}
PlacedApart (p ∷ ps) = Every (λ i. NoSecond p i) ps × PlacedApart ps

record BothApart (before_it rest : List Placed) : Type 0 where
  across : Every (λ b. Every (λ i. NoSecond b i) rest) before_it
  inside : PlacedApart rest

first-apart : (all before_it rest : List Placed) (r : Option Refusal) → FirstBroken all before_it rest r → r ≡ None → BothApart before_it rest
first-apart all before_it _ _ (link.FirstBroken.none _) e = record { across = λ b h i k. absurd k; inside = tt }
first-apart all before_it _ _ (link.FirstBroken.here _ i rest r b) e = absurd (cc)
first-apart all before_it _ _ (link.FirstBroken.later _ i rest r b f) e =
    let again = first-apart all (before_it ++ i ∷ []) rest r f e in
    let here = none-second before_it i (breaks-second all before_it i None b refl) in
    record {
      across = λ p h j k. at again here p h j k;
      inside = (λ j k. again.across i (in-right i before_it (i ∷ []) (inl refl)) j k, again.inside);
    }
  where
    at : BothApart (before_it ++ i ∷ []) rest → Every (λ b. NoSecond b i) before_it → (p : Placed) → In p before_it → (j : Placed) → In j (i ∷ rest) → NoSecond p j
    at again here p h j (inl k) = subst (NoSecond p) k (here p h)
    at again here p h j (inr k) = again.across p (in-left p before_it (i ∷ []) h) j k

links-apart : (units : List CUnit) (r : Result CProgram Refusal) → Links units r → (program : CProgram) → r ≡ Ok program → PlacedApart (placed_units 1 units)
links-apart units _ (version name v) program e = absurd (cc)
links-apart units _ (broken r v b) program e = absurd (cc)
links-apart units _ (linked v b) program e = (first-apart (placed_units 1 units) [] (placed_units 1 units) None b refl).inside

-- ---- of one unit

module _ (names : List (List ℕ)) where
  abbrev r : Renaming
  r = static_renaming 1 names

  abbrev at : CItem → Placed
  at i = placed 1 names i

  abbrev now : CItem → Item
  now i = item_of (item_renamed i r)

  -- two definitions have two names in the program: where both are shared these are the unit's
  two-apart : (b i : CItem) → Stays names b → Stays names i → (is_definition (item_of b) ≡ true → is_definition (item_of i) ≡ true
      → bytes_eq (name_of (item_of b)) (name_of (item_of i)) ≡ false) → NoSecond (at b) (at i) → is_definition (now b) ≡ true → is_definition (now i) ≡ true
      → bytes_eq (name_of (now b)) (name_of (now i)) ≡ false
  two-apart b i sb si unit alone db di = not-true (bytes_eq (name_of (now b)) (name_of (now i))) (λ t. go (is_shared (at i)) (is_shared (at b)) refl refl t)
    where
      stays : (x : CItem) → Stays names x → is_shared (at x) ≡ true → name_of (now x) ≡ name_of (item_of x)
      stays x s h = name-as x r ∙ ap (λ c. cond c (longer 1 (name_of (item_of x))) (name_of (item_of x))) (s (sym (shared-as x r) ∙ h))

      go : (s t : Bool) → is_shared (at i) ≡ s → is_shared (at b) ≡ t → bytes_eq (name_of (now b)) (name_of (now i)) ≡ true → ⊥
      go true true e h k =
          let same : name_of (item_of b) ≡ name_of (item_of i) = sym (stays b sb h) ∙ same_bytes (name_of (now b)) (name_of (now i)) k ∙ stays i si e in
          true≢false (sym (bytes_same (name_of (item_of b)) (name_of (item_of i)) same) ∙ unit (sym (definition-as b r) ∙ db) (sym (definition-as i r) ∙ di))
      go true false e h k =
          true≢false (sym (all_of (defines_named (its_name (at i)) (at b)) (not (is_shared (at i) && is_shared (at b))) (all_of (defines_it (at b)) _ db k)
          (ap (λ c. not (c && is_shared (at b))) e ∙ ap not h)) ∙ alone di)
      go false t e h k =
          true≢false (sym (all_of (defines_named (its_name (at i)) (at b)) (not (is_shared (at i) && is_shared (at b))) (all_of (defines_it (at b)) _ db k)
          (ap (λ c. not (c && is_shared (at b))) e)) ∙ alone di)

  placed-once : (is : List CItem) → Every (Stays names) is → ItemsOnce (items_of is) → PlacedApart (map at is) → ItemsOnce (map now is)
  placed-once [] s u p = tt
  placed-once (b ∷ is) s u p = (
    λ db. every-mapped (λ j. is_definition j ≡ true → bytes_eq (name_of (now b)) (name_of j) ≡ false) now is
        (λ i h di. two-apart b i (s b (inl refl)) (s i (inr h)) (λ d e. u.0 d (item_of i) (mapped-in' is i h) e) (p.0 (at i) (placed-in is i h)) db di),
    placed-once is (λ y k. s y (inr k)) u.1 p.1,
  )
    where
      mapped-in' : (is : List CItem) (i : CItem) → In i is → In (item_of i) (items_of is)
      mapped-in' [] i h = absurd h
      mapped-in' (j ∷ is) i (inl e) = inl (ap item_of e)
      mapped-in' (j ∷ is) i (inr h) = inr (mapped-in' is i h)

      placed-in : (is : List CItem) (i : CItem) → In i is → In (at i) (map at is)
      placed-in [] i h = absurd h
      placed-in (j ∷ is) i (inl e) = inl (ap at e)
      placed-in (j ∷ is) i (inr h) = inr (placed-in is i h)

-- ---- functions and variables by themselves

abbrev function_name : Function → List ℕ
function_name f = f.prototype.name

abbrev variable_name : CVariable → List ℕ
variable_name v = v.name

pub function-in : (is : List Item) (f : Function) → In f (functions_of is) → In (defines f) is
function-in [] f h = absurd h
function-in (declares p ∷ is) f h = inr (function-in is f h)
function-in (declares_variable t name ∷ is) f h = inr (function-in is f h)
function-in (defines g ∷ is) f (inl e) = inl (ap defines e)
function-in (defines g ∷ is) f (inr h) = inr (function-in is f h)
function-in (defines_variable v ∷ is) f h = inr (function-in is f h)

pub variable-in : (is : List Item) (v : CVariable) → In v (variables_of is) → In (defines_variable v) is
variable-in [] v h = absurd h
variable-in (declares p ∷ is) v h = inr (variable-in is v h)
variable-in (declares_variable t name ∷ is) v h = inr (variable-in is v h)
variable-in (defines f ∷ is) v h = inr (variable-in is v h)
variable-in (defines_variable w ∷ is) v (inl e) = inl (ap defines_variable e)
variable-in (defines_variable w ∷ is) v (inr h) = inr (variable-in is v h)

pub variables-once : (is : List Item) → ItemsOnce is → Differ variable_name (variables_of is)
variables-once [] u = tt
variables-once (declares p ∷ is) u = variables-once is u.1
variables-once (declares_variable t name ∷ is) u = variables-once is u.1
variables-once (defines f ∷ is) u = variables-once is u.1
variables-once (defines_variable v ∷ is) u = (λ w h. u.0 refl (defines_variable w) (variable-in is w h) refl, variables-once is u.1)

pub functions-once : (is : List Item) → ItemsOnce is → Differ function_name (functions_of is)
functions-once [] u = tt
functions-once (declares p ∷ is) u = functions-once is u.1
functions-once (declares_variable t name ∷ is) u = functions-once is u.1
functions-once (defines f ∷ is) u = (λ g h. u.0 refl (defines g) (function-in is g h) refl, functions-once is u.1)
functions-once (defines_variable v ∷ is) u = functions-once is u.1

-- no function has the name of a variable
pub across-once : (is : List Item) → ItemsOnce is → (f : Function) → In f (functions_of is) → (v : CVariable) → In v (variables_of is)
    → bytes_eq (function_name f) (variable_name v) ≡ false
across-once [] u f h v k = absurd h
across-once (declares p ∷ is) u f h v k = across-once is u.1 f h v k
across-once (declares_variable t name ∷ is) u f h v k = across-once is u.1 f h v k
across-once (defines g ∷ is) u f (inl e) v k = ap (λ g. bytes_eq (function_name g) (variable_name v)) (sym e) ∙ u.0 refl (defines_variable v) (variable-in is v k) refl
across-once (defines g ∷ is) u f (inr h) v k = across-once is u.1 f h v k
across-once (defines_variable w ∷ is) u f h v (inl e) =
    ap (λ w. bytes_eq (function_name f) (variable_name w)) (sym e)
    ∙ either-way (variable_name w) (function_name f) (u.0 refl (defines f) (function-in is f h) refl)
across-once (defines_variable w ∷ is) u f h v (inr k) = across-once is u.1 f h v k

pub one-once : (u : CUnit) (program : CProgram) → Every (Stays (statics (items_of u.items))) u.items → DefinedOnce (items_of u.items) [] → Links (u ∷ []) (Ok program)
    → ItemsOnce (map (now (statics (items_of u.items))) u.items)
one-once u program stay once links =
    let names : List (List ℕ) = statics (items_of u.items) in
    placed-once names u.items stay (items-once (items_of u.items) [] once)
    (subst PlacedApart (append-nil (map (placed 1 names) u.items)) (links-apart (u ∷ []) (Ok program) links program refl))
