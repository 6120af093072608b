-- A function that an action of a lowered file names is the library's, or one of the file, where the unit is linked alone: linking refuses other names.
use Rattle.std.proofs.Common.{◌≡◌, Bool, true, false, not, ◌&&◌, ◌||◌, cond, List, [], ◌∷◌, ◌++◌, map, Result, Ok, refl, ap, sym, subst, ◌∙◌, inl, inr, ◌⊎◌, append-nil}
use Rattle.std.specs.Prelude.{Option, Some, None, bytes_eq, codes, find, drop}
use Rattle.std.specs.Fmt.{digits}
use Rattle.std.specs.List.{flat_map, list_any}
use Rattle.std.proofs.lemmas.Bool.{true≢false, or_cases}
use Rattle.std.proofs.lemmas.List.Folds.{list_any-append}
use Rattle.cf_base.proofs.Tests.{same_bytes, bytes_same, both}
use Rattle.cf_core.specs.Types.{Name}
use Rattle.cf_plain.specs.Plain.{PlainFunction, PlainStatic}
use Rattle.cc_whole.specs.declared.unit.CItem.{CItem}
use Rattle.cc_whole.specs.declared.unit.CProgram.{CProgram}
use Rattle.cc_whole.specs.declared.unit.CUnit.{CUnit}
use Rattle.cc_whole.specs.declared.unit.CVariable.{CVariable}
use Rattle.cc_whole.specs.Known.{is_in, is_library, is_helper}
use Rattle.cc_whole.specs.Plain.{Statement, Item, declares, defines, defines_variable, item_of, items_of, name_of}
use Rattle.cc_whole.specs.Uses.{uses_of_item}
use Rattle.cc_whole.specs.Valid.{is_definition}
use Rattle.cc_whole_link.specs.Rename.{Renaming}
use Rattle.cc_whole_link.specs.Placed.{Placed, placed, placed_units, statics, static_renaming, longer, its_name, defines_it, defines_named}
use Rattle.cc_whole_link.specs.Link.{Refusal, undefined_use, Breaks, undefined, twice, shared, typed, kept, FirstBroken, none, here, later, Links, version, broken, linked}
use Rattle.cf_lower.specs.Functions.{prototype, lowered_function, lowered_static, literals, start_literals, library, own_prototypes, own_variables, constants_function}
use Rattle.cf_lower_program.specs.Names.{is_own_name, all_digits, ends_as_file, is_object_name, is_function_name, is_foreign, own_names}
use Rattle.cf_lower_program.specs.Lowerable.{Lowerable}
use Rattle.cc_whole_sections.specs.Sections.{In, Every}
use Rattle.cf_lower_valid.proofs.Inner.{mapped-in, every-mapped, every-append}
use Rattle.cf_lower_valid.proofs.Others.{mapped-from}
use Rattle.cf_lower_valid.proofs.Naming.{Foreign, literal-own}
use Rattle.cf_lower_valid.proofs.Tests.{file_of, names-told}
use Rattle.cf_lower_valid.proofs.Starts.{stores}
use Rattle.cf_lower_alone.proofs.AloneLaws.Items.{name-as, definition-as}
use Rattle.cf_lower_alone.proofs.AloneLaws.Names.{foreign-plain, static-local}
use Rattle.cf_lower_alone.proofs.AloneLaws.Statics.{any-there, Declared, library-declared, elsewhere-declared, other, variables, lowered_items, every-item, static_names, locals, LocalAs, a_function, an_object, local-as, function-literal, start-literal, LiteralNamed}

-- ---- what is linked uses nothing that is not defined

break-none : (all before : List Placed) (i : Placed) (o : Option Refusal) → Breaks all before i o → o ≡ None → undefined_use all i ≡ None
break-none all before i _ (undefined name u) e = absurd (cc)
break-none all before i _ (twice name u s) e = absurd (cc)
break-none all before i _ (shared u s d) e = absurd (cc)
break-none all before i _ (typed u s d t) e = absurd (cc)
break-none all before i _ (kept u s d t) e = u

all-none : (all before rest : List Placed) (o : Option Refusal) → FirstBroken all before rest o → o ≡ None → Every (λ i. undefined_use all i ≡ None) rest
all-none all _ _ _ (none b) e i h = absurd h
all-none all _ _ _ (here b j rest r k) e i h = absurd (cc)
all-none all _ _ _ (later b j rest r k more) e i (inl same) = subst (λ i. undefined_use all i ≡ None) same (break-none all b j None k refl)
all-none all _ _ _ (later b j rest r k more) e i (inr h) = all-none all (b ++ j ∷ []) rest r more e i h

linked-none : (units : List CUnit) (r : Result CProgram Refusal) → Links units r → (program : CProgram) → r ≡ Ok program
    → Every (λ i. undefined_use (placed_units 1 units) i ≡ None) (placed_units 1 units)
linked-none units _ (version name v) program e = absurd (cc)
linked-none units _ (broken r v b) program e = absurd (cc)
linked-none units _ (linked v b) program e = all-none (placed_units 1 units) [] (placed_units 1 units) None b refl

find-none : (test : Name → Bool) (xs : List Name) → find test xs ≡ None → (n : Name) → is_in xs n ≡ true → test n ≡ false
find-none test [] e n h = absurd (true≢false (sym h))
find-none test (x ∷ xs) e n h = go (test x) refl e (λ k. find-none test xs k n)
  where
    go : (b : Bool) → test x ≡ b → cond b (Some x) (find test xs) ≡ None → (find test xs ≡ None → is_in xs n ≡ true → test n ≡ false) → test n ≡ false
    go true is k again = absurd (cc)
    go false is k again = by (bytes_eq x n) refl h
      where
        by : (c : Bool) → bytes_eq x n ≡ c → (c || is_in xs n) ≡ true → test n ≡ false
        by true same l = ap test (sym (same_bytes x n same)) ∙ is
        by false _ l = again k l

-- ---- names that end as those of files

or-right : (a b : Bool) → b ≡ true → (a || b) ≡ true
or-right true b e = refl
or-right false b e = e

pub ends-longer : (n : Name) → ends_as_file (longer 1 n) ≡ true
unfolding digits
ends-longer [] = refl
ends-longer (c ∷ n) =
    or-right (is_own_name (codes "__u") (longer 1 (c ∷ n)) && all_digits (drop 3 (longer 1 (c ∷ n)))) (ends_as_file (longer 1 n)) (ends-longer n)

renamed-is : (names : List Name) (m n : Name) → static_renaming 1 names m ≡ n → ends_as_file n ≡ false → m ≡ n
renamed-is names m n e other = go (is_in names m) e
  where
    go : (b : Bool) → cond b (longer 1 m) m ≡ n → m ≡ n
    go true k = absurd (true≢false (sym (ends-longer m) ∙ ap ends_as_file k ∙ other))
    go false k = k

-- what a list has that passes
pub record Passing {A : Type 0} (test : A → Bool) (xs : List A) : Type 0 where
  pub one : A
  pub there : In one xs
  pub passes : test one ≡ true

pub passing : {A : Type 0} (test : A → Bool) (xs : List A) → list_any test xs ≡ true → Passing test xs
passing test [] e = absurd (true≢false (sym e))
passing test (x ∷ xs) e = go (test x) refl e (λ k. passing test xs k)
  where
    go : (b : Bool) → test x ≡ b → (b || list_any test xs) ≡ true → (list_any test xs ≡ true → Passing test xs) → Passing test (x ∷ xs)
    go true is k again = record { one = x; there = inl refl; passes = is }
    go false is k again = let r = again k in record { one = r.one; there = inr r.there; passes = r.passes }

-- a name of one of the lists
used-in : (is : List Item) (n : Name) → is_in (flat_map uses_of_item is) n ≡ true → Passing (λ i. is_in (uses_of_item i) n) is
used-in [] n e = absurd (true≢false (sym e))
used-in (i ∷ is) n e =
    go (or_cases (is_in (uses_of_item i) n) (is_in (flat_map uses_of_item is) n)
    (sym (list_any-append (λ other. bytes_eq other n) (uses_of_item i) (flat_map uses_of_item is)) ∙ e))
    (λ k. used-in is n k)
  where
    go : (is_in (uses_of_item i) n ≡ true) ⊎ (is_in (flat_map uses_of_item is) n ≡ true)
        → (is_in (flat_map uses_of_item is) n ≡ true → Passing (λ i. is_in (uses_of_item i) n) is) → Passing (λ i. is_in (uses_of_item i) n) (i ∷ is)
    go (inl k) again = record { one = i; there = inl refl; passes = k }
    go (inr k) again = let r = again k in record { one = r.one; there = inr r.there; passes = r.passes }

mapped-name : (r : Renaming) (xs : List Name) (n : Name) → is_in xs n ≡ true → is_in (map r xs) (r n) ≡ true
mapped-name r [] n e = e
mapped-name r (x ∷ xs) n e = go (bytes_eq x n) refl e (λ k. mapped-name r xs n k)
  where
    go : (b : Bool) → bytes_eq x n ≡ b → (b || is_in xs n) ≡ true → (is_in xs n ≡ true → is_in (map r xs) (r n) ≡ true) → (bytes_eq (r x) (r n) || is_in (map r xs) (r n)) ≡ true
    go true is k again = ap (λ c. c || is_in (map r xs) (r n)) (bytes_same (r x) (r n) (ap r (same_bytes x n is)))
    go false is k again = or-right (bytes_eq (r x) (r n)) (is_in (map r xs) (r n)) (again k)

either : (a b : Bool) → (not a && not b) ≡ false → a ≡ false → b ≡ true
either true b e h = absurd (true≢false h)
either false true e h = refl
either false false e h = absurd (true≢false e)

module _ (fs : List PlainFunction) (xs : List PlainStatic) (low : Lowerable (file_of fs xs)) (u : CUnit) (program : CProgram)
    (e : items_of u.items ≡ lowered_items fs xs low) (links : Links (u ∷ []) (Ok program)) where
  abbrev S : List Name
  S = static_names fs xs low

  abbrev names : List Name
  names = statics (items_of u.items)

  abbrev at : CItem → Placed
  at i = placed 1 names i

  abbrev all : List Placed
  all = placed_units 1 (u ∷ [])

  one-unit : all ≡ map at u.items
  one-unit = append-nil (map at u.items)

  module _ (n : Name) (foreign : Foreign n) (is_named : is_function_name n ≡ true) (other_end : ends_as_file n ≡ false) where
    abbrev Goal : Type 0
    Goal = list_any (λ (f : PlainFunction). bytes_eq f.name n) fs ≡ true

    no-object : (m : Name) → is_object_name m ≡ true → m ≡ n → ⊥
    no-object m o same = true≢false (sym is_named ∙ ap (λ k. not (is_object_name k)) (sym same) ∙ ap not o)

    function-is : (f : PlainFunction) → In f fs → f.name ≡ n → Goal
    function-is f h same = any-there (λ (f : PlainFunction). bytes_eq f.name n) fs f h (bytes_same f.name n same)

    -- of the names that the file defines and those of the library, it is that of a function
    abbrev Owns : Item → Type 0
    Owns i = name_of i ≡ n → Goal

    library-owns : Every Owns library
    library-owns i (inl k) = subst Owns k (λ same. absurd (true≢false (ap is_library same ∙ foreign.no_library)))
    library-owns i (inr (inl k)) = subst Owns k (λ same. absurd (true≢false (ap is_library same ∙ foreign.no_library)))
    library-owns i (inr (inr (inl k))) = subst Owns k (λ same. absurd (true≢false (ap is_library same ∙ foreign.no_library)))
    library-owns i (inr (inr (inr h))) = absurd h

    literal-owns : (v : CVariable) → LiteralNamed v → Owns (defines_variable v)
    literal-owns v l same =
        absurd (true≢false (sym (literal-own l.owner l.number) ∙ ap (is_own_name (codes "__s")) (sym l.is ∙ same) ∙ foreign.no_literal))

    all-own : Every Owns (library ++ own_prototypes (file_of fs xs) ++ own_variables (file_of fs xs))
    all-own =
        every-append Owns (library ++ own_prototypes (file_of fs xs)) (own_variables (file_of fs xs))
        (every-append Owns library (own_prototypes (file_of fs xs)) library-owns
        (every-mapped Owns (λ (f : PlainFunction). declares (prototype f)) fs (λ f h same. function-is f h same)))
        (every-mapped Owns defines_variable (variables fs xs low)
        (every-append (λ v. Owns (defines_variable v)) (map (lowered_static []) xs ++ flat_map literals fs) (flat_map start_literals xs)
        (every-append (λ v. Owns (defines_variable v)) (map (lowered_static []) xs) (flat_map literals fs)
        (every-mapped (λ v. Owns (defines_variable v)) (lowered_static []) xs
        (λ x h same. absurd (no-object x.name (both (is_foreign x.name) (is_object_name x.name) ((names-told fs xs low).statics x h)).1 same)))
        (λ v h. literal-owns v (function-literal fs xs low v h))) (λ v h. literal-owns v (start-literal fs xs low v h))))

    pub function-owned : is_in (own_names (file_of fs xs)) n ≡ true → Goal
    function-owned e =
        let p = passing (λ other. bytes_eq other n) (own_names (file_of fs xs)) e in
        let m = mapped-from name_of (library ++ own_prototypes (file_of fs xs) ++ own_variables (file_of fs xs)) p.one p.there in
        all-own m.one m.there (m.is ∙ same_bytes p.one n p.passes)

    -- what defines it in the unit
    abbrev Tells : Item → Type 0
    Tells i = is_definition i ≡ true → static_renaming 1 S (name_of i) ≡ n → Goal

    never : (i : Item) → Declared i → Tells i
    never i d is same = absurd (true≢false (sym is ∙ d.no_definition))

    literal-tells : (v : CVariable) → LiteralNamed v → Tells (defines_variable v)
    literal-tells v l is same =
        let named : v.name ≡ n = renamed-is S v.name n same other_end in
        absurd (true≢false (sym (literal-own l.owner l.number) ∙ ap (is_own_name (codes "__s")) (sym l.is ∙ named) ∙ foreign.no_literal))

    helper-tells : (ss : List Statement) → Every Tells (constants_function ss)
    helper-tells [] i h = absurd h
    helper-tells (s ∷ ss) i (inl k) =
        subst Tells k (λ is same. absurd (true≢false (ap is_helper (renamed-is S (codes "__hci") n same other_end) ∙ foreign.no_helper)))
    helper-tells (s ∷ ss) i (inr k) = absurd k

    all-tell : Every Tells (lowered_items fs xs low)
    all-tell =
        every-item fs xs low Tells (λ i h. never i (library-declared i h))
        (every-mapped Tells (λ (f : PlainFunction). declares (prototype f)) fs (λ f h is same. absurd (true≢false (sym is))))
        (λ i h. never i (elsewhere-declared fs xs low i h))
        (every-mapped Tells defines_variable (variables fs xs low)
        (every-append (λ v. Tells (defines_variable v)) (map (lowered_static []) xs ++ flat_map literals fs) (flat_map start_literals xs)
        (every-append (λ v. Tells (defines_variable v)) (map (lowered_static []) xs) (flat_map literals fs)
        (every-mapped (λ v. Tells (defines_variable v)) (lowered_static []) xs
        (λ x h is same. absurd (no-object x.name (both (is_foreign x.name) (is_object_name x.name) ((names-told fs xs low).statics x h)).1 (renamed-is S x.name n same other_end))))
        (λ v h. literal-tells v (function-literal fs xs low v h))) (λ v h. literal-tells v (start-literal fs xs low v h))))
        (every-mapped Tells (λ (f : PlainFunction). defines (lowered_function [] f)) fs (λ f h is same. function-is f h (renamed-is S f.name n same other_end)))
        (helper-tells (stores fs xs low))

    placed-tells : (j : Placed) → In j (map at u.items) → defines_named n j ≡ true → Goal
    placed-tells j h d =
        let m = mapped-from at u.items j h in
        let two = both (defines_it (at m.one)) (bytes_eq (its_name (at m.one)) n) (ap (defines_named n) m.is ∙ d) in
        let there : In (item_of m.one) (lowered_items fs xs low) = subst (In (item_of m.one)) e (mapped-in item_of m.one u.items m.there) in
        all-tell (item_of m.one) there (sym (definition-as m.one (static_renaming 1 names)) ∙ two.0)
        (ap (λ s. static_renaming 1 s (name_of (item_of m.one))) (sym (ap statics e)) ∙ sym (name-as m.one (static_renaming 1 names))
        ∙ same_bytes (its_name (at m.one)) n two.1)

    module _ (used : is_in (flat_map uses_of_item (lowered_items fs xs low)) n ≡ true) where
      -- it is no local name
      by-shown : list_any (bytes_eq n) (locals fs xs low) ≡ false → Goal
      by-shown hidden =
          let by = used-in (lowered_items fs xs low) n used in
          let m = mapped-from item_of u.items by.one (subst (In by.one) (sym e) by.there) in
          let there : In (at m.one) all = subst (In (at m.one)) (sym one-unit) (mapped-in at m.one u.items m.there) in
          let nothing = linked-none (u ∷ []) (Ok program) links program refl (at m.one) there in
          let used_here : is_in (uses_of_item (item_of m.one)) n ≡ true = ap (λ i. is_in (uses_of_item i) n) m.is ∙ by.passes in
          let shown : is_in S n ≡ false = static-local fs xs low n (foreign-plain n foreign) ∙ hidden in
          let same : static_renaming 1 names n ≡ n = ap (λ c. cond c (longer 1 n) n) (ap (λ is. is_in (statics is) n) e ∙ shown) in
          let found = find-none (λ k. not (is_library k) && not (list_any (defines_named k) all)) (at m.one).uses nothing (static_renaming 1 names n)
          (mapped-name (static_renaming 1 names) (uses_of_item (item_of m.one)) n used_here) in
          let defined = either (is_library n) (list_any (defines_named n) all) (ap (λ k. not (is_library k) && not (list_any (defines_named k) all)) (sym same) ∙ found)
          foreign.no_library in
          let p = passing (defines_named n) all defined in
          placed-tells p.one (subst (In p.one) one-unit p.there) p.passes

      by-local : LocalAs fs xs low n → Goal
      by-local (a_function f h l same) = function-is f h same
      by-local (an_object x h l same) =
          absurd (no-object x.name (both (is_foreign x.name) (is_object_name x.name) ((names-told fs xs low).statics x h)).1 same)

      pub function-of-file : Goal
      function-of-file = go (list_any (bytes_eq n) (locals fs xs low)) refl
        where
          go : (b : Bool) → list_any (bytes_eq n) (locals fs xs low) ≡ b → Goal
          go true is = by-local (local-as fs xs low n is)
          go false is = by-shown is
