-- The unit of a lowered file links by itself to a program only where the core file has a `main`.
use Rattle.std.proofs.Common.{◌≡◌, Bool, true, false, not, ◌||◌, cond, List, [], ◌∷◌, ◌++◌, map, Result, Ok, Err, refl, ap, sym, subst, ◌∙◌, inl, inr, ◌⊎◌, append-nil}
use Rattle.std.specs.Prelude.{Some, bytes_eq, codes, find, is_some}
use Rattle.std.specs.List.{flat_map, list_any}
use Rattle.std.proofs.lemmas.Bool.{true≢false, or_cases}
use Rattle.cf_base.proofs.Tests.{both, all_of, same_bytes, bytes_same}
use Rattle.cc_whole.specs.declared.unit.CItem.{CItem}
use Rattle.cc_whole.specs.declared.unit.CProgram.{CProgram}
use Rattle.cc_whole.specs.declared.unit.CUnit.{CUnit}
use Rattle.cc_whole.specs.declared.unit.CVariable.{CVariable}
use Rattle.cc_whole.specs.Known.{is_in, is_helper, is_main}
use Rattle.cc_whole.specs.Plain.{Statement, Item, declares, defines, defines_variable, item_of, items_of, name_of}
use Rattle.cc_whole.specs.Valid.{is_definition}
use Rattle.cc_whole_link.specs.Link.{Refusal, refusal, is_the_main, kept_items, added_main, with_main, Links, version, broken, linked}
use Rattle.cc_whole_link.specs.Placed.{Placed, placed, placed_units, statics, static_renaming, longer, its_name, defines_it, defines_named}
use Rattle.cc_whole_sections.specs.Sections.{In, Every}
use Rattle.cf_core.specs.Classes.{Class}
use Rattle.cf_core.specs.Core.{CoreFile}
use Rattle.cf_core.specs.FromUnit.{file_of}
use Rattle.cf_core.specs.Types.{Name}
use Rattle.cf_file_sound.specs.Files.{stands_for_main, has_main}
use Rattle.cf_lower.specs.Functions.{prototype, lowered_function, lowered_static, literals, start_literals, constants_function}
use Rattle.cf_lower_alone.proofs.AloneLaws.Items.{name-as, definition-as}
use Rattle.cf_lower_alone.proofs.AloneLaws.Statics.{not-true, Declared, LiteralNamed, library-declared, elsewhere-declared, every-item, variables, lowered_items, static_names, function-static, function-foreign-name, object-foreign-name, function-literal, start-literal}
use Rattle.cf_lower_alone.proofs.AloneLaws.Uses.{ends-longer, passing}
use Rattle.cf_lower_program.specs.Agrees.{IsLowered}
use Rattle.cf_lower_program.specs.Lowerable.{is_none, Lowerable}
use Rattle.cf_lower_program.specs.Names.{is_own_name, ends_as_file, is_foreign, is_object_name}
use Rattle.cf_lower_valid.proofs.Inner.{mapped-in, every-mapped, every-append}
use Rattle.cf_lower_valid.proofs.Naming.{literal-own}
use Rattle.cf_lower_valid.proofs.Others.{mapped-from}
use Rattle.cf_lower_valid.proofs.Starts.{stores}
use Rattle.cf_lower_valid.proofs.Tests as tests
use Rattle.cf_lower_valid.proofs.Tests.{names-told}
use Rattle.cf_plain.specs.Plain.{PlainFunction, PlainStatic, PlainFile}
use Rattle.cf_plain.specs.View as plain
use Rattle.cf_sequence.specs.Sequenced.{sequenced_function}
use Rattle.cf_one_file.specs.Means.{LinkedFilesHaveMain}

abbrev main_name : Name
main_name = codes "__main"

-- ---- what is linked defines `main` or `__main`

started : (all : List Placed) (program : CProgram) → with_main all ≡ Ok program → (list_any is_the_main all || list_any (defines_named main_name) all) ≡ true
started all program e = go (list_any is_the_main all) (list_any (defines_named main_name) all) e
  where
    go : (a b : Bool)
        → ◌≡◌ {A = Result CProgram Refusal}
        (cond a (Ok (record { items = kept_items [] all })) (cond b (Ok (record { items = kept_items [] all ++ added_main all ∷ [] })) (Err (refusal 4 main_name)))) (Ok program)
        → (a || b) ≡ true
    go true b e = refl
    go false true e = refl
    go false false e = absurd (cc)

links-started : (units : List CUnit) (r : Result CProgram Refusal) → Links units r → (program : CProgram) → r ≡ Ok program
    → (list_any is_the_main (placed_units 1 units) || list_any (defines_named main_name) (placed_units 1 units)) ≡ true
links-started units _ (version name v) program e = absurd (cc)
links-started units _ (broken r v b) program e = absurd (cc)
links-started units _ (linked v b) program e = started (placed_units 1 units) program e

-- ---- items of one unit

-- one of them defines this name, and no static one
record Defines (is : List Item) (n : Name) : Type 0 where
  one : Item
  there : In one is
  defined : is_definition one ≡ true
  named : name_of one ≡ n
  shown : is_in (statics is) n ≡ false

-- a name that does not end as those of files is no longer one
record KeepsName (names : List Name) (m n : Name) : Type 0 where
  same : m ≡ n
  shown : is_in names n ≡ false

keeps-name : (names : List Name) (m n : Name) → ends_as_file n ≡ false → static_renaming 1 names m ≡ n → KeepsName names m n
keeps-name names m n other e = go (is_in names m) refl e
  where
    go : (b : Bool) → is_in names m ≡ b → cond b (longer 1 m) m ≡ n → KeepsName names m n
    go true is k = absurd (true≢false (sym (ends-longer m) ∙ ap ends_as_file k ∙ other))
    go false is k = record { same = k; shown = ap (is_in names) (sym k) ∙ is }

placed-defines : (is : List CItem) (n : Name) → ends_as_file n ≡ false → list_any (defines_named n) (map (placed 1 (statics (items_of is))) is) ≡ true
    → Defines (items_of is) n
placed-defines is n other e =
    let names = statics (items_of is) in
    let p = passing (defines_named n) (map (placed 1 names) is) e in
    let m = mapped-from (placed 1 names) is p.one p.there in
    let d = both (defines_it (placed 1 names m.one)) (bytes_eq (its_name (placed 1 names m.one)) n) (ap (defines_named n) m.is ∙ p.passes) in
    let k = keeps-name names (name_of (item_of m.one)) n other
    (sym (name-as m.one (static_renaming 1 names)) ∙ same_bytes (its_name (placed 1 names m.one)) n d.1) in
    record {
      one = item_of m.one;
      there = mapped-in item_of m.one is m.there;
      defined = sym (definition-as m.one (static_renaming 1 names)) ∙ d.0;
      named = k.same;
      shown = k.shown;
    }

-- ---- of a lowered file

-- a function of this name
record FunctionNamed (fs : List PlainFunction) (n : Name) : Type 0 where
  one : PlainFunction
  there : In one fs
  named : one.name ≡ n

-- `main`, which is not local to the file
record PlainMain (fs : List PlainFunction) : Type 0 where
  one : PlainFunction
  there : In one fs
  named : one.name ≡ main_name
  shown : one.is_local ≡ false

module _ (fs : List PlainFunction) (xs : List PlainStatic) (low : Lowerable (tests.file_of fs xs)) where
  -- what defines this name is a function of the file, where no object, literal or helper has it
  module _ (n : Name) (no_object : (x : PlainStatic) → In x xs → x.name ≡ n → ⊥) (no_literal : is_own_name (codes "__s") n ≡ false) (no_helper : is_helper n ≡ false) where
    abbrev Tells : Item → Type 0
    Tells i = is_definition i ≡ true → name_of i ≡ n → FunctionNamed fs n

    declared-tells : (i : Item) → Declared i → Tells i
    declared-tells i d is same = absurd (true≢false (sym is ∙ d.no_definition))

    literal-tells : (v : CVariable) → LiteralNamed v → Tells (defines_variable v)
    literal-tells v l is same =
        absurd (true≢false (sym (literal-own l.owner l.number) ∙ ap (is_own_name (codes "__s")) (sym l.is ∙ same) ∙ no_literal))

    helper-tells : (ss : List Statement) → Every Tells (constants_function ss)
    helper-tells [] i h = absurd h
    helper-tells (s ∷ ss) i (inl k) = subst Tells k (λ is same. absurd (true≢false (ap is_helper same ∙ no_helper)))
    helper-tells (s ∷ ss) i (inr k) = absurd k

    variables-tell : Every (λ v. Tells (defines_variable v)) (variables fs xs low)
    variables-tell =
        every-append (λ v. Tells (defines_variable v)) (map (lowered_static []) xs ++ flat_map literals fs) (flat_map start_literals xs)
        (every-append (λ v. Tells (defines_variable v)) (map (lowered_static []) xs) (flat_map literals fs)
        (every-mapped (λ v. Tells (defines_variable v)) (lowered_static []) xs (λ x h is same. absurd (no_object x h same)))
        (λ v h. literal-tells v (function-literal fs xs low v h)))
        (λ v h. literal-tells v (start-literal fs xs low v h))

    all-tell : Every Tells (lowered_items fs xs low)
    all-tell =
        every-item fs xs low Tells (λ i h. declared-tells i (library-declared i h))
        (every-mapped Tells (λ (f : PlainFunction). declares (prototype f)) fs (λ f h is same. absurd (true≢false (sym is))))
        (λ i h. declared-tells i (elsewhere-declared fs xs low i h)) (every-mapped Tells defines_variable (variables fs xs low) variables-tell)
        (every-mapped Tells (λ (f : PlainFunction). defines (lowered_function [] f)) fs (λ f h is same. record { one = f; there = h; named = same }))
        (helper-tells (stores fs xs low))

    named-function : Defines (lowered_items fs xs low) n → FunctionNamed fs n
    named-function d = all-tell d.one d.there d.defined d.named

  object-no-main : (x : PlainStatic) → In x xs → x.name ≡ codes "main" → ⊥
  object-no-main x h same = true≢false (sym (ap is_main same) ∙ (object-foreign-name fs xs low x h).no_main)

  -- no function nor object is called `main`
  none-main : Defines (lowered_items fs xs low) (codes "main") → ⊥
  none-main d =
      let f = named-function (codes "main") object-no-main refl refl d in
      true≢false (sym (ap is_main f.named) ∙ (function-foreign-name fs xs low f.one f.there).no_main)

  -- `__main` is no name of an object
  object-no-start : (x : PlainStatic) → In x xs → x.name ≡ main_name → ⊥
  object-no-start x h same =
      true≢false (sym (both (is_foreign x.name) (is_object_name x.name) ((names-told fs xs low).statics x h)).1 ∙ ap is_object_name same)

  main-defined : Defines (lowered_items fs xs low) main_name → PlainMain fs
  main-defined d =
      let f = named-function main_name object-no-start refl refl d in
      record {
        one = f.one;
        there = f.there;
        named = f.named;
        shown = not-true f.one.is_local
            (λ e. true≢false (sym (function-static fs xs low f.one f.there e) ∙ ap (is_in (static_names fs xs low)) f.named ∙ d.shown));
      }

  unit-main : (u : CUnit) (program : CProgram) → items_of u.items ≡ lowered_items fs xs low → Links (u ∷ []) (Ok program) → PlainMain fs
  unit-main u program e links =
      let all = map (placed 1 (statics (items_of u.items))) u.items in
      go (or_cases (list_any is_the_main all) (list_any (defines_named main_name) all)
      (ap (λ ps. list_any is_the_main ps || list_any (defines_named main_name) ps) (sym (append-nil all)) ∙ links-started (u ∷ []) (Ok program) links program refl))
    where
      there : (n : Name) → ends_as_file n ≡ false → list_any (defines_named n) (map (placed 1 (statics (items_of u.items))) u.items) ≡ true
          → Defines (lowered_items fs xs low) n
      there n other k = subst (λ is. Defines is n) e (placed-defines u.items n other k)

      go : (list_any is_the_main (map (placed 1 (statics (items_of u.items))) u.items) ≡ true)
          ⊎ (list_any (defines_named main_name) (map (placed 1 (statics (items_of u.items))) u.items) ≡ true) → PlainMain fs
      go (inl k) = absurd (none-main (there (codes "main") refl k))
      go (inr k) = main-defined (there main_name refl k)

-- ---- of any file, which has no classes

no-classes : (cs : List Class) → is_none cs ≡ true → [] ≡ cs
no-classes [] e = refl
no-classes (c ∷ cs) e = absurd (true≢false (sym e))

plain-main : (file : PlainFile) (u : CUnit) (program : CProgram) → Lowerable file → IsLowered file u → Links (u ∷ []) (Ok program) → PlainMain file.functions
plain-main file u program low =
    let with_classes : List Class → PlainFile = λ cs. record { classes = cs; functions = file.functions; statics = file.statics } in
    subst (λ cs. Lowerable (with_classes cs) → IsLowered (with_classes cs) u → Links (u ∷ []) (Ok program) → PlainMain file.functions)
    (no-classes file.classes low.no_classes) (λ low is links. unit-main file.functions file.statics low u program is.items links) low

-- ---- of the core

found-there : {A : Type 0} (test : A → Bool) (xs : List A) (x : A) → In x xs → test x ≡ true → is_some (find test xs) ≡ true
found-there test [] x h e = absurd h
found-there test (y ∷ ys) x (inl k) e = ap (λ b. is_some (cond b (Some y) (find test ys))) (ap test k ∙ e)
found-there test (y ∷ ys) x (inr h) e = go (test y) (found-there test ys x h e)
  where
    go : (b : Bool) → is_some (find test ys) ≡ true → is_some (cond b (Some y) (find test ys)) ≡ true
    go true k = refl
    go false k = k

sequenced-main : (file : CoreFile) → PlainMain (map (sequenced_function file.classes file.statics) file.functions) → has_main file ≡ true
sequenced-main file m =
    let g = mapped-from (sequenced_function file.classes file.statics) file.functions m.one m.there in
    let named : g.one.name ≡ main_name = ap (λ (f : PlainFunction). f.name) g.is ∙ m.named in
    let shown : g.one.is_local ≡ false = ap (λ (f : PlainFunction). f.is_local) g.is ∙ m.shown in
    found-there stands_for_main file.functions g.one g.there
    (all_of (bytes_eq g.one.name main_name) (not g.one.is_local) (bytes_same g.one.name main_name named) (ap not shown))

pub linked-main : LinkedFilesHaveMain
linked-main core unit text program valid translated lowerable links =
    sequenced-main (file_of core)
    (subst (λ (file : PlainFile). PlainMain file.functions) translated.sequenced.sequenced.file
    (plain-main (plain.file_of translated.made) unit program lowerable translated.lowered links))
