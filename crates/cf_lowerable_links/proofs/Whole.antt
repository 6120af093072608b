-- That names are lowered is what a test by the first item of each name says.
use Rattle.std.proofs.Common.{◌≡◌, Bool, true, false, not, ◌&&◌, ◌||◌, List, [], ◌∷◌, ◌++◌, ◌⊎◌, inl, inr, map, Option, Some, None, refl, ap, sym, subst, ◌∙◌}
use Rattle.std.specs.Prelude.{bytes_eq, filter, is_some}
use Rattle.std.specs.List.{flat_map, list_all}
use Rattle.std.specs.Fmt.{digits}
use Rattle.std.proofs.lemmas.Bool.{or_cases}
use Rattle.cf_base.proofs.Tests.{both, all_of, same_bytes, bytes_same}
use Rattle.cc_whole.specs.Known.{Meant, Named, lookup, is_in}
use Rattle.cc_whole.specs.Plain.{Item, Statement, declares, declares_variable, defines, defines_variable, name_of}
use Rattle.cc_whole.specs.Spellable.{spellable_prototype, spellable_body, spellable_item, spellable_items}
use Rattle.cc_whole.specs.Types.{same_type}
use Rattle.cc_whole.specs.Valid.{agrees, own_type, has_type, named_by}
use Rattle.cf_core.specs.Types.{Name}
use Rattle.cf_plain.specs.Plain.{PlainFunction, PlainStatic, PlainFile}
use Rattle.cf_lower.specs.Constants.{constant_code, nothing_known}
use Rattle.cf_lower.specs.Functions.{constants_function, defined_elsewhere, library, literals, lowered_file, lowered_function, lowered_static, named_in, own_prototypes, own_variables, owner_of, prototype, start_literals}
use Rattle.cf_lower_program.specs.Names.{has_own_type, is_well_named, may_be_function, may_be_object, names_lowered, same_types}
use Rattle.cf_lowerable_links.specs.Fits.{fits, has_one_type, is_spelled, named_fits, names_fit}
use Rattle.cf_lowerable_links.proofs.Lists.{In, Every, all-in, every-append, every-mapped, found-by, found-some, in-all, in-left, in-mapped, in-right, named-name, other-from, other-there, stands}
use Rattle.cf_lowerable_links.proofs.Shapes.{agree, one-shape, own-shapes, shape}

-- ---- tests

same_tests : (a b : Bool) → (a ≡ true → b ≡ true) → (b ≡ true → a ≡ true) → a ≡ b
same_tests true b f g = sym (f refl)
same_tests false true f g = g refl
same_tests false false f g = refl

either : (a b : Bool) → (not a || b) ≡ true → a ≡ true → b ≡ true
either true b e h = e
either false b e h = absurd (cc)

-- ---- what each text is asked of an item

spelled-so : (i : Item) → spellable_item i ≡ true → is_spelled i ≡ true
spelled-so (declares p) e = e
spelled-so (declares_variable t name) e = e
spelled-so (defines f) e = (both (spellable_prototype f.prototype) (spellable_body f.body) e).0
spelled-so (defines_variable v) e = e

named-spelled : (i : Item) → is_well_named i ≡ true → is_spelled i ≡ true → spellable_item i ≡ true
named-spelled (declares p) h e = e
named-spelled (declares_variable t name) h e = e
named-spelled (defines f) h e = absurd (cc)
named-spelled (defines_variable v) h e = e

-- ---- what each unit has of its own

library-own : list_all has_own_type library ≡ true
unfolding same_type
library-own = refl

library-some : list_all (λ i. is_some (own_type (name_of i))) library ≡ true
library-some = refl

library-spelled : list_all is_spelled library ≡ true
unfolding digits
library-spelled = refl

helper-own : (ss : List Statement) → list_all has_own_type (constants_function ss) ≡ true
unfolding same_type
helper-own [] = refl
helper-own (s ∷ ss) = refl

helper-some : (ss : List Statement) → list_all (λ i. is_some (own_type (name_of i))) (constants_function ss) ≡ true
helper-some [] = refl
helper-some (s ∷ ss) = refl

helper-spelled : (ss : List Statement) → list_all is_spelled (constants_function ss) ≡ true
helper-spelled [] = refl
helper-spelled (s ∷ ss) = refl

abbrev Typed : Item → Type 0
Typed i = has_own_type i ≡ true

-- the same of two items that mean the same
typed-as : (i j : Item) → named_by i ≡ named_by j → Typed i → Typed j
typed-as i j e h =
    let own = λ (x : Named). has_type (own_type x.name) x.meant in
    ap (λ n. has_type (own_type n) (named_by j).meant) (sym (named-name j)) ∙ sym (ap own e)
    ∙ ap (λ n. has_type (own_type n) (named_by i).meant) (named-name i) ∙ h

module _ (file : PlainFile) where
  abbrev heads : List Item
  heads = own_prototypes file

  abbrev others : List Item
  others = defined_elsewhere file

  abbrev variables : List Item
  variables = own_variables file

  abbrev bodies : List Item
  bodies = map (λ (f : PlainFunction). defines (lowered_function file.classes f)) file.functions

  abbrev stored : List Statement
  stored = flat_map (λ (x : PlainStatic). constant_code file.classes x.start (owner_of x) nothing_known) (filter (λ (x : PlainStatic). x.is_constant) file.statics)

  abbrev all : List Item
  all = lowered_file file

  -- what names mean by them
  abbrev known : List Named
  known = map named_by all

  -- the items that are tested
  abbrev tested : List Item
  tested = heads ++ variables ++ named_in file

  -- ---- where items stand

  every-item : (P : Item → Type 0) → Every P library → Every P heads → Every P others → Every P variables → Every P bodies → Every P (constants_function stored)
      → Every P all
  every-item P l h o v b c =
      every-append P (library ++ heads ++ others ++ variables ++ bodies) (constants_function stored)
      (every-append P (library ++ heads ++ others ++ variables) bodies
      (every-append P (library ++ heads ++ others) variables (every-append P (library ++ heads) others (every-append P library heads l h) o) v) b) c

  front-in : (i : Item) → In i (library ++ heads ++ others ++ variables) → In i all
  front-in i h =
      in-left i (library ++ heads ++ others ++ variables ++ bodies) (constants_function stored) (in-left i (library ++ heads ++ others ++ variables) bodies h)

  library-in : (i : Item) → In i library → In i all
  library-in i h =
      front-in i (in-left i (library ++ heads ++ others) variables (in-left i (library ++ heads) others (in-left i library heads h)))

  head-in : (i : Item) → In i heads → In i all
  head-in i h =
      front-in i (in-left i (library ++ heads ++ others) variables (in-left i (library ++ heads) others (in-right i library heads h)))

  other-in : (i : Item) → In i others → In i all
  other-in i h = front-in i (in-left i (library ++ heads ++ others) variables (in-right i (library ++ heads) others h))

  variable-in : (i : Item) → In i variables → In i all
  variable-in i h = front-in i (in-right i (library ++ heads ++ others) variables h)

  head-tested : (i : Item) → In i heads → In i tested
  head-tested i h = in-left i (heads ++ variables) (named_in file) (in-left i heads variables h)

  variable-tested : (i : Item) → In i variables → In i tested
  variable-tested i h = in-left i (heads ++ variables) (named_in file) (in-right i heads variables h)

  named-tested : (i : Item) → In i (named_in file) → In i tested
  named-tested i h = in-right i (heads ++ variables) (named_in file) h

  abbrev taken : List Name
  taken = map name_of (library ++ heads ++ variables)

  other-tested : (i : Item) → In i others → In i tested
  other-tested i h = named-tested i (other-from taken (named_in file) i h)

  every-tested : (P : Item → Type 0) → Every P heads → Every P variables → Every P (named_in file) → Every P tested
  every-tested P h v n = every-append P (heads ++ variables) (named_in file) (every-append P heads variables h v) n

  own-in : (i : Item) → In i (library ++ heads ++ variables) → In i all
  own-in = every-append (λ i. In i all) (library ++ heads) variables (every-append (λ i. In i all) library heads library-in head-in) variable-in

  -- something stands there for each name
  abbrev Covered : Item → Type 0
  Covered i = is_some (lookup known (name_of i)) ≡ true

  named-covered : Every Covered (named_in file)
  named-covered i h = go (or_cases (is_in taken (name_of i)) (is_in (map name_of others) (name_of i)) (other-there taken (named_in file) i h))
    where
      go : (is_in taken (name_of i) ≡ true) ⊎ (is_in (map name_of others) (name_of i) ≡ true) → Covered i
      go (inl e) = let x = stands (library ++ heads ++ variables) (name_of i) e in found-some all x.item (name_of i) (own-in x.item x.there) x.is
      go (inr e) = let x = stands others (name_of i) e in found-some all x.item (name_of i) (other-in x.item x.there) x.is

  covered : Every Covered tested
  covered =
      every-tested Covered (λ i h. found-some all i (name_of i) (head-in i h) refl) (λ i h. found-some all i (name_of i) (variable-in i h) refl) named-covered

  -- ---- from the definition to the test

  module _ (typed : Every Typed tested) (one : Every (λ i. same_types tested i ≡ true) tested) (spelled : Every (λ i. spellable_item i ≡ true) tested) where
    record Twin (i : Item) : Type 0 where
      pub twin : Item
      pub there : In twin tested
      pub is : named_by twin ≡ named_by i

    -- its name has a type of its own, or it means what an item means that is tested
    abbrev Settled : Item → Type 0
    Settled i = (is_some (own_type (name_of i)) ≡ true) ⊎ Twin i

    itself : (i : Item) → In i tested → Settled i
    itself i h = inr (record { twin = i; there = h; is = refl })

    settled : Every Settled all
    settled =
        every-item Settled (λ i h. inl (all-in (λ i. is_some (own_type (name_of i))) library library-some i h)) (λ i h. itself i (head-tested i h))
        (λ i h. itself i (other-tested i h)) (λ i h. itself i (variable-tested i h))
        (every-mapped Settled (λ (f : PlainFunction). defines (lowered_function file.classes f)) file.functions
        (λ f h. inr (record {
          twin = declares (prototype f);
          there = head-tested (declares (prototype f)) (in-mapped (λ (g : PlainFunction). declares (prototype g)) f file.functions h);
          is = refl;
        }))) (λ i h. inl (all-in (λ i. is_some (own_type (name_of i))) (constants_function stored) (helper-some stored) i h))

    all-typed : Every Typed all
    all-typed =
        every-item Typed (all-in has_own_type library library-own) (λ i h. typed i (head-tested i h)) (λ i h. typed i (other-tested i h))
        (λ i h. typed i (variable-tested i h))
        (every-mapped Typed (λ (f : PlainFunction). defines (lowered_function file.classes f)) file.functions
        (λ f h. typed-as (declares (prototype f)) (defines (lowered_function file.classes f)) refl
        (typed (declares (prototype f)) (head-tested (declares (prototype f)) (in-mapped (λ (g : PlainFunction). declares (prototype g)) f file.functions h)))))
        (all-in has_own_type (constants_function stored) (helper-own stored))

    abbrev Spelled : Item → Type 0
    Spelled i = is_spelled i ≡ true

    tested-spelled : Every Spelled tested
    tested-spelled i h = spelled-so i (spelled i h)

    all-spelled : Every Spelled all
    all-spelled =
        every-item Spelled (all-in is_spelled library library-spelled) (λ i h. tested-spelled i (head-tested i h)) (λ i h. tested-spelled i (other-tested i h))
        (λ i h. tested-spelled i (variable-tested i h))
        (every-mapped Spelled (λ (f : PlainFunction). defines (lowered_function file.classes f)) file.functions
        (λ f h. tested-spelled (declares (prototype f)) (head-tested (declares (prototype f)) (in-mapped (λ (g : PlainFunction). declares (prototype g)) f file.functions h))))
        (all-in is_spelled (constants_function stored) (helper-spelled stored))

    -- two of one name mean the same
    abbrev SameShape : Item → Item → Type 0
    SameShape j i = shape (named_by j).meant ≡ shape (named_by i).meant

    tested-pair : (j i : Item) → In j tested → In i tested → name_of j ≡ name_of i → SameShape j i
    tested-pair j i k h e =
        let pass = all-in (λ j'. not (bytes_eq (name_of j') (name_of i)) || agrees (Some (named_by j').meant) (named_by i).meant) tested (one i h) j k in
        one-shape (named_by j).meant (named_by i).meant
        (either (bytes_eq (name_of j) (name_of i)) (agrees (Some (named_by j).meant) (named_by i).meant) pass (bytes_same (name_of j) (name_of i) e))

    own-pair : (j i : Item) → is_some (own_type (name_of j)) ≡ true → Typed j → Typed i → name_of j ≡ name_of i → SameShape j i
    own-pair j i some tj ti e =
        own-shapes (own_type (name_of j)) (named_by j).meant (named_by i).meant some tj
        (subst (λ (n : Name). has_type (own_type n) (named_by i).meant ≡ true) (sym e) ti)

    pair : (j i : Item) → Settled j → Settled i → Typed j → Typed i → name_of j ≡ name_of i → SameShape j i
    pair j i (inl some) s tj ti e = own-pair j i some tj ti e
    pair j i (inr t) (inl some) tj ti e = sym (own-pair i j some ti tj (sym e))
    pair j i (inr t) (inr u) tj ti e =
        let names : name_of t.twin ≡ name_of u.twin =
        sym (named-name t.twin) ∙ ap (λ (x : Named). x.name) t.is ∙ named-name j ∙ e ∙ sym (named-name i) ∙ sym (ap (λ (x : Named). x.name) u.is) ∙ named-name u.twin in
        ap (λ (x : Named). shape x.meant) (sym t.is) ∙ tested-pair t.twin u.twin t.there u.there names ∙ ap (λ (x : Named). shape x.meant) u.is

    one_type : (i : Item) → Settled i → Typed i → has_one_type known i ≡ true
    one_type i s t = go (lookup known (name_of i)) refl
      where
        go : (o : Option Meant) → lookup known (name_of i) ≡ o → agrees o (named_by i).meant ≡ true
        go None e = refl
        go (Some m) e =
            let x = found-by all (name_of i) m e in
            subst (λ (y : Meant). agrees (Some y) (named_by i).meant ≡ true) x.means
            (agree (named_by x.item).meant (named_by i).meant (pair x.item i (settled x.item x.there) s (all-typed x.item x.there) t x.is))

    fit : (i : Item) → Settled i → Typed i → Spelled i → fits known i ≡ true
    fit i s t p = all_of (has_own_type i) (has_one_type known i && is_spelled i) t (all_of (has_one_type known i) (is_spelled i) (one_type i s t) p)

    all-fit : list_all (fits known) all ≡ true
    all-fit = in-all (fits known) all (λ i h. fit i (settled i h) (all-typed i h) (all-spelled i h))

    named-fit : list_all is_well_named (named_in file) ≡ true → list_all (named_fits known) (named_in file) ≡ true
    named-fit well =
        in-all (named_fits known) (named_in file)
        (λ i h.
        let k = named-tested i h in
        all_of (is_well_named i) (fits known i) (all-in is_well_named (named_in file) well i h) (fit i (itself i k) (typed i k) (tested-spelled i k)))

  -- ---- from the test to the definition

  module _ (items-fit : list_all (fits known) all ≡ true) (names-fit : list_all (named_fits known) (named_in file) ≡ true) where
    abbrev Fits : Item → Type 0
    Fits i = fits known i ≡ true

    named-parts : (i : Item) → In i (named_in file) → (is_well_named i ≡ true) × Fits i
    named-parts i h = both (is_well_named i) (fits known i) (all-in (named_fits known) (named_in file) names-fit i h)

    item-fits : (i : Item) → In i all → Fits i
    item-fits = all-in (fits known) all items-fit

    tested-fits : Every Fits tested
    tested-fits = every-tested Fits (λ i h. item-fits i (head-in i h)) (λ i h. item-fits i (variable-in i h)) (λ i h. (named-parts i h).1)

    parts : (i : Item) → Fits i → Typed i × ((has_one_type known i ≡ true) × (is_spelled i ≡ true))
    parts i e =
        let x = both (has_own_type i) (has_one_type known i && is_spelled i) e in
        (x.0, both (has_one_type known i) (is_spelled i) x.1)

    well-named : list_all is_well_named (named_in file) ≡ true
    well-named = in-all is_well_named (named_in file) (λ i h. (named-parts i h).0)

    typed-all : list_all has_own_type tested ≡ true
    typed-all = in-all has_own_type tested (λ i h. (parts i (tested-fits i h)).0)

    abbrev Spellable : Item → Type 0
    Spellable i = spellable_item i ≡ true

    spelled-all : spellable_items tested ≡ true
    spelled-all =
        in-all spellable_item tested
        (every-tested Spellable
        (every-mapped Spellable (λ (f : PlainFunction). declares (prototype f)) file.functions
        (λ f h.
        let i = declares (prototype f) in (parts i (item-fits i (head-in i (in-mapped (λ (g : PlainFunction). declares (prototype g)) f file.functions h)))).1.1))
        (every-mapped Spellable defines_variable
        (map (lowered_static file.classes) file.statics ++ flat_map literals file.functions ++ flat_map start_literals file.statics)
        (λ v h.
        let i = defines_variable v in
        (parts i (item-fits i (variable-in i
        (in-mapped defines_variable v (map (lowered_static file.classes) file.statics ++ flat_map literals file.functions ++ flat_map start_literals file.statics) h)))).1.1))
        (λ i h. let x = named-parts i h in named-spelled i x.0 (parts i x.1).1.1))

    -- the first item of a name has the type of each of this name
    by-first : (i : Item) → In i tested → (m : Meant) → lookup known (name_of i) ≡ Some m → shape m ≡ shape (named_by i).meant
    by-first i h m e = one-shape m (named_by i).meant (ap (λ (o : Option Meant). agrees o (named_by i).meant) (sym e) ∙ (parts i (tested-fits i h)).1.0)

    pair-agrees : (i j : Item) → In i tested → In j tested → (not (bytes_eq (name_of j) (name_of i)) || agrees (Some (named_by j).meant) (named_by i).meant) ≡ true
    pair-agrees i j h k = go (bytes_eq (name_of j) (name_of i)) refl
      where
        met : name_of j ≡ name_of i → (o : Option Meant) → lookup known (name_of i) ≡ o → is_some o ≡ true
            → agrees (Some (named_by j).meant) (named_by i).meant ≡ true
        met e None is some = absurd (cc)
        met e (Some m) is some =
            agree (named_by j).meant (named_by i).meant
            (sym (by-first j k m (ap (λ (n : Name). lookup known n) e ∙ is)) ∙ by-first i h m is)

        go : (b : Bool) → bytes_eq (name_of j) (name_of i) ≡ b → (not b || agrees (Some (named_by j).meant) (named_by i).meant) ≡ true
        go false e = refl
        go true e = met (same_bytes (name_of j) (name_of i) e) (lookup known (name_of i)) refl (covered i h)

    types-all : list_all (same_types tested) tested ≡ true
    types-all =
        in-all (same_types tested) tested
        (λ i h. in-all (λ j. not (bytes_eq (name_of j) (name_of i)) || agrees (Some (named_by j).meant) (named_by i).meant) tested (λ j k. pair-agrees i j h k))

  -- ---- both

  abbrev functions_named : Bool
  functions_named = list_all (λ (f : PlainFunction). may_be_function f.name) file.functions

  abbrev statics_named : Bool
  statics_named = list_all (λ (x : PlainStatic). may_be_object x.name) file.statics

  to-test : names_lowered file ≡ true → names_fit all file ≡ true
  to-test e =
      let well = list_all is_well_named (named_in file) in
      let typed = list_all has_own_type tested in
      let types = list_all (same_types tested) tested in
      let x = both (functions_named && statics_named && well && typed && types) (spellable_items tested) e in
      let y = both (functions_named && statics_named && well && typed) types x.0 in
      let z = both (functions_named && statics_named && well) typed y.0 in
      let w = both (functions_named && statics_named) well z.0 in
      let v = both functions_named statics_named w.0 in
      let asked_typed = all-in has_own_type tested z.1 in
      let asked_types = all-in (same_types tested) tested y.1 in
      let asked_spelled = all-in spellable_item tested x.1 in
      all_of functions_named (statics_named && (list_all (fits known) all && list_all (named_fits known) (named_in file))) v.0
      (all_of statics_named (list_all (fits known) all && list_all (named_fits known) (named_in file)) v.1
      (all_of (list_all (fits known) all) (list_all (named_fits known) (named_in file)) (all-fit asked_typed asked_types asked_spelled)
      (named-fit asked_typed asked_types asked_spelled w.1)))

  from-test : names_fit all file ≡ true → names_lowered file ≡ true
  from-test e =
      let rest = list_all (fits known) all && list_all (named_fits known) (named_in file) in
      let x = both functions_named (statics_named && rest) e in
      let y = both statics_named rest x.1 in
      let z = both (list_all (fits known) all) (list_all (named_fits known) (named_in file)) y.1 in
      let well = list_all is_well_named (named_in file) in
      let typed = list_all has_own_type tested in
      let types = list_all (same_types tested) tested in
      all_of (functions_named && statics_named && well && typed && types) (spellable_items tested)
      (all_of (functions_named && statics_named && well && typed) types
      (all_of (functions_named && statics_named && well) typed
      (all_of (functions_named && statics_named) well (all_of functions_named statics_named x.0 y.0) (well-named z.0 z.1)) (typed-all z.0 z.1))
      (types-all z.0 z.1)) (spelled-all z.0 z.1)

  -- the test by the items of a file's C is what its definition says
  pub names-fit-lowered : names_fit (lowered_file file) file ≡ names_lowered file
  names-fit-lowered = same_tests (names_fit all file) (names_lowered file) from-test to-test
