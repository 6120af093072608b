-- Which calls fit, by their parts.
use Rattle.std.proofs.Common.{◌≡◌, ℕ, Bool, true, false, ◌&&◌, ◌||◌, not, if◌then◌else◌, List, [], ◌∷◌, Option, Some, None, refl, sym, ap, ◌∙◌}
use Rattle.std.specs.Prelude.{bytes_eq, codes}
use Rattle.cf_base.specs.declared.kind.Kind.TheVariants.{Int}
use Rattle.cf_core.specs.Classes.{Class}
use Rattle.cf_core.specs.Types.{Name, SourceType, void, integer, enumeration, class, pointer, reference, array, takes, gives, data_member, function_member, const, without_const, type_eq, parameters, result as result_type}
use Rattle.cf_lower.specs.Kept.{Kept, Keeping, Locals}
use Rattle.cf_lower.specs.Written.{if_scalar, c_type}
use Rattle.cc_whole.specs.declared.types.CType.TheVariants as ty
use Rattle.cf_lower_layout.specs.Sorts.{Sort, number, scalar_sort, sort_of}
use Rattle.cf_lower_layout.proofs.Types.{same-type}
use Rattle.cf_lower_place.specs.Calls.{is_an_int, is_no_sort, are_passed, types_passed, is_code_for, one_passed, none_passed, library_fits, put_fits, exit_fits, get_fits}
use Rattle.cf_lower_place.specs.Named.{library_type, is_signature, takes_locals}
use Rattle.cc_whole_mean.specs.Callee.{same_result, same_types}
use Rattle.cf_lowerable_places.specs.declared.library.Library.{Library}
use Rattle.cf_lowerable_places.specs.declared.library.Library.TheVariants as library
use Rattle.cf_lowerable_places.specs.Fits.{named_fits, pointed_fits}
use Rattle.cf_lowerable_places.specs.Library.{library_named, as_many, library_call_fits, may_lead, may_lead_to_each}
use Rattle.cf_lowerable_places.proofs.LibraryLaws.{by_names}

-- ---- results

pub int_at : (o s : Option Sort) (b : Bool) → b ≡ is_an_int o → o ≡ s → b ≡ is_an_int s
int_at o s b e is = e ∙ ap is_an_int is

pub none_at : (o s : Option Sort) (b : Bool) → b ≡ is_no_sort o → o ≡ s → b ≡ is_no_sort s
none_at o s b e is = e ∙ ap is_no_sort is

-- ---- two tests, one after the other

pub both_so : (a b c d : Bool) → c ≡ a → c ≡ true → d ≡ b → d ≡ (a && b)
both_so a b c d is sure e = e ∙ ap (λ f. f && b) (sym sure ∙ is)

pub first_not : (a b c : Bool) → c ≡ a → c ≡ false → false ≡ (a && b)
first_not a b c is not_so = ap (λ f. f && b) (sym not_so ∙ is)

module _ (locals : Locals) where
  module _ (t : SourceType) (is : List ℕ) where
    pub taken : (b c : Bool) (ts : List SourceType) → b ≡ is_signature t → b ≡ true → c ≡ types_passed locals is ts → ts ≡ parameters t → c ≡ takes_locals locals t is
    taken b c ts signed sure passed same = passed ∙ ap (types_passed locals is) same ∙ ap (λ f. f && types_passed locals is (parameters t)) (sym sure ∙ signed)

    pub not_taken : (b : Bool) → b ≡ is_signature t → b ≡ false → false ≡ takes_locals locals t is
    not_taken b signed not_so = first_not (is_signature t) (types_passed locals is (parameters t)) b signed not_so

  -- ---- calls by name

  one_as_many : (is : List ℕ) → one_passed locals is ≡ (as_many library.Putchar is && are_passed locals is)
  one_as_many [] = refl
  one_as_many (i ∷ []) = refl
  one_as_many (i ∷ j ∷ is) = refl

  exit_as_many : (is : List ℕ) → one_passed locals is ≡ (as_many library.Exit is && are_passed locals is)
  exit_as_many [] = refl
  exit_as_many (i ∷ []) = refl
  exit_as_many (i ∷ j ∷ is) = refl

  none_as_many : (is : List ℕ) → none_passed locals is ≡ (as_many library.Getchar is && are_passed locals is)
  none_as_many [] = refl
  none_as_many (i ∷ is) = refl

  module _ (given : Option Sort) (classes : List Class) (name : Name) (t : SourceType) (is : List ℕ) (o : Option Library) (at : o ≡ library_named name) where
    abbrev own : Bool
    own = are_passed locals is && takes_locals locals t is

    abbrev chosen : Bool → Bool → Bool → Bool
    chosen a b c = if a || c || b then library_fits locals a b t is else own

    by_library : (l : Library) → (o ≡ Some l → named_fits locals given classes name t is ≡ library_call_fits locals l t is) × (o ≡ None → named_fits locals given classes name t is ≡ own)
    by_library l =
        by_names name o (λ k. library_call_fits locals k t is) own (named_fits locals given classes name t is)
        (λ p. ap (λ a. chosen a (bytes_eq name (codes "exit")) (bytes_eq name (codes "getchar"))) p ∙ ap (λ m. is_an_int (sort_of (result_type t)) && m) (one_as_many is))
        (λ p q. ap (λ a. chosen a (bytes_eq name (codes "exit")) (bytes_eq name (codes "getchar"))) p ∙ ap (λ b. chosen false b (bytes_eq name (codes "getchar"))) q
        ∙ or_exit (bytes_eq name (codes "getchar")) ∙ ap (λ m. is_no_sort (sort_of (result_type t)) && m) (exit_as_many is))
        (λ p q r. ap (λ a. chosen a (bytes_eq name (codes "exit")) (bytes_eq name (codes "getchar"))) p ∙ ap (λ b. chosen false b (bytes_eq name (codes "getchar"))) q
        ∙ ap (chosen false false) r ∙ ap (λ m. is_an_int (sort_of (result_type t)) && m) (none_as_many is))
        (λ p q r. ap (λ a. chosen a (bytes_eq name (codes "exit")) (bytes_eq name (codes "getchar"))) p ∙ ap (λ b. chosen false b (bytes_eq name (codes "getchar"))) q ∙ ap (chosen false false) r)
        at l
      where
        or_exit : (c : Bool) → chosen false true c ≡ library_fits locals false true t is
        or_exit true = refl
        or_exit false = refl

    pub named_library : (l : Library) (b : Bool) → o ≡ Some l → b ≡ library_call_fits locals l t is → b ≡ named_fits locals given classes name t is
    named_library l b some e = e ∙ sym ((by_library l).0 some)

    pub named_own : (b : Bool) → o ≡ None → b ≡ (are_passed locals is && takes_locals locals t is) → b ≡ named_fits locals given classes name t is
    named_own b none e = e ∙ sym ((by_library library.Getchar).1 none)

-- ---- calls through pointers

-- what has the type int gives an int, and what has the type void nothing
int_type : (u : SourceType) → type_eq (integer Int) (without_const u) ≡ true → sort_of u ≡ Some (number Int)
int_type u e = ap scalar_sort (sym (same-type (integer Int) (without_const u) e))

void_type : (u : SourceType) → type_eq void (without_const u) ≡ true → sort_of u ≡ None
void_type u e = ap scalar_sort (sym (same-type void (without_const u) e))

and_left : (a b : Bool) → (a && b) ≡ true → a ≡ true
and_left true b e = refl
and_left false b e = e

and_right : (a b : Bool) → (a && b) ≡ true → b ≡ true
and_right true b e = e
and_right false b e = cc

module _ (locals : Locals) where
  -- where a test is so, what else is asked is so too
  implied : (a b c : Bool) → (a ≡ true → b ≡ c) → (not a || b) ≡ (not a || c)
  implied true b c e = e refl
  implied false b c e = refl

  module _ (is : List ℕ) (passed : are_passed locals is ≡ true) where
    one_alone : one_passed locals is ≡ as_many library.Putchar is
    one_alone = one_as_many locals is ∙ with_true (as_many library.Putchar is) (are_passed locals is) passed
      where
        with_true : (a b : Bool) → b ≡ true → (a && b) ≡ a
        with_true true b e = e
        with_true false b e = refl

    exit_alone : one_passed locals is ≡ as_many library.Exit is
    exit_alone = one_alone ∙ same is
      where
        same : (is : List ℕ) → as_many library.Putchar is ≡ as_many library.Exit is
        same [] = refl
        same (i ∷ []) = refl
        same (i ∷ j ∷ is) = refl

    none_alone : none_passed locals is ≡ as_many library.Getchar is
    none_alone = by is
      where
        by : (is : List ℕ) → none_passed locals is ≡ as_many library.Getchar is
        by [] = refl
        by (i ∷ is) = refl

    last_one : (m : Bool) → (m && true) ≡ m
    last_one true = refl
    last_one false = refl

    never : false ≡ true → ⊥
    never e = cc

    get_is : (t : SourceType) → is_signature t ≡ true → get_fits locals (library_type (codes "getchar")) t is ≡ may_lead library.Getchar t is
    get_is (gives u c) e =
        implied _ _ (as_many library.Getchar is)
        (λ k. ap asked (int_type u (and_left _ true k)) ∙ last_one (none_passed locals is) ∙ none_alone)
      where
        asked : Option Sort → Bool
        asked o = is_an_int o && (none_passed locals is && (same_result (if_scalar o None (λ u. Some (c_type u))) (Some ty.Int) && same_types [] []))
    get_is (takes p t) e = refl
    get_is void e = cc
    get_is (integer k) e = cc
    get_is (enumeration n) e = cc
    get_is (class c) e = cc
    get_is (pointer u) e = cc
    get_is (reference u) e = cc
    get_is (array u n) e = cc
    get_is (data_member c u) e = cc
    get_is (function_member c u) e = cc
    get_is (const u) e = cc

    put_is : (t : SourceType) → is_signature t ≡ true → put_fits locals (library_type (codes "putchar")) t is ≡ may_lead library.Putchar t is
    put_is (gives u c) e = refl
    put_is (takes p (gives u c)) e =
        implied _ _ (as_many library.Putchar is)
        (λ k. let s = int_type p (and_left _ _ k) in
        let r = int_type u (and_left _ true (and_right (type_eq (integer Int) (without_const p)) _ k)) in
        ap (λ o. asked o (sort_of p)) r ∙ ap (asked (Some (number Int))) s ∙ last_one (one_passed locals is) ∙ one_alone)
      where
        asked : Option Sort → Option Sort → Bool
        asked o q =
            is_an_int o
            && (one_passed locals is && (same_result (if_scalar o None (λ u. Some (c_type u))) (Some ty.Int) && same_types (if_scalar q [] (λ u. c_type u ∷ [])) (ty.Int ∷ [])))
    put_is (takes p (takes q t)) e = implied _ _ _ (λ k. absurd (never (and_right (type_eq (integer Int) (without_const p)) false k)))
    put_is (takes p void) e = cc
    put_is (takes p (integer k)) e = cc
    put_is (takes p (enumeration n)) e = cc
    put_is (takes p (class c)) e = cc
    put_is (takes p (pointer u)) e = cc
    put_is (takes p (reference u)) e = cc
    put_is (takes p (array u n)) e = cc
    put_is (takes p (data_member c u)) e = cc
    put_is (takes p (function_member c u)) e = cc
    put_is (takes p (const u)) e = cc
    put_is void e = cc
    put_is (integer k) e = cc
    put_is (enumeration n) e = cc
    put_is (class c) e = cc
    put_is (pointer u) e = cc
    put_is (reference u) e = cc
    put_is (array u n) e = cc
    put_is (data_member c u) e = cc
    put_is (function_member c u) e = cc
    put_is (const u) e = cc

    exit_is : (t : SourceType) → is_signature t ≡ true → exit_fits locals (library_type (codes "exit")) t is ≡ may_lead library.Exit t is
    exit_is (gives u c) e = refl
    exit_is (takes p (gives u c)) e =
        implied _ _ (as_many library.Exit is)
        (λ k. let s = int_type p (and_left _ _ k) in
        let r = void_type u (and_left _ true (and_right (type_eq (integer Int) (without_const p)) _ k)) in
        ap (λ o. asked o (sort_of p)) r ∙ ap (asked None) s ∙ last_one (one_passed locals is) ∙ exit_alone)
      where
        asked : Option Sort → Option Sort → Bool
        asked o q =
            is_no_sort o
            && (one_passed locals is && (same_result (if_scalar o None (λ u. Some (c_type u))) None && same_types (if_scalar q [] (λ u. c_type u ∷ [])) (ty.Int ∷ [])))
    exit_is (takes p (takes q t)) e = implied _ _ _ (λ k. absurd (never (and_right (type_eq (integer Int) (without_const p)) false k)))
    exit_is (takes p void) e = cc
    exit_is (takes p (integer k)) e = cc
    exit_is (takes p (enumeration n)) e = cc
    exit_is (takes p (class c)) e = cc
    exit_is (takes p (pointer u)) e = cc
    exit_is (takes p (reference u)) e = cc
    exit_is (takes p (array u n)) e = cc
    exit_is (takes p (data_member c u)) e = cc
    exit_is (takes p (function_member c u)) e = cc
    exit_is (takes p (const u)) e = cc
    exit_is void e = cc
    exit_is (integer k) e = cc
    exit_is (enumeration n) e = cc
    exit_is (class c) e = cc
    exit_is (pointer u) e = cc
    exit_is (reference u) e = cc
    exit_is (array u n) e = cc
    exit_is (data_member c u) e = cc
    exit_is (function_member c u) e = cc
    exit_is (const u) e = cc

  module _ (given : Option Sort) (classes : List Class) (k : Kept) (t : SourceType) (is : List ℕ) where
    pub pointed_no_code : (a : Bool) → a ≡ is_code_for t k → a ≡ false → false ≡ pointed_fits locals given classes k t is
    pointed_no_code a code not_so = first_not (is_code_for t k) _ a code not_so

    abbrev all_of_five : Bool → Bool → Bool → Bool → Bool → Bool
    all_of_five a b c d e = a && (b && (c && (d && e)))

    last_not : (a b c d : Bool) → false ≡ all_of_five a b c d false
    last_not true true true true = refl
    last_not true true true false = refl
    last_not true true false d = refl
    last_not true false c d = refl
    last_not false b c d = refl

    pub pointed_not_own : (b : Bool) → b ≡ (are_passed locals is && takes_locals locals t is) → b ≡ false → false ≡ pointed_fits locals given classes k t is
    pointed_not_own b own not_so =
        last_not (is_code_for t k) (get_fits locals (library_type (codes "getchar")) t is) (put_fits locals (library_type (codes "putchar")) t is) (exit_fits locals (library_type (codes "exit")) t is)
        ∙ ap (all_of_five (is_code_for t k) (get_fits locals (library_type (codes "getchar")) t is) (put_fits locals (library_type (codes "putchar")) t is) (exit_fits locals (library_type (codes "exit")) t is))
        (sym not_so ∙ own)

    pub pointed_all : (a b d : Bool) → a ≡ is_code_for t k → a ≡ true → b ≡ (are_passed locals is && takes_locals locals t is) → b ≡ true → d ≡ may_lead_to_each t is
        → d ≡ pointed_fits locals given classes k t is
    pointed_all a b d code sure own both lead =
        let own_so = sym own ∙ both in
        let passed = and_left (are_passed locals is) (takes_locals locals t is) own_so in
        let signed = and_left (is_signature t) (types_passed locals is (parameters t)) (and_right (are_passed locals is) (takes_locals locals t is) own_so) in
        lead ∙ ended (may_lead library.Getchar t is) (may_lead library.Putchar t is) (may_lead library.Exit t is)
        ∙ sym (ap (λ f. all_of_five f (get_fits locals (library_type (codes "getchar")) t is) (put_fits locals (library_type (codes "putchar")) t is) (exit_fits locals (library_type (codes "exit")) t is)
        (are_passed locals is && takes_locals locals t is)) (sym code ∙ sure)
        ∙ ap (λ f. all_of_five true f (put_fits locals (library_type (codes "putchar")) t is) (exit_fits locals (library_type (codes "exit")) t is) (are_passed locals is && takes_locals locals t is))
        (get_is is passed t signed)
        ∙ ap (λ f. all_of_five true (may_lead library.Getchar t is) f (exit_fits locals (library_type (codes "exit")) t is) (are_passed locals is && takes_locals locals t is)) (put_is is passed t signed)
        ∙ ap (λ f. all_of_five true (may_lead library.Getchar t is) (may_lead library.Putchar t is) f (are_passed locals is && takes_locals locals t is)) (exit_is is passed t signed)
        ∙ ap (all_of_five true (may_lead library.Getchar t is) (may_lead library.Putchar t is) (may_lead library.Exit t is)) own_so)
      where
        ended : (a b c : Bool) → (a && (b && c)) ≡ (a && (b && (c && true)))
        ended true true true = refl
        ended true true false = refl
        ended true false c = refl
        ended false b c = refl

    pub pointed_at : (h : Keeping) (p : ℕ) (b : Bool) → k ≡ h p → b ≡ pointed_fits locals given classes k t is → b ≡ pointed_fits locals given classes (h p) t is
    pointed_at h p b at e = e ∙ ap (λ y. pointed_fits locals given classes y t is) at
