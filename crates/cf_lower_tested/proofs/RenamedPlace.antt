-- Statements are in place by name where functions and objects have other names too, if those of the library keep theirs.
use Rattle.std.proofs.Common.{◌≡◌, ℕ, nat_lt, max, Bool, true, false, ◌&&◌, ◌||◌, not, if◌then◌else◌, List, [], ◌++◌, codes, bytes_eq, refl, sym, ◌∙◌, ap, subst}
use Rattle.std.specs.Prelude.{None}
use Rattle.std.specs.List.{flat_map}
use Rattle.std.proofs.lemmas.Grind.{flat_map-append}
use Rattle.std.proofs.Math.Path.{fun_ext}
use Rattle.cf_base.specs.declared.kind.Kind.{Kind}
use Rattle.cf_base.specs.declared.kind.Kind.TheVariants.{Int, UInt}
use Rattle.cf_base.specs.Integers.{fits as is_of}
use Rattle.cf_base.proofs.Tests.{both, all_of}
use Rattle.cf_core.specs.Classes.{Class}
use Rattle.cf_core.specs.Types.{Name, SourceType, type_eq, without_const, result as result_type}
use Rattle.cf_core.specs.Calls.{is_library}
use Rattle.cf_lower_layout.specs.Sorts.{sort_of}
use Rattle.cf_plain.specs.Plain as plain
use Rattle.cf_plain.specs.Plain.{Register, Action, Plain, Plains, PlainParts, act, set, branch, loop, switch, case_label, default_label, leave, continue, give, parts, nothing, more, no_parts, part, PlainFunction}
use Rattle.cf_plain.specs.Joined.{renamed_action, renamed, renamed_all, renamed_parts}
use Rattle.cf_plain.specs.Named.{actions, all_actions, part_actions}
use Rattle.cf_plain.specs.Valid.{labels_differ}
use Rattle.cf_lower.specs.Kept.{Kept, integer_of, unknown, Keeping, Locals, nothing_kept, keep, kept_by, common, sets, all_set, parts_set, untouched, after, after_all}
use Rattle.cf_lower.specs.Functions.{bound, all_bound, parts_bound, arguments_at, locals_of}
use Rattle.cf_lower_place.specs.View.{View, Reach}
use Rattle.cf_lower_place.specs.Leaf.{may_set, may_do}
use Rattle.cf_lower_place.specs.Calls.{are_passed, has_local, library_fits, call_fits, fits}
use Rattle.cf_lower_place.specs.InPlace.{labels_fit, is_number, switches, in_place, all_in_place, items_in_place}
use Rattle.cf_lower_place.specs.Named.{library_type, is_signature, may_be_named, takes_locals, view_of, reach_of, function_in_place}
use Rattle.cf_lower_tested.proofs.RenamedOpen.{labels-differ-same}

module _ (r : Name → Name) where
  -- ---- what lowering keeps

  mutual
    sets-same : (L : Locals) (q : Register) (s : Plain) → sets L q (renamed r s) ≡ sets L q s
    sets-same L q (branch p ss ts) = ap (λ b. b || all_set L q (renamed_all r ts)) (all-set-same L q ss) ∙ ap (λ b. all_set L q ss || b) (all-set-same L q ts)
    sets-same L q (loop ss ts) = ap (λ b. b || all_set L q (renamed_all r ts)) (all-set-same L q ss) ∙ ap (λ b. all_set L q ss || b) (all-set-same L q ts)
    sets-same L q (switch p ss) = all-set-same L q ss
    sets-same L q (parts ps) = parts-set-same L q ps
    sets-same L q s = refl

    all-set-same : (L : Locals) (q : Register) (ss : Plains) → all_set L q (renamed_all r ss) ≡ all_set L q ss
    all-set-same L q nothing = refl
    all-set-same L q (more s ss) = ap (λ b. b || all_set L q (renamed_all r ss)) (sets-same L q s) ∙ ap (λ b. sets L q s || b) (all-set-same L q ss)

    parts-set-same : (L : Locals) (q : Register) (ps : PlainParts) → parts_set L q (renamed_parts r ps) ≡ parts_set L q ps
    parts-set-same L q no_parts = refl
    parts-set-same L q (part w ss ps) = ap (λ b. b || parts_set L q (renamed_parts r ps)) (all-set-same L q ss) ∙ ap (λ b. all_set L q ss || b) (parts-set-same L q ps)

  untouched-same : (L : Locals) (h : Keeping) (ss : Plains) → untouched L h (renamed_all r ss) ≡ untouched L h ss
  untouched-same L h ss = fun_ext (λ q. ap (λ b. if b then unknown else h q) (all-set-same L q ss))

  kept-same : (L : Locals) (h : Keeping) (a : Action) → kept_by L h (renamed_action r a) ≡ kept_by L h a
  kept-same L h (plain.call f t object is into) = refl
  kept-same L h a = refl

  mutual
    after-same : (L : Locals) (s : Plain) (h : Keeping) → after L (renamed r s) h ≡ after L s h
    after-same L (set q a) h = ap (λ x. keep h q x) (kept-same L h a)
    after-same L (branch q ss ts) h =
        ap (λ (g : Keeping). common g (after_all L (renamed_all r ts) h)) (all-after-same L ss h) ∙ ap (λ (g : Keeping). common (after_all L ss h) g) (all-after-same L ts h)
    after-same L (loop ss ts) h =
        ap (λ (g : Keeping). untouched L g (renamed_all r ts)) (untouched-same L h ss) ∙ untouched-same L (untouched L h ss) ts
    after-same L (switch q ss) h = untouched-same L h ss
    after-same L s h = refl

    all-after-same : (L : Locals) (ss : Plains) (h : Keeping) → after_all L (renamed_all r ss) h ≡ after_all L ss h
    all-after-same L nothing h = refl
    all-after-same L (more s ss) h = ap (λ (g : Keeping). after_all L (renamed_all r ss) g) (after-same L s h) ∙ all-after-same L ss (after L s h)

  -- ---- registers and arguments

  mutual
    bound-same : (s : Plain) → bound (renamed r s) ≡ bound s
    bound-same (branch q ss ts) = ap (λ n. max n (all_bound (renamed_all r ts))) (all-bound-same ss) ∙ ap (λ n. max (all_bound ss) n) (all-bound-same ts)
    bound-same (loop ss ts) = ap (λ n. max n (all_bound (renamed_all r ts))) (all-bound-same ss) ∙ ap (λ n. max (all_bound ss) n) (all-bound-same ts)
    bound-same (switch q ss) = all-bound-same ss
    bound-same (parts ps) = parts-bound-same ps
    bound-same s = refl

    all-bound-same : (ss : Plains) → all_bound (renamed_all r ss) ≡ all_bound ss
    all-bound-same nothing = refl
    all-bound-same (more s ss) = ap (λ n. max n (all_bound (renamed_all r ss))) (bound-same s) ∙ ap (λ n. max (bound s) n) (all-bound-same ss)

    parts-bound-same : (ps : PlainParts) → parts_bound (renamed_parts r ps) ≡ parts_bound ps
    parts-bound-same no_parts = refl
    parts-bound-same (part w ss ps) = ap (λ n. max n (parts_bound (renamed_parts r ps))) (all-bound-same ss) ∙ ap (λ n. max (all_bound ss) n) (parts-bound-same ps)

  argument-same : (a : Action) → arguments_at (renamed_action r a) ≡ arguments_at a
  argument-same (plain.call f t object is into) = refl
  argument-same a = refl

  abbrev same_arguments : List Action → List Action → Type 0
  same_arguments xs ys = flat_map arguments_at xs ≡ flat_map arguments_at ys

  both-same : (xs ys us vs : List Action) → same_arguments xs us → same_arguments ys vs → same_arguments (xs ++ ys) (us ++ vs)
  both-same xs ys us vs e k =
      flat_map-append arguments_at xs ys ∙ ap (λ (is : List ℕ). is ++ flat_map arguments_at ys) e ∙ ap (λ (is : List ℕ). flat_map arguments_at us ++ is) k
      ∙ sym (flat_map-append arguments_at us vs)

  mutual
    arguments-same : (s : Plain) → same_arguments (actions (renamed r s)) (actions s)
    arguments-same (act a) = ap (λ (is : List ℕ). is ++ []) (argument-same a)
    arguments-same (set q a) = ap (λ (is : List ℕ). is ++ []) (argument-same a)
    arguments-same (branch q ss ts) =
        both-same (all_actions (renamed_all r ss)) (all_actions (renamed_all r ts)) (all_actions ss) (all_actions ts) (all-arguments-same ss) (all-arguments-same ts)
    arguments-same (loop ss ts) =
        both-same (all_actions (renamed_all r ss)) (all_actions (renamed_all r ts)) (all_actions ss) (all_actions ts) (all-arguments-same ss) (all-arguments-same ts)
    arguments-same (switch q ss) = all-arguments-same ss
    arguments-same (parts ps) = parts-arguments-same ps
    arguments-same s = refl

    all-arguments-same : (ss : Plains) → same_arguments (all_actions (renamed_all r ss)) (all_actions ss)
    all-arguments-same nothing = refl
    all-arguments-same (more s ss) =
        both-same (actions (renamed r s)) (all_actions (renamed_all r ss)) (actions s) (all_actions ss) (arguments-same s) (all-arguments-same ss)

    parts-arguments-same : (ps : PlainParts) → same_arguments (part_actions (renamed_parts r ps)) (part_actions ps)
    parts-arguments-same no_parts = refl
    parts-arguments-same (part w ss ps) =
        both-same (all_actions (renamed_all r ss)) (part_actions (renamed_parts r ps)) (all_actions ss) (part_actions ps) (all-arguments-same ss) (parts-arguments-same ps)

  -- ---- labels

  labels-fit-same : (k : Kind) (ss : Plains) → labels_fit k (renamed_all r ss) ≡ labels_fit k ss
  labels-fit-same k nothing = refl
  labels-fit-same k (more (case_label y) ss) = ap (λ b. is_of k y && b) (labels-fit-same k ss)
  labels-fit-same k (more s ss) = labels-fit-same k ss

  switches-same : (x : Kept) (ss : Plains) → switches x (renamed_all r ss) ≡ switches x ss
  switches-same (integer_of f) ss =
      ap (λ b. (f Int && b) || (f UInt && labels_fit UInt (renamed_all r ss))) (labels-fit-same Int ss)
      ∙ ap (λ b. (f Int && labels_fit Int ss) || (f UInt && b)) (labels-fit-same UInt ss)
  switches-same x ss = refl

  -- ---- what fits

  module _ (keeps : (name : Name) → is_library name ≡ true → r name ≡ name) (fresh : (name : Name) → is_library name ≡ false → is_library (r name) ≡ false) where
    by-name : (b : Bool) (name : Name) → is_library name ≡ b → (P : Name → Bool) → P name ≡ true
        → (is_library name ≡ false → is_library (r name) ≡ false → P (r name) ≡ true) → P (r name) ≡ true
    by-name true name e P here there = subst (λ n. P n ≡ true) (sym (keeps name e)) here
    by-name false name e P here there = there e (fresh name e)

    named-too : (name : Name) (t : SourceType) → may_be_named name t ≡ true → may_be_named (r name) t ≡ true
    named-too name t e =
        by-name (is_library name) name refl (λ n. may_be_named n t) e
        (λ before behind. ap (λ b. not b || type_eq (without_const (library_type (r name))) (without_const t)) behind)

    not-library : (b i : Bool) (x y z : Bool) → b ≡ false → i ≡ false → (if b then x else z) ≡ true → (if i then y else z) ≡ true
    not-library true i x y z e k h = absurd (let j = e in cc)
    not-library false true x y z e k h = absurd (let j = k in cc)
    not-library false false x y z e k h = h

    module _ (classes : List Class) (f : PlainFunction) where
      abbrev v : View
      v = view_of classes f

      abbrev c : Reach
      c = reach_of f

      set-too : (h : Keeping) (a : Action) → may_set v h a ≡ true → may_set v h (renamed_action r a) ≡ true
      set-too h (plain.function name t) e = named-too name t e
      set-too h a e = e

      do-too : (h : Keeping) (a : Action) → may_do v h a ≡ true → may_do v h (renamed_action r a) ≡ true
      do-too h (plain.function name t) e = named-too name t e
      do-too h a e = e

      call-too : (q : Register) (name : Name) (t : SourceType) (is : List ℕ) → call_fits v c q name t is ≡ true → call_fits v c q (r name) t is ≡ true
      call-too q name t is e =
          let local = has_local (λ u. true) (sort_of (result_type t)) in
          let takes = are_passed v.locals is && takes_locals v.locals t is in
          let old = library_fits v.locals (bytes_eq name (codes "putchar")) (bytes_eq name (codes "exit")) t is in
          let new = library_fits v.locals (bytes_eq (r name) (codes "putchar")) (bytes_eq (r name) (codes "exit")) t is in
          by-name (is_library name) name refl (λ n. call_fits v c q n t is) e
          (λ before behind.
          let one = both (nat_lt q v.bound) (local && (if is_library name then old else takes)) e in
          let two = both local (if is_library name then old else takes) one.1 in
          all_of (nat_lt q v.bound) (local && (if is_library (r name) then new else takes)) one.0
          (all_of local (if is_library (r name) then new else takes) two.0
          (not-library (is_library name) (is_library (r name)) old new takes before behind two.1)))

      fits-too : (h : Keeping) (s : Plain) → fits v c h s ≡ true → fits v c h (renamed r s) ≡ true
      fits-too h (set q (plain.call name t None is None)) e = call-too q name t is e
      fits-too h (set q (plain.pointer_call None p t is None)) e = e
      fits-too h (set q (plain.function name t)) e =
          let two = both (nat_lt q v.bound) (may_be_named name t) e in
          all_of (nat_lt q v.bound) (may_be_named (r name) t) two.0 (named-too name t two.1)
      fits-too h (act (plain.function name t)) e = named-too name t e
      fits-too h s e = e

      -- ---- in place

      abbrev P : Keeping → Plain → Bool
      P = fits v c

      mutual
        place-too : (L : Locals) (b i : Bool) (s : Plain) (h : Keeping) → in_place L P b i s h ≡ true → in_place L P b i (renamed r s) h ≡ true
        place-too L b i (act a) h e = fits-too h (act a) e
        place-too L b i (set q a) h e = fits-too h (set q a) e
        place-too L b i (branch q ss ts) h e =
            let one = both (is_number (h q)) (all_in_place L P b i ss h && all_in_place L P b i ts h) e in
            let two = both (all_in_place L P b i ss h) (all_in_place L P b i ts h) one.1 in
            all_of (is_number (h q)) (all_in_place L P b i (renamed_all r ss) h && all_in_place L P b i (renamed_all r ts) h) one.0
            (all_of (all_in_place L P b i (renamed_all r ss) h) (all_in_place L P b i (renamed_all r ts) h) (all-place-too L b i ss h two.0) (all-place-too L b i ts h two.1))
        place-too L b i (loop ss ts) h e =
            let k = after L (loop ss ts) h in
            let two = both (all_in_place L P true true ss k) (all_in_place L P true false ts k) e in
            subst (λ (m : Keeping). all_in_place L P true true (renamed_all r ss) m && all_in_place L P true false (renamed_all r ts) m ≡ true)
            (sym (after-same L (loop ss ts) h))
            (all_of (all_in_place L P true true (renamed_all r ss) k) (all_in_place L P true false (renamed_all r ts) k)
            (all-place-too L true true ss k two.0) (all-place-too L true false ts k two.1))
        place-too L b i (switch q ss) h e =
            let k = untouched L h ss in
            let one = both (switches (h q) ss) (labels_differ [] ss && items_in_place L P i ss k k) e in
            let two = both (labels_differ [] ss) (items_in_place L P i ss k k) one.1 in
            all_of (switches (h q) (renamed_all r ss))
            (labels_differ [] (renamed_all r ss) && items_in_place L P i (renamed_all r ss) (untouched L h (renamed_all r ss)) (untouched L h (renamed_all r ss)))
            (switches-same (h q) ss ∙ one.0)
            (all_of (labels_differ [] (renamed_all r ss)) (items_in_place L P i (renamed_all r ss) (untouched L h (renamed_all r ss)) (untouched L h (renamed_all r ss)))
            (labels-differ-same r ss ∙ two.0)
            (subst (λ (m : Keeping). items_in_place L P i (renamed_all r ss) m m ≡ true) (sym (untouched-same L h ss)) (items-place-too L i ss k k two.1)))
        place-too L b i leave h e = e
        place-too L b i continue h e = e
        place-too L b i (give q) h e = fits-too h (give q) e
        place-too L b i s h e = absurd (let k = e in cc)

        all-place-too : (L : Locals) (b i : Bool) (ss : Plains) (h : Keeping) → all_in_place L P b i ss h ≡ true → all_in_place L P b i (renamed_all r ss) h ≡ true
        all-place-too L b i nothing h e = refl
        all-place-too L b i (more s ss) h e =
            let two = both (in_place L P b i s h) (all_in_place L P b i ss (after L s h)) e in
            all_of (in_place L P b i (renamed r s) h) (all_in_place L P b i (renamed_all r ss) (after L (renamed r s) h)) (place-too L b i s h two.0)
            (subst (λ (m : Keeping). all_in_place L P b i (renamed_all r ss) m ≡ true) (sym (after-same L s h)) (all-place-too L b i ss (after L s h) two.1))

        items-place-too : (L : Locals) (i : Bool) (ss : Plains) (k h : Keeping) → items_in_place L P i ss k h ≡ true → items_in_place L P i (renamed_all r ss) k h ≡ true
        items-place-too L i nothing k h e = refl
        items-place-too L i (more (case_label y) ss) k h e = items-place-too L i ss k k e
        items-place-too L i (more default_label ss) k h e = items-place-too L i ss k k e
        items-place-too L i (more s ss) k h e =
            let two = both (in_place L P true i s h) (items_in_place L P i ss k (after L s h)) e in
            all_of (in_place L P true i (renamed r s) h) (items_in_place L P i (renamed_all r ss) k (after L (renamed r s) h)) (place-too L true i s h two.0)
            (subst (λ (m : Keeping). items_in_place L P i (renamed_all r ss) k m ≡ true) (sym (after-same L s h)) (items-place-too L i ss k (after L s h) two.1))

      -- ---- a function

      abbrev renamed_function : PlainFunction
      renamed_function = record f { name = r f.name; body = renamed_all r f.body }

      locals-same : locals_of renamed_function ≡ locals_of f
      locals-same = ap (λ (is : List ℕ). record { types = (locals_of f).types; arguments = is }) (all-arguments-same f.body)

      -- by its locals and the number of its registers
      abbrev InPlace : Locals → Register → Bool
      InPlace L n =
          is_signature f.type
          && all_in_place L
          (fits (record v { locals = L; bound = n }) (record c { called = λ name t is. takes_locals L t is; reached = λ t is. takes_locals L t is })) false false
          (renamed_all r f.body) nothing_kept

      pub function-place-too : function_in_place classes f ≡ true → function_in_place classes renamed_function ≡ true
      function-place-too e =
          let two = both (is_signature f.type) (all_in_place (locals_of f) P false false f.body nothing_kept) e in
          subst (λ L. InPlace L (all_bound (renamed_all r f.body)) ≡ true) (sym locals-same)
          (subst (λ n. InPlace (locals_of f) n ≡ true) (sym (all-bound-same f.body))
          (all_of (is_signature f.type) (all_in_place (locals_of f) P false false (renamed_all r f.body) nothing_kept) two.0
          (all-place-too (locals_of f) false false f.body nothing_kept two.1)))
