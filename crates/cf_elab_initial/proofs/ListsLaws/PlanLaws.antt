-- What initialises what, step by step.
use Rattle.std.proofs.Common.{◌≡◌, ℕ, zero, suc, ◌+◌, ◌-◌, ◌<◌, Bool, true, false, if◌then◌else◌, List, [], ◌∷◌, ◌++◌, length, map, Option, None, Some, slice_get, option_map, ◌==◌, refl, sym, ap, ◌∙◌, arith, true≢false, append_assoc, ne_eqb}
use Rattle.std.proofs.lemmas.List.{append-nil, map-append}
use Rattle.cf_types.specs.Table.{Table}
use Rattle.cf_elab.specs.Env.{Env}
use Rattle.cf_elab.specs.Lists as lists
use Rattle.cf_elab.specs.Lists.{Tree, Trees, Plan, Planner, planner, leaf, text, branch, items, listed, planned, wrong, by_value, by_list, by_text, text_fits, scalar_by_one, tree_place}
use Rattle.cf_elab_env.specs.Holds.{IsType, IsEnv}
use Rattle.cf_elab_initial.specs.declared.lists.form.Row.{Row}
use Rattle.cf_elab_initial.specs.declared.lists.form.Form.{Form}
use Rattle.cf_elab_initial.specs.declared.lists.form.Form.TheVariants.{Scalar, Array}
use Rattle.cf_elab_initial.specs.declared.lists.front.Front.TheVariants.{Nothing, Whole, Parts}
use Rattle.cf_elab_initial.specs.declared.lists.front.LoneText.{LoneText}
use Rattle.cf_elab_initial.specs.Lists.Forms.{form_of, planner_of}
use Rattle.cf_elab_initial.specs.Lists.Fronts.{is_nil, brace_of, front_at, front_by, lone_text, lone_seen, array_by_text}
use Rattle.cf_elab_initial.specs.Lists.Shut as shut
use Rattle.cf_elab_initial.proofs.ListsLaws.Planners.{planner_is}

pub items_listed : (ts : List Tree) → items (listed ts) ≡ ts
items_listed [] = refl
items_listed (t ∷ ts) = ap (λ us. t ∷ us) (items_listed ts)

-- ---- by the form of the type

module _ (env : Env) (e : IsEnv env) (t : ℕ) (known : IsType env.types t) where
  pub one_scalar : (u at : ℕ) (x : Tree) → form_of env.types t ≡ Scalar u → shut.by_one env.types t at x ≡ scalar_by_one u at x
  unfolding shut.by_one
  one_scalar u at x is = ap (λ (p : Planner). p.by_one at x) (planner_is env e.table t known ∙ ap (planner_of env.types) is)

  pub one_array : (r : Row) (at : ℕ) (x : Tree) → form_of env.types t ≡ Array r → shut.by_one env.types t at x ≡ shut.array_by_one env.types r at x
  unfolding shut.by_one shut.array_by_one
  one_array r at x is = ap (λ (p : Planner). p.by_one at x) (planner_is env e.table t known ∙ ap (planner_of env.types) is)

  pub front_scalar : (u : ℕ) (ts : List Tree) → form_of env.types t ≡ Scalar u → shut.from_front env.types t ts ≡ lists.front_by_one (scalar_by_one u) ts
  unfolding shut.from_front
  front_scalar u ts is = ap (λ (p : Planner). p.from_front ts) (planner_is env e.table t known ∙ ap (planner_of env.types) is)

  pub front_array : (r : Row) (ts : List Tree) → form_of env.types t ≡ Array r → shut.from_front env.types t ts ≡ shut.array_front env.types r ts
  unfolding shut.from_front shut.array_front
  front_array r ts is = ap (λ (p : Planner). p.from_front ts) (planner_is env e.table t known ∙ ap (planner_of env.types) is)

-- ---- scalars and literals

pub by_brace : (t at b : ℕ) (x : Tree) → brace_of x ≡ Some b → scalar_by_one t at x ≡ wrong 28 b
by_brace t at b (branch c ts) h = let same : c ≡ b = cc in ap (wrong 28) same
by_brace t at b (leaf p v) h = cc
by_brace t at b (text p n bytes) h = cc

pub without_brace : (t at : ℕ) (x : Tree) → brace_of x ≡ None → scalar_by_one t at x ≡ by_value at t x
without_brace t at (branch c ts) h = cc
without_brace t at (leaf p v) h = refl
without_brace t at (text p n bytes) h = refl

-- ---- an array by one initialiser

module _ (types : Table) (r : Row) (at : ℕ) where
  pub array_leaf : (p : ℕ) (x : Tree) (v : _) → x ≡ leaf p v → shut.array_by_one types r at x ≡ wrong 28 at
  unfolding shut.array_by_one
  array_leaf p x v is = ap (lists.array_by_one r.is_char r.count (planner types r.element) at) is ∙ by r.is_char
    where
      by : (c : Bool) → lists.array_by_one c r.count (planner types r.element) at (leaf p v) ≡ wrong 28 at
      by true = refl
      by false = refl

  pub array_text : (p n : ℕ) (bytes : List ℕ) (x : Tree) → x ≡ text p n bytes → shut.array_by_one types r at x ≡ array_by_text r.is_char at r.count bytes
  unfolding shut.array_by_one
  array_text p n bytes x is = ap (lists.array_by_one r.is_char r.count (planner types r.element) at) is ∙ by r.is_char
    where
      by : (c : Bool) → lists.array_by_one c r.count (planner types r.element) at (text p n bytes) ≡ array_by_text c at r.count bytes
      by true = refl
      by false = refl

  pub array_branch : (b : ℕ) (ts : List Tree) (x : Tree) → x ≡ branch b (listed ts) → shut.array_by_one types r at x ≡ shut.braced types r b ts
  unfolding shut.array_by_one shut.braced
  array_branch b ts x is = ap (lists.array_by_one r.is_char r.count (planner types r.element) at) is ∙ by r.is_char ∙ ap (lists.braced r.is_char b r.count (planner types r.element)) (items_listed ts)
    where
      by : (c : Bool) → lists.array_by_one c r.count (planner types r.element) at (branch b (listed ts)) ≡ lists.braced c b r.count (planner types r.element) (items (listed ts))
      by true = refl
      by false = refl

  -- ---- in braces

  abbrev full : List Tree → Plan
  full ts = lists.full_list at (lists.elements (planner types r.element) (lists.at_most r.count ts) ts)

  by_lone : (c : Bool) (ts : List Tree) (n : ℕ) (bytes : List ℕ) → lone_text c ts ≡ Some (n, bytes) → lists.braced c at r.count (planner types r.element) ts ≡ text_fits n r.count bytes
  by_lone true (text p q own ∷ []) n bytes h = let same : (p, own) ≡ (n, bytes) = cc in ap (λ (x : ℕ × List ℕ). text_fits x.0 r.count x.1) same
  by_lone true [] n bytes h = cc
  by_lone true (leaf p v ∷ ts) n bytes h = cc
  by_lone true (branch p us ∷ ts) n bytes h = cc
  by_lone true (text p q own ∷ t ∷ ts) n bytes h = cc
  by_lone false ts n bytes h = cc

  pub braced_lone : (ts : List Tree) (x : LoneText) → Some (lone_seen x) ≡ lone_text r.is_char ts → shut.braced types r at ts ≡ text_fits x.at r.count x.bytes
  unfolding shut.braced
  braced_lone ts x h = by_lone r.is_char ts x.at x.bytes (sym h)

  by_others : (c : Bool) (ts : List Tree) → lone_text c ts ≡ None → lists.braced c at r.count (planner types r.element) ts ≡ full ts
  by_others true (text p q own ∷ []) h = cc
  by_others true [] h = refl
  by_others true (leaf p v ∷ ts) h = refl
  by_others true (branch p us ∷ ts) h = refl
  by_others true (text p q own ∷ t ∷ ts) h = refl
  by_others false ts h = refl

  pub braced_others : (ts : List Tree) → None ≡ lone_text r.is_char ts → shut.braced types r at ts ≡ shut.full_list types r at ts
  unfolding shut.braced shut.full_list shut.elements
  braced_others ts h = by_others r.is_char ts (sym h)

  module _ (ts : List Tree) (n : ℕ) (ps : List Plan) (rest : List Tree) (count : n ≡ lists.at_most r.count ts) (made : shut.elements types r.element n ts ≡ (ps, rest)) where
    pub full_fits : is_nil rest ≡ true → shut.full_list types r at ts ≡ by_list at (planned ps)
    unfolding shut.full_list
    full_fits none = ap (λ n. lists.full_list at (shut.elements types r.element n ts)) (sym count) ∙ ap (lists.full_list at) made ∙ by rest none
      where
        by : (us : List Tree) → is_nil us ≡ true → lists.full_list at (ps, us) ≡ by_list at (planned ps)
        by [] h = refl
        by (u ∷ us) h = cc

    pub full_over : is_nil rest ≡ false → shut.full_list types r at ts ≡ wrong 28 at
    unfolding shut.full_list
    full_over some = ap (λ n. lists.full_list at (shut.elements types r.element n ts)) (sym count) ∙ ap (lists.full_list at) made ∙ by rest some
      where
        by : (us : List Tree) → is_nil us ≡ false → lists.full_list at (ps, us) ≡ wrong 28 at
        by [] h = cc
        by (u ∷ us) h = refl

-- ---- from the front of a list

pub scalar_none : (t : ℕ) (ts : List Tree) → ts ≡ [] → lists.front_by_one (scalar_by_one t) ts ≡ (wrong 28 0, [])
scalar_none t ts is = ap (lists.front_by_one (scalar_by_one t)) is

pub scalar_some : (t : ℕ) (ts rest : List Tree) (x : Tree) → ts ≡ x ∷ rest → lists.front_by_one (scalar_by_one t) ts ≡ (scalar_by_one t (tree_place x) x, rest)
scalar_some t ts rest x is = ap (lists.front_by_one (scalar_by_one t)) is

module _ (types : Table) (r : Row) where
  abbrev front : Bool → List Tree → Plan × List Tree
  front c ts = lists.array_from_front c r.count (planner types r.element) ts

  abbrev in_parts : ℕ → List Tree → Plan × List Tree
  in_parts at ts =
      let some = shut.elements types r.element (lists.at_most r.count ts) ts in
      (by_list at (planned some.0), some.1)

  pub front_none : (ts : List Tree) → Nothing ≡ front_by r.is_char (slice_get ts 0) → shut.array_front types r ts ≡ (wrong 28 0, ts)
  unfolding shut.array_front
  front_none [] h = by r.is_char
    where
      by : (c : Bool) → front c [] ≡ (wrong 28 0, [])
      by true = refl
      by false = refl
  front_none (t ∷ ts) h = absurd (by r.is_char t h)
    where
      by : (c : Bool) (t : Tree) → Nothing ≡ front_at c t → ⊥
      by c (leaf p v) h = cc
      by true (text p n bytes) h = cc
      by false (text p n bytes) h = cc
      by c (branch p us) h = cc

  whole_by : (c : Bool) (x : Tree) (rest : List Tree) → front_at c x ≡ Whole → front c (x ∷ rest) ≡ (lists.array_by_one c r.count (planner types r.element) (tree_place x) x, rest)
  whole_by c (leaf p v) rest h = cc
  whole_by true (text p n bytes) rest h = refl
  whole_by false (text p n bytes) rest h = cc
  whole_by true (branch p us) rest h = refl
  whole_by false (branch p us) rest h = refl

  pub front_whole : (ts rest : List Tree) (x : Tree) → front_by r.is_char (slice_get ts 0) ≡ Whole → ts ≡ x ∷ rest
      → shut.array_front types r ts ≡ (shut.array_by_one types r (tree_place x) x, rest)
  unfolding shut.array_front shut.array_by_one
  front_whole ts rest x h is = ap (front r.is_char) is ∙ whole_by r.is_char x rest (ap (λ us. front_by r.is_char (slice_get us 0)) (sym is) ∙ h)

  parts_by : (c : Bool) (at : ℕ) (x : Tree) (rest : List Tree) → front_at c x ≡ Parts at → front c (x ∷ rest) ≡ in_parts at (x ∷ rest)
  unfolding shut.elements
  parts_by true at (leaf p v) rest h = let same : p ≡ at = cc in ap (λ at. in_parts at (leaf p v ∷ rest)) same
  parts_by false at (leaf p v) rest h = let same : p ≡ at = cc in ap (λ at. in_parts at (leaf p v ∷ rest)) same
  parts_by true at (text p n bytes) rest h = cc
  parts_by false at (text p n bytes) rest h = let same : p ≡ at = cc in ap (λ at. in_parts at (text p n bytes ∷ rest)) same
  parts_by c at (branch p us) rest h = cc

  pub front_parts : (at n : ℕ) (ts rest : List Tree) (ps : List Plan) → front_by r.is_char (slice_get ts 0) ≡ Parts at → n ≡ lists.at_most r.count ts
      → shut.elements types r.element n ts ≡ (ps, rest) → shut.array_front types r ts ≡ (by_list at (planned ps), rest)
  unfolding shut.array_front
  front_parts at n [] rest ps h count made = cc
  front_parts at n (x ∷ ts) rest ps h count made =
      parts_by r.is_char at x ts h ∙ ap (λ n. (by_list at (planned (shut.elements types r.element n (x ∷ ts)).0), (shut.elements types r.element n (x ∷ ts)).1)) (sym count)
      ∙ ap (λ (e : List Plan × List Tree). (by_list at (planned e.0), e.1)) made

-- ---- elements, one after the other

-- what was planned before stands in front
abbrev pub infront : List Plan → List Plan × List Tree → List Plan × List Tree
infront ps rest = (ps ++ rest.0, rest.1)

module _ (types : Table) (t : ℕ) where
  pub no_element : (n : ℕ) (ts : List Tree) → n ≡ 0 → shut.elements types t n ts ≡ ([], ts)
  unfolding shut.elements
  no_element n ts none = ap (λ n. shut.elements types t n ts) none

  pub no_tree : (n : ℕ) (ts : List Tree) → is_nil ts ≡ true → shut.elements types t n ts ≡ ([], ts)
  unfolding shut.elements
  no_tree n (x ∷ ts) none = cc
  no_tree n [] none = by n
    where
      by : (n : ℕ) → lists.elements (planner types t) n [] ≡ ([], [])
      by zero = refl
      by (suc n) = refl

  pub one_element : (n m : ℕ) (ts rest : List Tree) (p : Plan) → n ≡ suc m → is_nil ts ≡ false → shut.from_front types t ts ≡ (p, rest)
      → shut.elements types t n ts ≡ infront (p ∷ []) (shut.elements types t m rest)
  unfolding shut.elements shut.from_front
  one_element n m [] rest p some filled first = cc
  one_element n m (x ∷ ts) rest p some filled first =
      ap (λ n. shut.elements types t n (x ∷ ts)) some
      ∙ ap (λ (f : Plan × List Tree). let rest = lists.elements (planner types t) m f.1 in (f.0 ∷ rest.0, rest.1)) first

module _ (types : Table) (t n : ℕ) (ts : List Tree) (ps : List Plan) (all : List Plan × List Tree) (kept : infront ps (shut.elements types t n ts) ≡ all) where
  pub one_more : (m : ℕ) (rest : List Tree) (p : Plan) → 0 < n → m ≡ n - 1 → is_nil ts ≡ false → shut.from_front types t ts ≡ (p, rest)
      → infront (ps ++ p ∷ []) (shut.elements types t m rest) ≡ all
  one_more m rest p some fewer filled first =
      let next : n ≡ suc m = omega arith in
      ap (λ l. (l, (shut.elements types t m rest).1)) (append_assoc ps (p ∷ []) (shut.elements types t m rest).0) ∙ sym (ap (infront ps) (one_element types t n m ts rest p next filled first)) ∙ kept

  pub none_wanted : n ≡ 0 → all ≡ (ps, ts)
  none_wanted none = sym kept ∙ ap (infront ps) (no_element types t n ts none) ∙ ap (λ l. (l, ts)) (append-nil ps)

  pub none_left : is_nil ts ≡ true → all ≡ (ps, ts)
  none_left none = sym kept ∙ ap (infront ps) (no_tree types t n ts none) ∙ ap (λ l. (l, ts)) (append-nil ps)

-- ---- lists of the code

pub seen_first : {A B : Type 0} (f : A → B) (xs : List A) → slice_get (map f xs) 0 ≡ option_map f (slice_get xs 0)
seen_first f [] = refl
seen_first f (x ∷ xs) = refl

pub seen_nil : {A : Type 0} (f : A → Tree) (xs : List A) (n : ℕ) → n ≡ length xs → (n == 0) ≡ is_nil (map f xs)
seen_nil f [] n h = ap (λ n. n == 0) h
seen_nil f (x ∷ xs) n h = ne_eqb n 0 (λ e. absurd (omega (arith, h, e)))

pub seen_more : {A B : Type 0} (f : A → B) (xs ys : List A) (x : A) → ys ≡ xs ++ x ∷ [] → map f ys ≡ map f xs ++ f x ∷ []
seen_more f xs ys x h = ap (map f) h ∙ map-append f xs (x ∷ [])

pub ruleset one_laws = (one_scalar, one_array)

pub ruleset scalar_laws = (by_brace, without_brace)

pub ruleset text_laws = (items_listed)

pub ruleset array_laws = (array_leaf, array_text, array_branch)

pub ruleset braced_laws = (braced_lone, braced_others)

pub ruleset full_laws = (full_fits, full_over)

pub ruleset element_laws = (one_more, none_wanted, none_left)

pub ruleset front_laws = (front_scalar, front_array)

pub ruleset scalar_front_laws = (scalar_none, scalar_some)

pub ruleset array_front_laws = (front_none)

pub ruleset whole_laws = (front_whole)

pub ruleset parts_laws = (front_parts)
