-- How many elements an initialiser gives, and what objects leave of a list.
use Rattle.std.proofs.Common.{◌≡◌, ℕ, zero, suc, ◌+◌, ◌-◌, ◌<◌, ◌≤◌, Bool, true, false, if◌then◌else◌, List, [], ◌∷◌, length, Option, None, Some, slice_get, option_copied, Bor, refl, sym, ap, ◌∙◌, arith}
use Rattle.cf_types.specs.Table.{Table}
use Rattle.cf_elab.specs.Env.{Env}
use Rattle.cf_elab.specs.Lists as lists
use Rattle.cf_elab.specs.Lists.{Tree, Plan, planner, leaf, text, branch, items, listed, is_char, at_most, scalar_by_one, tree_place, planned, by_list}
use Rattle.cf_elab.specs.Operand.{Value}
use Rattle.cf_elab_env.specs.Holds.{IsType, IsEnv}
use Rattle.cf_elab_initial.specs.declared.lists.form.Row.{Row}
use Rattle.cf_elab_initial.specs.declared.lists.form.Form.TheVariants.{Scalar, Array}
use Rattle.cf_elab_initial.specs.declared.lists.front.Front.TheVariants.{Nothing, Whole, Parts}
use Rattle.cf_elab_initial.specs.Lists.Forms.{form_of}
use Rattle.cf_elab_initial.specs.Lists.Fronts.{is_nil, front_by, lone_bytes, tail}
use Rattle.cf_elab_initial.specs.Lists.Shut as shut
use Rattle.cf_elab_initial.proofs.ListsLaws.PlanLaws.{items_listed, front_scalar, front_array, front_none, front_whole, front_parts, no_element, no_tree, one_element, infront}
use Rattle.cf_elab_initial.proofs.ListsLaws.Rolled.{seen_leaf, seen_text, seen_branch}

-- ---- by the initialiser

module _ (types : Table) (t : ℕ) (x : Tree) where
  pub count_leaf : (at : ℕ) (v : Value) → x ≡ leaf at v → shut.count_in types t x ≡ 1
  unfolding shut.count_in
  count_leaf at v is = ap (lists.count_in types t) is

  pub count_text : (at n : ℕ) (bytes : List ℕ) → x ≡ text at n bytes → shut.count_in types t x ≡ (if is_char types t then length bytes + 1 else 1)
  unfolding shut.count_in
  count_text at n bytes is = ap (lists.count_in types t) is

  pub count_branch : (at : ℕ) (ts : List Tree) → x ≡ branch at (listed ts) → shut.count_in types t x ≡ shut.list_count types t ts
  unfolding shut.count_in shut.list_count
  count_branch at ts is = ap (lists.count_in types t) is ∙ by ts
    where
      by : (ts : List Tree) → lists.count_in types t (branch at (listed ts)) ≡ lists.count_in types t (branch 0 (listed ts))
      by [] = refl
      by (leaf p v ∷ ts) = refl
      by (branch p us ∷ ts) = refl
      by (text p n bytes ∷ []) = refl
      by (text p n bytes ∷ u ∷ us) = refl

module _ (types : Table) (t : ℕ) where
  pub list_text : (ts : List Tree) (bytes : List ℕ) → lone_bytes ts ≡ Some bytes → shut.list_count types t ts ≡ (if is_char types t then length bytes + 1 else 1)
  unfolding shut.list_count
  list_text [] bytes h = cc
  list_text (leaf p v ∷ ts) bytes h = cc
  list_text (branch p us ∷ ts) bytes h = cc
  list_text (text p n own ∷ []) bytes h = let same : own ≡ bytes = cc in ap (λ (bytes : List ℕ). if is_char types t then length bytes + 1 else 1) same
  list_text (text p n own ∷ u ∷ us) bytes h = cc

  pub list_others : (ts : List Tree) → lone_bytes ts ≡ None → shut.list_count types t ts ≡ length (shut.elements types t (length ts) ts).0
  unfolding shut.list_count shut.elements
  list_others ts h = by ts h ∙ ap (λ (us : List Tree). length (lists.elements (planner types t) (length us) us).0) (items_listed ts)
    where
      by : (ts : List Tree) → lone_bytes ts ≡ None → lists.count_in types t (branch 0 (listed ts)) ≡ length (lists.elements (planner types t) (length (items (listed ts))) (items (listed ts))).0
      by [] h = refl
      by (leaf p v ∷ ts) h = refl
      by (branch p us ∷ ts) h = refl
      by (text p n own ∷ []) h = cc
      by (text p n own ∷ u ∷ us) h = refl

pub lone_none : (o : Option (Bor (List ℕ))) (r : Option (List ℕ)) → option_copied o ≡ r → o ≡ None → r ≡ None
lone_none o r h none = sym h ∙ ap option_copied none

pub ruleset count_laws = (count_leaf, count_text, count_branch)

pub ruleset list_laws = (list_text, list_others)

-- ---- what is left behind an object

module _ (env : Env) (e : IsEnv env) (t : ℕ) (known : IsType env.types t) where
  pub behind_scalar : (u : ℕ) (ts : List Tree) → form_of env.types t ≡ Scalar u → (shut.from_front env.types t ts).1 ≡ tail ts
  behind_scalar u ts is = ap (λ (p : Plan × List Tree). p.1) (front_scalar env e t known u ts is) ∙ by ts
    where
      by : (ts : List Tree) → (lists.front_by_one (scalar_by_one u) ts).1 ≡ tail ts
      by [] = refl
      by (x ∷ xs) = refl

  pub behind_array : (r : Row) (ts : List Tree) → form_of env.types t ≡ Array r → (shut.from_front env.types t ts).1 ≡ (shut.array_front env.types r ts).1
  behind_array r ts is = ap (λ (p : Plan × List Tree). p.1) (front_array env e t known r ts is)

pub ruleset behind_laws = (behind_scalar, behind_array)

module _ (types : Table) (r : Row) (ts : List Tree) where
  pub behind_nothing : front_by r.is_char (slice_get ts 0) ≡ Nothing → (shut.array_front types r ts).1 ≡ ts
  behind_nothing h = ap (λ (p : Plan × List Tree). p.1) (front_none types r ts (sym h))

  pub behind_whole : front_by r.is_char (slice_get ts 0) ≡ Whole → (shut.array_front types r ts).1 ≡ tail ts
  behind_whole h = by ts h
    where
      by : (ts : List Tree) → front_by r.is_char (slice_get ts 0) ≡ Whole → (shut.array_front types r ts).1 ≡ tail ts
      by [] h = cc
      by (x ∷ xs) h = ap (λ (p : Plan × List Tree). p.1) (front_whole types r (x ∷ xs) xs x h refl)

  pub behind_parts : (at n : ℕ) → front_by r.is_char (slice_get ts 0) ≡ Parts at → n ≡ at_most r.count ts → (shut.array_front types r ts).1 ≡ (shut.elements types r.element n ts).1
  behind_parts at n h count = ap (λ (p : Plan × List Tree). p.1) (front_parts types r at n ts (shut.elements types r.element n ts).1 (shut.elements types r.element n ts).0 h count refl)

pub ruleset array_laws = (behind_nothing, behind_whole, behind_parts)

-- ---- some objects, one after the other

-- so many were taken before
pub record Left (types : Table) (t most : ℕ) (all : List Tree) (count : ℕ) (ts : List Tree) : Type 0 where
  pub within : count ≤ most
  pub counted : count + length (shut.elements types t (most - count) ts).0 ≡ length (shut.elements types t most all).0
  pub left : (shut.elements types t (most - count) ts).1 ≡ (shut.elements types t most all).1

module _ (types : Table) (t most : ℕ) (all : List Tree) where
  pub none_taken : Left types t most all 0 all
  none_taken =
      let same : most - 0 ≡ most = omega arith in
      let counted : length (shut.elements types t (most - 0) all).0 ≡ length (shut.elements types t most all).0 = ap (λ n. length (shut.elements types t n all).0) same in
      record { within = omega arith; counted = omega arith; left = ap (λ n. (shut.elements types t n all).1) same }

  module _ (count : ℕ) (ts : List Tree) (h : Left types t most all count ts) where
    pub one_taken : (rest : List Tree) → count < most → is_nil ts ≡ false → rest ≡ (shut.from_front types t ts).1 → Left types t most all (count + 1) rest
    one_taken rest more filled behind =
        let next : most - count ≡ suc (most - (count + 1)) = omega arith in
        let first : shut.from_front types t ts ≡ ((shut.from_front types t ts).0, rest) = ap (λ us. ((shut.from_front types t ts).0, us)) (sym behind) in
        let step = one_element types t (most - count) (most - (count + 1)) ts rest (shut.from_front types t ts).0 next filled first in
        let longer : length (shut.elements types t (most - count) ts).0 ≡ suc (length (shut.elements types t (most - (count + 1)) rest).0) = ap (λ (p : List Plan × List Tree). length p.0) step in
        record {
          within = omega arith;
          counted = let before = h.counted in omega arith;
          left = sym (ap (λ (p : List Plan × List Tree). p.1) step) ∙ h.left;
        }

    ended : shut.elements types t (most - count) ts ≡ ([], ts) → (count ≡ length (shut.elements types t most all).0) × (ts ≡ (shut.elements types t most all).1)
    ended none =
        let empty : length (shut.elements types t (most - count) ts).0 ≡ 0 = ap (λ (p : List Plan × List Tree). length p.0) none in
        let counted = h.counted in
        (omega arith, sym (ap (λ (p : List Plan × List Tree). p.1) none) ∙ h.left)

    pub all_taken : most ≤ count → (count ≡ length (shut.elements types t most all).0) × (ts ≡ (shut.elements types t most all).1)
    all_taken full = let none : most - count ≡ 0 = omega arith in ended (no_element types t (most - count) ts none)

    pub none_left : is_nil ts ≡ true → (count ≡ length (shut.elements types t most all).0) × (ts ≡ (shut.elements types t most all).1)
    none_left nil = ended (no_tree types t (most - count) ts nil)

pub ruleset some_laws = (none_taken, one_taken, all_taken, none_left)
