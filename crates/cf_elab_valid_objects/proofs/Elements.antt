-- How scalars and arrays are initialised by lists: the plans of their planners fit (8.4.1, 8.4.2).
use Rattle.std.proofs.Common.{◌≡◌, ℕ, zero, suc, ◌+◌, ◌≤◌, Bool, true, false, ◌&&◌, nat_le, if◌then◌else◌, List, [], ◌∷◌, length, refl, ◌∙◌, arith}
use Rattle.std.proofs.lemmas.Bool.Decides.{nat_tests}
use Rattle.cf_core.specs.Places.{is_reference}
use Rattle.cf_core.specs.Types.{SourceType, array}
use Rattle.cf_core.specs.Typed.{is_char}
use Rattle.cf_core_typed.proofs.Same.{and-both}
use Rattle.cf_elab.specs.Env.{Env}
use Rattle.cf_elab.specs.Lists.{Tree, leaf, text, branch, items, tree_place, Plan, by_list, by_text, wrong, planned, Planner, scalar_planner, scalar_by_one, elements, at_most, full_list, text_fits, braced, array_by_one, array_from_front, array_planner}
use Rattle.cf_elab_valid.specs.Scene.{Scene, scope_of, Inside}
use Rattle.cf_elab_valid_objects.specs.Starts.{TreeFits, ListFits}
use Rattle.cf_elab_valid_objects.proofs.Plans.{plan_count, ScalarIs, ArrayOf, PlanFits, PlansFit, items-fit}

-- plans for an object of the type, by one initialiser and from the front of a list
pub record PlannerFits (s : Scene) (e : Env) (p : Planner) (t : SourceType) : Type 0 where
  pub one : (at : ℕ) (x : Tree) → TreeFits s e x → PlanFits s e (p.by_one at x) t
  pub front : (ts : List Tree) → ListFits s e ts → PlanFits s e (p.from_front ts).0 t × ListFits s e (p.from_front ts).1

-- plans for so many elements at most, and what is left of the list
record ElementsFit (s : Scene) (e : Env) (t : SourceType) (n : ℕ) (r : List Plan × List Tree) : Type 0 where
  pub fit : PlansFit s e (planned r.0) t
  pub count : plan_count (planned r.0) ≤ n
  pub rest : ListFits s e r.1

at_most-small : (n : ℕ) (ts : List Tree) → at_most n ts ≤ n
at_most-small n ts = by (nat_le n (length ts)) refl
  where
    by : (b : Bool) → nat_le n (length ts) ≡ b → (if b then n else length ts) ≤ n
    by true h = omega arith
    by false h = grind (arith, nat_tests, h)

le-told : (n m : ℕ) → n ≤ m → nat_le n m ≡ true
le-told n m h = grind (arith, nat_tests, h)

none-small : (n : ℕ) → zero ≤ n
none-small n = omega arith

one-more : (n m : ℕ) → n ≤ m → suc n ≤ suc m
one-more n m h = omega arith

small-through : (n m k : ℕ) → n ≤ m → m ≤ k → n ≤ k
small-through n m k g h = omega arith

one-less : (n m : ℕ) → nat_le (n + 1) m ≡ true → nat_le n m ≡ true
one-less n m h = grind (arith, nat_tests, h)

module _ (s : Scene) (e : Env) where
  -- ---- scalars

  pub scalar-fits : (u : ℕ) (t : SourceType) → Inside e u → ScalarIs s u t → PlannerFits s e (scalar_planner u) t
  scalar-fits u t i is = record { one = one; front = front }
    where
      one : (at : ℕ) (x : Tree) → TreeFits s e x → PlanFits s e (scalar_by_one u at x) t
      one at (leaf p v) f = (i, is, f)
      one at (text p n bytes) f = (i, is, f)
      one at (branch p ts) f = tt

      front : (ts : List Tree) → ListFits s e ts → PlanFits s e ((scalar_planner u).from_front ts).0 t × ListFits s e ((scalar_planner u).from_front ts).1
      front [] f = (tt, tt)
      front (x ∷ xs) f = (one (tree_place x) x f.0, f.1)

  -- ---- arrays

  module _ (p : Planner) (t : SourceType) (k : PlannerFits s e p t) where
    elements-fit : (n : ℕ) (ts : List Tree) → ListFits s e ts → ElementsFit s e t n (elements p n ts)
    elements-fit zero ts f = record { fit = tt; count = none-small zero; rest = f }
    elements-fit (suc n) [] f = record { fit = tt; count = none-small (suc n); rest = tt }
    elements-fit (suc n) (x ∷ xs) f =
        let first = k.front (x ∷ xs) f in
        let more = elements-fit n (p.from_front (x ∷ xs)).1 first.1 in
        let many = plan_count (planned (elements p n (p.from_front (x ∷ xs)).1).0) in record { fit = (first.0, more.fit); count = one-more many n more.count; rest = more.rest }

    module _ (n : ℕ) (chars : Bool) (told : chars ≡ true → is_char (scope_of s) t ≡ true) (plain : is_reference t ≡ false) where
      abbrev whole : ArrayOf s (array t n)
      whole = record { count = n; form = λ xs rest. refl; no_reference = plain }

      full-fits : (at m : ℕ) (r : List Plan × List Tree) → m ≤ n → ElementsFit s e t m r → PlanFits s e (full_list at r) (array t n)
      full-fits at m (ps, []) small f = (whole, le-told (plan_count (planned ps)) n (small-through (plan_count (planned ps)) m n f.count small), f.fit)
      full-fits at m (ps, x ∷ xs) small f = tt

      listed-fits : (at : ℕ) (ts : List Tree) → ListFits s e ts → PlanFits s e (full_list at (elements p (at_most n ts) ts)) (array t n)
      listed-fits at ts f = full-fits at (at_most n ts) (elements p (at_most n ts) ts) (at_most-small n ts) (elements-fit (at_most n ts) ts f)

      text-fits : (at : ℕ) (bytes : List ℕ) → chars ≡ true → PlanFits s e (text_fits at n bytes) (array t n)
      text-fits at bytes is = by (nat_le (length bytes + 1) n) refl
        where
          by : (b : Bool) → nat_le (length bytes + 1) n ≡ b → PlanFits s e (if b then by_text at bytes else wrong 28 at) (array t n)
          by true h = and-both (is_char (scope_of s) t) (nat_le (length bytes) n) (told is) (one-less (length bytes) n h)
          by false h = tt

      braced-fits : (b : Bool) → chars ≡ b → (at : ℕ) (ts : List Tree) → ListFits s e ts → PlanFits s e (braced b at n p ts) (array t n)
      braced-fits true is at [] f = listed-fits at [] f
      braced-fits true is at (leaf q v ∷ xs) f = listed-fits at (leaf q v ∷ xs) f
      braced-fits true is at (branch q ys ∷ xs) f = listed-fits at (branch q ys ∷ xs) f
      braced-fits true is at (text q place bytes ∷ y ∷ ys) f = listed-fits at (text q place bytes ∷ y ∷ ys) f
      braced-fits true is at (text q place bytes ∷ []) f = text-fits q bytes is
      braced-fits false is at ts f = listed-fits at ts f

      one-fits : (b : Bool) → chars ≡ b → (at : ℕ) (x : Tree) → TreeFits s e x → PlanFits s e (array_by_one b n p at x) (array t n)
      one-fits true is at (text q place bytes) f = text-fits at bytes is
      one-fits true is at (branch q ts) f = braced-fits true is q (items ts) (items-fit s ts e f)
      one-fits true is at (leaf q v) f = tt
      one-fits false is at (text q place bytes) f = tt
      one-fits false is at (branch q ts) f = braced-fits false is q (items ts) (items-fit s ts e f)
      one-fits false is at (leaf q v) f = tt

      some-fit : (ts : List Tree) (at : ℕ) → ListFits s e ts → PlanFits s e (by_list at (planned (elements p (at_most n ts) ts).0)) (array t n) × ListFits s e (elements p (at_most n ts) ts).1
      some-fit ts at f =
          let r = elements-fit (at_most n ts) ts f in
          let many = plan_count (planned (elements p (at_most n ts) ts).0) in ((whole, le-told many n (small-through many (at_most n ts) n r.count (at_most-small n ts)), r.fit), r.rest)

      front-fits : (b : Bool) → chars ≡ b → (ts : List Tree) → ListFits s e ts → PlanFits s e (array_from_front b n p ts).0 (array t n) × ListFits s e (array_from_front b n p ts).1
      front-fits true is [] f = (tt, tt)
      front-fits false is [] f = (tt, tt)
      front-fits true is (branch q ys ∷ xs) f = (one-fits true is q (branch q ys) f.0, f.1)
      front-fits false is (branch q ys ∷ xs) f = (one-fits false is q (branch q ys) f.0, f.1)
      front-fits true is (text q place bytes ∷ xs) f = (text-fits q bytes is, f.1)
      front-fits false is (text q place bytes ∷ xs) f = some-fit (text q place bytes ∷ xs) q f
      front-fits true is (leaf q v ∷ xs) f = some-fit (leaf q v ∷ xs) q f
      front-fits false is (leaf q v ∷ xs) f = some-fit (leaf q v ∷ xs) q f

      pub array-fits : PlannerFits s e (array_planner chars n p) (array t n)
      array-fits = record { one = λ at x f. one-fits chars refl at x f; front = λ ts f. front-fits chars refl ts f }
