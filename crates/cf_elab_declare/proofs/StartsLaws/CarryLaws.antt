-- Plans carried out, step by step.
use Rattle.std.proofs.Common.{◌≡◌, ℕ, ◌<◌, ◌≤◌, Bool, true, false, ◌&&◌, List, [], ◌∷◌, length, ℤ, Option, None, Some, IsSome, refl, sym, ap, subst, ◌∙◌, append_assoc, arith, true≢false}
use Rattle.std.proofs.lemmas.List.{append-nil}
use Rattle.cf_base.specs.declared.rule.Broken.{Broken}
use Rattle.cf_types.specs.Table.{Table}
use Rattle.cf_elab.specs.Answer.{Answer, Elab, Made, Refused, Passed, onward}
use Rattle.cf_elab.specs.Env.{Env}
use Rattle.cf_elab.specs.Initial.{Start, Keeper}
use Rattle.cf_elab.specs.Lists as lists
use Rattle.cf_elab.specs.Operand.{Value}
use Rattle.cf_elab_env.specs.Holds.{FitsIn, Grows, IsType, Known}
use Rattle.cf_elab_env.proofs.Growth.{grown_laws, grows_through, grows-refl}
use Rattle.cf_elab_initial.specs.Initials.Shut as initial
use Rattle.cf_elab_initial.specs.declared.lists.tree.Tree.{Tree}
use Rattle.cf_elab_initial.specs.declared.lists.tree.Tree.TheVariants as tree
use Rattle.cf_elab_initial.specs.declared.lists.plan.Plan.{Plan}
use Rattle.cf_elab_initial.specs.declared.lists.plan.Plan.TheVariants as plan
use Rattle.cf_elab_initial.specs.Lists.Seen.{tree_seen, plan_seen, plans_seen}
use Rattle.cf_elab_initial.proofs.ListsLaws.Rolled.{seen_leaf, seen_text, seen_branch, seen_value, seen_list, seen_literal, seen_wrong}
use Rattle.cf_elab_operand.specs.Shut as operand
use Rattle.cf_elab_declare.specs.Starts.Carried.{ahead, no_starts, one_more, list_start, characters}
use Rattle.cf_elab_initial.specs.Lists.Known.{TreeKnown, PlanKnown, PlansKnown, NumberFits}
use Rattle.cf_elab_declare.specs.Starts.Shut as shut
use Rattle.cf_elab_initial.proofs.ListsLaws.PlansKnown.{plans_grown, list_known}
use Rattle.cf_elab_declare.proofs.StartsLaws.Weights.{weight, weights}

-- ---- what a plan of the code says

module _ (p : Plan) (at t : ℕ) (x : Tree) (is : p ≡ plan.ByValue at t x) where
  value_is : plan_seen p ≡ lists.by_value at t (tree_seen x)
  value_is = ap plan_seen is ∙ seen_value at t x

  pub value_typed : (types : Table) → PlanKnown types (plan_seen p) → IsType types t
  value_typed types known = (subst (PlanKnown types) value_is known).0

  pub value_known : (types : Table) → PlanKnown types (plan_seen p) → TreeKnown types (tree_seen x)
  value_known types known = (subst (PlanKnown types) value_is known).1

  pub value_number : (types : Table) (z : Option ℤ) → FitsIn types t z → NumberFits types (plan_seen p) z
  value_number types z fits = subst (λ p. NumberFits types p z) (sym value_is) fits

  pub value_made : (k : ℕ → Elab Keeper) (env : Env) → shut.carried_out k (plan_seen p) env ≡ shut.by_tree k at t (tree_seen x) env
  unfolding shut.carried_out shut.by_tree
  value_made k env = ap (λ p. lists.carried_out k p env) value_is

module _ (p : Plan) (at : ℕ) (ps : List Plan) (is : p ≡ plan.ByList at ps) where
  list_is : plan_seen p ≡ lists.by_list at (lists.planned (plans_seen ps))
  list_is = ap plan_seen is ∙ seen_list at ps

  pub list_parts : (types : Table) → PlanKnown types (plan_seen p) → PlansKnown types (plans_seen ps)
  list_parts types known = list_known types (plans_seen ps) (subst (PlanKnown types) list_is known)

  pub list_number : (types : Table) (z : Option ℤ) → z ≡ None → NumberFits types (plan_seen p) z
  list_number types z none = subst (λ p. NumberFits types p z) (sym list_is) none

  pub list_made : (k : ℕ → Elab Keeper) (env : Env) → shut.carried_out k (plan_seen p) env ≡ shut.by_list k at (plans_seen ps) env
  unfolding shut.carried_out shut.by_list shut.all_carried_out
  list_made k env = ap (λ p. lists.carried_out k p env) list_is

module _ (p : Plan) (at : ℕ) (bytes : List ℕ) (is : p ≡ plan.ByText at bytes) where
  text_is : plan_seen p ≡ lists.by_text at bytes
  text_is = ap plan_seen is ∙ seen_literal at bytes

  pub text_number : (types : Table) (s : Start) → s ≡ characters at bytes → NumberFits types (plan_seen p) s.number
  text_number types s e = subst (λ p. NumberFits types p s.number) (sym text_is) (ap (λ (s : Start). s.number) e)

  pub text_made : (k : ℕ → Elab Keeper) (env : Env) (s : Start) → s ≡ characters at bytes → shut.carried_out k (plan_seen p) env ≡ Made s env
  unfolding shut.carried_out
  text_made k env s e = ap (λ p. lists.carried_out k p env) text_is ∙ ap (λ s. Made s env) (sym e)

pub wrong_made : (p : Plan) (b : Broken) (k : ℕ → Elab Keeper) (env : Env) → p ≡ plan.Wrong b → shut.carried_out k (plan_seen p) env ≡ Refused b.rule b.at
unfolding shut.carried_out
wrong_made p b k env is = ap (λ p. lists.carried_out k p env) (ap plan_seen is ∙ seen_wrong b)

pub ruleset plan_laws = (value_typed, value_known, value_number, value_made, list_parts, list_number, list_made, text_number, text_made, wrong_made, grown_laws)

-- ---- a scalar

module _ (x : Tree) (p : ℕ) (v : Value) (is : x ≡ tree.Leaf p v) where
  pub leaf_known : (types : Table) → TreeKnown types (tree_seen x) → Known types v
  leaf_known types known = subst (TreeKnown types) (ap tree_seen is ∙ seen_leaf p v) known

  pub leaf_made : (k : ℕ → Elab Keeper) (at t : ℕ) (env : Env) → shut.by_tree k at t (tree_seen x) env ≡ initial.initial k at t v env
  unfolding shut.by_tree initial.initial
  leaf_made k at t env = ap (λ x. lists.by_tree k at t x env) (ap tree_seen is ∙ seen_leaf p v)

module _ (x : Tree) (k : ℕ → Elab Keeper) (at t : ℕ) (env : Env) where
  pub tree_text : (p n : ℕ) (bytes : List ℕ) → x ≡ tree.Text p n bytes → shut.by_tree k at t (tree_seen x) env ≡ shut.by_literal k at t n bytes env
  unfolding shut.by_tree shut.by_literal
  tree_text p n bytes is = ap (λ x. lists.by_tree k at t x env) (ap tree_seen is ∙ seen_text p n bytes)

  pub tree_branch : (p : ℕ) (ts : List Tree) → x ≡ tree.Branch p ts → shut.by_tree k at t (tree_seen x) env ≡ Refused 28 p
  unfolding shut.by_tree
  tree_branch p ts is = ap (λ x. lists.by_tree k at t x env) (ap tree_seen is ∙ seen_branch p ts)

pub ruleset tree_laws = (leaf_known, leaf_made, tree_text, tree_branch)

onward_twice : {A B C : Type 0} (a : Answer A) (f : A → Elab B) (g : B → Elab C) → onward (onward a f) g ≡ onward a (λ x env. onward (f x env) g)
onward_twice (Made x env) f g = refl
onward_twice (Refused rule at) f g = refl
onward_twice (Passed b most) f g = refl

pub literal_is : (k : ℕ → Elab Keeper) (at t n : ℕ) (bytes : List ℕ) (env : Env)
    → shut.by_literal k at t n bytes env ≡ onward (operand.literal n bytes env) (λ o env. onward (operand.value_of o env) (λ v env. initial.initial k at t v env))
unfolding shut.by_literal operand.literal operand.value_of initial.initial
literal_is k at t n bytes env = onward_twice (operand.literal n bytes env) operand.value_of (initial.initial k at t)

pub ruleset literal_laws = (literal_is, grown_laws)

-- ---- lists

pub by_list_is : (k : ℕ → Elab Keeper) (at : ℕ) (ps : List lists.Plan) (env : Env)
    → shut.by_list k at ps env ≡ onward (shut.all_carried_out k ps env) (λ s env. Made (list_start at s) env)
unfolding shut.by_list
by_list_is k at ps env = refl

pub no_list_number : (at : ℕ) (s : Start) (all : lists.Starts) → s ≡ list_start at all → s.number ≡ None
no_list_number at s all is = ap (λ (s : Start). s.number) is

pub ruleset list_laws = (by_list_is, no_list_number, grown_laws)

-- ---- one after the other

and_true : (b : Bool) → b && true ≡ b
and_true true = refl
and_true false = refl

and_and : (a b c : Bool) → a && (b && c) ≡ (a && b) && c
and_and true b c = refl
and_and false b c = refl

-- nothing was made before
ahead_none : (a : Answer lists.Starts) → ahead no_starts a ≡ a
ahead_none (Made s env) = refl
ahead_none (Refused rule at) = refl
ahead_none (Passed b most) = refl

-- so much of a list of plans is done, and the rest, which is not heavier, gives what the whole gives
pub record Going (k : ℕ → Elab Keeper) (whole : Answer lists.Starts) (begun : Table) (most : ℕ) (s : lists.Starts) (ps : List lists.Plan) (env : Env) : Type 0 where
  pub rest : ahead s (shut.all_carried_out k ps env) ≡ whole
  pub known : PlansKnown env.types ps
  pub grown : Grows begun env.types
  pub lighter : weights ps ≤ most

pub going_begin : (k : ℕ → Elab Keeper) (ps qs : List lists.Plan) (env : Env) (s : lists.Starts) → qs ≡ ps → s ≡ no_starts → PlansKnown env.types ps
    → Going k (shut.all_carried_out k ps env) env.types (weights ps) s qs env
going_begin k ps qs env s same none known =
    let all : Going k (shut.all_carried_out k ps env) env.types (weights ps) s ps env = record {
      rest = ap (λ s. ahead s (shut.all_carried_out k ps env)) none ∙ ahead_none (shut.all_carried_out k ps env);
      known = known;
      grown = grows-refl env.types;
      lighter = omega arith;
    } in
    subst (λ qs. Going k (shut.all_carried_out k ps env) env.types (weights ps) s qs env) (sym same) all

module _ (k : ℕ → Elab Keeper) (whole : Answer lists.Starts) (begun : Table) (most : ℕ) (s : lists.Starts) (env : Env) (qs : List lists.Plan) (going : Going k whole begun most s qs env) where
  pub going_end : qs ≡ [] → whole ≡ Made s env
  unfolding shut.all_carried_out
  going_end none =
      sym (subst (λ qs. ahead s (shut.all_carried_out k qs env) ≡ whole) none going.rest)
      ∙ (λ i. Made (record { nodes = append-nil s.nodes i; are_constant = and_true s.are_constant i }) env)

  module _ (p : lists.Plan) (ps : List lists.Plan) (is : qs ≡ p ∷ ps) where
    more : Going k whole begun most s (p ∷ ps) env
    more = subst (λ qs. Going k whole begun most s qs env) is going

    abbrev by_first : Answer Start → Answer lists.Starts
    by_first a = onward a (λ x env. ahead (one_more s x) (shut.all_carried_out k ps env))

    added : (x : Start) (a : Answer lists.Starts)
        → ahead s (onward a (λ (rest : lists.Starts) env. Made (record { nodes = x.node ∷ rest.nodes; are_constant = x.is_constant && rest.are_constant }) env)) ≡ ahead (one_more s x) a
    added x (Made rest env) = λ i. Made (record { nodes = sym (append_assoc s.nodes (x.node ∷ []) rest.nodes) i; are_constant = and_and s.are_constant x.is_constant rest.are_constant i }) env
    added x (Refused rule at) = refl
    added x (Passed b most) = refl

    first_added : (a : Answer Start)
        → ahead s (onward a (λ x env. onward (shut.all_carried_out k ps env) (λ (rest : lists.Starts) env. Made (record { nodes = x.node ∷ rest.nodes; are_constant = x.is_constant && rest.are_constant }) env)))
        ≡ by_first a
    first_added (Made x env) = added x (shut.all_carried_out k ps env)
    first_added (Refused rule at) = refl
    first_added (Passed b most) = refl

    pub going_opened : whole ≡ onward (shut.carried_out k p env) (λ x env. ahead (one_more s x) (shut.all_carried_out k ps env))
    unfolding shut.all_carried_out shut.carried_out
    going_opened = sym more.rest ∙ first_added (shut.carried_out k p env)

    pub going_on : (x : Start) (next : Env) (t : lists.Starts) → shut.carried_out k p env ≡ Made x next → Grows env.types next.types → t ≡ one_more s x → Going k whole begun most t ps next
    going_on x next t made grows same = record {
      rest = ap (λ s. ahead s (shut.all_carried_out k ps next)) same ∙ sym (going_opened ∙ ap by_first made);
      known = plans_grown env.types next.types grows ps more.known.1;
      grown = grows_through begun env.types next.types more.grown grows;
      lighter = let before = more.lighter in omega arith;
    }

    pub going_known : PlanKnown env.types p
    going_known = more.known.0

    pub going_lighter : weight p ≤ most
    going_lighter = let before = more.lighter in omega arith

-- nothing is taken from an empty list alone
pub nothing_left : {A : Type 0} (o : Option A) (xs : List A) (n : ℕ) → n ≡ length xs → ((a : A) → o ≡ Some a → ⊥) → (0 < n → IsSome o) → xs ≡ []
nothing_left o [] n long none some = refl
nothing_left None (x ∷ xs) n long none some = absurd (true≢false (sym (some (omega arith))))
nothing_left (Some a) (x ∷ xs) n long none some = absurd (none a refl)

pub ruleset all_laws = (grown_laws)
