-- What a declaration initialises its object by, step by step.
use Rattle.std.proofs.Common.{◌≡◌, ℕ, Bool, true, false, not, ◌&&◌, ◌||◌, List, [], ◌∷◌, ℤ, Option, None, Some, is_some, option_map, refl, sym, ap, subst, ◌∙◌}
use Rattle.cf_types.specs.Table.{Table}
use Rattle.cf_classes.specs.TypeTree.{class_in}
use Rattle.cf_convert.specs.Constness.{type_at}
use Rattle.cf_core.specs.declared.node.Core.TheVariants as node
use Rattle.cf_elab.specs.Answer.{Answer, Elab, Made, Refused, onward, need}
use Rattle.cf_elab.specs.Env.{Env, Name}
use Rattle.cf_elab.specs.Initial.{Start, Keeper, fixed_start}
use Rattle.cf_elab.specs.Lists as lists
use Rattle.cf_elab.specs.Members.{class_number}
use Rattle.cf_elab.specs.Objects as objects
use Rattle.cf_elab.specs.Objects.{Written, written_place, equals, bracketed}
use Rattle.cf_elab.specs.Operand.{sort_of}
use Rattle.cf_elab_env.specs.Holds.{FitsIn, Grows, IsEnv, IsType}
use Rattle.cf_elab_env.specs.Seen.{sort_seen}
use Rattle.cf_elab_env.specs.declared.sort.Sort.{Sort as FoundSort}
use Rattle.cf_elab_env.proofs.Growth.{grown_laws}
use Rattle.cf_elab_env.proofs.Sorts.{no_class_in}
use Rattle.cf_elab_fit.proofs.TruthLaws.{no_class_sort}
use Rattle.cf_elab_initial.specs.Lists.Shut as planning
use Rattle.cf_elab_objects.specs.Objects.Shut as declaring
use Rattle.cf_elab_initial.specs.Lists.Known.{TreeKnown, PlanKnown, NumberFits}
use Rattle.cf_elab_declare.specs.Starts.Shut as shut
use Rattle.cf_elab_declare.specs.Starts.Written.{written_seen, is_bracketed, one_of, WrittenKnown, GivenKnown}
use Rattle.cf_elab_declare.specs.declared.starts.written.Written.{Written as HeldWritten}
use Rattle.cf_elab_initial.proofs.ListsLaws.PlansKnown.{one_known, one_number}

-- ---- by one initialiser

module _ (env : Env) (at t : ℕ) (x : lists.Tree) (p : lists.Plan) (is : p ≡ planning.by_one env.types t at x) where
  pub by_plan : (k : ℕ → Elab Keeper) → shut.start_by k at t x env ≡ shut.carried_out k p env
  unfolding shut.start_by shut.carried_out planning.by_one
  by_plan k = ap (λ p. shut.carried_out k p env) (sym is)

  pub plan_known : IsEnv env → IsType env.types t → TreeKnown env.types x → PlanKnown env.types p
  plan_known e typed known = subst (PlanKnown env.types) (sym is) (one_known env e t at x typed known)

  pub plan_number : IsEnv env → IsType env.types t → (b : Table) (z : Option ℤ) → Grows env.types b → NumberFits b p z → FitsIn b t z
  plan_number e typed b z g h = one_number env e b g t typed z at x (subst (λ p. NumberFits b p z) is h)

pub ruleset start_laws = (by_plan, plan_known, plan_number)

-- ---- by what is written

module _ (k : ℕ → Elab Keeper) (t : ℕ) (w : Written) (env : Env) (s : FoundSort) (sorted : sort_seen s ≡ sort_of env.types t) where
  no_class : class_number (sort_of env.types t) ≡ None
  no_class = ap class_number (sym sorted) ∙ no_class_sort s

  opened : shut.initialised k t w env ≡ objects.other_initialised k t w env
  unfolding shut.initialised
  opened = ap (λ c. objects.by_class k t w c env) no_class

  abbrev bracketed_by : ℕ → List lists.Tree → Bool → Answer Start
  bracketed_by at ts b = onward (need (not b) 28 at env) (λ _ env. onward (objects.one_tree (bracketed at ts) env) (λ x. lists.start_by k at t x))

  pub array_bracketed : is_bracketed w && objects.is_array_ty (type_at env.types t) ≡ true → shut.initialised k t w env ≡ Refused 28 (written_place w)
  array_bracketed h = opened ∙ by w h
    where
      by : (w : Written) → is_bracketed w && objects.is_array_ty (type_at env.types t) ≡ true → objects.other_initialised k t w env ≡ Refused 28 (written_place w)
      by (equals at x) h = cc
      by (bracketed at ts) h = ap (bracketed_by at ts) h

  pub one_written : (x : lists.Tree) → is_bracketed w && objects.is_array_ty (type_at env.types t) ≡ false → one_of w ≡ Some x
      → shut.initialised k t w env ≡ shut.start_by k (written_place w) t x env
  unfolding shut.start_by
  one_written x h one = opened ∙ by w h one
    where
      by : (w : Written) → is_bracketed w && objects.is_array_ty (type_at env.types t) ≡ false → one_of w ≡ Some x
          → objects.other_initialised k t w env ≡ lists.start_by k (written_place w) t x env
      by (equals at y) h one = let same : y ≡ x = cc in ap (λ x. lists.start_by k at t x env) same
      by (bracketed at (y ∷ [])) h one = let same : y ≡ x = cc in ap (bracketed_by at (y ∷ [])) h ∙ ap (λ x. lists.start_by k at t x env) same
      by (bracketed at []) h one = cc
      by (bracketed at (y ∷ z ∷ ys)) h one = cc

  pub not_one_written : is_bracketed w && objects.is_array_ty (type_at env.types t) ≡ false → one_of w ≡ None → shut.initialised k t w env ≡ Refused 28 (written_place w)
  not_one_written h one = opened ∙ by w h one
    where
      by : (w : Written) → is_bracketed w && objects.is_array_ty (type_at env.types t) ≡ false → one_of w ≡ None
          → objects.other_initialised k t w env ≡ Refused 28 (written_place w)
      by (equals at y) h one = cc
      by (bracketed at (y ∷ [])) h one = cc
      by (bracketed at []) h one = ap (bracketed_by at []) h
      by (bracketed at (y ∷ z ∷ ys)) h one = ap (bracketed_by at (y ∷ z ∷ ys)) h

pub one_tree_known : (types : Table) (w : Written) (x : lists.Tree) → one_of w ≡ Some x → WrittenKnown types w → TreeKnown types x
one_tree_known types (equals at y) x is known = let same : y ≡ x = cc in subst (TreeKnown types) same known
one_tree_known types (bracketed at (y ∷ [])) x is known = let same : y ≡ x = cc in subst (TreeKnown types) same known.0
one_tree_known types (bracketed at []) x is known = cc
one_tree_known types (bracketed at (y ∷ z ∷ ys)) x is known = cc

pub ruleset written_laws = (array_bracketed, one_written, not_one_written, one_tree_known)

-- ---- by nothing

module _ (at t : ℕ) (env : Env) (e : IsEnv env) (typed : IsType env.types t) where
  no_class_held : class_in env.types t ≡ None
  no_class_held = no_class_in env.types e.table e.no_class_type t typed

  pub default_made : (s : Start) → s ≡ fixed_start (node.Blank at) true → shut.default_object at t env ≡ Made s env
  unfolding shut.default_object
  default_made s is = rw (no_class_held, no_class_held) (ap (λ s. Made s env) (sym is))

  pub needed : objects.needs_initialiser env t ≡ true → shut.without_initialiser at t env ≡ Refused 28 at
  unfolding shut.without_initialiser
  needed h = ap (λ (c : Option ℕ). onward (need (is_some c || not (objects.needs_initialiser env t)) 28 at env) (λ _. objects.default_object at t)) no_class_held
      ∙ ap (λ b. onward (need (not b) 28 at env) (λ _. objects.default_object at t)) h

  pub not_needed : (s : Start) → objects.needs_initialiser env t ≡ false → shut.default_object at t env ≡ Made s env → shut.without_initialiser at t env ≡ Made s env
  unfolding shut.without_initialiser shut.default_object
  not_needed s h made = ap (λ (c : Option ℕ). onward (need (is_some c || not (objects.needs_initialiser env t)) 28 at env) (λ _. objects.default_object at t)) no_class_held
      ∙ ap (λ b. onward (need (not b) 28 at env) (λ _. objects.default_object at t)) h ∙ made

pub blank_number : (at : ℕ) (s : Start) → s ≡ fixed_start (node.Blank at) true → s.number ≡ None
blank_number at s is = ap (λ (s : Start). s.number) is

pub ruleset default_laws = (default_made, blank_number)

pub ruleset without_laws = (needed, not_needed)

-- ---- by what is written or by nothing

pub something_written : (k : ℕ → Elab Keeper) (at t : ℕ) (w : HeldWritten) (o : Option HeldWritten) (env : Env) → o ≡ Some w
    → shut.start_or_none k at t (option_map written_seen o) env ≡ shut.initialised k t (written_seen w) env
unfolding shut.start_or_none shut.initialised
something_written k at t w o env is = ap (λ o. objects.start_or_none k at t (option_map written_seen o) env) is

pub nothing_written : (k : ℕ → Elab Keeper) (at t : ℕ) (o : Option HeldWritten) (env : Env) → o ≡ None
    → shut.start_or_none k at t (option_map written_seen o) env ≡ shut.without_initialiser at t env
unfolding shut.start_or_none shut.without_initialiser
nothing_written k at t o env is = ap (λ o. objects.start_or_none k at t (option_map written_seen o) env) is

pub something_known : (types : Table) (w : HeldWritten) (o : Option HeldWritten) → o ≡ Some w → GivenKnown types (option_map written_seen o) → WrittenKnown types (written_seen w)
something_known types w o is known = subst (λ o. GivenKnown types (option_map written_seen o)) is known

pub unnumbered_fits : (types : Table) (t : ℕ) (z : Option ℤ) → z ≡ None → FitsIn types t z
unnumbered_fits types t z none = subst (FitsIn types t) (sym none) tt

pub ruleset none_laws = (something_written, nothing_written, something_known, unnumbered_fits, grown_laws)

pub started_is : (k : ℕ → Elab Keeper) (name : Name) (at t : ℕ) (w : Option Written) (env : Env)
    → shut.started k name at t w env
    ≡ onward (shut.start_or_none k at t w env) (λ s env. onward (declaring.number_known name (objects.constant_number env t s.number) env) (λ _ env. Made s env))
unfolding shut.started shut.start_or_none declaring.number_known
started_is k name at t w env = refl

pub ruleset started_laws = (started_is, grown_laws)

-- ---- constants

module _ (at : ℕ) (s : Start) (env : Env) where
  pub is_constant : env.extent.computed || s.is_constant ≡ true → shut.check_constant at s env ≡ Made tt env
  unfolding shut.check_constant
  is_constant h = ap (λ b. need b 48 at env) h

  pub is_computed : env.extent.computed || s.is_constant ≡ false → shut.check_constant at s env ≡ Refused 48 at
  unfolding shut.check_constant
  is_computed h = ap (λ b. need b 48 at env) h

pub ruleset constant_laws = (is_constant, is_computed)
