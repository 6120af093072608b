-- `sizeof`: the bytes of types, and the literals of its operand, which are none of the function's.
use Rattle.std.proofs.Common.{◌≡◌, ℕ, ◌<◌, ◌^◌, Bool, true, false, not, [], pos, refl, sym, ap, ◌∙◌, arith}
use Rattle.std.proofs.lemmas.Bool.Decides.{nat_tests}
use Rattle.cf_base.specs.declared.kind.Kind.TheVariants as kind
use Rattle.cf_types.specs.Table.{Table}
use Rattle.cf_classes.specs.ClassTable.{latest_first}
use Rattle.cf_classes.specs.Layout.{extent}
use Rattle.cf_elab.specs.Answer.{Answer, Made, Refused, Passed, onward, need}
use Rattle.cf_elab.specs.Complete.{complete, bytes_of}
use Rattle.cf_elab.specs.Env.{Env}
use Rattle.cf_elab.specs.Expression as expression
use Rattle.cf_elab.specs.Operand.{Value, Operand, Part, value, value_of, constant, sort_of, integral}
use Rattle.cf_elab.specs.Unary as unary
use Rattle.cf_elab_env.specs.Holds.{Known, IsType}
use Rattle.cf_elab_env.specs.Shut as made
use Rattle.cf_elab_env.proofs.Growth.{grown_laws}
use Rattle.cf_elab_operand.specs.Shut as shut
use Rattle.cf_elab_operand.proofs.LiteralLaws.{constant_known}

-- ---- what has a size

module _ (at t : ℕ) (env : Env) where
  abbrev by_tests : Bool → Bool → Answer (Unit {0})
  by_tests u c = onward (need (not u) 18 at env) (λ _ env. need c 30 at env)

  pub unsized : unary.is_unsized (sort_of env.types t) ≡ true → shut.need_sized at t env ≡ Refused 18 at
  unfolding shut.need_sized
  unsized u = ap (λ u. by_tests u (complete env t)) u

  pub incomplete : unary.is_unsized (sort_of env.types t) ≡ false → complete env t ≡ false → shut.need_sized at t env ≡ Refused 30 at
  unfolding shut.need_sized
  incomplete u c = ap (λ u. by_tests u (complete env t)) u ∙ ap (by_tests false) c

  pub sized : unary.is_unsized (sort_of env.types t) ≡ false → complete env t ≡ true → shut.need_sized at t env ≡ Made tt env
  unfolding shut.need_sized
  sized u c = ap (λ u. by_tests u (complete env t)) u ∙ ap (by_tests false) c

  -- ---- the size

  pub size_of_object_is : shut.size_of_object at t env ≡ onward (shut.need_sized at t env) (λ _ e. onward (made.unsigned_int e) (λ u f. Made (constant at (pos (bytes_of env t)) u) f))
  unfolding shut.size_of_object shut.need_sized made.unsigned_int
  size_of_object_is = by (unary.is_unsized (sort_of env.types t)) (complete env t)
    where
      sized_then : Env → Answer Value
      sized_then e = onward (made.unsigned_int e) (λ u f. Made (constant at (pos (bytes_of env t)) u) f)

      by : (u c : Bool) → onward (need (not u) 18 at env) (λ _ e. onward (need c 30 at e) (λ _ e. sized_then e)) ≡ onward (by_tests u c) (λ _ e. sized_then e)
      by true c = refl
      by false true = refl
      by false false = refl

  pub size_constant_is : shut.size_constant at t env ≡ shut.size_of_object at (unary.referred_type t (sort_of env.types t)) env
  unfolding shut.size_constant shut.size_of_object
  size_constant_is = refl

pub bytes_are : (env : Env) (t n : ℕ) → env.classes.defined ≡ [] → n ≡ (extent env.types [] t).size → n ≡ bytes_of env t
bytes_are env t n none is = is ∙ ap (λ ds. (extent env.types ds t).size) (sym (ap (λ d. latest_first (record env.classes { defined = d })) none))

pub size_known : (types : Table) (at t n : ℕ) (v : Value) → IsType types t → sort_of types t ≡ integral kind.UInt → n < 2 ^ 32 → v ≡ constant at (pos n) t → Known types v
size_known types at t n v typed sort small is = constant_known types at t (pos n) kind.UInt v typed sort (grind (arith, nat_tests)) is

-- ---- behind an operand

pub size_behind_is : (at n : ℕ) (o : Operand) (env : Env)
    → shut.size_behind at n o env
    ≡ onward (shut.value_of o env) (λ v e. onward (shut.size_constant at v.type (record e { hand = record e.hand { literals = n } })) (λ s f. Made (value s) f))
unfolding shut.size_behind shut.value_of shut.size_constant
size_behind_is at n o env = refl

-- of a whole operand: what is kept before it, and what is set behind it
pub size_of_part_is : (at : ℕ) (a : Part) (env : Env) → expression.size_of_part at a env ≡ onward (a.run env) (λ o e. shut.size_behind at env.hand.literals o e)
unfolding shut.size_behind
size_of_part_is at a env = by (a.run env)
  where
    behind : Operand → Env → Answer Operand
    behind o e = shut.size_behind at env.hand.literals o e

    sized : Value → Env → Answer Operand
    sized v e = onward (unary.size_constant at v.type (record e { hand = record e.hand { literals = env.hand.literals } })) (λ s f. Made (value s) f)

    by : (r : Answer Operand) → onward (onward r value_of) sized ≡ onward r behind
    by (Made o e) = refl
    by (Refused rule p) = refl
    by (Passed b m) = refl

pub ruleset sized_laws = (unsized, incomplete, sized)

pub ruleset object_laws = (size_of_object_is, size_known, grown_laws)

pub ruleset size_laws = (size_constant_is, grown_laws)

pub ruleset bytes_laws = (bytes_are)

pub ruleset behind_laws = (size_behind_is, grown_laws)
