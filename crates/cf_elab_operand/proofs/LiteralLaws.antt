-- Constants and string literals.
use Rattle.std.proofs.Common.{◌≡◌, ℕ, ◌+◌, true, List, [], ◌∷◌, ◌++◌, length, ℤ, None, IsTrue, refl, sym, ap, subst, length-append}
use Rattle.cf_base.specs.declared.kind.Kind.{Kind}
use Rattle.cf_base.specs.declared.kind.Kind.TheVariants as kind
use Rattle.cf_base.specs.Integers.{fits}
use Rattle.cf_types.specs.Table.{Table}
use Rattle.cf_core.specs.declared.node.Core.TheVariants as node
use Rattle.cf_elab.specs.Answer.{Answer, Made, onward}
use Rattle.cf_elab.specs.Env.{Env}
use Rattle.cf_elab.specs.Made.{of_kind, array_of}
use Rattle.cf_elab.specs.Operand.{Value, value, constant, place_of, sort_of, integral}
use Rattle.cf_elab_arith.proofs.ArithLaws.Known.{integer_known}
use Rattle.cf_elab_env.specs.Holds.{Known, IsType, FitsIn}
use Rattle.cf_elab_env.specs.Shut as made
use Rattle.cf_elab_env.proofs.Growth.{grown_laws}
use Rattle.cf_elab_operand.specs.Shut as shut

pub integer_is : (at : ℕ) (z : ℤ) (k : Kind) (env : Env) → shut.integer at z k env ≡ onward (made.of_kind k env) (λ t env. Made (value (constant at z t)) env)
unfolding shut.integer made.of_kind
integer_is at z k env = refl

pub constant_known : (types : Table) (at t : ℕ) (z : ℤ) (k : Kind) (v : Value) → IsType types t → sort_of types t ≡ integral k → IsTrue (fits k z) → v ≡ constant at z t → Known types v
constant_known types at t z k v typed sort fit is = subst (Known types) (sym is) (integer_known types (constant at z t) k typed sort fit)

pub text_is : (at n : ℕ) (bytes : List ℕ) (env : Env)
    → shut.text_value at n bytes env
    ≡ onward (made.of_kind kind.Char env) (λ c e. onward (made.array_of c (length bytes) e) (λ t f. Made (place_of at (node.Text at n bytes) t true) f))
unfolding shut.text_value made.of_kind made.array_of
text_is at n bytes env = refl

-- with the number that it takes, and a 0 at its end
pub literal_is : (at : ℕ) (bytes : List ℕ) (env : Env)
    → shut.literal at bytes env
    ≡ onward (shut.text_value at env.hand.literals (bytes ++ 0 ∷ []) (record env { hand = record env.hand { literals = env.hand.literals + 1 } })) (λ v e. Made (value v) e)
unfolding shut.literal shut.text_value
literal_is at bytes env =
    ap (λ n. onward (onward (of_kind kind.Char counted) (λ c e. onward (array_of c n e) typed)) (λ v e. Made (value v) e)) (sym (length-append bytes (0 ∷ [])))
  where
    counted : Env
    counted = record env { hand = record env.hand { literals = env.hand.literals + 1 } }

    typed : ℕ → Env → Answer Value
    typed t e = Made (place_of at (node.Text at env.hand.literals (bytes ++ 0 ∷ [])) t true) e

pub place_known : (types : Table) (v : Value) → IsType types v.type → v.number ≡ None → Known types v
place_known types v typed none = record { typed = typed; number = subst (λ n. FitsIn types v.type n) (sym none) tt }

pub ruleset integer_laws = (integer_is, constant_known)

pub ruleset text_laws = (text_is, place_known, grown_laws)

pub ruleset literal_laws = (literal_is, grown_laws)
