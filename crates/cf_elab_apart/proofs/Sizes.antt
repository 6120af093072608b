-- `sizeof` is a number, whatever it is of (5.3.2).
use Rattle.std.proofs.Common.{◌≡◌, ℕ, not, pos}
use Rattle.cf_base.specs.declared.kind.Kind.TheVariants as kind
use Rattle.cf_elab.specs.Answer.{Answer, Made, Refused, Passed, Elab, onward, need}
use Rattle.cf_elab.specs.Complete.{complete, bytes_of}
use Rattle.cf_elab.specs.Env.{Env}
use Rattle.cf_elab.specs.Expression as expression
use Rattle.cf_elab.specs.Made.{of_kind}
use Rattle.cf_elab.specs.Operand.{Value, value, Part, constant, sort_of, evaluated}
use Rattle.cf_elab.specs.Unary as row
use Rattle.cf_elab.specs.Unary.{is_unsized, referred_type}
use Rattle.cf_elab_valid.specs.Scene.{Scene}
use Rattle.cf_elab_apart.specs.Apart.{Apart, OperandApart}
use Rattle.cf_elab_apart.proofs.Alike.{alike-Number}
use Rattle.cf_elab_apart.proofs.Answers.{Known, known-onward, Tells, tells-known}
use Rattle.cf_elab_apart.proofs.Settled.{alike-apart}

module _ (s : Scene) where
  object-known : (at t : ℕ) (e : Env) → Known (Apart s) (row.size_of_object at t e)
  object-known at t e =
      known-onward (Apart s) (need (not (is_unsized (sort_of e.types t))) 18 at e) _
      (λ _ f. known-onward (Apart s) (need (complete e t) 30 at f) _
      (λ _ g. known-onward (Apart s) (of_kind kind.UInt g) (λ u k. Made (constant at (pos (bytes_of e t)) u) k) (λ u k. alike-apart s (constant at (pos (bytes_of e t)) u) (alike-Number s at (pos (bytes_of e t))))))

  constant-known : (at t : ℕ) (e : Env) → Known (OperandApart s) (expression.one (row.size_constant at t) e)
  constant-known at t e = by (row.size_of_object at (referred_type t (sort_of e.types t)) e) (object-known at (referred_type t (sort_of e.types t)) e)
    where
      by : (r : Answer Value) → Known (Apart s) r → Known (OperandApart s) (onward r (λ v g. Made (value v) g))
      by (Made v f) k = k
      by (Refused rule place) k = tt
      by (Passed bound most) k = tt

  pub size-tells : (at : ℕ) (type : Elab ℕ) (e : Env) → Tells s (OperandApart s) (onward (type e) (λ u. expression.one (row.size_constant at u)))
  size-tells at type e = tells-known s (OperandApart s) _ (known-onward (OperandApart s) (type e) (λ u. expression.one (row.size_constant at u)) (λ u f. constant-known at u f))

  pub size_of_part-tells : (at : ℕ) (p : Part) (e : Env) → Tells s (OperandApart s) (expression.size_of_part at p e)
  size_of_part-tells at p e = tells-known s (OperandApart s) _ (known-onward (OperandApart s) (evaluated p e) _ (λ v f. constant-known at v.type (record f { hand = record f.hand { literals = e.hand.literals } })))
