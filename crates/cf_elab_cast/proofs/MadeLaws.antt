-- Values that casts make, and what is known of them.
use Rattle.std.proofs.Common.{◌≡◌, ℕ, Bool, true, false, if◌then◌else◌, Option, None, Some, ℤ, IsTrue, refl, sym, ap, subst, ◌∙◌}
use Rattle.cf_base.specs.declared.kind.Kind.TheVariants as kind
use Rattle.cf_core.specs.declared.node.Core.{Core as Node}
use Rattle.cf_core.specs.declared.node.Core.TheVariants as node
use Rattle.cf_types.specs.Table.{Table}
use Rattle.cf_elab.specs.Answer.{Answer, Made, Refused, gives, breaks}
use Rattle.cf_elab.specs.Env.{Env}
use Rattle.cf_elab.specs.Operand.{Value, Sort, sort_of, computed, enumeral}
use Rattle.cf_elab_env.specs.Holds.{Known, IsEnv, IsType, FitsIn, fits_sort}
use Rattle.cf_elab_numbers.specs.Numbers.{NumberOf}
use Rattle.cf_elab_arith.proofs.ChoiceLaws.ClassFree.{unused_node}
use Rattle.cf_elab_cast.specs.Same.{same}
use Rattle.cf_elab_cast.specs.Shut as shut
use Rattle.cf_elab_cast.specs.Forms.{IsEnumeral}

pub unnumbered : (types : Table) (v : Value) → IsType types v.type → v.number ≡ None → Known types v
unnumbered types v typed none = record { typed = typed; number = subst (FitsIn types v.type) (sym none) tt }

module _ (at t : ℕ) (x : Value) (env : Env) where
  abbrev retyped_if : Bool → Answer Value
  retyped_if b = (if b then gives (record x { type = t; number = None }) else breaks 17 at) env

  pub retyped_same : same env x.type t ≡ true → shut.retyped at t x env ≡ Made (record x { type = t; number = None }) env
  unfolding shut.retyped same
  retyped_same h = ap retyped_if h

  pub retyped_other : same env x.type t ≡ false → shut.retyped at t x env ≡ Refused 17 at
  unfolding shut.retyped same
  retyped_other h = ap retyped_if h

enumeral_fits : (s : Sort) (z : Option ℤ) → IsEnumeral s → NumberOf kind.Int z → (types : Table) (t : ℕ) → sort_of types t ≡ s → FitsIn types t z
enumeral_fits s None h f types t e = tt
enumeral_fits (enumeral n) (Some z) h f types t e = let P : Sort → Type 0 = λ s. IsTrue (fits_sort s z) in subst P (sym e) f
enumeral_fits s (Some z) h f types t e = absurd h

pub enumeration_known : (types : Table) (v : Value) → IsType types v.type → IsEnumeral (sort_of types v.type) → NumberOf kind.Int v.number → Known types v
enumeration_known types v typed wanted fits = record { typed = typed; number = enumeral_fits (sort_of types v.type) v.number wanted fits types v.type refl }

pub nothing_made : (at t : ℕ) (v : Value) (n : Node) (env : Env) → IsEnv env → IsType env.types v.type → n ≡ node.Convert at t v.node
    → shut.to_nothing at t v env ≡ Made (computed at n t) env
unfolding shut.to_nothing
nothing_made at t v n env e typed is =
    ap (λ n. Made (computed at (node.Convert at t n) t) env) (unused_node env v e typed) ∙ ap (λ n. Made (computed at n t) env) (sym is)

pub ruleset retyped_laws = (retyped_same, retyped_other, unnumbered)

pub ruleset nothing_laws = (nothing_made, unnumbered)
