-- Arrays whose initialiser gives the bound (8.2.4).
use Rattle.std.proofs.Common.{ℕ, Option, Some, None, refl}
use Rattle.cf_types.specs.declared.ty.Ty.TheVariants as ty
use Rattle.cf_elab.specs.Declaration.{Initial, outline, bound_given}
use Rattle.cf_elab.specs.Env.{Env}
use Rattle.cf_elab.specs.Lists.{count_in}
use Rattle.cf_elab.specs.Made.{array_of}
use Rattle.cf_elab_valid.specs.Answers.{Fine}
use Rattle.cf_elab_valid.specs.Scene.{Scene, Inside, Classless, Holds}
use Rattle.cf_elab_valid.proofs.Making.{IsType, intern-fine}
use Rattle.cf_elab_valid.proofs.Ways.{fine-as, When}

module _ (s : Scene) (at u : ℕ) where
  abbrev pub IsBound : ℕ → Env → Type 0
  IsBound a f = Inside f a

  counted-fine : (n : ℕ) (e : Env) → Classless e → When s e (Holds s e) → Fine s IsBound e (array_of u n e)
  counted-fine n e c h = fine-as s (IsType (ty.Array u n)) IsBound e (array_of u n e) (λ a f is. is.inside) (intern-fine s (ty.Array u n) e refl (λ w. tt) c h)

  pub bound-fine : (w : Option Initial) (e : Env) → Classless e → When s e (Holds s e) → Fine s IsBound e (bound_given at u w e)
  bound-fine None e c h = tt
  bound-fine (Some w) e c h = counted-fine (count_in e.types u (outline w)) e c h
