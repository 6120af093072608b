-- The entities that a function's name may have.
use Rattle.std.proofs.Common.{◌≡◌, ℕ, Bool, true, false, List, Option, None, Some, slice_get, refl, sym, ap, ◌∙◌}
use Rattle.cf_elab.specs.Answer.{Made, Refused, need}
use Rattle.cf_elab.specs.Env.{Env, Entity, functions}
use Rattle.cf_elab_functions.specs.Shut as shut

abbrev is_set : Option Entity → Bool
is_set (Some (functions fs)) = true
is_set other = false

module _ (env : Env) (here : Option ℕ) (at : ℕ) where
  pub set_fine : shut.is_function_set env here ≡ true → shut.need_set here at env ≡ Made tt env
  unfolding shut.need_set shut.is_function_set
  set_fine h = ap (λ b. need b 8 at env) h

  pub set_wrong : shut.is_function_set env here ≡ false → shut.need_set here at env ≡ Refused 8 at
  unfolding shut.need_set shut.is_function_set
  set_wrong h = ap (λ b. need b 8 at env) h

pub nothing_set : (env : Env) (here : Option ℕ) → here ≡ None → true ≡ shut.is_function_set env here
unfolding shut.is_function_set
nothing_set env here is = sym (ap (shut.is_function_set env) is)

pub functions_set : (env : Env) (here : Option ℕ) (e : ℕ) (x : Entity) (fs : List ℕ) → here ≡ Some e → slice_get env.entities e ≡ Some x → x ≡ functions fs → true ≡ shut.is_function_set env here
unfolding shut.is_function_set
functions_set env here e x fs is has set = sym (ap (shut.is_function_set env) is ∙ ap is_set has ∙ ap (λ x. is_set (Some x)) set)

pub other_set : (env : Env) (here : Option ℕ) (e : ℕ) (x : Entity) → here ≡ Some e → slice_get env.entities e ≡ Some x → ((fs : List ℕ) → x ≡ functions fs → ⊥)
    → false ≡ shut.is_function_set env here
unfolding shut.is_function_set
other_set env here e x is has other = sym (ap (shut.is_function_set env) is ∙ ap is_set has ∙ by x other)
  where
    by : (x : Entity) → ((fs : List ℕ) → x ≡ functions fs → ⊥) → is_set (Some x) ≡ false
    by (functions fs) other = absurd (other fs refl)
    by x other = refl

pub ruleset set_laws = (set_fine, set_wrong)

pub ruleset entity_laws = (nothing_set, functions_set, other_set)
