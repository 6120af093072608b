-- A run, and what its value leads to.
use Rattle.cf_base.specs.World.{Ran, and_then}
use Rattle.cf_core.specs.Run.{Did, Act, onward}

abbrev pub ◌▷◌ : {A B : Type 0} → Ran (Did A) → (A → Act B) → Ran (Did B)
◌▷◌ r go = and_then r (λ did w. onward did go w)

infixl 1 ◌▷◌
