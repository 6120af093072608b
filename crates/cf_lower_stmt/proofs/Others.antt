-- An action that is no call, kept in a register.
use Rattle.std.proofs.Common.{◌≡◌, ℕ, List, Option, refl}
use Rattle.cf_core.specs.Types.{Name}
use Rattle.cf_plain.specs.declared.action.Action.{Action as CodeAction}
use Rattle.cf_plain.specs.declared.action.Action.TheVariants as code
use Rattle.cf_lower.specs.Kept.{Keeping}
use Rattle.cf_lower.specs.Statements.{Inside, kept}
use Rattle.cf_lower_held.specs.declared.scene.Scene.{Scene}
use Rattle.cf_lower_held.specs.Scenes.{action_in}
use Rattle.cf_lower_stmt.specs.Steps.{value_kept}

pub other_kept : (x : Scene) (i : Inside) (g : Keeping) (r : ℕ) (a : CodeAction)
    → ((f : Name) (t : ℕ) (o : Option ℕ) (is : List ℕ) (into : Option ℕ) → a ≡ code.Call f t o is into → ⊥)
    → ((o : Option ℕ) (q t : ℕ) (is : List ℕ) (into : Option ℕ) → a ≡ code.PointerCall o q t is into → ⊥)
    → value_kept i g r (action_in x a) ≡ kept i g r (action_in x a)
other_kept x i g r (code.Call f t o is into) by_name through = absurd (by_name f t o is into refl)
other_kept x i g r (code.PointerCall o q t is into) by_name through = absurd (through o q t is into refl)
other_kept x i g r a by_name through = refl
