-- Actions that change nothing: what they give, and what the C does for it.
use Rattle.std.specs.Prelude.{◌≡◌, ℕ, List, [], None, Some}
use Rattle.cf_base.specs.World.{World}
use Rattle.cf_core.specs.Run.{State}
use Rattle.cf_lower_layout.specs.Sorts.{Sort}
use Rattle.cf_plain.specs.Plain.{Register, Action, act, set}
use Rattle.cf_plain.specs.Acts.{Registers, acts}
use Rattle.cf_plain.specs.Running.{calls}
use Rattle.cc_whole.specs.Plain.{Expression}
use Rattle.cc_whole_memory.specs.Blocks.{Memory}
use Rattle.cc_whole_mean.specs.Values.{value_of, source_of}
use Rattle.cc_whole_mean.specs.Flow as c
use Rattle.cf_lower.specs.Kept.{Kept, unknown, Keeping, local_kept, kept_by}
use Rattle.cf_lower.specs.Expressions.{value, zero}
use Rattle.cf_lower.specs.Statements.{lowered, put_in}
use Rattle.cf_lower_steps.specs.Steps.{Step}
use Rattle.cf_lower_turns.specs.Around.{Around, depth_of, inside_at}
use Rattle.cf_lower_turns.specs.Here.{Here}
use Rattle.cf_lower_turns.specs.Scene.{Scene, fixed_in, again_at}

module _ (z : Scene) (around : Around Keeping) (p : Keeping) where
  -- The action gives what the expression does, which is no load. The C assigns it where the value is kept, and does nothing where it is not.
  pub record Given (a : Action) : Type 0 where
    pub kept : Kept
    pub is : kept_by z.inside.locals p a ≡ kept
    pub sort : Sort
    pub local : local_kept kept ≡ Some sort
    pub expression : Expression
    pub no_load : (m : Memory) → source_of expression z.body.scope m ≡ None
    pub expressed : value z.inside.classes z.inside.function z.inside.locals p a ≡ expression
    pub assigned : (r : Register) → lowered (set r a) (inside_at z.inside around) p
        ≡ put_in (inside_at z.inside around) (local_kept (kept_by z.inside.locals p a)) r (value z.inside.classes z.inside.function z.inside.locals p a)
    pub dropped : lowered (act a) (inside_at z.inside around) p ≡ []
    pub step : (n : ℕ) (g : Registers) (s : State) (t : c.State) (w : World) (h : Here (fixed_in z) z.body p (depth_of around) g s t)
        → Step (fixed_in z) h.map (acts (calls (again_at z n)) z.program g a s w) s w kept (value_of expression z.body.scope t.memory)

  -- The action gives what nothing is kept of, and the C does nothing.
  pub record Silent (a : Action) : Type 0 where
    pub kept : Kept
    pub is : kept_by z.inside.locals p a ≡ kept
    pub local : local_kept kept ≡ None
    pub set_by_none : (r : Register) → lowered (set r a) (inside_at z.inside around) p ≡ []
    pub dropped : lowered (act a) (inside_at z.inside around) p ≡ []
    pub step : (n : ℕ) (g : Registers) (s : State) (t : c.State) (w : World) (h : Here (fixed_in z) z.body p (depth_of around) g s t)
        → Step (fixed_in z) h.map (acts (calls (again_at z n)) z.program g a s w) s w unknown (value_of zero z.body.scope t.memory)
