-- When an action and its C expression make a leaf of the statements of a function.
use Rattle.std.specs.Prelude.{◌≡◌, ℕ, ◌<◌, Some, None}
use Rattle.cf_base.specs.World.{World}
use Rattle.cf_core.specs.Run.{State}
use Rattle.cf_lower_layout.specs.Sorts.{Sort}
use Rattle.cf_plain.specs.Plain.{Register, Action, set}
use Rattle.cf_plain.specs.Acts.{Registers, acts}
use Rattle.cf_plain.specs.Running.{calls}
use Rattle.cc_whole.specs.Plain.{Expression}
use Rattle.cc_whole_memory.specs.Blocks.{Memory}
use Rattle.cc_whole_mean.specs.Values.{value_of, source_of}
use Rattle.cc_whole_mean.specs.Flow as c
use Rattle.cf_lower.specs.Kept.{Kept, Keeping, local_kept, kept_by}
use Rattle.cf_lower.specs.Statements.{lowered, put_in}
use Rattle.cf_lower_steps.specs.Steps.{Step}
use Rattle.cf_lower_turns.specs.Around.{Around, depth_of, inside_at}
use Rattle.cf_lower_turns.specs.Here.{Here}
use Rattle.cf_lower_turns.specs.Scene.{Scene, fixed_in, again_at}

module _ (z : Scene) (around : Around Keeping) (p : Keeping) where
  -- The action gives what the expression does, and changes nothing; the C assigns the expression to the C local of the register.
  pub record SetBy (r : Register) (a : Action) : Type 0 where
    pub kept : Kept
    pub is : kept_by z.inside.locals p a ≡ kept
    pub sort : Sort
    pub local : local_kept kept ≡ Some sort
    pub expression : Expression
    pub no_load : (m : Memory) → source_of expression z.body.scope m ≡ None
    pub written : lowered (set r a) (inside_at z.inside around) p ≡ put_in (inside_at z.inside around) (Some sort) r expression
    pub step : (n : ℕ) (g : Registers) (s : State) (t : c.State) (w : World) (h : Here (fixed_in z) z.body p (depth_of around) g s t)
        → Step (fixed_in z) h.map (acts (calls (again_at z n)) z.program g a s w) s w kept (value_of expression z.body.scope t.memory)
