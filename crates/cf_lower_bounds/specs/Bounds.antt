-- What the statements of a function need, where those that are no control do the same at every bound of ticks up to one: as calls do, by what is called.
use Rattle.std.specs.Prelude.{◌≡◌, ℕ, ◌≤◌, ℤ, Some}
use Rattle.cf_base.specs.World.{World, Ran}
use Rattle.cf_core.specs.Store as source
use Rattle.cf_core.specs.Run.{State, Act}
use Rattle.cf_plain.specs.Plain.{Register, Plain, Plains}
use Rattle.cf_plain.specs.Acts.{Registers}
use Rattle.cf_plain.specs.Running.{Flow, does}
use Rattle.cc_whole_mean.specs.Flow as c
use Rattle.cf_lower.specs.Kept.{after}
use Rattle.cf_lower.specs.Statements.{lowered}
use Rattle.cf_lower_steps.specs.Flows.{Simulates, Ways}
use Rattle.cf_lower_turns.specs.Around.{Around, depth_of, inside_at}
use Rattle.cf_lower_turns.specs.Here.{Narrows}
use Rattle.cf_lower_turns.specs.Ways.{ends}
use Rattle.cf_lower_turns.specs.Scene.{Scene, fixed_in, again_at, list_at}
use Rattle.cf_lower_place.specs.Input.{IsInput}
use Rattle.cf_lower_bounds.specs.Needs as needs
use Rattle.cf_lower_bounds.specs.Points.{StandsAs, Point, local_count, At, Returned}

module _ (z : Scene) where
  -- how both end: at this point, at those of what stands around, or by a return
  abbrev pub EndsAt : Around Point → Point → Ways
  EndsAt around q = ends Point z.body.scope (At z) (Returned z) around q

  -- from the first point both do the same with an input of bytes, and come to the second or leave
  abbrev pub SameAt : Point → Around Point → Point → (Registers → Act Flow) → (c.State → World → Ran c.Flow) → Type 0
  SameAt p around q f go =
      (g : Registers) (s : State) (t : c.State) (w : World) → At z p (depth_of around) g s t → IsInput w.input
      → Simulates (EndsAt around q) (f g s w) (go t w)

  -- what is so at the first is so at the second
  abbrev pub LiesWithin : Point → Point → Type 0
  LiesWithin p q = (d : ℕ) (g : Registers) (s : State) (t : c.State) → At z p d g s t → At z q d g s t

  -- what registers hold is told at the second point too, and so is what stands
  pub record TellsAll (p q : Point) : Type 0 where
    pub registers : Narrows (fixed_in z) z.body p.kept q.kept
    pub standing : (g : Registers) (s : State) → StandsAs (local_count z) p.standing g s → StandsAs (local_count z) q.standing g s

  -- so it is where a register holds a number
  pub record TellsAllBy (r : Register) (n : ℤ) (p q : Point) : Type 0 where
    pub registers : Narrows (fixed_in z) z.body p.kept q.kept
    pub standing : (g : Registers) (s : State) → g r ≡ Some (source.Number n) → StandsAs (local_count z) p.standing g s → StandsAs (local_count z) q.standing g s

  module _ (n : ℕ) where
    -- a statement that is no control and its C do the same, at every bound up to this one
    abbrev pub LeafRunsTo : Around Point → Point → Plain → Point → Type 0
    LeafRunsTo around p s q =
        (k : ℕ) → k ≤ n → SameAt p around q (does (again_at z k) z.program s) (λ t w. list_at z k (lowered s (inside_at z.inside around) p.kept) t w)

    -- what statements need, from a point to another
    abbrev pub NeededTo : Plains → Around Point → Point → Point → Type 0
    NeededTo ss around p q =
        needs.AllNeed Point (λ (i : Point). i.kept) (after z.inside.locals) (At z) z.body.flags.bound LeafRunsTo ss around p q
