-- How temporaries are made.
use Rattle.std.proofs.Common.{◌≡◌, ℕ, [], Some, Result, ap, reverse}
use Rattle.cf_base.specs.World.{World}
use Rattle.cf_core.specs.FromTypes.{Tables}
use Rattle.cf_core.specs.Core.{Core}
use Rattle.cf_core.specs.Store.{Value, At}
use Rattle.cf_core.specs.Run.{State, Act, ◌>>◌, gives, frame_changed, lists_temporary, lists_in_scope}
use Rattle.cf_core.specs.Calls.{root}
use Rattle.cf_core.specs.Objects.{settle, settled}
use Rattle.cf_run_tree.specs.declared.program.Program.{Program}
use Rattle.cf_core_objects.specs.declared.answer.Stop.{Stop}
use Rattle.cf_core_objects.specs.Store.{state_of}
use Rattle.cf_core_objects.specs.Then.{◌▷◌}
use Rattle.cf_core_objects.proofs.ThenLaws.{then-assoc}
use Rattle.cf_core_run.specs.declared.state.Machine.{Machine}
use Rattle.cf_core_run.specs.declared.state.Step.{Step}
use Rattle.cf_core_run.specs.Going.{on_value, finish, from_value, world_of, Comes, valued, go_temporary, go_held}
use Rattle.cf_core_run.proofs.Laws.{comes-by}

-- an act at the state at hand is another
pub value-at : (p : Program) (m : Machine) (act other : Tables → Act Value) (r : Result Step Stop) (new : Machine)
    → Comes p (λ T o. from_value T p m (other T) o) r new → ((T : Tables) (w : World) → act T (state_of T m.entered m.objects) w ≡ other T (state_of T m.entered m.objects) w)
    → Comes p (λ T o. from_value T p m (act T) o) r new
value-at p m act other r new h e = comes-by p (λ T o. from_value T p m (act T) o) (λ T o. from_value T p m (other T) o) r new
    (λ T o. ap (λ r. finish T p o (on_value T p (reverse m.stack.items) r)) (e T (world_of m.ticks o))) h

-- what is left of a temporary once its object is there
abbrev pub make_rest : Tables → Program → ℕ → Core → ℕ → Act Value
make_rest T p k c o = settled [] (root o) (valued T p k c (Some (root o))) >> (frame_changed (lists_temporary o) >> gives (At (root o)))

pub make-goes : (T : Tables) (p : Program) (k : ℕ) (c : Core) (o : ℕ) (s : State) (w : World)
    → make_rest T p k c o s w ≡ (valued T p k c (Some (root o)) s w ▷ go_temporary T p k o)
make-goes T p k c o s w = then-assoc (valued T p k c (Some (root o)) s w) (settle [] (root o)) (λ u. frame_changed (lists_temporary o) >> gives (At (root o)))

-- what is left of a reference to a temporary once its local is there
abbrev pub hold_rest : Tables → Program → ℕ → Core → ℕ → Act Value
hold_rest T p k c o = settled [] (root o) (valued T p k c (Some (root o))) >> (frame_changed (lists_in_scope o) >> gives (At (root o)))

pub hold-goes : (T : Tables) (p : Program) (k : ℕ) (c : Core) (o : ℕ) (s : State) (w : World)
    → hold_rest T p k c o s w ≡ (valued T p k c (Some (root o)) s w ▷ go_held T p k o)
hold-goes T p k c o s w = then-assoc (valued T p k c (Some (root o)) s w) (settle [] (root o)) (λ u. frame_changed (lists_in_scope o) >> gives (At (root o)))
