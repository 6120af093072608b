use Rattle.std.proofs.Common.{◌∙◌, List, ℕ, ap, sym, reverse}
use Rattle.cf_core.specs.Objects.{static_number}
use Rattle.cf_run_tree.specs.Tree.{program_of}
use Rattle.cf_core_objects.specs.declared.answer.Stop.TheVariants as stop
use Rattle.cf_core_objects.specs.Store.{state_of, frame_of}
use Rattle.cf_core_run.specs.Going.{from_value, setting_with, reaching, on_value, finish, world_of}
use Rattle.cf_core_run.proofs.Laws.{comes-by, value-stopped}
use Rattle.cf_core_run.proofs.StaticLaws.{set-none, set-goes}
use Rattle.cf_core_run.proofs.state.Machine.set.Goals as goal

pub returns-in-None-clause-comes : goal.returns-in-None-clause-comes
returns-in-None-clause-comes c = value-stopped c.args.program.now c.args.self.now (λ T. setting_with T c.args.program.now c.args.self.now.fuel c.args.x.now c.args.rest.now) stop.Malformed
    (λ T w. set-none T c.args.program.now c.args.self.now.fuel c.args.x.now c.args.rest.now (state_of T c.args.self.now.entered c.args.self.now.objects) w (ap (static_number (program_of T c.args.program.now)) (sym c.as_slice.ensures) ∙ sym (c.static_named.ensures T) ∙ c.in-None.is))

pub returns-in-Some-clause-comes : goal.returns-in-Some-clause-comes
returns-in-Some-clause-comes c = comes-by c.args.program.now (λ T o. from_value T c.args.program.now c.args.self.now (setting_with T c.args.program.now c.args.self.now.fuel c.args.x.now c.args.rest.now) o)
    (λ T o. from_value T c.args.program.now (record c.args.self.now { entered = record c.args.self.now.entered { name = c.setter-self.result } }) (reaching T c.args.program.now c.args.self.now.fuel c.args.x.now c.in-Some.number c.args.rest.now) o) c.reach.result c.reach.new.self
    (λ T o. ap (λ r. finish T c.args.program.now o (on_value T c.args.program.now (reverse c.args.self.now.stack.items) r))
    (set-goes T c.args.program.now c.args.self.now.fuel c.args.x.now c.args.rest.now c.in-Some.number (state_of T c.args.self.now.entered c.args.self.now.objects) (world_of c.args.self.now.ticks o) (ap (static_number (program_of T c.args.program.now)) (sym c.as_slice.ensures) ∙ sym (c.static_named.ensures T) ∙ c.in-Some.is)
    ∙ ap (λ (n : List ℕ). reaching T c.args.program.now c.args.self.now.fuel c.args.x.now c.in-Some.number c.args.rest.now (record (state_of T c.args.self.now.entered c.args.self.now.objects) { frame = record (frame_of c.args.self.now.entered) { function = n } }) (world_of c.args.self.now.ticks o)) (sym (c.setter-self.ensures T c.args.program.now))))
    (c.reach.ensures.comes c.args.program.now)
