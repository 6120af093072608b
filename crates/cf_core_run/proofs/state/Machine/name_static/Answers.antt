use Rattle.std.proofs.Common.{◌∙◌, [], sym}
use Rattle.cf_core.specs.Access.{followed}
use Rattle.cf_core.specs.Calls.{root}
use Rattle.cf_core.specs.Core.{static_object}
use Rattle.cf_run_tree.specs.Tree.{object_type, static_type}
use Rattle.cf_core_objects.specs.declared.answer.Stop.TheVariants as stop
use Rattle.cf_core_objects.specs.Store.{state_of}
use Rattle.cf_core_run.specs.Going.{valued}
use Rattle.cf_core_run.proofs.Laws.{value-as, value-stopped}
use Rattle.cf_core_run.proofs.StaticLaws.{static-none, static-goes}
use Rattle.cf_core_run.proofs.state.Machine.name_static.Goals as goal

pub returns-in-None-clause-comes : goal.returns-in-None-clause-comes
returns-in-None-clause-comes c = λ ty into. value-stopped c.args.program.now c.args.self.now (λ T. valued T c.args.program.now c.args.self.now.fuel (static_object c.args.name.now (object_type T (static_type c.args.program.now c.args.name.now ty))) into) stop.Malformed
    (λ T w. static-none T c.args.program.now c.args.self.now.fuel c.args.name.now (object_type T (static_type c.args.program.now c.args.name.now ty)) into (state_of T c.args.self.now.entered c.args.self.now.objects) w (sym (c.static_named.ensures T) ∙ c.in-None.is))

pub returns-in-Some-clause-comes : goal.returns-in-Some-clause-comes
returns-in-Some-clause-comes c = λ ty into. value-as c.args.program.now c.args.self.now (λ T. valued T c.args.program.now c.args.self.now.fuel (static_object c.args.name.now (object_type T (static_type c.args.program.now c.args.name.now ty))) into) (λ T. followed [] (root c.in-Some.number))
    c.follow_static.result c.follow_static.new.self (c.follow_static.ensures.comes c.args.program.now)
    (λ T s w. static-goes T c.args.program.now c.args.self.now.fuel c.args.name.now ty c.in-Some.number into s w (sym (c.static_named.ensures T) ∙ c.in-Some.is))
