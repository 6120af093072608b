use Rattle.std.proofs.Common.{◌∙◌, ◌∷◌, [], List, ℕ, Ok, ap, sym, reverse}
use Rattle.std.proofs.lemmas.List.{reverse-append}
use Rattle.cf_base.specs.World.{Went}
use Rattle.cf_core.specs.Calls.{root}
use Rattle.cf_core.specs.Store.{At}
use Rattle.cf_core.specs.Objects.{settle}
use Rattle.cf_core.specs.Run.{Gives, ◌>>◌, gives, frame_changed, lists_in_scope}
use Rattle.cf_core_objects.specs.declared.answer.Value.TheVariants as given
use Rattle.cf_core_objects.specs.Store.{state_of, value_of, frame_of}
use Rattle.cf_core_run.specs.declared.mark.Doing.TheVariants as doing
use Rattle.cf_core_run.specs.declared.state.Step.TheVariants as step
use Rattle.cf_core_run.specs.Going.{whole_place, on_value, finish, world_of}
use Rattle.cf_core_run.proofs.Laws.{value-err, value-ok}
use Rattle.cf_core_run.proofs.state.Machine.held.Goals as goal

pub returns-in-Err-clause-comes : goal.returns-in-Err-clause-comes
returns-in-Err-clause-comes c = λ p. value-err p c.args.self.now (λ u. tt) c.settle_object.result c.in-Err.stop (λ T. settle [] (root c.args.object) (value_of c.args.v)) (λ T u. frame_changed (lists_in_scope c.args.object) >> gives (At (root c.args.object)))
    (λ T. state_of T c.args.self.now.entered c.settle_object.new.objects) c.in-Err.is (λ T w. c.settle_object.ensures T c.args.self.now.entered w)

pub returns-in_ok-push-in-Ok-clause-comes : goal.returns-in_ok-push-in-Ok-clause-comes
returns-in_ok-push-in-Ok-clause-comes c = λ p. value-ok p c.args.self.now c.args.self.now.entered c.settle_object.new.objects (λ u. tt) c.settle_object.result tt (λ T. settle [] (root c.args.object) (value_of c.args.v)) (λ T u. frame_changed (lists_in_scope c.args.object) >> gives (At (root c.args.object)))
    (Ok step.On) (record c.args.self.now { objects = c.settle_object.new.objects; entered = record c.args.self.now.entered { scope = c.push.new.self }; doing = doing.Gives (given.At (whole_place c.args.object)) }) c.in-Ok.is (λ T w. c.settle_object.ensures T c.args.self.now.entered w)
    (record {
      same = λ T o. ap (λ (l : List ℕ). finish T p o (on_value T p (reverse c.args.self.now.stack.items) (Went (Gives (At (root c.args.object)) (record (state_of T c.args.self.now.entered c.settle_object.new.objects) { frame = record (frame_of c.args.self.now.entered) { scope = l } })) (world_of c.args.self.now.ticks o))))
          (sym (ap reverse c.in_ok-push-in-Ok.ensures.items ∙ reverse-append c.args.self.now.entered.scope.items (c.args.object ∷ [])));
    })
