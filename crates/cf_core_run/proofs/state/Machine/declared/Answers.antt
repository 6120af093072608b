use Rattle.std.proofs.Common.{◌∙◌, ◌∷◌, [], List, ℕ, ap, sym, reverse}
use Rattle.cf_base.specs.World.{Went}
use Rattle.cf_core.specs.Calls.{Falls}
use Rattle.cf_core.specs.Run.{Gives, ◌>>◌, gives, frame_changed, lists_in_scope}
use Rattle.cf_core_run.specs.Going.{on_flow, finish, from_flow, world_of}
use Rattle.cf_core_objects.specs.Store.{state_of, frame_of}
use Rattle.cf_core_run.proofs.Laws.{comes-by}
use Rattle.std.proofs.lemmas.List.{reverse-append}
use Rattle.cf_core_run.proofs.state.Machine.declared.Goals as goal

pub returns-clause-comes : goal.returns-clause-comes
returns-clause-comes c = λ p.
    comes-by p (λ T o. from_flow T p c.args.self.now (frame_changed (lists_in_scope c.args.object) >> gives Falls) o)
    (λ T o. from_flow T p (record c.args.self.now { entered = record c.args.self.now.entered { scope = c.push.new.self } }) (gives Falls) o) c.ends.result c.ends.new.self
    (λ T o. ap (λ (l : List ℕ). finish T p o (on_flow T p (reverse c.args.self.now.stack.items) (Went (Gives Falls (record (state_of T c.args.self.now.entered c.args.self.now.objects) { frame = record (frame_of c.args.self.now.entered) { scope = l } })) (world_of c.args.self.now.ticks o))))
    (sym (ap reverse c.in_ok-push.ensures.items ∙ reverse-append c.args.self.now.entered.scope.items (c.args.object ∷ []))))
    (c.ends.ensures.comes p)
