use Rattle.cf_base.specs.Event.{Enter}
use Rattle.cf_core.specs.Calls as calls
use Rattle.cf_core_run.specs.declared.mark.Doing.TheVariants as doing
use Rattle.cf_core_run.specs.Going.{GoesOn, again}
use Rattle.std.proofs.Common.{◌≡◌, ◌∙◌, ◌+◌, ◌-◌, ◌++◌, ◌∷◌, [], List, ℕ, Some, None, ap, sym, subst, map, length, rules}
use Rattle.cf_core.specs.Calls.{name_function, run_library, root}
use Rattle.cf_run_tree.specs.Tree.{function_of}
use Rattle.cf_core_objects.specs.declared.object.Entered.{Entered}
use Rattle.cf_core_run.specs.declared.mark.Mark.TheVariants as mark
use Rattle.cf_core_run.specs.Going.{from_value}
use Rattle.cf_core_run.proofs.CallLaws.{enter-ticks, enter-depth, enter-goes}
use Rattle.cf_core_run.proofs.state.Machine.enter.Goals as goal

pub returns-then-self-eq0-clause-comes : goal.returns-then-self-eq0-clause-comes
returns-then-self-eq0-clause-comes c = λ p. enter-ticks p c.args.self.now c.args.f.now c.args.made.items c.if-self-eq0.true

pub returns-then-self-eq0-2-clause-comes : goal.returns-then-self-eq0-2-clause-comes
returns-then-self-eq0-2-clause-comes c = λ p. enter-depth p c.args.self.now c.args.f.now c.args.made.items c.if-self-eq0.false c.if-self-eq0-2.true

pub returns-clause-comes : goal.returns-clause-comes
returns-clause-comes c = λ p.
    let e = c.replace-caller.new.dest in
    let locals : c.in_ok-locals.locals.items ≡ map Some c.args.made.items = search rules in
    let count : e.count ≡ length c.args.f.now.signature.params + length c.args.f.now.locals = ap (λ (x : Entered). x.count) c.replace-caller.ensures.after ∙ search rules in
    subst (λ (n : List ℕ). GoesOn p (λ T o. from_value T p c.args.self.now (calls.enter (again T p c.args.self.now.fuel) (function_of T p c.args.f.now) c.args.made.items None None) o) (Some (Enter n))
    (record c.args.self.now { stack = c.push.new.self; entered = e; ticks = c.args.self.now.ticks - 1; doing = doing.Body c.args.f c.args.made })) (sym c.as_slice-name.ensures)
    (enter-goes p c.args.self.now c.args.f c.args.made e c.push.new.self c.if-self-eq0.false c.if-self-eq0-2.false
    (ap (λ (x : Entered). x.name.now) c.replace-caller.ensures.after ∙ c.as_slice-name.ensures)
    (ap (λ (x : Entered). x.locals.items) c.replace-caller.ensures.after ∙ locals)
    (ap (λ (x : Entered). x.scope.items) c.replace-caller.ensures.after ∙ c.new.ensures.items)
    (ap (λ (x : Entered). x.temporaries.items) c.replace-caller.ensures.after ∙ c.new-2.ensures.items) count
    (ap (λ (x : Entered). x.depth) c.replace-caller.ensures.after)
    (c.in_ok-push.ensures.items ∙ ap (λ (x : Entered). c.args.self.now.stack.items ++ mark.Back c.args.self.now.fuel c.args.f.now.signature.result x ∷ []) c.replace-caller.ensures.value))
