use Rattle.std.proofs.Common.{◌≡◌, ◌∙◌, ◌≤◌, ◌<◌, ◌+◌, ◌^◌, ◌==◌, false, ℕ, List, [], ◌∷◌, ◌++◌, length, Some, None, Option, Ok, ℤ, pos, rules, arith, ap, sym, refl, subst, FitsSigned, w64, to_z-of_z}
use Rattle.cf_base.specs.declared.kind.Kind.TheVariants as kind
use Rattle.cf_base.specs.Event.{Undefined}
use Rattle.cc_whole_memory.specs.declared.value.Value.{Value}
use Rattle.cc_whole_memory.specs.declared.value.Value.TheVariants as value
use Rattle.cc_whole_callee.specs.declared.library.Library.{Library}
use Rattle.cc_whole_callee.specs.View.{library_of}
use Rattle.cc_whole_mean.specs.Callee.{atexit, free}
use Rattle.cc_whole_mean.specs.Library as does
use Rattle.cc_whole_step.specs.declared.mark.Flow.{Flow}
use Rattle.cc_whole_step.specs.declared.mark.Flow.TheVariants as left
use Rattle.cc_whole_step.specs.Running.{coming_back, leaving}
use Rattle.cc_whole_step.specs.Comes.{Comes, StepsTaking}
use Rattle.cc_whole_step.proofs.Resume.{comes-from}
use Rattle.cc_whole_step.proofs.CallLaws.{atexit-inside, atexit-full, atexit-registers}
use Rattle.cc_whole_step.proofs.moment.Moment.register.Goals as goal

pub returns-then-self : goal.returns-then-self
returns-then-self c = atexit-inside c.args.self.now c.args.function c.args.self.now.level.in_helper c.if-self.true

pub returns-then-len-ge-MOST_REGISTERED : goal.returns-then-len-ge-MOST_REGISTERED
returns-then-len-ge-MOST_REGISTERED c =
    let count : c.len.result ≡ length c.args.self.now.registered.items = search rules in
    let full : 65536 ≤ c.len.result = c.if-len-ge-MOST_REGISTERED.true in
    let enough : 65536 ≤ length c.args.self.now.registered.items = omega arith in
    comes-from (coming_back (λ g s w. does.of_function atexit c.args.self.now.level.in_helper c.args.function s w)) (leaving (left.Returns (Some (value.Number kind.Int (pos 1)))))
    (Ok c.ends.result) c.args.self.now c.args.self.now c.ends.new.self
    (λ n o lt. atexit-full c.args.self.now c.args.function c.args.self.now.level.in_helper c.if-self.false enough n o) (let h : c.args.self.now.ticks ≤ c.args.self.now.ticks = omega arith in h)
    (subst (λ (f : Flow). Comes (leaving f) (Ok c.ends.result) c.args.self.now c.ends.new.self) c.back_int.ensures c.ends.ensures)

pub returns : goal.returns
returns c =
    let count : c.len.result ≡ length c.args.self.now.registered.items = search rules in
    let some : c.len.result < 65536 = c.if-len-ge-MOST_REGISTERED.false in
    let room : length c.args.self.now.registered.items < 65536 = omega arith in
    comes-from (coming_back (λ g s w. does.of_function atexit c.args.self.now.level.in_helper c.args.function s w)) (leaving (left.Returns (Some (value.Number kind.Int (pos 0)))))
    (Ok c.ends-2.result) c.args.self.now (record c.args.self.now { registered = c.push.new.self }) c.ends-2.new.self
    (λ n o lt. atexit-registers c.args.self.now c.push.new.self c.args.function c.args.self.now.level.in_helper c.if-self.false room c.in_ok-push.ensures.items n o) (let h : c.args.self.now.ticks ≤ c.args.self.now.ticks = omega arith in h)
    (subst (λ (f : Flow). Comes (leaving f) (Ok c.ends-2.result) (record c.args.self.now { registered = c.push.new.self }) c.ends-2.new.self) c.back_int-2.ensures c.ends-2.ensures)
