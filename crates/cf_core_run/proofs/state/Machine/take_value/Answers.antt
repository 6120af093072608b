use Rattle.cf_core_run.specs.Nearer.{behind_value}
use Rattle.std.proofs.Common.{ap, arith}
use Rattle.cf_core_run.specs.Going.{go_value}
use Rattle.cf_core_objects.specs.Store.{value_of}
use Rattle.cf_core_run.proofs.Laws.{value-as}
use Rattle.cf_core_run.specs.declared.mark.ValueMark.{ValueMark}
use Rattle.cf_core_run.specs.declared.mark.ValueMark.TheVariants as vm
use Rattle.cf_core_run.proofs.state.Machine.take_value.Goals as goal

pub returns-in-Apply-clause-comes : goal.returns-in-Apply-clause-comes
returns-in-Apply-clause-comes c = λ p. value-as p c.args.self.now (λ T. go_value T p c.args.self.now.fuel c.args.mark (value_of c.args.v)) (λ T. go_value T p c.args.self.now.fuel (vm.Apply c.in-Apply.op) (value_of c.args.v)) c.applied.result c.applied.new.self (c.applied.ensures.comes p)
    (λ T s w. ap (λ (x : ValueMark). go_value T p c.args.self.now.fuel x (value_of c.args.v) s w) c.in-Apply.is)

pub returns-in-Right-clause-comes : goal.returns-in-Right-clause-comes
returns-in-Right-clause-comes c = λ p. value-as p c.args.self.now (λ T. go_value T p c.args.self.now.fuel c.args.mark (value_of c.args.v)) (λ T. go_value T p c.args.self.now.fuel (vm.Right c.in-Right.op c.in-Right.b) (value_of c.args.v)) c.right.result c.right.new.self (c.right.ensures.comes p)
    (λ T s w. ap (λ (x : ValueMark). go_value T p c.args.self.now.fuel x (value_of c.args.v) s w) c.in-Right.is)

pub returns-in-And-clause-comes : goal.returns-in-And-clause-comes
returns-in-And-clause-comes c = λ p. value-as p c.args.self.now (λ T. go_value T p c.args.self.now.fuel c.args.mark (value_of c.args.v)) (λ T. go_value T p c.args.self.now.fuel (vm.And c.in-And.b) (value_of c.args.v)) c.and.result c.and.new.self (c.and.ensures.comes p)
    (λ T s w. ap (λ (x : ValueMark). go_value T p c.args.self.now.fuel x (value_of c.args.v) s w) c.in-And.is)

pub returns-in-Or-clause-comes : goal.returns-in-Or-clause-comes
returns-in-Or-clause-comes c = λ p. value-as p c.args.self.now (λ T. go_value T p c.args.self.now.fuel c.args.mark (value_of c.args.v)) (λ T. go_value T p c.args.self.now.fuel (vm.Or c.in-Or.b) (value_of c.args.v)) c.or.result c.or.new.self (c.or.ensures.comes p)
    (λ T s w. ap (λ (x : ValueMark). go_value T p c.args.self.now.fuel x (value_of c.args.v) s w) c.in-Or.is)

pub returns-in-Choice-clause-comes : goal.returns-in-Choice-clause-comes
returns-in-Choice-clause-comes c = λ p. value-as p c.args.self.now (λ T. go_value T p c.args.self.now.fuel c.args.mark (value_of c.args.v)) (λ T. go_value T p c.args.self.now.fuel (vm.Choice c.in-Choice.a c.in-Choice.b) (value_of c.args.v)) c.choice.result c.choice.new.self (c.choice.ensures.comes p)
    (λ T s w. ap (λ (x : ValueMark). go_value T p c.args.self.now.fuel x (value_of c.args.v) s w) c.in-Choice.is)

pub returns-in-Comma-clause-comes : goal.returns-in-Comma-clause-comes
returns-in-Comma-clause-comes c = λ p. value-as p c.args.self.now (λ T. go_value T p c.args.self.now.fuel c.args.mark (value_of c.args.v)) (λ T. go_value T p c.args.self.now.fuel (vm.Comma c.in-Comma.rest) (value_of c.args.v)) c.comma.result c.comma.new.self (c.comma.ensures.comes p)
    (λ T s w. ap (λ (x : ValueMark). go_value T p c.args.self.now.fuel x (value_of c.args.v) s w) c.in-Comma.is)

pub returns-in-Argument-clause-comes : goal.returns-in-Argument-clause-comes
returns-in-Argument-clause-comes c = λ p. value-as p c.args.self.now (λ T. go_value T p c.args.self.now.fuel c.args.mark (value_of c.args.v)) (λ T. go_value T p c.args.self.now.fuel (vm.Argument c.in-Argument.calling c.in-Argument.object) (value_of c.args.v)) c.argument.result c.argument.new.self (c.argument.ensures.comes p)
    (λ T s w. ap (λ (x : ValueMark). go_value T p c.args.self.now.fuel x (value_of c.args.v) s w) c.in-Argument.is)

pub returns-in-Temporary-clause-comes : goal.returns-in-Temporary-clause-comes
returns-in-Temporary-clause-comes c = λ p. value-as p c.args.self.now (λ T. go_value T p c.args.self.now.fuel c.args.mark (value_of c.args.v)) (λ T. go_value T p c.args.self.now.fuel (vm.Temporary c.in-Temporary.object) (value_of c.args.v)) c.made.result c.made.new.self (c.made.ensures.comes p)
    (λ T s w. ap (λ (x : ValueMark). go_value T p c.args.self.now.fuel x (value_of c.args.v) s w) c.in-Temporary.is)

pub returns-in-Held-clause-comes : goal.returns-in-Held-clause-comes
returns-in-Held-clause-comes c = λ p. value-as p c.args.self.now (λ T. go_value T p c.args.self.now.fuel c.args.mark (value_of c.args.v)) (λ T. go_value T p c.args.self.now.fuel (vm.Held c.in-Held.object) (value_of c.args.v)) c.held.result c.held.new.self (c.held.ensures.comes p)
    (λ T s w. ap (λ (x : ValueMark). go_value T p c.args.self.now.fuel x (value_of c.args.v) s w) c.in-Held.is)

pub returns-in-Whole-clause-comes : goal.returns-in-Whole-clause-comes
returns-in-Whole-clause-comes c = λ p. value-as p c.args.self.now (λ T. go_value T p c.args.self.now.fuel c.args.mark (value_of c.args.v)) (λ T. go_value T p c.args.self.now.fuel (vm.Whole c.in-Whole.around) (value_of c.args.v)) c.close_whole.result c.close_whole.new.self (c.close_whole.ensures.comes p)
    (λ T s w. ap (λ (x : ValueMark). go_value T p c.args.self.now.fuel x (value_of c.args.v) s w) c.in-Whole.is)

pub returns-in-Callee-clause-comes : goal.returns-in-Callee-clause-comes
returns-in-Callee-clause-comes c = λ p. value-as p c.args.self.now (λ T. go_value T p c.args.self.now.fuel c.args.mark (value_of c.args.v)) (λ T. go_value T p c.args.self.now.fuel (vm.Callee c.in-Callee.signature c.in-Callee.all) (value_of c.args.v)) c.callee.result c.callee.new.self (c.callee.ensures.comes p)
    (λ T s w. ap (λ (x : ValueMark). go_value T p c.args.self.now.fuel x (value_of c.args.v) s w) c.in-Callee.is)

pub returns-in-Element-clause-comes : goal.returns-in-Element-clause-comes
returns-in-Element-clause-comes c = λ p. value-as p c.args.self.now (λ T. go_value T p c.args.self.now.fuel c.args.mark (value_of c.args.v)) (λ T. go_value T p c.args.self.now.fuel (vm.Element c.in-Element.listing) (value_of c.args.v)) c.element.result c.element.new.self (c.element.ensures.comes p)
    (λ T s w. ap (λ (x : ValueMark). go_value T p c.args.self.now.fuel x (value_of c.args.v) s w) c.in-Element.is)

pub returns-in-Constant-clause-comes : goal.returns-in-Constant-clause-comes
returns-in-Constant-clause-comes c = λ p. value-as p c.args.self.now (λ T. go_value T p c.args.self.now.fuel c.args.mark (value_of c.args.v)) (λ T. go_value T p c.args.self.now.fuel (vm.Constant c.in-Constant.rest) (value_of c.args.v)) c.constant.result c.constant.new.self (c.constant.ensures.comes p)
    (λ T s w. ap (λ (x : ValueMark). go_value T p c.args.self.now.fuel x (value_of c.args.v) s w) c.in-Constant.is)

pub returns-in-Library-clause-comes : goal.returns-in-Library-clause-comes
returns-in-Library-clause-comes c = λ p. value-as p c.args.self.now (λ T. go_value T p c.args.self.now.fuel c.args.mark (value_of c.args.v)) (λ T. go_value T p c.args.self.now.fuel (vm.Library c.in-Library.made) (value_of c.args.v)) c.end_library.result c.end_library.new.self (c.end_library.ensures.comes p)
    (λ T s w. ap (λ (x : ValueMark). go_value T p c.args.self.now.fuel x (value_of c.args.v) s w) c.in-Library.is)

pub returns-in-Apply-clause-within : goal.returns-in-Apply-clause-within
returns-in-Apply-clause-within c = λ p. omega (arith, c.applied.ensures.within p, ap behind_value c.in-Apply.is)

pub returns-in-Right-clause-within : goal.returns-in-Right-clause-within
returns-in-Right-clause-within c = λ p. omega (arith, c.right.ensures.within p, ap behind_value c.in-Right.is)

pub returns-in-And-clause-within : goal.returns-in-And-clause-within
returns-in-And-clause-within c = λ p. omega (arith, c.and.ensures.within p, ap behind_value c.in-And.is)

pub returns-in-Or-clause-within : goal.returns-in-Or-clause-within
returns-in-Or-clause-within c = λ p. omega (arith, c.or.ensures.within p, ap behind_value c.in-Or.is)

pub returns-in-Choice-clause-within : goal.returns-in-Choice-clause-within
returns-in-Choice-clause-within c = λ p. omega (arith, c.choice.ensures.within p, ap behind_value c.in-Choice.is)

pub returns-in-Comma-clause-within : goal.returns-in-Comma-clause-within
returns-in-Comma-clause-within c = λ p. omega (arith, c.comma.ensures.within p, ap behind_value c.in-Comma.is)

pub returns-in-Callee-clause-within : goal.returns-in-Callee-clause-within
returns-in-Callee-clause-within c = λ p. omega (arith, c.callee.ensures.within p, ap behind_value c.in-Callee.is)

pub returns-in-Argument-clause-within : goal.returns-in-Argument-clause-within
returns-in-Argument-clause-within c = λ p. omega (arith, c.argument.ensures.within p, ap behind_value c.in-Argument.is)

pub returns-in-Temporary-clause-within : goal.returns-in-Temporary-clause-within
returns-in-Temporary-clause-within c = λ p. omega (arith, c.made.ensures.within p, ap behind_value c.in-Temporary.is)

pub returns-in-Held-clause-within : goal.returns-in-Held-clause-within
returns-in-Held-clause-within c = λ p. omega (arith, c.held.ensures.within p, ap behind_value c.in-Held.is)

pub returns-in-Library-clause-within : goal.returns-in-Library-clause-within
returns-in-Library-clause-within c = λ p. omega (arith, c.end_library.ensures.within p, ap behind_value c.in-Library.is)

pub returns-in-Element-clause-within : goal.returns-in-Element-clause-within
returns-in-Element-clause-within c = λ p. omega (arith, c.element.ensures.within p, ap behind_value c.in-Element.is)

pub returns-in-Constant-clause-within : goal.returns-in-Constant-clause-within
returns-in-Constant-clause-within c = λ p. omega (arith, c.constant.ensures.within p, ap behind_value c.in-Constant.is)

pub returns-in-Whole-clause-within : goal.returns-in-Whole-clause-within
returns-in-Whole-clause-within c = λ p. omega (arith, c.close_whole.ensures.within p, ap behind_value c.in-Whole.is)

pub returns-in-Stored-clause-comes : goal.returns-in-Stored-clause-comes
returns-in-Stored-clause-comes c = λ p. value-as p c.args.self.now (λ T. go_value T p c.args.self.now.fuel c.args.mark (value_of c.args.v)) (λ T. go_value T p c.args.self.now.fuel (vm.Stored c.in-Stored.goal c.in-Stored.around) (value_of c.args.v)) c.close_stored.result c.close_stored.new.self (c.close_stored.ensures.comes p)
    (λ T s w. ap (λ (x : ValueMark). go_value T p c.args.self.now.fuel x (value_of c.args.v) s w) c.in-Stored.is)

pub returns-in-Stored-clause-within : goal.returns-in-Stored-clause-within
returns-in-Stored-clause-within c = λ p. omega (arith, c.close_stored.ensures.within p, ap behind_value c.in-Stored.is)
