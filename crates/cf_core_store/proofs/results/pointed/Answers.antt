use Rattle.std.proofs.Common.{[], sym, subst}
use Rattle.cf_core.specs.Pointers as pointers
use Rattle.cf_core_objects.specs.Answer.{Told}
use Rattle.cf_core_objects.specs.Store.{state_of, value_of}
use Rattle.cf_core.specs.declared.operators.PointerOperator.{PointerOperator}
use Rattle.cf_core_store.specs.Compared.{less_of}
use Rattle.cf_core_store.proofs.results.pointed.Goals as goal

pub returns-in-Add : goal.returns-in-Add
returns-in-Add c = λ T e w.
    subst (λ (o : PointerOperator). Told value_of c.sum.result (state_of T e c.args.objects.now) w (pointers.pointer_op [] o (value_of c.args.x) (value_of c.args.y) (state_of T e c.args.objects.now) w)) (sym c.in-Add.is) (c.sum.ensures T e w)

pub returns-in-Subtract : goal.returns-in-Subtract
returns-in-Subtract c = λ T e w.
    subst (λ (o : PointerOperator). Told value_of c.moved_back.result (state_of T e c.args.objects.now) w (pointers.pointer_op [] o (value_of c.args.x) (value_of c.args.y) (state_of T e c.args.objects.now) w)) (sym c.in-Subtract.is) (c.moved_back.ensures T e w)

pub returns-in-Difference : goal.returns-in-Difference
returns-in-Difference c = λ T e w.
    subst (λ (o : PointerOperator). Told value_of c.difference.result (state_of T e c.args.objects.now) w (pointers.pointer_op [] o (value_of c.args.x) (value_of c.args.y) (state_of T e c.args.objects.now) w)) (sym c.in-Difference.is) (c.difference.ensures T e w)

pub returns-in-Less : goal.returns-in-Less
returns-in-Less c = λ T e w.
    subst (λ (o : PointerOperator). Told value_of c.ordered.result (state_of T e c.args.objects.now) w (pointers.pointer_op [] o (value_of c.args.x) (value_of c.args.y) (state_of T e c.args.objects.now) w)) (sym c.in-Less.is)
    (subst (λ (o : PointerOperator). Told value_of c.ordered.result (state_of T e c.args.objects.now) w (pointers.ordered [] (less_of o) (value_of c.args.x) (value_of c.args.y) (state_of T e c.args.objects.now) w)) c.in-Less.is (c.ordered.ensures T e w))

pub returns-in-Greater : goal.returns-in-Greater
returns-in-Greater c = λ T e w.
    subst (λ (o : PointerOperator). Told value_of c.ordered-in-Greater.result (state_of T e c.args.objects.now) w (pointers.pointer_op [] o (value_of c.args.x) (value_of c.args.y) (state_of T e c.args.objects.now) w)) (sym c.in-Greater.is)
    (subst (λ (o : PointerOperator). Told value_of c.ordered-in-Greater.result (state_of T e c.args.objects.now) w (pointers.ordered [] (less_of o) (value_of c.args.x) (value_of c.args.y) (state_of T e c.args.objects.now) w)) c.in-Greater.is (c.ordered-in-Greater.ensures T e w))

pub returns-in-LessEqual : goal.returns-in-LessEqual
returns-in-LessEqual c = λ T e w.
    subst (λ (o : PointerOperator). Told value_of c.ordered-in-LessEqual.result (state_of T e c.args.objects.now) w (pointers.pointer_op [] o (value_of c.args.x) (value_of c.args.y) (state_of T e c.args.objects.now) w)) (sym c.in-LessEqual.is)
    (subst (λ (o : PointerOperator). Told value_of c.ordered-in-LessEqual.result (state_of T e c.args.objects.now) w (pointers.ordered [] (less_of o) (value_of c.args.x) (value_of c.args.y) (state_of T e c.args.objects.now) w)) c.in-LessEqual.is (c.ordered-in-LessEqual.ensures T e w))

pub returns-in-GreaterEqual : goal.returns-in-GreaterEqual
returns-in-GreaterEqual c = λ T e w.
    subst (λ (o : PointerOperator). Told value_of c.ordered-in-GreaterEqual.result (state_of T e c.args.objects.now) w (pointers.pointer_op [] o (value_of c.args.x) (value_of c.args.y) (state_of T e c.args.objects.now) w)) (sym c.in-GreaterEqual.is)
    (subst (λ (o : PointerOperator). Told value_of c.ordered-in-GreaterEqual.result (state_of T e c.args.objects.now) w (pointers.ordered [] (less_of o) (value_of c.args.x) (value_of c.args.y) (state_of T e c.args.objects.now) w)) c.in-GreaterEqual.is (c.ordered-in-GreaterEqual.ensures T e w))
