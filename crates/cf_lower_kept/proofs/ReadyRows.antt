-- A function that compares a pointer to void: equality is ready, and order is not.
use Rattle.std.proofs.Common.{◌≡◌, true, false, [], ◌∷◌, refl}
use Rattle.std.specs.Prelude.{pos, codes, Some}
use Rattle.cf_base.specs.declared.kind.Kind.TheVariants.{Int}
use Rattle.cf_core.specs.declared.operators.PointerOperator.{PointerOperator}
use Rattle.cf_core.specs.declared.operators.PointerOperator.TheVariants as pointer_op
use Rattle.cf_core.specs.Types.{void, integer, pointer, gives}
use Rattle.cf_core.specs.Core.{plain_function}
use Rattle.cf_plain.specs.Plain.{number, local, read, convert, truth, pointer_operate, declare, first, finish, act, set, give, nothing, more, PlainFunction}
use Rattle.cf_lower_kept.specs.Ready.{function_ready}

-- int main(){int x;void*p=&x;return p!=0;}
main_by : PointerOperator → PlainFunction
main_by op = record {
  name = codes "__main";
  role = plain_function;
  type = gives (integer Int) false;
  locals = integer Int ∷ pointer void ∷ [];
  body =
      more (set 0 (declare 0 (integer Int))) (more (set 0 (declare 1 (pointer void)))
      (more (set 1 (local 0)) (more (act (truth 1)) (more (set 1 (convert (pointer void) 1)) (more (act (first 0 1))
      (more (set 0 (local 1)) (more (set 0 (read 0)) (more (act (truth 0))
      (more (set 1 (number (pos 0))) (more (set 1 (convert (pointer void) 1)) (more (set 0 (pointer_operate op 0 1))
      (more (act (truth 0)) (more (act (finish (pointer void) 1)) (more (act (finish (integer Int) 0)) (more (give (Some 0)) nothing)))))))))))))));
  is_shared = false;
  is_local = false;
}

equality_ready : function_ready (main_by pointer_op.NotEqual) ≡ true
unfolding main_by
equality_ready = refl

order_refused : function_ready (main_by pointer_op.Less) ≡ false
unfolding main_by
order_refused = refl
