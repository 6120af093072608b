use Rattle.cf_lower_pointers.proofs.Lowered.{difference-lowered, equal-lowered, greater-equal-lowered, greater-lowered, less-equal-lowered, less-lowered, unequal-lowered}
use Rattle.cf_lower_pointers.proofs.pointers_are_compared.Goals as goal

pub returns : goal.returns
returns c = record {
  less = λ at h q v t u kq kv. less-lowered at h q v t u kq kv;
  greater = λ at h q v t u kq kv. greater-lowered at h q v t u kq kv;
  less_equal = λ at h q v t u kq kv. less-equal-lowered at h q v t u kq kv;
  greater_equal = λ at h q v t u kq kv. greater-equal-lowered at h q v t u kq kv;
  equal = λ at h q v t u kq kv. equal-lowered at h q v t u kq kv;
  unequal = λ at h q v t u kq kv. unequal-lowered at h q v t u kq kv;
  difference = λ at h q v t u kq kv no_void. difference-lowered at h q v t u kq kv no_void;
}
