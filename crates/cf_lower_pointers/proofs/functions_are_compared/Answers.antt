use Rattle.cf_lower_pointers.proofs.Lowered.{equal-code-lowered, unequal-code-lowered}
use Rattle.cf_lower_pointers.proofs.functions_are_compared.Goals as goal

pub returns : goal.returns
returns c = record {
  equal = λ at h numbered q v t u kq kv one. equal-code-lowered at h numbered q v t u kq kv one;
  unequal = λ at h numbered q v t u kq kv one. unequal-code-lowered at h numbered q v t u kq kv one;
}
