use Rattle.cf_lower_pointers.proofs.Lowered.{not-code-lowered, not-lowered, number-not-lowered, truth-code-lowered, truth-lowered}
use Rattle.cf_lower_pointers.proofs.values_are_tested.Goals as goal

pub returns : goal.returns
returns c = record {
  pointers = λ at h q t kq. truth-lowered at h q t kq;
  no_pointers = λ at h q t kq. not-lowered at h q t kq;
  functions = λ at h numbered q t kq. truth-code-lowered at h numbered q t kq;
  no_functions = λ at h numbered q t kq. not-code-lowered at h numbered q t kq;
  no_numbers = λ at h q f kq. number-not-lowered at h q f kq;
}
