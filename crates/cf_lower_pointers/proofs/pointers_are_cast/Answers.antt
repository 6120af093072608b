use Rattle.cf_lower_pointers.proofs.Lowered.{cast-lowered, code-lowered, decay-lowered, dereference-lowered, from_void-lowered, null-code-lowered, null-lowered}
use Rattle.cf_lower_pointers.proofs.pointers_are_cast.Goals as goal

pub returns : goal.returns
returns c = record {
  dereference = λ at h q u kq. dereference-lowered at h q u kq;
  decay = λ at h q t kq. decay-lowered at h q t kq;
  from_void = λ at h q t kq u. from_void-lowered at h q t kq u;
  to_type = λ at h q t kq a u e fit. cast-lowered at h q t kq a u e fit;
  to_code = λ at h q u kq a e. code-lowered at h q u kq a e;
  null = λ at h q f kq a u e. null-lowered at h q f kq a u e;
  null_code = λ at h q f kq a u e. null-code-lowered at h q f kq a u e;
}
