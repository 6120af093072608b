use Rattle.cf_lower_pointers.proofs.Lowered.{back-lowered, changed-back-lowered, changed-forward-lowered, index-lowered, index-turned-lowered, sum-lowered, sum-turned-lowered}
use Rattle.cf_lower_pointers.proofs.pointers_are_moved.Goals as goal

pub returns : goal.returns
returns c = record {
  sum = λ at h q v t f no_void kq kv. sum-lowered at h q v t f no_void kq kv;
  sum_turned = λ at h q v t f no_void kq kv. sum-turned-lowered at h q v t f no_void kq kv;
  back = λ at h q v t f no_void kq kv. back-lowered at h q v t f no_void kq kv;
  index = λ at h q v t f no_void kq kv. index-lowered at h q v t f no_void kq kv;
  index_turned = λ at h q v t f no_void kq kv. index-turned-lowered at h q v t f no_void kq kv;
  changed = λ at h q v t f no_void kq kv. changed-forward-lowered at h q v t f no_void kq kv;
  changed_back = λ at h q v t f no_void kq kv. changed-back-lowered at h q v t f no_void kq kv;
}
