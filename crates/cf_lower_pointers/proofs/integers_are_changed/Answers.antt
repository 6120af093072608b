use Rattle.cf_lower_pointers.proofs.Lowered.{changed-lowered, complement-lowered, conversion-lowered, negate-lowered}
use Rattle.cf_lower_pointers.proofs.integers_are_changed.Goals as goal

pub returns : goal.returns
returns c = record {
  negate = λ at h q f kq k p. negate-lowered at h q f kq k p;
  complement = λ at h q f kq k p. complement-lowered at h q f kq k p;
  converted = λ at h q f kq a k e. conversion-lowered at h q f kq a k e;
  changed = λ at h q v f g kq kv o k to p. changed-lowered at h q f kq o k to p v g kv;
}
