use Rattle.cf_lower_leaves.proofs.Leaves.{number-leaf, read-leaf, operate-leaf}
use Rattle.cf_lower_leaves.proofs.integers_are_leaves.Goals as goal

pub returns : goal.returns
returns c = record {
  numbers = λ z around p r lt n word. number-leaf z around p r lt n word;
  reads = λ z around p r lt q y u kq e. read-leaf z around p r lt q y u kq e;
  operators = λ z around p r lt q v o k f h pk kq kv. operate-leaf z around p r lt q v o k f h pk kq kv;
}
