use Rattle.cf_lower_leaves.proofs.Leaves.{store-leaf}
use Rattle.cf_lower_leaves.proofs.stores_are_leaves.Goals as goal

pub returns : goal.returns
returns c z around p r q y u x a kr e kq lx takes = store-leaf z around p r q y u x a kr e kq lx takes
