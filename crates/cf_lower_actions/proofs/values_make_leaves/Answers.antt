use Rattle.cf_lower_actions.proofs.Runs.{given-set, given-dropped, silent-set, silent-dropped}
use Rattle.cf_lower_actions.proofs.values_make_leaves.Goals as goal

pub returns : goal.returns
returns c = record {
  kept = λ z around p r a lt x. given-set z around p r a lt x;
  dropped = λ z around p a x. given-dropped z around p a x;
  silent = λ z around p r a x. silent-set z around p r a x;
  silent_dropped = λ z around p a x. silent-dropped z around p a x;
}
