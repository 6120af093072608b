use Rattle.cf_elab_env.proofs.Sorts.{all_complete}
use Rattle.cf_elab_env.proofs.env.Env.is_complete.Goals as goal

pub returns : goal.returns
returns c = all_complete c.args.self.now c.types-known.ensures.table c.types-known.ensures.no_class c.args._id c.requires
