use Rattle.std.proofs.Common.{List, sym, subst}
use Rattle.cf_elab.specs.Env.{FunctionEntry}
use Rattle.cf_elab_env.specs.Entries.{HasName}
use Rattle.cf_elab_env.proofs.NamedEntries.{tells_set}
use Rattle.cf_elab_env.proofs.entries.Entries.set.Goals as goal

pub invariant_of-self : goal.invariant_of-self
invariant_of-self c =
    tells_set c.self.inside.table c.self.inside.entries.items c.args.number c.args.entry c.self.invariant
    (subst (λ (fs : List FunctionEntry). HasName fs c.args.number c.args.entry.name) (sym c.self.view_is) c.requires.name)
