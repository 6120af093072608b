use Rattle.std.proofs.Common.{sym, ◌∙◌}
use Rattle.cf_elab.specs.Answer.{Made}
use Rattle.cf_elab_env.proofs.Consts.{const_of_array}
use Rattle.cf_elab_env.proofs.env.Env.+const_of.Goals as goal

pub returns-in_ok-id-in-Array-clause-made : goal.returns-in_ok-id-in-Array-clause-made
returns-in_ok-id-in-Array-clause-made t c =
    const_of_array c.args.self.now c.args.ty c.holds.ensures.table c.requires c.in-Array.element c.in-Array.count c.in_ok-constant-in-Array.constant c.const_of.new.self
    (Made c.in_ok-id-in-Array.id c.array_of.new.self) (sym c.type_at.ensures ∙ c.in-Array.is) c.in_ok-constant-in-Array.ensures.made c.in_ok-id-in-Array.ensures.made
