use Rattle.std.proofs.Common.{ap, sym, ◌∙◌}
use Rattle.std.specs.Prelude.{nat_lt}
use Rattle.cf_name_list.specs.Names.{is_in}
use Rattle.cf_name_list.specs.Names.{last_first}
use Rattle.cf_name_list.proofs.CountLaws.{is_in-count}
use Rattle.cf_name_list.proofs.names.Names.has.Goals as goal

pub returns : goal.returns
returns c =
    ap (nat_lt 0) (c.count.ensures ∙ c.self.invariant c.args.name) ∙ sym (is_in-count (last_first c.self.inside.list.items) c.args.name.now)
    ∙ ap (λ l. is_in l c.args.name.now) c.self.view_is
