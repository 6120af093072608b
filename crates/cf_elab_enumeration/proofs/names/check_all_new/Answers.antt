use Rattle.std.proofs.Common.{rules}
use Rattle.cf_elab_enumeration.proofs.NewLaws.{own_first}
use Rattle.cf_elab_enumeration.proofs.names.check_all_new.Goals as goal

pub returns-in_err-check_each : goal.returns-in_err-check_each
returns-in_err-check_each c =
    rw (own_first c.args.own.now c.new-before.result c.add_own.new.before c.args.list.now c.args.env.now c.in_ok-add_own.ensures c.new-before.ensures) (search rules)

pub returns : goal.returns
returns c =
    rw (own_first c.args.own.now c.new-before.result c.add_own.new.before c.args.list.now c.args.env.now c.in_ok-add_own.ensures c.new-before.ensures) (search rules)
