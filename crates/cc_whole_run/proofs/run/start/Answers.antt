use Rattle.cc_whole_step.specs.declared.mark.Doing.TheVariants as doing
use Rattle.cc_whole_step.specs.declared.mark.Flow.TheVariants as left
use Rattle.cc_whole_run.proofs.Starting.{starts}
use Rattle.cc_whole_run.proofs.run.start.Goals as goal

pub returns : goal.returns
returns c =
    starts c.args.alloc c.args.program c.args.main.now c.args.limits c.in_ok-names.field-0.names c.new-2.result (doing.Leave left.Falls) c.in_ok-names.field-0.store c.new-3.result
    c.from.result c.begin_main.new.self c.in_ok-names.ensures.names c.in_ok-names.ensures.memory c.new-2.ensures.items c.new-3.ensures.items c.from.ensures c.in_ok-begin_main.ensures
