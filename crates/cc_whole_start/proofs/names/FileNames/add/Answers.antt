use Rattle.cc_whole_start.specs.Table.{scope_of}
use Rattle.cc_whole_start.proofs.NameLaws.{table-bind}
use Rattle.cc_whole_start.proofs.names.FileNames.add.Goals as goal

pub returns : goal.returns
returns c =
    table-bind c.args.name c.args.named (scope_of c.args.self.now) (scope_of (record { table = c.insert.new.self })) (λ q. c.in_ok-insert.ensures.updates.0 q)
