use Rattle.std.proofs.Common.{◌∙◌}
use Rattle.cf_name_table.proofs.TableLaws.{finds-next}
use Rattle.cf_name_table.proofs.name_table.table_of.Goals as goal

pub loop-name-preserved : goal.loop-name-preserved
loop-name-preserved c = λ q. finds-next (λ v. v.items) q c.args.names.now c.loop-name.name-index c.loop-name.table.keys c.insert.new.self.keys c.in_ok-own.own c.name-item.result
    c.loop-name-test.true c.name-item.is (c.in_ok-own.ensures.items ∙ c.as_slice.ensures) c.in_ok-insert.ensures.keys (c.loop-name.invariant q)
