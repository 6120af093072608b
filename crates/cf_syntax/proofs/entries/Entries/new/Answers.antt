use Rattle.std.proofs.Common.{sym, ◌∙◌, ap}
use Rattle.cf_syntax.specs.Kinds.{kind_of}
use Rattle.cf_syntax.proofs.Table.{table_empty}
use Rattle.cf_syntax.proofs.entries.Entries.new.Goals as goal

pub invariant_of-result : goal.invariant_of-result
invariant_of-result c name = table_empty name ∙ ap (λ l. kind_of l name) (sym c.new.ensures)
