use Rattle.std.proofs.Common.{◌-◌, Some, ap, sym, arith}
use Rattle.cf_shared.proofs.Indices.{puts-here, puts-odd, puts-even}
use Rattle.cf_shared.proofs.tree.+put.Goals as goal

pub returns-then-index-eq0 : goal.returns-then-index-eq0
returns-then-index-eq0 g t c =
    puts-here c.args.tree.now c.in_ok-newer.newer c.in_ok-here.field-0 (sym c.in_ok-here.ensures) c.args.index c.args.value
    (Some c.in_ok-new.field-0) c.in_ok-newer.ensures c.if-index-eq0.true (ap Some c.in_ok-new.ensures)

pub returns-in_ok-newer-2 : goal.returns-in_ok-newer-2
returns-in_ok-newer-2 g t c =
    puts-odd c.args.tree.now c.in_ok-newer-2.newer c.in_ok-here.field-0 (sym c.in_ok-here.ensures) c.args.index c.args.value
    c.in_ok-odd.odd c.in_ok-newer-2.ensures (c.args.index - 1) (omega (arith, c.if-index-eq0.false)) c.if-beyond-eq0.true c.in_ok-odd.ensures

pub returns-in_ok-newer-3 : goal.returns-in_ok-newer-3
returns-in_ok-newer-3 g t c =
    puts-even c.args.tree.now c.in_ok-newer-3.newer c.in_ok-here.field-0 (sym c.in_ok-here.ensures) c.args.index c.args.value
    c.in_ok-even.even c.in_ok-newer-3.ensures (c.args.index - 1) (omega (arith, c.if-index-eq0.false)) (omega (arith, c.if-beyond-eq0.false)) c.in_ok-even.ensures
