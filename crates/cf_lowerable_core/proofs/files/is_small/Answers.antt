use Rattle.std.proofs.Common.{◌<◌, ◌≤◌, ◌^◌, length, sym, subst, arith}
use Rattle.std.specs.Borrow.{Bor}
use Rattle.std.proofs.lemmas.List.{length-map}
use Rattle.cf_core.specs.declared.node.Core.{Core}
use Rattle.cf_core.specs.FromUnit.{tables_of}
use Rattle.cf_core_nodes.specs.Views.{view, shown}
use Rattle.cf_lowerable_core.proofs.Counts.{many_params, small_if_few}
use Rattle.cf_lowerable_core.proofs.files.is_small.Goals as goal

pub returns-then-params-ge-MOST : goal.returns-then-params-ge-MOST
returns-then-params-ge-MOST c =
    let tables = tables_of c.args.unit.now in
    let many : 2 ^ 31 ≤ length c.args.f.now.params = omega arith in
    many_params tables c.args.f.now (shown tables c.args.nodes.now) c.requires many

pub returns-then-nodes-lt-MOST : goal.returns-then-nodes-lt-MOST
returns-then-nodes-lt-MOST c =
    let tables = tables_of c.args.unit.now in
    let few : length (shown tables c.args.nodes.now) < 2 ^ 31 =
    subst (λ n. n < 2 ^ 31) (sym (length-map c.args.nodes.now (λ (e : Bor Core). view tables e.now))) c.if-nodes-lt-MOST.true in
    small_if_few tables c.args.f.now (shown tables c.args.nodes.now) c.requires c.are_few.result c.len-params.result c.len-locals.result c.len-params.ensures
    c.len-locals.ensures few c.are_few.ensures
