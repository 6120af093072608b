use Rattle.std.proofs.Common.{arith, ◌≤◌, ◌≡◌, ◌∙◌, true, ap, sym, subst, map, drop, ◌+◌, List, [], ◌∷◌, ◌++◌, Err}
use Rattle.std.proofs.lemmas.Result.{err_from_is_err_and}
use denote.Param.Weighed.{most, at_most}
use Rattle.cf_core.proofs.node.Core.TheLaws.{the_size}
use Rattle.cf_core.specs.declared.node.Core.{Core}
use Rattle.cf_run_tree.specs.declared.node.Node.{Node}
use Rattle.cf_core_node.specs.Formed.{all}
use Rattle.cf_core_node.specs.Gives.{Gives}
use Rattle.cf_core_node.specs.Known.{all_known}
use Rattle.cf_core_node.specs.Nodes.{node_of}
use Rattle.cf_core_node.proofs.Known.{known_at}
use Rattle.cf_core_node.proofs.Loops.{in_front, stopped, going}
use Rattle.cf_core_node.proofs.Naming.{gives-static, gives-function}
use Rattle.cf_core_node.proofs.+nodes.Goals as goal

pub parts::all-node-requires : goal.parts::all-node-requires
parts::all-node-requires t c =
    let items = c.as_slice-e-items.result.now in
    let le = at_most (λ (x : Core). the_size x) items c.loop-e.e-index c.e-item.result c.loop-e-test.true in
    let there : the_size c.e-item.result ≤ most (λ (x : Core). the_size x) items =
    subst (λ (x : Core). the_size x ≤ most (λ (x : Core). the_size x) items) (sym c.e-item.is) le in
    let below : the_size c.e-item.result ≤ most (λ (x : Core). the_size x) c.args.nodes.now =
    subst (λ (l : List Core). the_size c.e-item.result ≤ most (λ (x : Core). the_size x) l) c.as_slice-e-items.ensures there in (
      grind (arith, below),
      known_at c.args.unit.now items c.loop-e.e-index c.e-item.result (subst (λ (l : List Core). all_known c.args.unit.now l ≡ true) (sym c.as_slice-e-items.ensures) c.requires)
          c.loop-e-test.true c.e-item.is,
    )

pub parts::all-returns-in_err-node : goal.parts::all-returns-in_err-node
parts::all-returns-in_err-node t c =
    let f = node_of c.args.unit.now.types c.args.defined.now in
    let p = err_from_is_err_and c.from_residual.result c.from_residual.ensures.1 in
    rw (p.1, p.2)
    (subst (λ (l : List Core). Gives (all (map f l)) (Err c.in_err-node.field-0.0)) c.as_slice-e-items.ensures
    (stopped f c.loop-e.found c.as_slice-e-items.result.now c.loop-e.e-index c.e-item.result c.loop-e.invariant c.loop-e-test.true c.e-item.is c.in_err-node.field-0.0
    c.in_err-node.ensures))

pub parts::all-loop-e-preserved : goal.parts::all-loop-e-preserved
parts::all-loop-e-preserved t c =
    let f = node_of c.args.unit.now.types c.args.defined.now in
    let items = c.as_slice-e-items.result.now in
    let i = c.loop-e.e-index in
    ap (λ (l : List Node). in_front l (all (map f (drop (i + 1) items))))
    (c.in_ok-push.ensures.ok ∙ ap (λ (y : Node). c.loop-e.found ++ y ∷ []) c.into_inner.ensures)
    ∙ going f c.loop-e.found items i c.e-item.result c.loop-e.invariant c.loop-e-test.true c.e-item.is c.in_ok-node.field-0 c.in_ok-node.ensures

pub nodes::node-returns-in-Static : goal.nodes::node-returns-in-Static
nodes::node-returns-in-Static t c =
    gives-static c.args.unit.now.types c.args.defined.now c.args.e.now c.in-Static.at c.in-Static.name c.in-Static.ty c.static_object.result c.in-Static.is c.static_object.ensures

pub nodes::node-returns-in-Function : goal.nodes::node-returns-in-Function
nodes::node-returns-in-Function t c =
    gives-function c.args.unit.now.types c.args.defined.now c.args.e.now c.in-Function.at c.in-Function.name c.in-Function.ty c.function.result c.in-Function.is c.function.ensures
