use Rattle.std.proofs.Common.{rules, arith, ◌≤◌, ◌≡◌, ◌∙◌, ap, sym, subst, map, drop, ◌+◌, List, [], ◌∷◌, ◌++◌, length, All}
use Rattle.std.proofs.lemmas.List.Elements.{All-push}
use Rattle.std.proofs.lemmas.Result.{err_from_is_err_and}
use denote.Param.Weighed.{most, at_most}
use Rattle.cf_syntax.proofs.declarator.Param.TheLaws as param
use Rattle.cf_syntax.proofs.expression.Expr.TheLaws.{the_size}
use Rattle.cf_syntax.specs.declared.declarator.DeclTree.{DeclTree}
use Rattle.cf_syntax.specs.declared.declarator.Param.{Param}
use Rattle.cf_syntax.specs.declared.expression.Expr.{Expr}
use Rattle.cf_elab.specs.Answer.{Made}
use Rattle.cf_elab.specs.Shape.{Parameter}
use Rattle.cf_elab_env.specs.Holds.{Grows}
use Rattle.cf_elab_env.specs.SeenOperand.{operand_seen}
use Rattle.cf_elab_env.specs.declared.operand.Operand.{Operand}
use Rattle.cf_elab_env.proofs.Growth.{grows_through}
use Rattle.cf_elab_operand.specs.Operands.{IsOperand}
use Rattle.cf_elab_shape.specs.Shapes.Seen.{shape_seen}
use Rattle.cf_elab_expr.specs.Seen.{operands_seen}
use Rattle.cf_elab_shape.specs.Shapes.Holds.{IsParameter, AreObjects}
use Rattle.cf_elab_shape.proofs.ShapesLaws.ParameterLaws.{objects_grown}
use Rattle.cf_elab_expr.specs.Shut as shut
use Rattle.cf_elab_expr.proofs.BuiltForms.{one_built}
use Rattle.cf_elab_operand.proofs.Grown.{operands_grown}
use Rattle.cf_elab_expr.proofs.BuiltTrees.{one_parameter}
use Rattle.cf_elab_env.proofs.InOrder.{behind}
use Rattle.cf_elab_expr.proofs.Several.{operands_stopped, operands_going, operands_end, parameters_stopped, parameters_going, parameters_end}
use Rattle.cf_elab_expr.proofs.Trees.{array_stopped, parameter_stops, list_stops, list_made}
use Rattle.cf_elab_expr.proofs.+expressions.Goals as goal

pub lists::run-operand-requires : goal.lists::run-operand-requires
lists::run-operand-requires t c =
    let items = c.args.all.now in
    let le = at_most (λ (x : Expr). the_size x) items c.loop-e.e-index c.e-item.result c.loop-e-test.true in
    let there : the_size c.e-item.result ≤ most (λ (x : Expr). the_size x) items =
    subst (λ (x : Expr). the_size x ≤ most (λ (x : Expr). the_size x) items) (sym c.e-item.is) le in
    (grind (arith, there), one_built items c.loop-e.e-index c.e-item.result c.requires c.loop-e-test.true c.e-item.is)

pub lists::run-returns-in_err-operand-clause-made : goal.lists::run-returns-in_err-operand-clause-made
lists::run-returns-in_err-operand-clause-made t c =
    let p = err_from_is_err_and c.from_residual.result c.from_residual.ensures.1 in
    rw (p.1, p.2)
    (operands_stopped (shut.runs c.args.all.now c.args.env.now) c.loop-e.found c.args.all.now c.loop-e.e-index c.e-item.result c.loop-e.env c.loop-e.invariant.made c.loop-e-test.true c.e-item.is
    c.in_err-operand.field-0.0 c.in_err-operand.ensures.made)

pub lists::run-loop-e-preserved : goal.lists::run-loop-e-preserved
lists::run-loop-e-preserved t c =
    let o = c.in_ok-operand.field-0 in
    let next = c.operand.new.env in
    let more = operands_going (shut.runs c.args.all.now c.args.env.now) c.loop-e.found c.args.all.now c.loop-e.e-index c.e-item.result c.loop-e.env c.loop-e.invariant.made c.loop-e-test.true c.e-item.is o next c.in_ok-operand.ensures.made in
    let kept = operands_grown c.loop-e.env.types next.types c.loop-e.found c.in_ok-operand.ensures.grows c.loop-e.invariant.known in
    record {
      made = more ∙ ap (λ (l : List Operand). behind (operands_seen l) (shut.runs (drop (c.loop-e.e-index + 1) c.args.all.now) next)) (sym c.in_ok-push.ensures.ok);
      known = subst (λ (l : List Operand). All (λ o. IsOperand next.types o) l) (sym c.in_ok-push.ensures.ok) (All-push (λ o. IsOperand next.types o) c.loop-e.found o kept c.in_ok-operand.ensures.known);
      grows = grows_through c.args.env.now.types c.loop-e.env.types next.types c.loop-e.invariant.grows c.in_ok-operand.ensures.grows;
    }

pub lists::run-returns-clause-made : goal.lists::run-returns-clause-made
lists::run-returns-clause-made t c =
    let past : length c.args.all.now ≤ c.loop-e.e-index = search rules in
    c.loop-e.invariant.made ∙ operands_end c.loop-e.found c.args.all.now c.loop-e.e-index c.loop-e.env past

pub declarators::parameters-parameter-requires : goal.declarators::parameters-parameter-requires
declarators::parameters-parameter-requires t c =
    let items = c.args.all.now in
    let le = at_most (λ (x : Param). param.the_size x) items 0 c.only-item.result c.in-len1.len_at_least in
    let there : param.the_size c.only-item.result ≤ most (λ (x : Param). param.the_size x) items =
    subst (λ (x : Param). param.the_size x ≤ most (λ (x : Param). param.the_size x) items) (sym c.only-item.is) le in
    (grind (arith, there), one_parameter items 0 c.only-item.result c.requires c.in-len1.len_at_least c.only-item.is)

pub declarators::parameters-returns-in_err-found-in-len1-clause-made : goal.declarators::parameters-returns-in_err-found-in-len1-clause-made
declarators::parameters-returns-in_err-found-in-len1-clause-made t c =
    let p = err_from_is_err_and c.from_residual.result c.from_residual.ensures.1 in
    rw (p.1, p.2)
    (parameter_stops c.args.all.now c.only-item.result c.args.env.now c.in-len1.len_at_least c.in-len1.len_below c.only-item.is c.in_err-found-in-len1.field-0.0
    c.in_err-found-in-len1.ensures.made)

pub declarators::parameters-returns-in_err-list-in-len1-clause-made : goal.declarators::parameters-returns-in_err-list-in-len1-clause-made
declarators::parameters-returns-in_err-list-in-len1-clause-made t c =
    let p = err_from_is_err_and c.from_residual-in_err-list-in-len1.result c.from_residual-in_err-list-in-len1.ensures.1 in
    rw (p.1, p.2)
    (list_stops c.args.all.now c.only-item.result c.args.env.now c.in-len1.len_at_least c.in-len1.len_below c.only-item.is c.in_ok-found-in-len1.found c.parameter.new.env
    c.in_err-list-in-len1.field-0.0 c.in_ok-found-in-len1.ensures.made c.in_err-list-in-len1.ensures.made)

pub declarators::parameters-returns-in_ok-list-in-len1-clause-made : goal.declarators::parameters-returns-in_ok-list-in-len1-clause-made
declarators::parameters-returns-in_ok-list-in-len1-clause-made t c =
    list_made c.args.all.now c.only-item.result c.args.env.now c.in-len1.len_at_least c.in-len1.len_below c.only-item.is c.in_ok-found-in-len1.found
    c.in_ok-list-in-len1.list c.parameter.new.env c.in_ok-found-in-len1.ensures.made c.in_ok-list-in-len1.ensures.made

pub declarators::object_parameters-object_parameter-requires : goal.declarators::object_parameters-object_parameter-requires
declarators::object_parameters-object_parameter-requires t c =
    let items = c.args.all.now in
    let le = at_most (λ (x : Param). param.the_size x) items c.loop-p.p-index c.p-item.result c.loop-p-test.true in
    let there : param.the_size c.p-item.result ≤ most (λ (x : Param). param.the_size x) items =
    subst (λ (x : Param). param.the_size x ≤ most (λ (x : Param). param.the_size x) items) (sym c.p-item.is) le in
    (grind (arith, there), one_parameter items c.loop-p.p-index c.p-item.result c.requires c.loop-p-test.true c.p-item.is)

pub declarators::object_parameters-returns-in_err-object_parameter-clause-made : goal.declarators::object_parameters-returns-in_err-object_parameter-clause-made
declarators::object_parameters-returns-in_err-object_parameter-clause-made t c =
    let p = err_from_is_err_and c.from_residual.result c.from_residual.ensures.1 in
    rw (p.1, p.2)
    (parameters_stopped (shut.object_parameters c.args.all.now c.args.env.now) c.loop-p.found c.args.all.now c.loop-p.p-index c.p-item.result c.loop-p.env c.loop-p.invariant.made c.loop-p-test.true c.p-item.is
    c.in_err-object_parameter.field-0.0 c.in_err-object_parameter.ensures.made)

pub declarators::object_parameters-loop-p-preserved : goal.declarators::object_parameters-loop-p-preserved
declarators::object_parameters-loop-p-preserved t c =
    let q = c.in_ok-object_parameter.field-0 in
    let next = c.object_parameter.new.env in
    let more = parameters_going (shut.object_parameters c.args.all.now c.args.env.now) c.loop-p.found c.args.all.now c.loop-p.p-index c.p-item.result c.loop-p.env c.loop-p.invariant.made c.loop-p-test.true c.p-item.is q next c.in_ok-object_parameter.ensures.made in
    let kept : AreObjects next.types c.loop-p.found = objects_grown c.loop-p.env.types next.types c.loop-p.found c.in_ok-object_parameter.ensures.grows c.loop-p.invariant.known in
    record {
      made = more ∙ ap (λ (l : List Parameter). behind l (shut.object_parameters (drop (c.loop-p.p-index + 1) c.args.all.now) next)) (sym c.in_ok-push.ensures.ok);
      known = subst (λ (l : List Parameter). All (λ q. IsParameter next.types q) l) (sym c.in_ok-push.ensures.ok) (All-push (λ (q : Parameter). IsParameter next.types q) c.loop-p.found q kept c.in_ok-object_parameter.ensures.known);
      grows = grows_through c.args.env.now.types c.loop-p.env.types next.types c.loop-p.invariant.grows c.in_ok-object_parameter.ensures.grows;
    }

pub declarators::object_parameters-returns-clause-made : goal.declarators::object_parameters-returns-clause-made
declarators::object_parameters-returns-clause-made t c =
    let past : length c.args.all.now ≤ c.loop-p.p-index = search rules in
    c.loop-p.invariant.made ∙ parameters_end c.loop-p.found c.args.all.now c.loop-p.p-index c.loop-p.env past

pub declarators::shape_of-returns-in_err-shape-in-Array-2-clause-made : goal.declarators::shape_of-returns-in_err-shape-in-Array-2-clause-made
declarators::shape_of-returns-in_err-shape-in-Array-2-clause-made t c =
    let p = err_from_is_err_and c.from_residual-in_err-shape-in-Array-2.result c.from_residual-in_err-shape-in-Array-2.ensures.1 in
    rw (p.1, p.2)
    (array_stopped c.args.d.now c.in-Array.inside c.in-Array.at c.in-Array.bound (shape_seen c.in_ok-shape-in-Array.shape) c.args.env.now c.shape_of-in-Array.new.env
    c.in_err-shape-in-Array-2.field-0.0 c.in-Array.is (ap (λ (d : DeclTree). shut.shape_of d c.args.env.now) (sym c.get-in-Array.ensures) ∙ c.in_ok-shape-in-Array.ensures.made)
    c.in_err-shape-in-Array-2.ensures.made)
