use Rattle.std.proofs.Common.{◌≡◌, Err, rules, subst}
use Rattle.std.proofs.lemmas.Result.{err_from_is_err_and}
use Rattle.cf_core.specs.Types.{Name}
use Rattle.cf_core_node.specs.Gives.{Gives}
use Rattle.cf_core_node.specs.Nodes as spec
use Rattle.cf_core_node.proofs.Naming.{made-stops}
use Rattle.cf_core_node.proofs.leaves.static_object.Goals as goal

pub returns-in_err-ty : goal.returns-in_err-ty
returns-in_err-ty c =
    let p = err_from_is_err_and c.from_residual-in_err-ty.result c.from_residual-in_err-ty.ensures.1 in
    let link : c.as_slice-3.result.now ≡ spec.link c.args.unit.now.types c.args.defined.now c.args.name.now = search rules in
    rw (p.1, p.2)
    (made-stops _ _ c.in_err-ty.field-0.0
    (subst (λ (n : Name). Gives (spec.named_object c.args.unit.now.types c.args.defined.now c.args.at n c.args.ty) (Err c.in_err-ty.field-0.0)) link c.in_err-ty.ensures))
