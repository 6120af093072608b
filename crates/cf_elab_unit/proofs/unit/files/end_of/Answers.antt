use Rattle.std.proofs.Common.{List, rules, subst}
use Rattle.std.proofs.lemmas.Result.{err_from_is_err_and}
use Rattle.cf_unit.specs.declared.file.Item.{Item}
use Rattle.cf_elab_env.specs.Answered.{Stops}
use Rattle.cf_elab_unit.specs.Unit.Shut as shut
use Rattle.cf_elab_unit.proofs.UnitLaws.FileRows.{core_is, ends_is, stop_is}
use Rattle.cf_elab_unit.proofs.unit.files.end_of.Goals as goal

pub returns-in_err-whole-clause-first : goal.returns-in_err-whole-clause-first
returns-in_err-whole-clause-first c =
    let p = err_from_is_err_and c.from_residual-in_err-whole.result c.from_residual-in_err-whole.ensures.1 in
    rw (p.1, p.2)
    (stop_is c.args.unit.now c.built_so_far.result c.in_ok-defines.defines c.in_ok-env.env c.built_so_far.ensures c.in_ok-defines.ensures c.in_ok-env.ensures c.in_err-whole.field-0.0
    (subst (λ (items : List Item). Stops (shut.whole items c.in_ok-env.env) c.in_err-whole.field-0.0) c.as_slice.ensures c.in_err-whole.ensures))

pub returns-clause-first : goal.returns-clause-first
returns-clause-first c =
    core_is c.args.unit.now c.built_so_far.result c.in_ok-defines.defines c.in_ok-env.env c.built_so_far.ensures c.in_ok-defines.ensures c.in_ok-env.ensures c.whole.new.env (search rules)

pub returns-clause-ends : goal.returns-clause-ends
returns-clause-ends c =
    ends_is c.args.unit.now c.built_so_far.result c.in_ok-defines.defines c.in_ok-env.env c.built_so_far.ensures c.in_ok-defines.ensures c.in_ok-env.ensures c.requires c.whole.new.env (search rules)
