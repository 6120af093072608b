use Rattle.std.proofs.Common.{true, false, Some, sym, ap, ◌∙◌}
use Rattle.cf_core.specs.declared.node.Core.{Core as Node}
use Rattle.cf_core.specs.declared.unit.CoreStatic.{CoreStatic}
use Rattle.cf_elab.specs.Env.{Name}
use Rattle.cf_elab.specs.Objects.{static_of}
use Rattle.cf_elab_env.specs.Shut as made
use Rattle.cf_elab_declare.specs.Defines.Reached.{names_seen, once}
use Rattle.cf_elab_declare.proofs.DefinesLaws.StaticLaws.{added_constant, added_reached}
use Rattle.cf_elab_declare.proofs.defines.statics.added.Goals as goal

pub returns-in_ok-add_static-clause-made : goal.returns-in_ok-add_static-clause-made
returns-in_ok-add_static-clause-made c =
    let env = c.args.env.now in
    let n = names_seen c.args.names in
    let object = c.static_of-object.ensures ∙ ap (λ (start : Node). static_of n.link c.args.ty start (Some n.owner) true true) c.into_node.ensures in
    added_constant c.args.at c.args.ty n c.args.start env c.add_static.new.self (sym c.is_constant.ensures ∙ c.if-is_constant.true)
    (ap (λ (x : CoreStatic). made.define_static x env) (sym object) ∙ c.in_ok-add_static.ensures.made)

pub returns-in_ok-add_static-2-clause-made : goal.returns-in_ok-add_static-2-clause-made
returns-in_ok-add_static-2-clause-made c =
    let env = c.args.env.now in
    let n = names_seen c.args.names in
    let s = c.args.start in
    let at = c.args.at in
    let object = c.static_of-object-else-is_constant.ensures ∙ ap (λ (start : Node). static_of n.link c.args.ty start (Some n.owner) false true) c.in_ok-blank.ensures in
    let statement = c.in_ok-statement.ensures ∙ ap (λ (l : Name). once at l s) (c.in_ok-link.ensures ∙ c.as_slice.ensures) in
    added_reached at c.args.ty n s env c.add_static-else-is_constant.new.self c.in_ok-statement.statement (sym c.is_constant.ensures ∙ c.if-is_constant.false) statement
    (ap (λ (x : CoreStatic). made.define_static x env) (sym object) ∙ c.in_ok-add_static-2.ensures.made)
