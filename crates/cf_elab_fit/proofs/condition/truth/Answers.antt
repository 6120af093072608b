use Rattle.std.proofs.Common.{sym, ap, ◌∙◌}
use Rattle.cf_elab.specs.Operand.{sort_of}
use Rattle.cf_elab_fit.proofs.TruthLaws.{truth_made, truth_broken, user_truth_is}
use Rattle.cf_elab_fit.proofs.condition.truth.Goals as goal

pub returns-then-is_testable-clause-standard : goal.returns-then-is_testable-clause-standard
returns-then-is_testable-clause-standard c =
    let sort = c.sort_of.ensures.value ∙ ap (sort_of c.plain.new.env.types) c.ty-2.ensures in
    truth_made c.args.rule c.args.at c.args.value c.in_ok-found.found c.args.env.now c.plain.new.env c.sort_of.result c.in_ok-found.ensures.made sort
    (sym c.is_testable.ensures ∙ c.if-is_testable.true)

pub returns-then-is_testable-clause-user : goal.returns-then-is_testable-clause-user
returns-then-is_testable-clause-user c =
    let sort = c.sort_of.ensures.value ∙ ap (sort_of c.plain.new.env.types) c.ty-2.ensures in
    let no_class = c.sort_of-no_class.ensures.value ∙ ap (sort_of c.args.env.now.types) c.ty.ensures in
    user_truth_is c.args.rule c.args.at c.args.value c.args.env.now c.sort_of-no_class.result _ no_class
    (truth_made c.args.rule c.args.at c.args.value c.in_ok-found.found c.args.env.now c.plain.new.env c.sort_of.result c.in_ok-found.ensures.made sort
    (sym c.is_testable.ensures ∙ c.if-is_testable.true))

pub returns-else-is_testable-clause-standard : goal.returns-else-is_testable-clause-standard
returns-else-is_testable-clause-standard c =
    let sort = c.sort_of.ensures.value ∙ ap (sort_of c.plain.new.env.types) c.ty-2.ensures in
    truth_broken c.args.rule c.args.at c.args.value c.in_ok-found.found c.args.env.now c.plain.new.env c.sort_of.result c.in_ok-found.ensures.made sort
    (sym c.is_testable.ensures ∙ c.if-is_testable.false)

pub returns-else-is_testable-clause-user : goal.returns-else-is_testable-clause-user
returns-else-is_testable-clause-user c =
    let sort = c.sort_of.ensures.value ∙ ap (sort_of c.plain.new.env.types) c.ty-2.ensures in
    let no_class = c.sort_of-no_class.ensures.value ∙ ap (sort_of c.args.env.now.types) c.ty.ensures in
    user_truth_is c.args.rule c.args.at c.args.value c.args.env.now c.sort_of-no_class.result _ no_class
    (truth_broken c.args.rule c.args.at c.args.value c.in_ok-found.found c.args.env.now c.plain.new.env c.sort_of.result c.in_ok-found.ensures.made sort
    (sym c.is_testable.ensures ∙ c.if-is_testable.false))
