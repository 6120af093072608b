use Rattle.std.proofs.Common.{rules, ℕ, Option, option_map, sym, ap, subst, ◌∙◌}
use Rattle.cf_elab.specs.Answer.{Answer, Refused}
use Rattle.cf_elab.specs.Initial.{Start}
use Rattle.cf_elab_env.specs.Answered.{Agrees}
use Rattle.cf_elab_initial.specs.Initials.Keeping.{keeping_seen}
use Rattle.cf_elab_initial.specs.declared.lists.tree.Tree.{Tree}
use Rattle.cf_elab_initial.specs.Lists.Seen.{tree_seen}
use Rattle.cf_elab_declare.specs.Starts.Shut as shut
use Rattle.cf_elab_declare.specs.Starts.Written.{written_seen}
use Rattle.cf_elab_declare.proofs.StartsLaws.StartLaws.{array_bracketed, one_written, not_one_written}
use Rattle.cf_elab_declare.proofs.starts.starting.initialised.Goals as goal

pub returns-then-is_array_in_brackets-clause-made : goal.returns-then-is_array_in_brackets-clause-made
returns-then-is_array_in_brackets-clause-made c =
    array_bracketed (keeping_seen c.args.keeping.now) c.args.ty (written_seen c.args.written) c.args.env.now c.sort_of-no_class.result c.sort_of-no_class.ensures.value
    (sym c.is_array_in_brackets.ensures ∙ c.if-is_array_in_brackets.true)
    ∙ (λ i. Refused (sym c.new.ensures i) (sym c.at-at.ensures i))

pub returns-in_err-start-in-Some-clause-made : goal.returns-in_err-start-in-Some-clause-made
returns-in_err-start-in-Some-clause-made c =
    let k = keeping_seen c.args.keeping.now in
    let t = c.args.ty in
    let w = written_seen c.args.written in
    let x = tree_seen c.in-Some.tree in
    let one = sym c.into_one.ensures ∙ ap (λ (o : Option Tree). option_map tree_seen o) c.in-Some.is in
    let opened = one_written k t w c.args.env.now c.sort_of-no_class.result c.sort_of-no_class.ensures.value x (sym c.is_array_in_brackets.ensures ∙ c.if-is_array_in_brackets.false) one
    ∙ ap (λ (n : ℕ). shut.start_by k n t x c.args.env.now) (sym c.at-at.ensures) in
    subst (λ (a : Answer Start). Agrees a c.from_residual.result c.start_by.new.env) (sym opened) (search rules)

pub returns-in_ok-start-in-Some-clause-made : goal.returns-in_ok-start-in-Some-clause-made
returns-in_ok-start-in-Some-clause-made c =
    let k = keeping_seen c.args.keeping.now in
    let t = c.args.ty in
    let w = written_seen c.args.written in
    let x = tree_seen c.in-Some.tree in
    let one = sym c.into_one.ensures ∙ ap (λ (o : Option Tree). option_map tree_seen o) c.in-Some.is in
    one_written k t w c.args.env.now c.sort_of-no_class.result c.sort_of-no_class.ensures.value x (sym c.is_array_in_brackets.ensures ∙ c.if-is_array_in_brackets.false) one
    ∙ ap (λ (n : ℕ). shut.start_by k n t x c.args.env.now) (sym c.at-at.ensures) ∙ c.in_ok-start-in-Some.ensures.made

pub returns-in-None-clause-made : goal.returns-in-None-clause-made
returns-in-None-clause-made c =
    let none = sym c.into_one.ensures ∙ ap (λ (o : Option Tree). option_map tree_seen o) c.in-None.is in
    not_one_written (keeping_seen c.args.keeping.now) c.args.ty (written_seen c.args.written) c.args.env.now c.sort_of-no_class.result c.sort_of-no_class.ensures.value
    (sym c.is_array_in_brackets.ensures ∙ c.if-is_array_in_brackets.false) none
    ∙ (λ i. Refused (sym c.new-in-None.ensures i) (sym c.at-at.ensures i))
