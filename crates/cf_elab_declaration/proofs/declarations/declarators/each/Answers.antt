use Rattle.std.proofs.Common.{rules, ◌≤◌, ◌∙◌, ap, sym, List, drop, ◌+◌, length}
use Rattle.std.proofs.lemmas.Result.{err_from_is_err_and}
use Rattle.cf_elab.specs.Objects.{Reached}
use Rattle.cf_elab_declaration.specs.Declarators.DefineReached.{maybe_reached}
use Rattle.cf_elab_env.proofs.Growth.{grows_through, grows-refl}
use Rattle.cf_elab_env.proofs.InOrder.{behind, none_yet}
use Rattle.cf_elab_declaration.specs.Declarations.Shut as shut
use Rattle.cf_elab_declaration.proofs.DeclarationsLaws.BuiltParts.{one_declarator}
use Rattle.cf_elab_declaration.proofs.DeclarationsLaws.Several.{declarators_end, declarators_stop, declarators_go}
use Rattle.cf_elab_declaration.proofs.declarations.declarators.each.Goals as goal

pub loop-d-init : goal.loop-d-init
loop-d-init c =
    let whole = shut.declarators c.args.gathered.now c.args.declarators.now c.args.env.now in
    record {
      made = none_yet whole ∙ ap (λ (l : List Reached). behind l whole) (sym c.new-found.ensures);
      grows = grows-refl c.args.env.now.types;
    }

pub limited-requires-clause-built : goal.limited-requires-clause-built
limited-requires-clause-built c = one_declarator c.args.declarators.now c.loop-d.d-index c.d-item.result c.requires.built c.loop-d-test.true c.d-item.is

pub returns-in_err-reached-clause-made : goal.returns-in_err-reached-clause-made
returns-in_err-reached-clause-made c =
    let p = err_from_is_err_and c.from_residual.result c.from_residual.ensures.1 in
    rw (p.1, p.2)
    (declarators_stop (shut.declarators c.args.gathered.now c.args.declarators.now c.args.env.now) c.args.gathered.now c.loop-d.found c.args.declarators.now c.loop-d.d-index c.d-item.result c.loop-d.env
    c.loop-d.invariant.made c.loop-d-test.true c.d-item.is c.in_err-reached.field-0.0 c.in_err-reached.ensures.made)

pub loop-d-preserved : goal.loop-d-preserved
loop-d-preserved c =
    let g = c.args.gathered.now in
    let next = c.limited.new.env in
    let more = declarators_go (shut.declarators g c.args.declarators.now c.args.env.now) g c.loop-d.found c.args.declarators.now c.loop-d.d-index c.d-item.result c.loop-d.env
    c.loop-d.invariant.made c.loop-d-test.true c.d-item.is (maybe_reached c.in_ok-reached.reached) next c.in_ok-reached.ensures.made in
    record {
      made = more ∙ ap (λ (l : List Reached). behind l (shut.declarators g (drop (c.loop-d.d-index + 1) c.args.declarators.now) next)) (sym c.in_ok-add.ensures);
      grows = grows_through c.args.env.now.types c.loop-d.env.types next.types c.loop-d.invariant.grows c.in_ok-reached.ensures.grows;
    }

pub returns-clause-made : goal.returns-clause-made
returns-clause-made c =
    let past : length c.args.declarators.now ≤ c.loop-d.d-index = search rules in
    c.loop-d.invariant.made ∙ declarators_end c.args.gathered.now c.loop-d.found c.args.declarators.now c.loop-d.d-index c.loop-d.env past
