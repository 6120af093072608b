use Rattle.std.proofs.Common.{rules, ◌≤◌, ◌∙◌, ap, sym, List, [], ◌∷◌, ◌++◌, drop, ◌+◌, length, Option, Some, ℤ, pos}
use Rattle.std.proofs.lemmas.Result.{err_from_is_err_and}
use Rattle.cf_elab.specs.Enumeration.{Counted, one_more}
use Rattle.cf_elab_env.proofs.Growth.{grows_through, grows-refl, type_grown}
use Rattle.cf_elab_declaration.specs.Enums.Shut as shut
use Rattle.cf_elab_declaration.proofs.EnumsLaws.CountingLaws.{behind, none_yet, at_end, stopped, going, one_built}
use Rattle.cf_elab_declaration.proofs.enums.counting.counted.Goals as goal

pub loop-e-init : goal.loop-e-init
loop-e-init c =
    let whole = shut.counted c.args.ty (Some (pos 0)) c.args.list.now c.args.env.now in
    record {
      made = none_yet whole ∙ ap (λ (l : List Counted). behind l whole) (sym c.new-all.ensures);
      grows = grows-refl c.args.env.now.types;
    }

pub counted_one-requires : goal.counted_one-requires
counted_one-requires c =
    let g = c.loop-e.invariant.grows in
    record {
      built = one_built c.args.list.now c.loop-e.e-index c.e-item.result c.requires.built c.loop-e-test.true c.e-item.is;
      known = type_grown c.args.env.now.types c.loop-e.env.types c.args.ty g c.requires.known;
      enumeration = g.sorts c.args.ty c.requires.known ∙ c.requires.enumeration;
    }

pub returns-in_err-one-clause-made : goal.returns-in_err-one-clause-made
returns-in_err-one-clause-made c =
    let p = err_from_is_err_and c.from_residual.result c.from_residual.ensures.1 in
    rw (p.1, p.2)
    (stopped (shut.counted c.args.ty (Some (pos 0)) c.args.list.now c.args.env.now) c.args.ty c.loop-e.next c.loop-e.all c.args.list.now c.loop-e.e-index c.e-item.result c.loop-e.env
    c.loop-e.invariant.made c.loop-e-test.true c.e-item.is c.in_err-one.field-0.0 c.in_err-one.ensures.made)

pub loop-e-preserved : goal.loop-e-preserved
loop-e-preserved c =
    let one = c.in_ok-one.one in
    let after = c.counted_one.new.env in
    let left = drop (c.loop-e.e-index + 1) c.args.list.now in
    let more = going (shut.counted c.args.ty (Some (pos 0)) c.args.list.now c.args.env.now) c.args.ty c.loop-e.next c.loop-e.all c.args.list.now c.loop-e.e-index c.e-item.result c.loop-e.env
    c.loop-e.invariant.made c.loop-e-test.true c.e-item.is one after c.in_ok-one.ensures.made in
    record {
      made = more
          ∙ ap (λ (z : Option ℤ). behind (c.loop-e.all ++ one ∷ []) (shut.counted c.args.ty z left after)) (sym (c.in_ok-next.ensures ∙ ap one_more c.its_number.ensures))
          ∙ ap (λ (l : List Counted). behind l (shut.counted c.args.ty c.in_ok-next.next left after)) (sym c.in_ok-push.ensures.ok);
      grows = grows_through c.args.env.now.types c.loop-e.env.types after.types c.loop-e.invariant.grows c.in_ok-one.ensures.grows;
    }

pub returns-clause-made : goal.returns-clause-made
returns-clause-made c =
    let past : length c.args.list.now ≤ c.loop-e.e-index = search rules in
    c.loop-e.invariant.made ∙ at_end c.args.ty c.loop-e.next c.loop-e.all c.args.list.now c.loop-e.e-index c.loop-e.env past
