use Rattle.std.proofs.Common.{◌∷◌, ap, sym, ◌∙◌, arith}
use Rattle.cf_name_list.specs.Names.{is_in}
use Rattle.cf_lowerable_core.proofs.NameLaws.{one_twice, one_more, still_differ}
use Rattle.cf_lowerable_core.proofs.literals.all_differ.Goals as goal

pub returns-then-has : goal.returns-then-has
returns-then-has c =
    one_twice c.args.all.now c.loop-left.left c.index-all-left.result c.loop-left.behind (omega arith) c.loop-left.invariant.within c.index-all-left.is
    c.loop-left.invariant.names (ap (is_in c.loop-left.behind) (sym c.as_slice-name.ensures) ∙ sym c.has.ensures ∙ c.if-has.true)

pub loop-left-preserved : goal.loop-left-preserved
loop-left-preserved c =
    let absent = ap (is_in c.loop-left.behind) (sym c.as_slice-name.ensures) ∙ sym c.has.ensures ∙ c.if-has.false in
    record {
      within = omega (arith, c.loop-left.invariant.within);
      names =
          one_more c.args.all.now c.loop-left.left c.index-all-left.result c.loop-left.behind (omega arith) c.loop-left.invariant.within c.index-all-left.is
          c.loop-left.invariant.names c.add.new.self (c.in_ok-add.ensures ∙ ap (λ n. n ∷ c.loop-left.behind) c.as_slice-name.ensures);
      differ =
          still_differ c.args.all.now c.loop-left.left c.index-all-left.result c.loop-left.behind (omega arith) c.loop-left.invariant.within c.index-all-left.is
          c.loop-left.invariant.names absent c.loop-left.invariant.differ;
    }
