use Rattle.std.proofs.Common.{rules, ◌≤◌, length, ap, sym, subst, ◌∙◌}
use Rattle.cf_types.specs.Table.{Table}
use Rattle.cf_elab.specs.Operand.{sort_of}
use Rattle.cf_elab_env.specs.Holds.{IsType}
use Rattle.cf_elab_enumeration.proofs.DeclareLaws.{all_declared, one_declared, int_at}
use Rattle.cf_elab_enumeration.proofs.declaring.declare_all.Goals as goal

pub declare_one-requires-clause-known : goal.declare_one-requires-clause-known
declare_one-requires-clause-known c = subst (λ (types : Table). IsType types c.args.ty) (sym c.loop-one.invariant.types) c.requires.known

pub declare_one-requires-clause-enumeration : goal.declare_one-requires-clause-enumeration
declare_one-requires-clause-enumeration c = ap (λ (types : Table). sort_of types c.args.ty) c.loop-one.invariant.types ∙ c.requires.enumeration

pub declare_one-requires-clause-int : goal.declare_one-requires-clause-int
declare_one-requires-clause-int c = int_at c.args.list.now c.loop-one.one-index c.one-item.result c.loop-one-test.true c.one-item.is c.requires.ints

pub loop-one-preserved : goal.loop-one-preserved
loop-one-preserved c = record {
  left =
      one_declared c.args.ty c.args.list.now c.loop-one.one-index c.args.env.now c.loop-one.env c.loop-one.invariant.left c.one-item.result c.declare_one.new.env
      c.loop-one-test.true c.one-item.is c.in_ok-declare_one.ensures.made;
  types = c.declare_one.ensures.types ∙ c.loop-one.invariant.types;
}

pub returns-clause-made : goal.returns-clause-made
returns-clause-made c =
    let past : length c.args.list.now ≤ c.loop-one.one-index = search rules in
    all_declared c.args.ty c.args.list.now c.loop-one.one-index c.args.env.now c.loop-one.env c.loop-one.invariant.left past
