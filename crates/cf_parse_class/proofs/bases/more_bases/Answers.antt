use Rattle.std.proofs.Common.{◌≡◌, ◌≤◌, ◌<◌, Some, None, ◌-◌, length, rules}
use Rattle.cf_unit.specs.Read.{taking, row}
use Rattle.cf_parse_class.specs.Parts.{base_turn, more_bases, with_base}
use Rattle.cf_parse_class.proofs.Rows.{row-stops, row-stalls, row-goes-on, row-ends}
use Rattle.cf_parse_class.proofs.bases.more_bases.Goals as goal

pub returns-then-len-left : goal.returns-then-len-left
unfolding more_bases base_turn
returns-then-len-left c =
    let read : base_turn c.args.names.now c.loop-turn.all c.loop-turn.c ≡ Some (with_base c.args.names.now c.loop-turn.all c.in-Ok.base, c.next_base.new.c) = search rules in
    let longer : length c.loop-turn.c ≤ length c.next_base.new.c = search rules in
    let e = row-stalls (base_turn c.args.names.now) (c.len-turn-end.result - c.loop-turn._turn) c.loop-turn.all (with_base c.args.names.now c.loop-turn.all c.in-Ok.base) c.loop-turn.c c.next_base.new.c (row (λ b us. taking (base_turn c.args.names.now b us) us) (length c.args.c.now) c.args.first c.args.c.now) read longer c.loop-turn.invariant in
    search rules

pub returns-in-Err-Nothing : goal.returns-in-Err-Nothing
unfolding more_bases base_turn
returns-in-Err-Nothing c =
    let over : base_turn c.args.names.now c.loop-turn.all c.loop-turn.c ≡ None = search rules in
    let e = row-stops (base_turn c.args.names.now) (c.len-turn-end.result - c.loop-turn._turn) c.loop-turn.all c.loop-turn.c (row (λ b us. taking (base_turn c.args.names.now b us) us) (length c.args.c.now) c.args.first c.args.c.now) over c.loop-turn.invariant in
    search rules

pub loop-turn-preserved : goal.loop-turn-preserved
unfolding base_turn
loop-turn-preserved c =
    let read : base_turn c.args.names.now c.loop-turn.all c.loop-turn.c ≡ Some (c.add.new.all, c.next_base.new.c) = search rules in
    let shorter : length c.next_base.new.c < length c.loop-turn.c = search rules in
    row-goes-on (base_turn c.args.names.now) c.len-turn-end.result c.loop-turn._turn c.loop-turn.all c.add.new.all c.loop-turn.c c.next_base.new.c (row (λ b us. taking (base_turn c.args.names.now b us) us) (length c.args.c.now) c.args.first c.args.c.now)
    c.loop-turn-test.true read shorter c.loop-turn.invariant

pub returns : goal.returns
unfolding more_bases
returns c = row-ends (base_turn c.args.names.now) c.len-turn-end.result c.loop-turn._turn c.loop-turn.all c.loop-turn.c (row (λ b us. taking (base_turn c.args.names.now b us) us) (length c.args.c.now) c.args.first c.args.c.now) c.loop-turn-test.false c.loop-turn.invariant
