use Rattle.std.proofs.Common.{◌≡◌, ◌≤◌, ◌<◌, Some, None, ◌∷◌, [], ◌++◌, ◌-◌, length, rules}
use Rattle.cf_unit.specs.Read.{taking, row}
use Rattle.cf_parse_body.specs.Inits.{init_turn, more_inits}
use Rattle.cf_parse_decl.proofs.Rows.{row-stops, row-stalls, row-goes-on, row-ends}
use Rattle.cf_parse_body.proofs.inits.more_inits.Goals as goal

pub returns-then-len-left : goal.returns-then-len-left
unfolding more_inits init_turn
returns-then-len-left c =
    let read : init_turn c.args.names.now c.loop-turn.all c.loop-turn.c ≡ Some (c.loop-turn.all ++ c.in-Ok.x ∷ [], c.next_init.new.c) = search rules in
    let longer : length c.loop-turn.c ≤ length c.next_init.new.c = search rules in
    let e = row-stalls (init_turn c.args.names.now) (c.len-turn-end.result - c.loop-turn._turn) c.loop-turn.all (c.loop-turn.all ++ c.in-Ok.x ∷ []) c.loop-turn.c c.next_init.new.c (row (λ b us. taking (init_turn c.args.names.now b us) us) (length c.args.c.now) c.args.first c.args.c.now) read longer c.loop-turn.invariant in
    search rules

pub returns-in-Err-Nothing : goal.returns-in-Err-Nothing
unfolding more_inits init_turn
returns-in-Err-Nothing c =
    let over : init_turn c.args.names.now c.loop-turn.all c.loop-turn.c ≡ None = search rules in
    let e = row-stops (init_turn c.args.names.now) (c.len-turn-end.result - c.loop-turn._turn) c.loop-turn.all c.loop-turn.c (row (λ b us. taking (init_turn c.args.names.now b us) us) (length c.args.c.now) c.args.first c.args.c.now) over c.loop-turn.invariant in
    search rules

pub loop-turn-preserved : goal.loop-turn-preserved
unfolding init_turn
loop-turn-preserved c =
    let read : init_turn c.args.names.now c.loop-turn.all c.loop-turn.c ≡ Some (c.push.new.self, c.next_init.new.c) = search rules in
    let shorter : length c.next_init.new.c < length c.loop-turn.c = search rules in
    row-goes-on (init_turn c.args.names.now) c.len-turn-end.result c.loop-turn._turn c.loop-turn.all c.push.new.self c.loop-turn.c c.next_init.new.c (row (λ b us. taking (init_turn c.args.names.now b us) us) (length c.args.c.now) c.args.first c.args.c.now)
    c.loop-turn-test.true read shorter c.loop-turn.invariant

pub returns : goal.returns
unfolding more_inits
returns c = row-ends (init_turn c.args.names.now) c.len-turn-end.result c.loop-turn._turn c.loop-turn.all c.loop-turn.c (row (λ b us. taking (init_turn c.args.names.now b us) us) (length c.args.c.now) c.args.first c.args.c.now) c.loop-turn-test.false c.loop-turn.invariant
