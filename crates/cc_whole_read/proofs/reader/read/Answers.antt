use Rattle.std.proofs.Common.{◌≡◌, ◌+◌, ◌-◌, ◌<◌, ◌≤◌, length, sym, rules, arith}
use Rattle.std.proofs.lemmas.Grind.{common_steps}
use Rattle.cc_whole_first_line.proofs.FirstLines.{first_line_is}
use Rattle.cc_whole_first_line.proofs.Shorter.{no_longer}
use Rattle.cc_whole_read.specs.Read.{text_limit, no_line, bytes}
use Rattle.cc_whole_read.proofs.Answering.{line_shorter, line_good}
use Rattle.cc_whole_read.proofs.reader.read.Goals as goal

pub returns-then-text-gt-TEXT_LIMIT : goal.returns-then-text-gt-TEXT_LIMIT
returns-then-text-gt-TEXT_LIMIT c =
    let long : text_limit < length c.args.text.now = first_of (search rules, grind (arith, common_steps)) in
    bytes long

pub overflow_sub-result : goal.overflow_sub-result
overflow_sub-result c = no_longer c.args.text.now c.in-Err.rest.now (sym c.in-Err.ensures)

pub overflow_sub-text : goal.overflow_sub-text
overflow_sub-text c =
    line_shorter c.args.text.now c.in-Ok.version c.in-Ok.body.now (first_line_is c.args.text.now c.in-Ok.version c.in-Ok.body.now (sym c.in-Ok.ensures))

pub behind_line-requires-clause-fits : goal.behind_line-requires-clause-fits
behind_line-requires-clause-fits c =
    let shorter = line_shorter c.args.text.now c.in-Ok.version c.in-Ok.body.now (first_line_is c.args.text.now c.in-Ok.version c.in-Ok.body.now (sym c.in-Ok.ensures)) in
    let small : length c.args.text.now ≤ text_limit = first_of (search rules, grind (arith, common_steps)) in
    omega (arith, shorter, small)

pub behind_line-requires-clause-version : goal.behind_line-requires-clause-version
behind_line-requires-clause-version c =
    line_good c.args.text.now c.in-Ok.version c.in-Ok.body.now (first_line_is c.args.text.now c.in-Ok.version c.in-Ok.body.now (sym c.in-Ok.ensures))

pub returns-in-Err : goal.returns-in-Err
returns-in-Err c =
    let shorter = no_longer c.args.text.now c.in-Err.rest.now (sym c.in-Err.ensures) in
    let small : length c.args.text.now ≤ text_limit = first_of (search rules, grind (arith, common_steps)) in
    let place : (length c.args.text.now - length c.in-Err.rest.now) + length c.in-Err.rest.now ≡ length c.args.text.now = omega (arith, shorter) in
    no_line (record { small = small; rest = c.in-Err.rest.now; stops = sym c.in-Err.ensures; place = place })

pub returns-in-Ok : goal.returns-in-Ok
returns-in-Ok c =
    let line = first_line_is c.args.text.now c.in-Ok.version c.in-Ok.body.now (sym c.in-Ok.ensures) in
    let shorter = line_shorter c.args.text.now c.in-Ok.version c.in-Ok.body.now line in
    let small : length c.args.text.now ≤ text_limit = first_of (search rules, grind (arith, common_steps)) in
    let place : (length c.args.text.now - length c.in-Ok.body.now) + length c.in-Ok.body.now ≡ length c.args.text.now = omega (arith, shorter) in
    c.behind_line.ensures c.args.text.now line place small
