use Rattle.cf_plain.specs.View.{file_of}
use Rattle.cf_lower_kept.specs.Opened.{functions_open}
use Rattle.cf_lower_kept.specs.Ready.{functions_ready}
use Rattle.cf_lower_place.specs.Named.{functions_in_place}
use Rattle.cf_lower_program.specs.Alike.{starts_alike}
use Rattle.cf_lower_program.specs.Names.{names_lowered, names_used}
use Rattle.cf_lower_program.specs.Starts.{statics_known}
use Rattle.cf_lowerable.proofs.Joins.{first_fails, from_names, from_open, from_places, from_ready, from_starts, past}
use Rattle.cf_lowerable.proofs.files.passes.Goals as goal

pub returns-then-not-known : goal.returns-then-not-known
returns-then-not-known c =
    let file = file_of c.args.made.now in
    first_fails c.in_ok-known.known (statics_known file) c.in_ok-known.ensures (from_starts file) c.if-not-known.true

pub returns-then-not-starts : goal.returns-then-not-starts
returns-then-not-starts c =
    let file = file_of c.args.made.now in
    past c.in_ok-known.known (statics_known file) c.in_ok-known.ensures _ (from_starts file) c.if-not-known.false
    (first_fails c.in_ok-starts.starts (starts_alike file) c.in_ok-starts.ensures (from_ready file) c.if-not-starts.true)

pub returns-then-not-ready : goal.returns-then-not-ready
returns-then-not-ready c =
    let file = file_of c.args.made.now in
    past c.in_ok-known.known (statics_known file) c.in_ok-known.ensures _ (from_starts file) c.if-not-known.false
    (past c.in_ok-starts.starts (starts_alike file) c.in_ok-starts.ensures _ (from_ready file) c.if-not-starts.false
    (first_fails c.in_ok-ready.ready (functions_ready file) c.in_ok-ready.ensures (from_open file) c.if-not-ready.true))

pub returns-then-not-open : goal.returns-then-not-open
returns-then-not-open c =
    let file = file_of c.args.made.now in
    past c.in_ok-known.known (statics_known file) c.in_ok-known.ensures _ (from_starts file) c.if-not-known.false
    (past c.in_ok-starts.starts (starts_alike file) c.in_ok-starts.ensures _ (from_ready file) c.if-not-starts.false
    (past c.in_ok-ready.ready (functions_ready file) c.in_ok-ready.ensures _ (from_open file) c.if-not-ready.false
    (first_fails c.in_ok-open.open (functions_open file) (c.in_ok-open.ensures.opened c.requires.kept) (from_places file) c.if-not-open.true)))

pub returns-then-not-placed : goal.returns-then-not-placed
returns-then-not-placed c =
    let file = file_of c.args.made.now in
    past c.in_ok-known.known (statics_known file) c.in_ok-known.ensures _ (from_starts file) c.if-not-known.false
    (past c.in_ok-starts.starts (starts_alike file) c.in_ok-starts.ensures _ (from_ready file) c.if-not-starts.false
    (past c.in_ok-ready.ready (functions_ready file) c.in_ok-ready.ensures _ (from_open file) c.if-not-ready.false
    (past c.in_ok-open.open (functions_open file) (c.in_ok-open.ensures.opened c.requires.kept) _ (from_places file) c.if-not-open.false
    (first_fails c.in_ok-placed.placed (functions_in_place file) c.in_ok-placed.ensures (from_names file) c.if-not-placed.true))))

pub returns-then-not-named : goal.returns-then-not-named
returns-then-not-named c =
    let file = file_of c.args.made.now in
    past c.in_ok-known.known (statics_known file) c.in_ok-known.ensures _ (from_starts file) c.if-not-known.false
    (past c.in_ok-starts.starts (starts_alike file) c.in_ok-starts.ensures _ (from_ready file) c.if-not-starts.false
    (past c.in_ok-ready.ready (functions_ready file) c.in_ok-ready.ensures _ (from_open file) c.if-not-ready.false
    (past c.in_ok-open.open (functions_open file) (c.in_ok-open.ensures.opened c.requires.kept) _ (from_places file) c.if-not-open.false
    (past c.in_ok-placed.placed (functions_in_place file) c.in_ok-placed.ensures _ (from_names file) c.if-not-placed.false
    (first_fails c.in_ok-named.named (names_lowered file) c.in_ok-named.ensures (names_used file) c.if-not-named.true)))))

pub returns : goal.returns
returns c =
    let file = file_of c.args.made.now in
    past c.in_ok-known.known (statics_known file) c.in_ok-known.ensures _ (from_starts file) c.if-not-known.false
    (past c.in_ok-starts.starts (starts_alike file) c.in_ok-starts.ensures _ (from_ready file) c.if-not-starts.false
    (past c.in_ok-ready.ready (functions_ready file) c.in_ok-ready.ensures _ (from_open file) c.if-not-ready.false
    (past c.in_ok-open.open (functions_open file) (c.in_ok-open.ensures.opened c.requires.kept) _ (from_places file) c.if-not-open.false
    (past c.in_ok-placed.placed (functions_in_place file) c.in_ok-placed.ensures _ (from_names file) c.if-not-placed.false
    (past c.in_ok-named.named (names_lowered file) c.in_ok-named.ensures _ (names_used file) c.if-not-named.false
    (c.in_ok-used.ensures))))))
