use Rattle.std.proofs.Common.{map}
use Rattle.std.specs.List.{list_all}
use Rattle.cf_core.specs.FromUnit.{file_of, tables_of, function_of}
use Rattle.cf_sound.specs.Files.{body_fits}
use Rattle.cf_sound.proofs.Tests.{first_fails, past}
use Rattle.cf_sound.proofs.files.all_fit.Goals as goal

pub returns-then-not-functions : goal.returns-then-not-functions
returns-then-not-functions c =
    let unit = c.args.unit.now in
    first_fails c.in_ok-functions.functions (list_all (body_fits (file_of unit)) (map (function_of (tables_of unit)) unit.functions)) c.in_ok-functions.ensures _
    c.if-not-functions.true

pub returns : goal.returns
returns c =
    let unit = c.args.unit.now in
    past c.in_ok-functions.functions (list_all (body_fits (file_of unit)) (map (function_of (tables_of unit)) unit.functions)) c.in_ok-functions.ensures _ _
    c.if-not-functions.false c.in_ok-objects.ensures
