use Rattle.std.proofs.Common.{List, map, ap, ◌∙◌}
use Rattle.std.specs.Prelude.{find}
use Rattle.cf_core.specs.declared.unit.CoreFn.{CoreFn}
use Rattle.cf_core.specs.FromUnit.{tables_of, function_of}
use Rattle.cf_core_sound.specs.Programs.{is_main}
use Rattle.cf_file_sound.specs.Files.{stands_for_main}
use Rattle.cf_sound.proofs.Tests.{first_fails, past}
use Rattle.cf_sound.proofs.files.fits.Goals as goal

pub returns-then-not-has_main : goal.returns-then-not-has_main
returns-then-not-has_main c =
    let unit = c.args.unit.now in
    let main = λ (fs : List CoreFn). is_main (find stands_for_main (map (function_of (tables_of unit)) fs)) in
    first_fails c.has_main.result (main unit.functions) (c.has_main.ensures ∙ ap main c.functions.ensures.functions) _ c.if-not-has_main.true

pub returns : goal.returns
returns c =
    let unit = c.args.unit.now in
    let main = λ (fs : List CoreFn). is_main (find stands_for_main (map (function_of (tables_of unit)) fs)) in
    past c.has_main.result (main unit.functions) (c.has_main.ensures ∙ ap main c.functions.ensures.functions) _ _ c.if-not-has_main.false c.in_ok-fit.ensures
