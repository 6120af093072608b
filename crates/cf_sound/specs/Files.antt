-- The test of a file, part by part.
use Rattle.std.specs.Prelude.{Bool, ◌&&◌, not, [], find}
use Rattle.std.specs.List.{list_all}
use Rattle.cf_core.specs.Calls.{is_library}
use Rattle.cf_core.specs.Core.{Function, Static, CoreFile}
use Rattle.cf_core.specs.Places.{is_reference}
use Rattle.cf_core_sound.specs.Calls.{frame_types}
use Rattle.cf_core_sound.specs.Programs.{is_main}
use Rattle.cf_core_sound.specs.Proper.{is_proper}
use Rattle.cf_file_sound.specs.Files.{stands_for_main}
use Rattle.cf_sequence.specs.Statements.{binds}
use Rattle.cf_sound.specs.Asked.{tree_fits}

abbrev pub body_fits : CoreFile → Function → Bool
body_fits file f = list_all is_proper (frame_types f) && tree_fits file (frame_types f) f.body

abbrev pub head_fits : Static → Bool
head_fits x = not (is_library x.name) && (not (is_reference x.type) && (not (binds x.start) && is_proper x.type))

abbrev pub object_fits : CoreFile → Static → Bool
object_fits file x = head_fits x && tree_fits file [] x.start

abbrev pub all_fit : CoreFile → Bool
all_fit file = list_all (body_fits file) file.functions && list_all (object_fits file) file.statics

abbrev pub file_fits : CoreFile → Bool
file_fits file = is_main (find stands_for_main file.functions) && all_fit file
