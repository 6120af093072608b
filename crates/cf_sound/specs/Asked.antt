-- What is asked of a node, in three parts: of types and lengths, of names, and of conversions to a pointer to void.
use Rattle.std.specs.Prelude.{Bool, true, ◌&&◌, not, nat_le, List, length}
use Rattle.std.specs.List.{list_all}
use Rattle.cf_core.specs.Types.{SourceType, plain}
use Rattle.cf_core.specs.Core as core
use Rattle.cf_core.specs.Core.{Core, CoreFile}
use Rattle.cf_core.specs.Nodes.{nodes}
use Rattle.cf_core.specs.Typing.{is_function}
use Rattle.cf_core_sound.specs.Forms.{points, form}
use Rattle.cf_core_sound.specs.Proper.{most, is_proper}
use Rattle.cf_core_sound.specs.Simple.{is_whole, leads_to_void, leads_to_function, has_object, function_fits}
use Rattle.cf_file_sound.specs.Files.{alone, is_sound_holder}

abbrev pub types_fit : Core → Bool
types_fit (core.text j bytes) = nat_le (length bytes) most
types_fit (core.static_object name t) = is_proper t
types_fit (core.function name t) = is_proper t
types_fit (core.call name t object args) = is_proper t
types_fit (core.pointer_call object e t args) = is_proper t
types_fit (core.convert t e) = is_whole t
types_fit (core.from_void t e) = is_whole t && not (is_function t)
types_fit (core.temporary t e) = is_proper t
types_fit (core.bind holder e) = is_sound_holder holder
types_fit (core.declare i t e) = is_proper t
types_fit e = true

abbrev pub names_fit : CoreFile → Core → Bool
names_fit file (core.static_object name t) = has_object (alone file) name
names_fit file (core.function name t) = function_fits (alone file) name t
names_fit file (core.call name t object args) = function_fits (alone file) name t
names_fit file e = true

-- among parameters and locals of these types
abbrev pub keeps : List SourceType → SourceType → Core → Bool
keeps locals t e = not (leads_to_void (plain t) && leads_to_function (points (form locals e)))

abbrev pub conversions_fit : List SourceType → Core → Bool
conversions_fit locals (core.convert t e) = keeps locals t e
conversions_fit locals e = true

abbrev pub node_fits : CoreFile → List SourceType → Core → Bool
node_fits file locals e = types_fit e && (names_fit file e && conversions_fit locals e)

abbrev pub tree_fits : CoreFile → List SourceType → Core → Bool
tree_fits file locals e = list_all (node_fits file locals) (nodes e)
