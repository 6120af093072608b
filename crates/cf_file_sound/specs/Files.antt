-- What is asked of a file, beside that it is valid and of built forms, so that its meaning is never malformed: by the file's own names.
use Rattle.std.specs.Prelude.{Bool, true, ◌&&◌, not, nat_le, [], length, find, is_some, codes, bytes_eq}
use Rattle.std.specs.List.{list_all}
use Rattle.cf_core.specs.Core as core
use Rattle.cf_core.specs.Core.{Core, Holder, no_temporary, local_temporary, static_temporary, Function, Static, CoreFile}
use Rattle.cf_core.specs.Nodes.{nodes}
use Rattle.cf_core.specs.Places.{is_reference}
use Rattle.cf_core.specs.Calls.{Program, is_library}
use Rattle.cf_core.specs.Typing.{Scope, is_function}
use Rattle.cf_core.specs.Valid.{body_of}
use Rattle.cf_core_sound.specs.Proper.{most, is_proper}
use Rattle.cf_core_sound.specs.Simple.{is_whole, has_object, function_fits, keeps_functions}
use Rattle.cf_core_sound.specs.Calls.{frame_types}
use Rattle.cf_core_sound.specs.Programs.{outside, is_main}
use Rattle.cf_sequence.specs.Statements.{binds}

-- the file as a program by its own names, in which nothing is set
abbrev pub alone : CoreFile → Program
alone file = record { classes = file.classes; functions = file.functions; statics = file.statics; constants = []; initialisers = [] }

abbrev pub is_sound_holder : Holder → Bool
is_sound_holder no_temporary = true
is_sound_holder (local_temporary i t) = is_proper t
is_sound_holder (static_temporary name) = true

module _ (file : CoreFile) (scope : Scope) where
  -- a node names what the file or the library has, its types are as elaboration makes them, no pointer to a function becomes one to void, and no
  -- literal is longer than an int counts
  abbrev pub is_sound_node : Core → Bool
  is_sound_node (core.text j bytes) = nat_le (length bytes) most
  is_sound_node (core.static_object name t) = is_proper t && has_object (alone file) name
  is_sound_node (core.function name t) = is_proper t && function_fits (alone file) name t
  is_sound_node (core.call name t object args) = is_proper t && function_fits (alone file) name t
  is_sound_node (core.pointer_call object e t args) = is_proper t
  is_sound_node (core.convert t e) = is_whole t && keeps_functions (alone file) scope t e
  is_sound_node (core.from_void t e) = is_whole t && not (is_function t)
  is_sound_node (core.temporary t e) = is_proper t
  is_sound_node (core.bind holder e) = is_sound_holder holder
  is_sound_node (core.declare i t e) = is_proper t
  is_sound_node e = true

  -- a tree of such nodes
  abbrev pub is_sound_tree : Core → Bool
  is_sound_tree e = list_all is_sound_node (nodes e)

-- a function's parameters, locals and nodes
abbrev pub is_sound_body : CoreFile → Function → Bool
is_sound_body file f = list_all is_proper (frame_types f) && is_sound_tree file (body_of file f).scope f.body

-- an object of the file's, which is no reference and has no name of the library's, and what sets it
abbrev pub is_sound_object : CoreFile → Static → Bool
is_sound_object file x =
    not (is_library x.name)
    && (not (is_reference x.type) && (not (binds x.start) && (is_proper x.type && is_sound_tree file (outside (alone file)) x.start)))

-- a function of the name of `main` that is not the file's alone
abbrev pub stands_for_main : Function → Bool
stands_for_main f = bytes_eq f.name (codes "__main") && not f.is_local

abbrev pub has_main : CoreFile → Bool
has_main file = is_some (find stands_for_main file.functions)

-- `main` is there, takes nothing and gives an int; and each function and object is sound
abbrev pub is_sound_file : CoreFile → Bool
is_sound_file file =
    is_main (find stands_for_main file.functions)
    && (list_all (is_sound_body file) file.functions && list_all (is_sound_object file) file.statics)
