-- Which types a core may have.
use Rattle.std.specs.Prelude.{Bool, true, ◌&&◌, not}
use Rattle.std.specs.List.{list_all}
use Rattle.cf_core.specs.Types.{SourceType, parameters}
use Rattle.cf_core.specs.Core.{Core, static_object, function, convert, from_void, temporary, declare, bind, call, virtual_call, pointer_call, build, local_temporary, Function, Static, CoreFile}
use Rattle.cf_lower_kept.specs.Ready.{is_code}
use Rattle.cf_lower_program.specs.Types.{is_laid, is_lowered, is_callable}
use Rattle.cf_sequence_lowered.specs.Nodes.{in_file}

-- of an object
abbrev pub is_of_object : SourceType → Bool
is_of_object t = is_lowered t && is_laid t

-- of a function that is named or called, each of whose parameters is an object
abbrev pub is_of_function : SourceType → Bool
is_of_function t = is_lowered t && (is_callable t && list_all is_laid (parameters t))

-- of a static object
abbrev pub is_of_static : SourceType → Bool
is_of_static t = is_lowered t && (is_laid t && not (is_code t))

abbrev pub node_types_fit : Core → Bool
node_types_fit (static_object name t) = is_of_static t
node_types_fit (function name t) = is_of_function t
node_types_fit (convert t e) = is_lowered t
node_types_fit (from_void t e) = is_lowered t
node_types_fit (temporary t e) = is_of_object t
node_types_fit (declare i t e) = is_lowered t
node_types_fit (bind (local_temporary i t) e) = is_lowered t
node_types_fit (call name t object args) = is_of_function t
node_types_fit (virtual_call signature t e args) = is_of_function t
node_types_fit (pointer_call object e t args) = is_of_function t
node_types_fit (build name t args) = is_of_function t
node_types_fit e = true

abbrev pub core_types_fit : CoreFile → Bool
core_types_fit file =
    list_all (λ (f : Function). is_of_function f.type && list_all is_of_object f.locals) file.functions
    && (list_all (λ (x : Static). is_of_static x.type) file.statics && in_file node_types_fit file)
