-- The plain units of a program joined by link names, as cores are.
use Rattle.std.specs.Prelude.{ℕ, suc, Bool, true, false, not, ◌&&◌, List, [], ◌∷◌, ◌++◌, Option, codes, map, filter, bytes_eq, is_some, option_map}
use Rattle.std.specs.List.{list_any}
use Rattle.cf_base.specs.World.{Outcome}
use Rattle.cf_core.specs.Types.{Name, SourceType, void, gives}
use Rattle.cf_core.specs.Core.{plain_function}
use Rattle.cf_core.specs.Joined.{renamed_target, in_file, name_in, new_classes, owner_or}
use Rattle.cf_plain.specs.Plain.{Action, static_object, function, function_pointer, is_reached, reach, finish_static, call, build, Plain, Plains, PlainParts, act, set, branch, loop, switch, parts, nothing, more, no_parts, part, PlainFunction, PlainStatic, PlainFile}
use Rattle.cf_plain.specs.Program.{PlainSetting, PlainProgram, PlainMean}

-- The names of functions and objects are replaced.
module _ (r : Name → Name) where
  abbrev pub renamed_action : Action → Action
  renamed_action (static_object n t) = static_object (r n) t
  renamed_action (function n t) = function (r n) t
  renamed_action (function_pointer t) = function_pointer (renamed_target r t)
  renamed_action (is_reached n) = is_reached (r n)
  renamed_action (reach n) = reach (r n)
  renamed_action (finish_static n) = finish_static (r n)
  renamed_action (call f t object is into) = call (r f) t object is into
  renamed_action (build f t p is) = build (r f) t p is
  renamed_action a = a

  abbrev mutual
    pub renamed : Plain → Plain
    renamed (act a) = act (renamed_action a)
    renamed (set q a) = set q (renamed_action a)
    renamed (branch q ss ts) = branch q (renamed_all ss) (renamed_all ts)
    renamed (loop ss ts) = loop (renamed_all ss) (renamed_all ts)
    renamed (switch q ss) = switch q (renamed_all ss)
    renamed (parts ps) = parts (renamed_parts ps)
    renamed s = s

    pub renamed_all : Plains → Plains
    renamed_all nothing = nothing
    renamed_all (more s ss) = more (renamed s) (renamed_all ss)

    pub renamed_parts : PlainParts → PlainParts
    renamed_parts no_parts = no_parts
    renamed_parts (part w ss rest) = part w (renamed_all ss) (renamed_parts rest)

-- What is local to a file goes by its link name with `__u` and the file's number, from 1 (3.3).

abbrev pub local_names : PlainFile → List Name
local_names file =
    map (λ (f : PlainFunction). f.name) (filter (λ (f : PlainFunction). f.is_local) file.functions)
    ++ map (λ (x : PlainStatic). x.name) (filter (λ (x : PlainStatic). x.is_local) file.statics)

abbrev pub own_names : ℕ → PlainFile → PlainFile
own_names k file =
    let r = name_in k (local_names file) in
    record file {
      functions = map (λ (f : PlainFunction). record f { name = r f.name; body = renamed_all r f.body }) file.functions;
      statics = map (λ (x : PlainStatic). record x { name = r x.name; start = renamed_all r x.start; owner = option_map r x.owner }) file.statics;
    }

-- Shared things stand once, as in their first file.

abbrev pub new_functions : List PlainFunction → List PlainFunction → List PlainFunction
new_functions found fs = filter (λ (f : PlainFunction). not (list_any (λ (g : PlainFunction). bytes_eq g.name f.name) found)) fs

abbrev pub new_statics : List PlainStatic → List PlainStatic → List PlainStatic
new_statics found xs = filter (λ (x : PlainStatic). not (list_any (λ (y : PlainStatic). bytes_eq y.name x.name) found)) xs

-- Initialisers (8.4, 6.7).

abbrev pub joined : Plains → Plains → Plains
joined nothing rest = rest
joined (more s ss) rest = more s (joined ss rest)

abbrev pub starts : List PlainStatic → Plains
starts [] = nothing
starts (x ∷ rest) = joined x.start (starts rest)

-- The locals of an initialiser are numbered from 0; the longest list of them is as good for each.
abbrev pub longer : List SourceType → List SourceType → List SourceType
longer [] ts = ts
longer (t ∷ ts) [] = t ∷ ts
longer (t ∷ ts) (u ∷ us) = t ∷ longer ts us

abbrev pub start_locals : List PlainStatic → List SourceType
start_locals [] = []
start_locals (x ∷ rest) = longer x.locals (start_locals rest)

abbrev pub file_initialiser : Name → List PlainStatic → List PlainFunction
file_initialiser name [] = []
file_initialiser name (x ∷ rest) = record {
  name = name;
  role = plain_function;
  type = gives void false;
  locals = start_locals (x ∷ rest);
  body = starts (x ∷ rest);
  is_shared = false;
  is_local = false;
} ∷ []

abbrev pub is_empty : Plains → Bool
is_empty nothing = true
is_empty (more s rest) = false

abbrev pub sets_constant : PlainStatic → Bool
sets_constant x = x.is_constant && not (is_empty x.start)

abbrev pub constant_setting : Name → PlainStatic → PlainSetting
constant_setting name x = record { function = owner_or name x.owner; start = x.start }

abbrev pub needs_initialiser : PlainStatic → Bool
needs_initialiser x = not x.is_constant && not (is_some x.owner)

-- the program so far, and a further file with its number
abbrev pub with_file : PlainProgram → ℕ → PlainFile → PlainProgram
with_file Q k file =
    let statics = new_statics Q.statics file.statics in
    let name = in_file k (codes "__sti") in
    record {
      classes = Q.classes ++ new_classes Q.classes file.classes;
      functions = Q.functions ++ new_functions Q.functions file.functions;
      statics = Q.statics ++ statics;
      constants = Q.constants ++ map (constant_setting name) (filter sets_constant statics);
      initialisers = Q.initialisers ++ file_initialiser name (filter needs_initialiser statics);
    }

abbrev pub with_files : PlainProgram → ℕ → List PlainFile → PlainProgram
with_files Q k [] = Q
with_files Q k (file ∷ rest) = with_files (with_file Q k (own_names k file)) (suc k) rest

-- the program of these files, in the order of the command line
abbrev pub program_of : List PlainFile → PlainProgram
program_of files = with_files (record { classes = []; functions = []; statics = []; constants = []; initialisers = [] }) 1 files

-- The meaning of files: from an input, a heap limit, a depth limit and a bound of ticks.
abbrev pub files_mean : List PlainFile → List ℕ → ℕ → ℕ → ℕ → Option Outcome
files_mean files input heap depth n = PlainMean (program_of files) input heap depth n
