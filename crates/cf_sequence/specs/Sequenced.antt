-- The plain unit that a core becomes, and the plain program that a program does.
use Rattle.std.specs.Prelude.{◌+◌, length, if◌then◌else◌, List, [], ◌++◌, ◌||◌, Option, Some, None, map, reverse, is_some}
use Rattle.cf_core.specs.Types.{Name, SourceType, void, parameters, result, is_class, class}
use Rattle.cf_core.specs.Classes.{Class}
use Rattle.cf_core.specs.Core.{Function, Static, CoreFile, once}
use Rattle.cf_core.specs.Nodes.{nodes}
use Rattle.cf_core.specs.Calls.{Program, Setting}
use Rattle.cf_core.specs.Joined.{is_nothing}
use Rattle.cf_core.specs.Valid.{class_of_role}
use Rattle.cf_plain.specs.Plain.{Plains, PlainFunction, PlainStatic, PlainFile, nothing}
use Rattle.cf_plain.specs.Program.{PlainProgram, PlainSetting}
use Rattle.cf_sequence.specs.Made.{numbered, added, declared}
use Rattle.cf_sequence.specs.Expressions.{finished}
use Rattle.cf_sequence.specs.Statements.{Inside, statement, initialised, type_of_static}

abbrev pub class_type : Option Name → SourceType
class_type None = void
class_type (Some c) = class c

abbrev pub inside : List Class → List Static → Function → Inside
inside classes statics f = record {
  classes = classes;
  statics = statics;
  result = result f.type;
  class = class_type (class_of_role f.role);
  here = [];
  breaks = [];
  continues = [];
  returns = reverse (numbered 0 (parameters f.type));
}

-- Where a function flows off its end its parameters are destroyed, the last first. A function of class type doesn't flow off its end: nothing is
-- destroyed behind it (6.6.3).
abbrev pub flowed_off : Function → Plains
flowed_off f = if is_class (result f.type) then nothing else finished (reverse (numbered 0 (parameters f.type))) nothing

abbrev pub sequenced_body : List Class → List Static → Function → Plains
sequenced_body classes statics f =
    statement (inside classes statics f) f.body (length (parameters f.type) + length f.locals) (finished (declared f.body) (flowed_off f))

abbrev pub sequenced_function : List Class → List Static → Function → PlainFunction
sequenced_function classes statics f = record {
  name = f.name;
  role = f.role;
  type = f.type;
  locals = f.locals ++ added (nodes f.body);
  body = sequenced_body classes statics f;
  is_shared = f.is_shared;
  is_local = f.is_local;
}

abbrev pub outside : List Class → List Static → Inside
outside classes statics =
    record { classes = classes; statics = statics; result = void; class = void; here = []; breaks = []; continues = []; returns = [] }

-- A constant initialiser is done at once, that of another object where it is not yet reached; a local object's stands in its function (6.7, 8.4).
-- The object has the type that its name has in the file.
abbrev pub sequenced_start : List Class → List Static → Static → Plains
sequenced_start classes statics x =
    if x.is_constant || is_some x.owner
    then (if is_nothing x.start then nothing else initialised classes (type_of_static statics x.name) x.name x.start 0 nothing)
    else statement (outside classes statics) (once x.name x.start) 0 nothing

abbrev pub sequenced_static : List Class → List Static → Static → PlainStatic
sequenced_static classes statics x = record {
  name = x.name;
  type = x.type;
  locals = added (nodes x.start);
  start = sequenced_start classes statics x;
  owner = x.owner;
  is_constant = x.is_constant;
  is_shared = x.is_shared;
  is_local = x.is_local;
}

abbrev pub sequenced_file : CoreFile → PlainFile
sequenced_file file = record {
  classes = file.classes;
  functions = map (sequenced_function file.classes file.statics) file.functions;
  statics = map (sequenced_static file.classes file.statics) file.statics;
}

-- The program of the same functions and objects.
abbrev pub sequenced : Program → PlainProgram
sequenced P = record {
  classes = P.classes;
  functions = map (sequenced_function P.classes P.statics) P.functions;
  statics = map (sequenced_static P.classes P.statics) P.statics;
  constants = map (λ (x : Setting).
      let s : PlainSetting = record { function = x.function; start = initialised P.classes (type_of_static P.statics x.object) x.object x.start 0 nothing } in s) P.constants;
  initialisers = map (sequenced_function P.classes P.statics) P.initialisers;
}
