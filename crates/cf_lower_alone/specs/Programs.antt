-- Both programs side by side: a plain one, and a C program in which its functions, objects and literals stand under their names.
use Rattle.std.specs.Prelude.{ℕ, false, ◌==◌, if◌then◌else◌, List, [], ◌∷◌, ◌++◌, map, Option, Some, None, bytes_eq, codes, find}
use Rattle.cf_base.specs.declared.kind.Kind.TheVariants.{Int}
use Rattle.cf_core.specs.Types.{Name, SourceType, void, integer, takes, gives}
use Rattle.cf_core.specs.Core.{Function}
use Rattle.cf_plain.specs.Plain.{Action, text, PlainFunction, PlainFile}
use Rattle.cf_plain.specs.Running.{plain_named, header}
use Rattle.cf_plain.specs.Program.{PlainProgram, static_header}
use Rattle.cf_plain.specs.Joined.{program_of}
use Rattle.cf_plain.specs.Named.{all_actions}
use Rattle.cc_whole.specs.declared.unit.CProgram.{CProgram}
use Rattle.cc_whole.specs.Plain.{items_of}
use Rattle.cc_whole_mean.specs.declared.named.Named.{Named}
use Rattle.cc_whole_mean.specs.declared.named.Named.TheVariants as meant
use Rattle.cc_whole_mean.specs.Scope.{Scope}
use Rattle.cc_whole_mean.specs.Start as start
use Rattle.cc_whole_mean.specs.Start.{file_names, function_in}
use Rattle.cf_lower.specs.Written.{literal_name}
use Rattle.cf_lower_turns.specs.Texts.{Text, Texts}
use Rattle.cf_lower_calls.specs.Returns.Called.{Programs}
use Rattle.cf_lower_calls.specs.Entered.Lowered.{Fitting, AllLowered}
use Rattle.cf_lower_tested.specs.Tested.{Joined}

-- ---- literals

abbrev pub variable_in : Option Named → ℕ
variable_in None = 0
variable_in (Some (meant.Variable b shape)) = b
variable_in (Some (meant.Function f)) = 0

-- the bytes of the literal of a number
abbrev pub text_numbered : ℕ → List Action → Option (List ℕ)
text_numbered j [] = None
text_numbered j (text i b ∷ acts) = if i == j then Some b else text_numbered j acts
text_numbered j (a ∷ acts) = text_numbered j acts

abbrev pub bytes_in : Option PlainFunction → ℕ → Option (List ℕ)
bytes_in None j = None
bytes_in (Some f) j = text_numbered j (all_actions f.body)

abbrev pub text_at : Option Named → Option (List ℕ) → Option Text
text_at x None = None
text_at x (Some b) = Some (record { block = variable_in x; bytes = b })

-- the literals that functions name, in the variables of their names
abbrev pub texts_in : List PlainFunction → Scope → Texts
texts_in fs names f j = text_at (names (literal_name f j)) (bytes_in (plain_named fs f) j)

-- ---- functions

abbrev pub library_type : Name → SourceType
library_type name =
    if bytes_eq name (codes "putchar") then takes (integer Int) (gives (integer Int) false)
    else (if bytes_eq name (codes "getchar") then gives (integer Int) false else takes (integer Int) (gives void false))

abbrev pub type_of_function : Name → Option Function → SourceType
type_of_function name None = library_type name
type_of_function name (Some f) = f.type

abbrev pub function_of : List Function → Name → Option Function
function_of fs name = find (λ (f : Function). bytes_eq f.name name) fs

-- these functions of a plain program, and what they are in the C
abbrev pub beside : List PlainFunction → PlainProgram → CProgram → Programs
beside fs Q program =
    let items = items_of program.items in
    record {
      program = record {
        classes = Q.classes;
        functions = map header fs;
        statics = map static_header Q.statics;
        constants = [];
        initialisers = map header Q.initialisers;
      };
      functions = fs;
      function = λ name. function_in (file_names items name);
      signature = λ name. type_of_function name (function_of (map header fs) name);
      c_program = start.program_of items;
      texts = texts_in fs (file_names items);
    }

-- the program of files and what is linked of their units
abbrev pub programs : List PlainFile → CProgram → Programs
programs files program = let Q = program_of files in beside (Q.functions ++ Q.initialisers) Q program

-- what the law on functions of both programs asks
pub record FitTogether (B : Programs) : Type 0 where
  pub fitting : Fitting B
  pub joined : Joined B
  pub lowered : AllLowered B
