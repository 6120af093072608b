-- The text that is printed for items and a unit.
use Rattle.std.specs.Prelude.{ℕ, Bool, true, false, List, [], ◌∷◌, ◌++◌, map, codes, decimal}
use Rattle.std.specs.List.{concat}
use Rattle.cc_whole_tokens.specs.declared.mark.Mark.TheVariants as mark
use Rattle.cc_whole.specs.declared.types.CVariableType.{CVariableType}
use Rattle.cc_whole.specs.declared.unit.CParameter.{CParameter}
use Rattle.cc_whole.specs.declared.unit.CPrototype.{CPrototype}
use Rattle.cc_whole.specs.declared.unit.CFunction.{CFunction}
use Rattle.cc_whole.specs.declared.unit.CVariable.{CVariable}
use Rattle.cc_whole.specs.declared.unit.CItem.{CItem}
use Rattle.cc_whole.specs.declared.unit.CItem.TheVariants as item
use Rattle.cc_whole.specs.declared.unit.CUnit.{CUnit}
use Rattle.cc_whole_print.specs.Lines.{newline, spaced, printed_mark, printed_if, with_commas}
use Rattle.cc_whole_print.specs.Types.{result_text, scalar_text, variable_text}
use Rattle.cc_whole_print.specs.Statements.{body_text}
use Rattle.cc_whole_print.specs.Initialisers.{initialiser_text}

abbrev pub shared_text : Bool → List ℕ
shared_text true = codes "#pragma cf_shared" ++ newline
shared_text false = []

abbrev pub parameter_text : CParameter → List ℕ
parameter_text p = scalar_text p.ty p.name

abbrev pub parameters_text : List CParameter → List ℕ
parameters_text [] = printed_mark mark.Void
parameters_text (p ∷ ps) = with_commas (map parameter_text (p ∷ ps))

abbrev pub prototype_text : CPrototype → List ℕ
prototype_text p =
    printed_if p.is_static mark.Static
    ++ (result_text p.result ++ (spaced p.name ++ (printed_mark mark.LeftParen ++ (parameters_text p.parameters ++ printed_mark mark.RightParen))))

abbrev pub extern_text : CVariableType → List ℕ → List ℕ
extern_text t name = printed_mark mark.Extern ++ (variable_text t name ++ printed_mark mark.Semicolon)

abbrev pub function_text : CFunction → List ℕ
function_text f = shared_text f.is_shared ++ (prototype_text f.prototype ++ body_text f.body)

abbrev pub variable_item_text : CVariable → List ℕ
variable_item_text v =
    shared_text v.is_shared
    ++ (printed_if v.is_static mark.Static ++ (variable_text v.ty v.name ++ (initialiser_text v.initialiser ++ printed_mark mark.Semicolon)))

abbrev pub item_text : CItem → List ℕ
item_text (item.Prototype p) = prototype_text p ++ printed_mark mark.Semicolon
item_text (item.Extern t name) = extern_text t name
item_text (item.Function f) = function_text f
item_text (item.Variable v) = variable_item_text v

-- the first line gives the version
abbrev pub unit_text : CUnit → List ℕ
unit_text u = codes "#pragma cfront " ++ (decimal u.version ++ (newline ++ concat (map item_text u.items)))
