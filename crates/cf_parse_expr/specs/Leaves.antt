-- The readings of whole names, specifiers and operators by words that stay shut, so that a rule is seen as its parts.
use Rattle.std.specs.Prelude.{ℕ, Bool, List}
use Rattle.cf_syntax.specs.declared.expression.Expr.{Expr}
use Rattle.cf_syntax.specs.declared.name.Name.{Name}
use Rattle.cf_syntax.specs.declared.name.Path.{Path}
use Rattle.cf_syntax.specs.declared.operator.AssignOp.{AssignOp}
use Rattle.cf_syntax.specs.declared.operator.BinaryOp.{BinaryOp}
use Rattle.cf_syntax.specs.declared.operator.PrefixOp.{PrefixOp}
use Rattle.cf_syntax.specs.declared.operator.StepOp.{StepOp}
use Rattle.cf_syntax.specs.declared.specifier.BasicType.{BasicType}
use Rattle.cf_syntax.specs.declared.specifier.Pointer.{Pointer}
use Rattle.cf_syntax.specs.declared.specifier.TypeSpecifier.{TypeSpecifier}
use Rattle.cf_syntax.specs.NamesData.{Names}
use Rattle.cf_syntax.specs.Grammar.{constant, basic_word, from_file, array_brackets}
use Rattle.cf_syntax.specs.Named.{type_path, one_pointer, pointers}
use Rattle.cf_syntax.specs.Operators.{level, assigning, prefixing, stepping, operator}
use Rattle.cf_syntax.specs.Parse.{Parse}
use Rattle.cf_syntax.specs.Specified.{specifiers, name}

unfoldable pub a_name : Names → Parse (Name × List ℕ)
a_name names = name names

unfoldable pub a_type_path : Names → Parse Path
a_type_path names = type_path names

unfoldable pub some_specifiers : Names → Parse (List TypeSpecifier)
some_specifiers names = specifiers names

unfoldable pub a_pointer : Names → Parse Pointer
a_pointer names = one_pointer names

unfoldable pub all_pointers : Names → Parse (List Pointer)
all_pointers names = pointers names

unfoldable pub a_constant : Parse Expr
a_constant = constant

unfoldable pub a_basic_word : Parse (ℕ × BasicType)
a_basic_word = basic_word

unfoldable pub a_scope : Parse Bool
a_scope = from_file

unfoldable pub brackets : Parse Bool
brackets = array_brackets

unfoldable pub step_operator : Parse (ℕ × StepOp)
step_operator = operator stepping

unfoldable pub prefix_operator : Parse (ℕ × PrefixOp)
prefix_operator = operator prefixing

unfoldable pub assign_operator : Parse (ℕ × AssignOp)
assign_operator = operator assigning

unfoldable pub binary_operator : ℕ → Parse (ℕ × BinaryOp)
binary_operator n = operator (level n)
