-- Words for the small files that the definitions are tried on: each is the row of a construct, so a file is written as its tree is.
use Rattle.std.proofs.Common.{ℕ, List, [], ◌∷◌}
use Rattle.std.specs.Prelude.{◌+◌, Bool, true, false, Option, Some, None, codes, pos, map}
use Rattle.cf_base.specs.declared.kind.Kind.TheVariants as kind
use Rattle.cf_syntax.specs.declared.declarator.DeclTree.TheOpen.{DeclTree-F, Expr-F}
use Rattle.cf_syntax.specs.declared.name.Last.TheVariants as last
use Rattle.cf_syntax.specs.declared.name.Name.{Name as WrittenName}
use Rattle.cf_syntax.specs.declared.operator.AssignOp.TheVariants as assign
use Rattle.cf_syntax.specs.declared.operator.BinaryOp.{BinaryOp}
use Rattle.cf_syntax.specs.declared.operator.PrefixOp.{PrefixOp}
use Rattle.cf_syntax.specs.declared.operator.StepOp.{StepOp}
use Rattle.cf_syntax.specs.declared.specifier.BasicType.{BasicType}
use Rattle.cf_syntax.specs.declared.specifier.BasicType.TheVariants as basic
use Rattle.cf_syntax.specs.declared.specifier.Pointer.TheVariants as pointer
use Rattle.cf_syntax.specs.declared.specifier.Storage.{Storage}
use Rattle.cf_syntax.specs.declared.specifier.TypeSpecifier.{TypeSpecifier}
use Rattle.cf_syntax.specs.declared.specifier.TypeSpecifier.TheVariants as specifier
use Rattle.cf_syntax.specs.declared.specifier.ClassKey.{ClassKey}
use Rattle.cf_syntax.specs.declared.specifier.ClassKey.TheVariants as key
use Rattle.cf_unit.specs.declared.class.Base.{Base}
use Rattle.cf_unit.specs.declared.class.BaseWord.TheVariants as base_word
use Rattle.cf_elab.specs.Bodies.{WrittenInit}
use Rattle.cf_elab.specs.Env.{Extent}
use Rattle.cf_elab.specs.Answer.{Elab, ◌>>=◌, ◌>>◌, gives, done}
use Rattle.cf_elab.specs.Operand.{Part}
use Rattle.cf_elab.specs.Shape.{Parameter}
use Rattle.cf_elab.specs.Declarator.{Declared, declared_step, parameter_step, type_id_step}
use Rattle.cf_elab.specs.Expression.{expression_step}
use Rattle.cf_elab.specs.Lists.{Tree, branch, listed, expression_outline, expression_tree}
use Rattle.cf_elab.specs.Declaration.{Declares, behind_equals, in_brackets}
use Rattle.cf_elab.specs.Enumeration.{Item, enumeration_row}
use Rattle.cf_elab.specs.Statement.{Made, declaration_made}
use Rattle.cf_elab.specs.Definition.{body_of}
use Rattle.cf_elab.specs.Trees.{class_with_functions, MemberRow, member_declaration, method_row, SpecifierRow, DeclarationRow, plain_row, defined_row, declaration_of, definition_row}
use Rattle.cf_elab.specs.File.{First, Core, Broken, Limit, core_of_items}

-- ---- expressions

abbrev pub step : Expr-F Declared Part (Elab Parameter) (Elab ℕ) → Part
step = expression_step

abbrev pub name_at : ℕ → List ℕ → WrittenName
name_at at name = record { at = at; from_file = false; scopes = []; last_at = at; last = last.Ident name }

abbrev pub number : ℕ → ℕ → Part
number at n = step (Expr-F.Int at n kind.Int)

abbrev pub char : ℕ → ℕ → Part
char at n = step (Expr-F.Char at (pos n))

abbrev pub text : ℕ → List ℕ → Part
text at bytes = step (Expr-F.Text at bytes)

abbrev pub named : ℕ → List ℕ → Part
named at name = step (Expr-F.Named (name_at at name))

abbrev pub call : ℕ → Part → List Part → Part
call at f args = step (Expr-F.Call at f args)

abbrev pub joined : ℕ → BinaryOp → Part → Part → Part
joined at op a b = step (Expr-F.Binary at op a b)

abbrev pub applied : ℕ → PrefixOp → Part → Part
applied at op a = step (Expr-F.Prefix at op a)

abbrev pub stepped : ℕ → StepOp → Part → Part
stepped at op a = step (Expr-F.StepAfter at op a)

abbrev pub set : ℕ → Part → Part → Part
set at a b = step (Expr-F.Assign at assign.Assign a b)

abbrev pub choice : ℕ → Part → Part → Part → Part
choice at c a b = step (Expr-F.Conditional at c a b)

abbrev pub item : ℕ → Part → Part → Part
item at a b = step (Expr-F.Index at a b)

-- ---- types and declarators

abbrev pub word : TypeSpecifier → SpecifierRow
word s = plain_row s

abbrev pub basic_at : ℕ → BasicType → SpecifierRow
basic_at at b = word (specifier.Basic at b)

abbrev pub const_at : ℕ → SpecifierRow
const_at at = word (specifier.Const at)

abbrev pub stored : ℕ → Storage → SpecifierRow
stored at s = word (specifier.Storage at s)

abbrev pub int_at : ℕ → SpecifierRow
int_at at = basic_at at basic.Int

-- `enum E` and a type's name
abbrev pub type_name : ℕ → List ℕ → SpecifierRow
type_name at name = word (specifier.Named (record { at = at; from_file = false; names = name ∷ [] }))

abbrev pub tree : DeclTree-F Declared Part (Elab Parameter) (Elab ℕ) → Declared
tree = declared_step

abbrev pub called : ℕ → List ℕ → Declared
called at name = tree (DeclTree-F.Declared (name_at at name))

abbrev pub unnamed : Declared
unnamed = tree DeclTree-F.Unnamed

abbrev pub pointing : ℕ → Declared → Declared
pointing at d = tree (DeclTree-F.Pointed (pointer.To at false) d)

abbrev pub referring : ℕ → Declared → Declared
referring at d = tree (DeclTree-F.Pointed (pointer.Reference at) d)

abbrev pub taking : ℕ → List (Elab Parameter) → Declared → Declared
taking at ps d = tree (DeclTree-F.Function at d ps false)

abbrev pub holding : ℕ → Option Part → Declared → Declared
holding at b d = tree (DeclTree-F.Array at d b)

abbrev pub parameter : ℕ → List TypeSpecifier → Declared → Elab Parameter
parameter at ss d = parameter_step (record { at = at; specifiers = ss; declarator = d; default = None })

abbrev pub basic_word : ℕ → BasicType → TypeSpecifier
basic_word at b = specifier.Basic at b

-- a type in brackets
abbrev pub type_in : ℕ → List TypeSpecifier → Declared → Elab ℕ
type_in at ss d = type_id_step (record { at = at; specifiers = ss; declarator = d })

abbrev pub size_of_type : ℕ → Elab ℕ → Part
size_of_type at t = step (Expr-F.SizeofType at t)

abbrev pub cast : ℕ → Elab ℕ → Part → Part
cast at t a = step (Expr-F.Cast at t a)

-- ---- declarations

abbrev pub plain : ℕ → Declared → Declares
plain at d = record { at = at; declared = d; initial = None }

-- = value, at the `=`
abbrev pub with_value : ℕ → Declared → ℕ → ℕ → Part → Declares
with_value at d equals first x = record { at = at; declared = d; initial = Some (behind_equals equals (expression_outline first x) (expression_tree first x)) }

-- an initialiser in braces
pub record Initial : Type 0 where
  pub outline : Tree
  pub run : Elab Tree

abbrev pub value_at : ℕ → Part → Initial
value_at at x = record { outline = expression_outline at x; run = expression_tree at x }

abbrev pub with_list : ℕ → Declared → ℕ → ℕ → List Initial → Declares
with_list at d equals brace list = record { at = at; declared = d; initial = Some (behind_equals equals (outlines brace list) (in_braces brace list)) }
  where
    all_of : List Initial → Elab (List Tree)
    all_of [] = gives []
    all_of (i ∷ is) = i.run >>= (λ u. all_of is >>= (λ us. gives (u ∷ us)))

    in_braces : ℕ → List Initial → Elab Tree
    in_braces brace is = all_of is >>= (λ us. gives (branch brace (listed us)))

    outlines : ℕ → List Initial → Tree
    outlines brace is = branch brace (listed (map (λ (i : Initial). i.outline) is))

abbrev pub declaring : ℕ → List SpecifierRow → List Declares → DeclarationRow
declaring at ss ds = record { at = at; run = declaration_of at ss ds }

abbrev pub declared_item : ℕ → List SpecifierRow → List Declares → Elab (Unit {0})
declared_item at ss ds = (declaring at ss ds).run >> done

abbrev pub local : ℕ → List SpecifierRow → List Declares → Elab Made
local at ss ds = (declaring at ss ds).run >>= (λ rs. gives (declaration_made at rs))

abbrev pub enumeration : ℕ → Option (ℕ × List ℕ) → List Item → SpecifierRow
enumeration at name list = defined_row at (λ alias. enumeration_row alias at name list >>= (λ t. gives (t, done)))

-- ---- files

-- int main(){..}
abbrev pub main : List (Elab Made) → Elab (Unit {0})
main ss = definition_row (int_at 0 ∷ []) 4 (taking 8 [] (called 4 (codes "main"))) [] (body_of 10 ss)

abbrev pub function : List SpecifierRow → ℕ → Declared → ℕ → List (Elab Made) → Elab (Unit {0})
function ss at d brace body = definition_row ss at d [] (body_of brace body)

abbrev pub all_forms : Extent
all_forms = record { overloads = true; computed = true; elsewhere = true }

abbrev pub elaborates : List (Elab (Unit {0})) → First
elaborates items = core_of_items all_forms [] items

-- where no more than is built so far may stand: the file defines these names
abbrev pub no_forms : Extent
no_forms = record { overloads = false; computed = false; elsewhere = false }

abbrev pub elaborates_alone : List (List ℕ) → List (Elab (Unit {0})) → First
elaborates_alone defines items = core_of_items no_forms defines items

-- the rule that is broken and its place
abbrev pub refusal : First → Option (ℕ × ℕ)
refusal (Core u) = None
refusal (Broken rule at) = Some (rule, at)
refusal (Limit b most) = None

abbrev pub accepted : First → Bool
accepted (Core u) = true
accepted (Broken rule at) = false
accepted (Limit b most) = false

-- ---- classes

abbrev pub class_in : ℕ → ClassKey → ℕ → List ℕ → List Base → List MemberRow → Elab (Unit {0})
class_in at k name_place name bases members = declared_item at (defined_row at (class_with_functions at k (Some (name_place, name)) bases members) ∷ []) []

abbrev pub struct : ℕ → List ℕ → List Base → List MemberRow → Elab (Unit {0})
struct at name bases members = class_in at key.Struct (at + 7) name bases members

-- a base without words, at its name
abbrev pub base : ℕ → List ℕ → Base
base at name = record { at = at; words = []; path = record { at = at; from_file = false; names = name ∷ [] } }

abbrev pub public_base : ℕ → ℕ → List ℕ → Base
public_base at path name = record { at = at; words = (at, base_word.Public) ∷ []; path = record { at = path; from_file = false; names = name ∷ [] } }

abbrev pub member : ℕ → List SpecifierRow → Declared → MemberRow
member at ss d = member_declaration at ss (record { at = at; declared = d; pure_at = None } ∷ [])

-- a function with its body
abbrev pub method : List SpecifierRow → ℕ → Declared → List WrittenInit → ℕ → List (Elab Made) → MemberRow
method ss at d inits brace body = method_row ss at d inits (body_of brace body)

abbrev pub dot : ℕ → Part → ℕ → List ℕ → Part
dot at a name_place name = step (Expr-F.Dot at a (name_at name_place name))

abbrev pub arrow : ℕ → Part → ℕ → List ℕ → Part
arrow at a name_place name = step (Expr-F.Arrow at a (name_at name_place name))

-- (args), at the bracket
abbrev pub with_arguments : ℕ → Declared → ℕ → List Part → Declares
with_arguments at d bracket xs = record { at = at; declared = d; initial = Some (in_brackets bracket xs) }

abbrev pub builds : ℕ → List ℕ → ℕ → List Part → WrittenInit
builds at name bracket xs = record { path = record { at = at; from_file = false; names = name ∷ [] }; place = bracket; arguments = xs }

-- `struct B` as a specifier, at its key and its name
abbrev pub struct_name : ℕ → ℕ → List ℕ → SpecifierRow
struct_name at name_place name = word (specifier.Elaborated at key.Struct (record { at = name_place; from_file = false; names = name ∷ [] }))

-- a struct that is defined, as a specifier
abbrev pub struct_word : ℕ → List ℕ → List Base → List MemberRow → SpecifierRow
struct_word at name bases members = defined_row at (class_with_functions at key.Struct (Some (at + 7, name)) bases members)

-- a member declaration that has a specifier alone
abbrev pub only_word : ℕ → SpecifierRow → MemberRow
only_word at s = member_declaration at (s ∷ []) []

-- a function without parameters that is pure, at its name, with the place of its `=`
abbrev pub pure : ℕ → List SpecifierRow → ℕ → List ℕ → ℕ → MemberRow
pure at ss name_place name equals = member_declaration at ss (record { at = name_place; declared = taking (name_place + 1) [] (called name_place name); pure_at = Some equals } ∷ [])
