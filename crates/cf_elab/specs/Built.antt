-- What is built of the language so far: by the trees, the place of the first form that is not; and the forms that only elaboration shows.
--
-- Built are integers, enumerations, pointers, arrays, references, const, functions and all statements. Not built are classes and what names
-- them, `new` and `delete`, default arguments, and linkage specifications.
use Rattle.std.specs.Prelude.{ℕ, Bool, true, false, nat_le, if◌then◌else◌, List, [], ◌∷◌, map, Option, None, Some}
use Rattle.cf_syntax.specs.declared.declarator.DeclTree.{DeclTree, fold-DeclTree}
use Rattle.cf_syntax.specs.declared.declarator.DeclTree.TheOpen.{DeclTree-F, Expr-F}
use Rattle.cf_syntax.specs.declared.declarator.Param.{Param-F}
use Rattle.cf_syntax.specs.declared.declarator.TypeId.{TypeId-F}
use Rattle.cf_syntax.specs.declared.expression.Expr.{Expr, fold-Expr}
use Rattle.cf_syntax.specs.declared.name.Last.{Last}
use Rattle.cf_syntax.specs.declared.name.Last.TheVariants as last
use Rattle.cf_syntax.specs.declared.name.Name.{Name as WrittenName}
use Rattle.cf_syntax.specs.declared.name.Path.{Path}
use Rattle.cf_syntax.specs.declared.operator.BinaryOp.{BinaryOp}
use Rattle.cf_syntax.specs.declared.operator.BinaryOp.TheVariants as binary
use Rattle.cf_syntax.specs.declared.specifier.ClassKey.{ClassKey}
use Rattle.cf_syntax.specs.declared.specifier.ClassKey.TheVariants as key
use Rattle.cf_syntax.specs.declared.specifier.Pointer.{Pointer}
use Rattle.cf_syntax.specs.declared.specifier.Pointer.TheVariants as pointer
use Rattle.cf_syntax.specs.declared.specifier.Storage.{Storage}
use Rattle.cf_syntax.specs.declared.specifier.Storage.TheVariants as storage
use Rattle.cf_syntax.specs.declared.specifier.TypeSpecifier.{TypeSpecifier}
use Rattle.cf_syntax.specs.declared.specifier.TypeSpecifier.TheVariants as specifier
use Rattle.cf_unit.specs.declared.class.Member.TheOpen.{Member-F, Specifier-F, Stmt-F}
use Rattle.cf_unit.specs.declared.class.ClassDef.{ClassDef-F}
use Rattle.cf_unit.specs.declared.class.FunctionDef.{FunctionDef-F, fold-FunctionDef}
use Rattle.cf_unit.specs.declared.class.MemberInit.{MemberInit}
use Rattle.cf_unit.specs.declared.declaration.Declaration.{Declaration-F, fold-Declaration}
use Rattle.cf_unit.specs.declared.declaration.InitDeclarator.{InitDeclarator}
use Rattle.cf_unit.specs.declared.enumeration.Enumerator.{Enumerator}
use Rattle.cf_unit.specs.declared.initialiser.Init.{Init, fold-Init}
use Rattle.cf_unit.specs.declared.initialiser.Init.TheOpen.{Init-F}
use Rattle.cf_unit.specs.declared.initialiser.Initialiser.{Initialiser}
use Rattle.cf_unit.specs.declared.initialiser.Initialiser.TheVariants as initialiser
use Rattle.cf_unit.specs.declared.file.Item.{Item}
use Rattle.cf_unit.specs.declared.file.Item.TheVariants as item
use Rattle.cf_unit.specs.declared.file.Unit.{Unit as FileTree}
use Rattle.cf_elab.specs.Env.{Extent}
use Rattle.cf_elab.specs.File.{First, Broken, elaboration}

-- the place of the first such form of a part, if there is one
abbrev pub Place : Type 0
Place = Option ℕ

abbrev pub first : Place → Place → Place
first None b = b
first (Some a) None = Some a
first (Some a) (Some b) = if nat_le a b then Some a else Some b

abbrev pub first_of : List Place → Place
first_of [] = None
first_of (p ∷ ps) = first p (first_of ps)

abbrev pub maybe : Option Place → Place
maybe None = None
maybe (Some p) = p

-- ---- names

-- `::` and the classes before it, and all last parts but an identifier
abbrev pub of_last : ℕ → Last → Place
of_last at (last.Ident name) = None
of_last at other = Some at

abbrev pub is_qualified : {A : Type 0} → Bool → List A → Bool
is_qualified true scopes = true
is_qualified false [] = false
is_qualified false (s ∷ rest) = true

abbrev pub of_name : WrittenName → Place
of_name n = if is_qualified n.from_file n.scopes then Some n.at else of_last n.at n.last

abbrev pub behind_first : {A : Type 0} → List A → List A
behind_first [] = []
behind_first (x ∷ xs) = xs

abbrev pub of_path : Path → Place
of_path p = if is_qualified p.from_file (behind_first p.names) then Some p.at else None

-- ---- specifiers and pointers

abbrev pub of_storage : ℕ → Storage → Place
of_storage at storage.Virtual = Some at
of_storage at storage.Friend = Some at
of_storage at other = None

abbrev pub of_key : ℕ → ClassKey → Path → Place
of_key at key.Enum path = of_path path
of_key at other path = Some at

abbrev pub of_specifier : TypeSpecifier → Place
of_specifier (specifier.Storage at s) = of_storage at s
of_specifier (specifier.Const at) = None
of_specifier (specifier.Basic at b) = None
of_specifier (specifier.Elaborated at k path) = of_key at k path
of_specifier (specifier.Named path) = of_path path

abbrev pub of_specifiers : List TypeSpecifier → Place
of_specifiers ss = first_of (map of_specifier ss)

abbrev pub of_pointer : Pointer → Place
of_pointer (pointer.To at c) = None
of_pointer (pointer.Reference at) = None
of_pointer (pointer.ToMember at path c) = Some at

abbrev pub of_pointers : List Pointer → Place
of_pointers ps = first_of (map of_pointer ps)

-- ---- expressions and declarators

abbrev pub of_binary : ℕ → BinaryOp → Place
of_binary at binary.DotStar = Some at
of_binary at binary.ArrowStar = Some at
of_binary at other = None

abbrev pub tree_step : DeclTree-F Place Place Place Place → Place
tree_step DeclTree-F.Unnamed = None
tree_step (DeclTree-F.Declared n) = of_name n
tree_step (DeclTree-F.Pointed p d) = first (of_pointer p) d
tree_step (DeclTree-F.Bracketed at d) = d
tree_step (DeclTree-F.Function at d ps c) = first d (first_of ps)
tree_step (DeclTree-F.Array at d b) = first d (maybe b)

abbrev pub expression_step : Expr-F Place Place Place Place → Place
expression_step (Expr-F.Int at n k) = None
expression_step (Expr-F.Char at z) = None
expression_step (Expr-F.Text at bytes) = None
expression_step (Expr-F.This at) = Some at
expression_step (Expr-F.Paren at a) = a
expression_step (Expr-F.Named n) = of_name n
expression_step (Expr-F.BasicCall at b args) = first_of args
expression_step (Expr-F.TypeCall at path args) = first (of_path path) (first_of args)
expression_step (Expr-F.Index at a b) = first a b
expression_step (Expr-F.Call at f args) = first f (first_of args)
expression_step (Expr-F.Dot at a n) = first (Some at) a
expression_step (Expr-F.Arrow at a n) = first (Some at) a
expression_step (Expr-F.StepAfter at op a) = a
expression_step (Expr-F.StepBefore at op a) = a
expression_step (Expr-F.Prefix at op a) = a
expression_step (Expr-F.SizeofExpr at a) = a
expression_step (Expr-F.SizeofType at t) = t
expression_step (Expr-F.Delete at file is_array a) = Some at
expression_step (Expr-F.New at file specifiers pointers bounds has_arguments args) = Some at
expression_step (Expr-F.NewBracketed at file t has_arguments args) = Some at
expression_step (Expr-F.Cast at t a) = first t a
expression_step (Expr-F.Binary at op a b) = first (of_binary at op) (first a b)
expression_step (Expr-F.Conditional at c a b) = first c (first a b)
expression_step (Expr-F.Assign at op a b) = first a b
expression_step (Expr-F.Comma at all) = first_of all

-- a default argument, at its `=`
abbrev pub of_default : Option (ℕ × Place) → Place
of_default None = None
of_default (Some d) = Some d.0

abbrev pub param_step : Param-F Place Place Place Place → Place
param_step p = first (of_specifiers p.specifiers) (first p.declarator (of_default p.default))

abbrev pub type_step : TypeId-F Place Place Place Place → Place
type_step t = first (of_specifiers t.specifiers) t.declarator

abbrev pub expression : Expr → Place
expression = fold-Expr Place Place Place Place tree_step expression_step param_step type_step

abbrev pub declarator : DeclTree → Place
declarator = fold-DeclTree Place Place Place Place tree_step expression_step param_step type_step

abbrev pub maybe_expression : Option Expr → Place
maybe_expression None = None
maybe_expression (Some x) = expression x

-- ---- initialisers, statements, declarations

abbrev pub init_step : Init-F Place → Place
init_step (Init-F.Value at x) = expression x
init_step (Init-F.List at ps) = first_of ps

abbrev pub init : Init → Place
init = fold-Init Place init_step

abbrev pub of_initialiser : Option Initialiser → Place
of_initialiser None = None
of_initialiser (Some (initialiser.Equals at i)) = init i
of_initialiser (Some (initialiser.Arguments at xs)) = first_of (map expression xs)

abbrev pub of_declarator : InitDeclarator → Place
of_declarator d = first (declarator d.declarator) (of_initialiser d.initialiser)

abbrev pub of_value : Option (ℕ × Expr) → Place
of_value None = None
of_value (Some v) = expression v.1

abbrev pub of_enumerator : Enumerator → Place
of_enumerator e = of_value e.value

abbrev pub of_member_init : MemberInit → Place
of_member_init i = Some i.path.at

abbrev pub specifier_step : Specifier-F Place Place Place Place Place Place → Place
specifier_step (Specifier-F.Plain s) = of_specifier s
specifier_step (Specifier-F.Class c) = c
specifier_step (Specifier-F.Enumeration d) = first_of (map of_enumerator d.enumerators)

abbrev pub member_step : Member-F Place Place Place Place Place Place → Place
member_step m = None

abbrev pub class_step : ClassDef-F Place Place Place Place Place Place → Place
class_step c = Some c.at

abbrev pub declaration_step : Declaration-F Place Place Place Place Place Place → Place
declaration_step d = first (first_of d.specifiers) (first_of (map of_declarator d.declarators))

abbrev pub function_step : FunctionDef-F Place Place Place Place Place Place → Place
function_step f =
    first (first_of f.specifiers) (first (declarator f.declarator) (first (first_of (map of_member_init f.initialisers)) (first_of f.body)))

abbrev pub statement_step : Stmt-F Place Place Place Place Place Place → Place
statement_step (Stmt-F.Stmt::Declaration d) = d
statement_step (Stmt-F.Block at ss) = first_of ss
statement_step (Stmt-F.Empty at) = None
statement_step (Stmt-F.Expression at x) = expression x
statement_step (Stmt-F.If at x then_part else_part) = first (expression x) (first then_part (maybe else_part))
statement_step (Stmt-F.While at x s) = first (expression x) s
statement_step (Stmt-F.Do at s x) = first s (expression x)
statement_step (Stmt-F.For at start x step s) = first start (first (maybe_expression x) (first (maybe_expression step) s))
statement_step (Stmt-F.Switch at x ss) = first (expression x) (first_of ss)
statement_step (Stmt-F.Case at x) = expression x
statement_step (Stmt-F.Default at) = None
statement_step (Stmt-F.Break at) = None
statement_step (Stmt-F.Continue at) = None
statement_step (Stmt-F.Return at x) = maybe_expression x

abbrev pub of_item : Item → Place
of_item (item.Function f) = fold-FunctionDef Place Place Place Place Place Place member_step specifier_step statement_step class_step function_step declaration_step f
of_item (item.Declaration d) = fold-Declaration Place Place Place Place Place Place member_step specifier_step statement_step class_step function_step declaration_step d
of_item (item.Linkage l) = Some l.at

-- the place of the first form of a file that is not built, in text order
abbrev pub not_built : FileTree → Place
not_built u = first_of (map of_item u.items)

-- the forms that only elaboration shows: none of them is built
abbrev pub built_so_far : Extent
built_so_far = record { overloads = false; computed = false; elsewhere = false }

-- a form that the trees show is K48 before all checks of declarations
abbrev pub first_built : Place → FileTree → First
first_built (Some at) u = Broken 48 at
first_built None u = elaboration built_so_far u

-- `First` of a file's tree
abbrev pub first_of_file : FileTree → First
first_of_file u = first_built (not_built u) u
