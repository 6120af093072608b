-- Which names a file's own declarations define, by their trees: functions with a body, and objects that are not only declared (3.1).
use Rattle.std.specs.Prelude.{Bool, true, false, not, ◌&&◌, ◌||◌, if◌then◌else◌, List, [], ◌∷◌, Option, None, Some, is_some}
use Rattle.std.specs.List.{list_any, flat_map}
use Rattle.cf_syntax.specs.declared.declarator.DeclTree.{DeclTree, fold-DeclTree}
use Rattle.cf_syntax.specs.declared.declarator.DeclTree.TheOpen.{DeclTree-F}
use Rattle.cf_syntax.specs.declared.name.Name.{Name as WrittenName}
use Rattle.cf_syntax.specs.declared.specifier.Storage.{Storage}
use Rattle.cf_syntax.specs.declared.specifier.Storage.TheVariants as storage
use Rattle.cf_syntax.specs.declared.specifier.TypeSpecifier.{TypeSpecifier}
use Rattle.cf_syntax.specs.declared.specifier.TypeSpecifier.TheVariants as specifier
use Rattle.cf_unit.specs.declared.class.Member.TheOpen.{Specifier-F}
use Rattle.cf_unit.specs.declared.class.ClassDef.{ClassDef}
use Rattle.cf_unit.specs.declared.class.FunctionDef.{FunctionDef}
use Rattle.cf_unit.specs.declared.class.Member.{Member}
use Rattle.cf_unit.specs.declared.statement.Stmt.{Stmt}
use Rattle.cf_unit.specs.declared.specifier.Specifier.{Specifier, out-Specifier}
use Rattle.cf_unit.specs.declared.declaration.Declaration.{Declaration}
use Rattle.cf_unit.specs.declared.declaration.InitDeclarator.{InitDeclarator}
use Rattle.cf_unit.specs.declared.file.Item.{Item}
use Rattle.cf_unit.specs.declared.file.Item.TheVariants as item
use Rattle.cf_unit.specs.declared.file.Unit.{Unit as FileTree}
use Rattle.cf_elab.specs.Env.{Name}
use Rattle.cf_elab.specs.Names.{key}

-- what a declarator declares: its name, whether nothing but brackets stands round it, and whether it is a function's
pub record Outline : Type 0 where
  pub name : Option WrittenName
  pub is_bare : Bool
  pub is_function : Bool

abbrev pub outline_step : DeclTree-F Outline (Unit {0}) (Unit {0}) (Unit {0}) → Outline
outline_step DeclTree-F.Unnamed = record { name = None; is_bare = true; is_function = false }
outline_step (DeclTree-F.Declared n) = record { name = Some n; is_bare = true; is_function = false }
outline_step (DeclTree-F.Pointed p d) = record d { is_bare = false }
outline_step (DeclTree-F.Bracketed at d) = d
outline_step (DeclTree-F.Function at d ps c) = record d { is_bare = false; is_function = d.is_function || d.is_bare }
outline_step (DeclTree-F.Array at d b) = record d { is_bare = false }

abbrev pub outline : DeclTree → Outline
outline = fold-DeclTree Outline (Unit {0}) (Unit {0}) (Unit {0}) outline_step (λ _. tt) (λ _. tt) (λ _. tt)

abbrev pub keys : Option WrittenName → List Name
keys None = []
keys (Some n) = key n.last ∷ []

abbrev pub is_word : Storage → Bool
is_word storage.Extern = true
is_word storage.Typedef = true
is_word other = false

abbrev pub plain_word : TypeSpecifier → Bool
plain_word (specifier.Storage at s) = is_word s
plain_word other = false

-- `extern` and `typedef` define no object
abbrev pub specifier_word : Specifier-F Member Specifier Stmt ClassDef FunctionDef Declaration → Bool
specifier_word (Specifier-F.Plain s) = plain_word s
specifier_word (Specifier-F.Class c) = false
specifier_word (Specifier-F.Enumeration d) = false

abbrev pub only_declares : List Specifier → Bool
only_declares ss = list_any (λ s. specifier_word (out-Specifier s)) ss

abbrev pub names_defined : Bool → InitDeclarator → List Name
names_defined only d =
    let o = outline d.declarator in
    if not o.is_function && (not only || is_some d.initialiser) then keys o.name else []

abbrev pub item_names : Item → List Name
item_names (item.Function f) = keys (outline f.declarator).name
item_names (item.Declaration d) = flat_map (names_defined (only_declares d.specifiers)) d.declarators
item_names (item.Linkage l) = []

abbrev pub defined_names : FileTree → List Name
defined_names u = flat_map item_names u.items
