-- The rows of declarations with all that is in them, each under a name of its own that does not unfold. `Rattle.cf_elab_declaration.proofs.DeclarationsLaws` says what
-- each is.
use Rattle.std.specs.Prelude.{◌≡◌, ℕ, Bool, List, map, Option, None, Some}
use Rattle.std.specs.List.{list_any}
use Rattle.cf_syntax.specs.declared.name.Last.{Last}
use Rattle.cf_syntax.specs.declared.name.Last.TheVariants as last
use Rattle.cf_syntax.specs.declared.name.Name.{Name as WrittenName}
use Rattle.cf_unit.specs.declared.declaration.Declaration.{Declaration}
use Rattle.cf_unit.specs.declared.declaration.InitDeclarator.{InitDeclarator}
use Rattle.cf_unit.specs.declared.specifier.Specifier.{Specifier, fold-Specifier}
use Rattle.cf_elab.specs.Answer.{Elab, ◌>>=◌, gives, all}
use Rattle.cf_elab.specs.Built as built
use Rattle.cf_elab.specs.Built.{first_of}
use Rattle.cf_elab.specs.Declaration as row
use Rattle.cf_elab.specs.Declaration.{declares}
use Rattle.cf_elab.specs.Env.{Name}
use Rattle.cf_elab.specs.Objects.{Reached}
use Rattle.cf_elab.specs.Specifiers.{Word, Gathered}
use Rattle.cf_elab.specs.Statement.{Made}
use Rattle.cf_elab.specs.Trees as tree
use Rattle.cf_elab.specs.Trees.{MemberRow, SpecifierRow, Specified, ClassRow, FunctionRow, DeclarationRow, member_step, specifier_step, statement_step, class_step, definition_step, declaration_step}
use Rattle.cf_elab_built.specs.Built.Parts as place

-- ---- specifiers

abbrev pub specifier : Specifier → SpecifierRow
specifier = fold-Specifier MemberRow SpecifierRow (Elab Made) ClassRow FunctionRow DeclarationRow member_step specifier_step statement_step class_step definition_step declaration_step

-- one with its name looked up or its enumeration defined, in a `typedef` of this name
unfoldable pub word : Option Name → Specifier → Elab Word
word alias s = (specifier s).run alias >>= (λ x. gives x.word)

-- in order
unfoldable pub words : Option Name → List Specifier → Elab (List Word)
words alias ss = all (map (word alias) ss)

-- ---- the first name of a `typedef`

unfoldable pub says_typedef : Specifier → Bool
says_typedef s = (specifier s).says_typedef

abbrev pub is_typedef : List Specifier → Bool
is_typedef ss = list_any says_typedef ss

abbrev pub ident : Last → Option Name
ident (last.Ident name) = Some name
ident other = None

abbrev pub ident_of : Option WrittenName → Option Name
ident_of None = None
ident_of (Some n) = ident n.last

unfoldable pub first_name : List InitDeclarator → Option Name
first_name ds = tree.first_name (map declares ds)

unfoldable pub alias : List Specifier → List InitDeclarator → Option Name
alias ss ds = tree.alias_of (map specifier ss) (map declares ds)

-- ---- declarators behind their specifiers

unfoldable pub declarator : Gathered → InitDeclarator → Elab (List Reached)
declarator g d = row.declarator_row g (declares d)

-- the same, where it makes no type that is larger than the limit on sizes
unfoldable pub limited : Gathered → InitDeclarator → Elab (List Reached)
limited g d = row.limited_declarator g (declares d)

-- in order
unfoldable pub declarators : Gathered → List InitDeclarator → Elab (List Reached)
declarators g ds = row.declarators_row g (map declares ds)

unfoldable pub behind_specifiers : ℕ → Gathered → List InitDeclarator → Elab (List Reached)
behind_specifiers at g ds = row.declaration_row at g (map declares ds)

-- ---- declarations

unfoldable pub of_parts : ℕ → List Specifier → List InitDeclarator → Elab (List Reached)
of_parts at ss ds = tree.declaration_of at (map specifier ss) (map declares ds)

unfoldable pub declaration : Declaration → Elab (List Reached)
declaration d = (tree.declaration d).run

-- ---- whether all forms in them are built

unfoldable pub SpecifierIsBuilt : Specifier → Type 0
SpecifierIsBuilt s = place.specifier s ≡ None

unfoldable pub SpecifiersAreBuilt : List Specifier → Type 0
SpecifiersAreBuilt ss = first_of (map place.specifier ss) ≡ None

unfoldable pub DeclaratorIsBuilt : InitDeclarator → Type 0
DeclaratorIsBuilt d = built.of_declarator d ≡ None

unfoldable pub DeclaratorsAreBuilt : List InitDeclarator → Type 0
DeclaratorsAreBuilt ds = first_of (map built.of_declarator ds) ≡ None

unfoldable pub IsBuilt : Declaration → Type 0
IsBuilt d = place.declaration d ≡ None
