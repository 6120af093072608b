-- What specifiers are by their forms.
use Rattle.std.proofs.Common.{◌≡◌, ℕ, Option, None, refl, ap, ◌∙◌}
use Rattle.cf_syntax.specs.declared.specifier.ClassKey.TheVariants as key
use Rattle.cf_syntax.specs.declared.specifier.TypeSpecifier.{TypeSpecifier}
use Rattle.cf_syntax.specs.declared.specifier.TypeSpecifier.TheVariants as specifier
use Rattle.cf_unit.specs.declared.class.ClassDef.{ClassDef, fold-ClassDef}
use Rattle.cf_unit.specs.declared.class.FunctionDef.{FunctionDef}
use Rattle.cf_unit.specs.declared.class.Member.{Member, fold-Member}
use Rattle.cf_unit.specs.declared.class.Member.TheFolds.{fold-roll-Specifier, map-Specifier}
use Rattle.cf_unit.specs.declared.class.Member.TheOpen.{Specifier-F}
use Rattle.cf_unit.specs.declared.declaration.Declaration.{Declaration}
use Rattle.cf_unit.specs.declared.enumeration.EnumDef.{EnumDef}
use Rattle.cf_unit.specs.declared.specifier.Specifier.{Specifier, roll-Specifier}
use Rattle.cf_unit.specs.declared.specifier.Specifier.TheVariants as form
use Rattle.cf_unit.specs.declared.statement.Stmt.{Stmt}
use Rattle.cf_elab.specs.Answer.{Answer, Elab, Made as Done, Refused, Passed, onward, done}
use Rattle.cf_elab.specs.Built.{of_specifier}
use Rattle.cf_elab.specs.Declarator as declarator
use Rattle.cf_elab.specs.Env.{Env, Name}
use Rattle.cf_elab.specs.Specifiers.{Word, defined_word}
use Rattle.cf_elab.specs.Statement.{Made}
use Rattle.cf_elab.specs.Trees as tree
use Rattle.cf_elab.specs.Trees.{MemberRow, SpecifierRow, Specified, ClassRow, FunctionRow, DeclarationRow, only, member_step, specifier_step, statement_step, class_step, definition_step, declaration_step}
use Rattle.cf_elab_declaration.specs.Enums.Shut as enums
use Rattle.cf_elab_env.proofs.Growth.{grown_laws}
use Rattle.cf_elab_specifiers.specs.Named.Shut as names
use Rattle.cf_elab_declaration.specs.Declarations.Shut as shut
use Rattle.cf_elab_declaration.proofs.DeclarationsLaws.BuiltParts.{plain_built, enumeration_built, no_class}

abbrev of_member : Member → MemberRow
of_member = fold-Member MemberRow SpecifierRow (Elab Made) ClassRow FunctionRow DeclarationRow member_step specifier_step statement_step class_step definition_step declaration_step

abbrev of_class : ClassDef → ClassRow
of_class = fold-ClassDef MemberRow SpecifierRow (Elab Made) ClassRow FunctionRow DeclarationRow member_step specifier_step statement_step class_step definition_step declaration_step

-- the row of a specifier by its parts
abbrev pub row_of : Specifier-F Member Specifier Stmt ClassDef FunctionDef Declaration → SpecifierRow
row_of x =
    specifier_step
    (map-Specifier Member Specifier Stmt ClassDef FunctionDef Declaration MemberRow SpecifierRow (Elab Made) ClassRow FunctionRow DeclarationRow of_member shut.specifier tree.statement of_class tree.definition tree.declaration x)

pub made_of : (x : Specifier-F Member Specifier Stmt ClassDef FunctionDef Declaration) → shut.specifier (roll-Specifier x) ≡ row_of x
made_of x = fold-roll-Specifier MemberRow SpecifierRow (Elab Made) ClassRow FunctionRow DeclarationRow member_step specifier_step statement_step class_step definition_step declaration_step x

-- no class is entered where none is built
pub same_word : (s : TypeSpecifier) (env : Env) → of_specifier s ≡ None → tree.word_in_declaration s env ≡ declarator.word_of s env
same_word (specifier.Storage at w) env h = refl
same_word (specifier.Const at) env h = refl
same_word (specifier.Basic at b) env h = refl
same_word (specifier.Elaborated at key.Enum path) env h = refl
same_word (specifier.Elaborated at key.Class path) env h = cc
same_word (specifier.Elaborated at key.Struct path) env h = cc
same_word (specifier.Named path) env h = refl

-- a word alone is the word
alone : (a : Answer Word) → onward (onward a (λ w env. Done (only w) env)) (λ x env. Done x.word env) ≡ a
alone (Done w env) = refl
alone (Refused rule at) = refl
alone (Passed bound most) = refl

defined : (at : ℕ) (a : Answer ℕ)
    → onward (onward (onward a (λ t env. let pair : ℕ × Elab (Unit {0}) = (t, done) in Done pair env)) (λ t env. let s : Specified = record { word = defined_word at t.0; later = t.1 } in Done s env)) (λ x env. Done x.word env)
    ≡ onward a (λ t env. Done (defined_word at t) env)
defined at (Done t env) = refl
defined at (Refused rule place) = refl
defined at (Passed bound most) = refl

module _ (alias : Option Name) (env : Env) where
  abbrev word_by : SpecifierRow → Answer Word
  word_by r = onward (r.run alias env) (λ x env. Done x.word env)

  pub plain_is : (s : TypeSpecifier) → of_specifier s ≡ None → shut.word alias (form.Plain s) env ≡ names.word_of s env
  unfolding shut.word names.word_of roll-Specifier denote.Hole.Carrier.roll
  plain_is s built = ap word_by (made_of (Specifier-F.Plain s)) ∙ alone (tree.word_in_declaration s env) ∙ same_word s env built

  pub enumeration_is : (d : EnumDef) → shut.word alias (form.Enumeration d) env ≡ onward (enums.enumeration alias d env) (λ t env. Done (defined_word d.at t) env)
  unfolding shut.word enums.enumeration roll-Specifier denote.Hole.Carrier.roll
  enumeration_is d = ap word_by (made_of (Specifier-F.Enumeration d)) ∙ defined d.at (enums.enumeration alias d env)

pub ruleset word_laws = (plain_is, enumeration_is, plain_built, enumeration_built, no_class, grown_laws)
