-- The first name of a `typedef`.
use Rattle.std.proofs.Common.{◌≡◌, Bool, true, false, ◌||◌, if◌then◌else◌, List, [], ◌∷◌, map, slice_get, Option, None, Some, refl, sym, ap, ◌∙◌}
use Rattle.std.specs.List.{list_any}
use Rattle.cf_syntax.specs.declared.name.Last.{Last}
use Rattle.cf_syntax.specs.declared.name.Last.TheVariants as last
use Rattle.cf_syntax.specs.declared.name.Name.{Name as WrittenName}
use Rattle.cf_syntax.specs.declared.specifier.TypeSpecifier.{TypeSpecifier}
use Rattle.cf_unit.specs.declared.class.ClassDef.{ClassDef}
use Rattle.cf_unit.specs.declared.class.Member.TheOpen.{Specifier-F}
use Rattle.cf_unit.specs.declared.declaration.InitDeclarator.{InitDeclarator}
use Rattle.cf_unit.specs.declared.enumeration.EnumDef.{EnumDef}
use Rattle.cf_unit.specs.declared.specifier.Specifier.{Specifier, roll-Specifier}
use Rattle.cf_unit.specs.declared.specifier.Specifier.TheVariants as form
use Rattle.cf_elab.specs.Declaration.{Declares, declares}
use Rattle.cf_elab.specs.Env.{Name}
use Rattle.cf_elab.specs.Trees as tree
use Rattle.cf_elab.specs.Trees.{SpecifierRow}
use Rattle.cf_elab_declaration.specs.Enums.ExprShut as expression
use Rattle.cf_elab_declaration.specs.Declarations.Shut as shut
use Rattle.cf_elab_declaration.proofs.DeclarationsLaws.SpecifierRows.{made_of}

-- ---- whether `typedef` stands among specifiers

pub plain_word : (s : TypeSpecifier) → shut.says_typedef (form.Plain s) ≡ tree.is_typedef_word s
unfolding shut.says_typedef roll-Specifier denote.Hole.Carrier.roll
plain_word s = ap (λ (r : SpecifierRow). r.says_typedef) (made_of (Specifier-F.Plain s))

pub class_word : (c : ClassDef) → shut.says_typedef (form.Class c) ≡ false
unfolding shut.says_typedef roll-Specifier denote.Hole.Carrier.roll
class_word c = ap (λ (r : SpecifierRow). r.says_typedef) (made_of (Specifier-F.Class c))

pub enumeration_word : (d : EnumDef) → shut.says_typedef (form.Enumeration d) ≡ false
unfolding shut.says_typedef roll-Specifier denote.Hole.Carrier.roll
enumeration_word d = ap (λ (r : SpecifierRow). r.says_typedef) (made_of (Specifier-F.Enumeration d))

pub ruleset word_laws = (plain_word, class_word, enumeration_word)

any_row : (ss : List Specifier) → list_any (λ (r : SpecifierRow). r.says_typedef) (map shut.specifier ss) ≡ shut.is_typedef ss
unfolding shut.says_typedef
any_row [] = refl
any_row (s ∷ ss) = ap (λ b. (shut.specifier s).says_typedef || b) (any_row ss)

-- ---- the first name

named : (d : Declares) (ds : List Declares) → tree.first_name (d ∷ ds) ≡ shut.ident_of d.declared.name
named d ds = by d.declared.name
  where
    by_last : (n : WrittenName) (l : Last)
        → tree.first_name (record d { declared = record d.declared { name = Some (record n { last = l }) } } ∷ ds) ≡ shut.ident l
    by_last n (last.Ident name) = refl
    by_last n (last.Destructor name) = refl
    by_last n (last.Operator k) = refl
    by_last n (last.Conversion ss ps) = refl

    by : (o : Option WrittenName) → tree.first_name (record d { declared = record d.declared { name = o } } ∷ ds) ≡ shut.ident_of o
    by None = refl
    by (Some n) = by_last n n.last

pub no_first : (ds : List InitDeclarator) → None ≡ slice_get ds 0 → shut.first_name ds ≡ None
unfolding shut.first_name
no_first [] h = refl
no_first (d ∷ ds) h = cc

pub first_is : (ds : List InitDeclarator) (d : InitDeclarator) → Some d ≡ slice_get ds 0 → shut.first_name ds ≡ shut.ident_of (expression.name_of d.declarator)
unfolding shut.first_name expression.name_of
first_is [] d h = cc
first_is (x ∷ ds) d h = let same : d ≡ x = cc in named (declares x) (map declares ds) ∙ ap (λ (d : InitDeclarator). shut.ident_of (expression.name_of d.declarator)) (sym same)

pub ruleset first_laws = (no_first, first_is)

-- ---- of a `typedef` alone

module _ (ss : List Specifier) (ds : List InitDeclarator) where
  abbrev by_test : Bool → Option Name
  by_test b = if b then tree.first_name (map declares ds) else None

  pub in_typedef : shut.is_typedef ss ≡ true → shut.alias ss ds ≡ shut.first_name ds
  unfolding shut.alias shut.first_name
  in_typedef h = ap by_test (any_row ss ∙ h)

  pub in_no_typedef : shut.is_typedef ss ≡ false → shut.alias ss ds ≡ None
  unfolding shut.alias
  in_no_typedef h = ap by_test (any_row ss ∙ h)

pub ruleset alias_laws = (in_typedef, in_no_typedef)
