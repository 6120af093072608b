-- The parts of declarations that are built are built.
use Rattle.std.proofs.Common.{◌≡◌, ℕ, zero, suc, ◌<◌, List, [], ◌∷◌, map, length, get_or, Option, None, Some, sym, ap, ◌∙◌, arith}
use Rattle.std.proofs.lemmas.List.Elements.{All-cons}
use Rattle.cf_syntax.specs.declared.expression.Expr.{Expr}
use Rattle.cf_syntax.specs.declared.specifier.TypeSpecifier.{TypeSpecifier}
use Rattle.cf_unit.specs.declared.class.ClassDef.{ClassDef, out-ClassDef, fold-ClassDef}
use Rattle.cf_unit.specs.declared.class.FunctionDef.{FunctionDef}
use Rattle.cf_unit.specs.declared.class.Member.{Member, fold-Member}
use Rattle.cf_unit.specs.declared.class.Member.TheFolds.{fold-roll-Specifier, map-Specifier, fold_out-ClassDef, fold_out-Declaration}
use Rattle.cf_unit.specs.declared.class.Member.TheOpen.{Specifier-F}
use Rattle.cf_unit.specs.declared.declaration.Declaration.{Declaration, out-Declaration}
use Rattle.cf_unit.specs.declared.declaration.InitDeclarator.{InitDeclarator}
use Rattle.cf_unit.specs.declared.enumeration.EnumDef.{EnumDef}
use Rattle.cf_unit.specs.declared.enumeration.Enumerator.{Enumerator}
use Rattle.cf_unit.specs.declared.initialiser.Initialiser.{Initialiser}
use Rattle.cf_unit.specs.declared.initialiser.Initialiser.TheVariants as initialiser
use Rattle.cf_unit.specs.declared.specifier.Specifier.{Specifier, roll-Specifier}
use Rattle.cf_unit.specs.declared.specifier.Specifier.TheVariants as form
use Rattle.cf_unit.specs.declared.statement.Stmt.{Stmt}
use Rattle.cf_elab.specs.Built as built
use Rattle.cf_elab.specs.Built.{Place, first, first_of, member_step, specifier_step, statement_step, class_step, function_step, declaration_step}
use Rattle.cf_elab_built.specs.Built.Parts as place
use Rattle.cf_elab_declaration.specs.Enums.Forms as enumerators
use Rattle.cf_elab_declaration.specs.Enums.ExprShut as expression
use Rattle.cf_elab_declaration.proofs.EnumsLaws.ExprBuiltForms.{left, right}
use Rattle.cf_elab_declaration.specs.WrittenTrees.Shut as written
use Rattle.cf_elab_declaration.specs.Declarations.Shut.{IsBuilt, SpecifierIsBuilt, SpecifiersAreBuilt, DeclaratorIsBuilt, DeclaratorsAreBuilt}

abbrev of_member : Member → Place
of_member = fold-Member Place Place Place Place Place Place member_step specifier_step statement_step class_step function_step declaration_step

abbrev of_class : ClassDef → Place
of_class = fold-ClassDef Place Place Place Place Place Place member_step specifier_step statement_step class_step function_step declaration_step

-- ---- specifiers

-- the place in a specifier, by its parts
abbrev pub place_in : Specifier-F Member Specifier Stmt ClassDef FunctionDef Declaration → Place
place_in x =
    specifier_step (map-Specifier Member Specifier Stmt ClassDef FunctionDef Declaration Place Place Place Place Place Place of_member place.specifier place.statement of_class place.function place.declaration x)

seen : (x : Specifier-F Member Specifier Stmt ClassDef FunctionDef Declaration) → place.specifier (roll-Specifier x) ≡ place_in x
seen x = fold-roll-Specifier Place Place Place Place Place Place member_step specifier_step statement_step class_step function_step declaration_step x

pub plain_built : (s : TypeSpecifier) → SpecifierIsBuilt (form.Plain s) → built.of_specifier s ≡ None
unfolding SpecifierIsBuilt roll-Specifier denote.Hole.Carrier.roll
plain_built s h = sym (seen (Specifier-F.Plain s)) ∙ h

value_built : (v : Option (ℕ × Expr)) → built.of_value v ≡ None → enumerators.IsBuilt v
unfolding expression.IsBuilt
value_built None h = tt
value_built (Some x) h = h

values_built : (es : List Enumerator) → first_of (map built.of_enumerator es) ≡ None → enumerators.AreBuilt es
values_built [] h = λ i d lt. absurd (omega arith)
values_built (e ∷ es) h =
    All-cons (λ (e : Enumerator). enumerators.IsBuilt e.value) e es (value_built e.value (left (built.of_enumerator e) (first_of (map built.of_enumerator es)) h))
    (values_built es (right (built.of_enumerator e) (first_of (map built.of_enumerator es)) h))

pub enumeration_built : (d : EnumDef) → SpecifierIsBuilt (form.Enumeration d) → enumerators.AreBuilt d.enumerators
unfolding SpecifierIsBuilt roll-Specifier denote.Hole.Carrier.roll
enumeration_built d h = values_built d.enumerators (sym (seen (Specifier-F.Enumeration d)) ∙ h)

-- a class stands at its key
class_stands : (c : ClassDef) → of_class c ≡ Some (out-ClassDef c).at
class_stands c = fold_out-ClassDef Place Place Place Place Place Place member_step specifier_step statement_step class_step function_step declaration_step c

pub no_class_in : (c : ClassDef) → of_class c ≡ None → ⊥
no_class_in c h = let e : Some (out-ClassDef c).at ≡ None = sym (class_stands c) ∙ h in absurd cc

pub no_class : (c : ClassDef) → SpecifierIsBuilt (form.Class c) → ⊥
unfolding SpecifierIsBuilt roll-Specifier denote.Hole.Carrier.roll
no_class c h = no_class_in c (sym (seen (Specifier-F.Class c)) ∙ h)

pub one_specifier : (ss : List Specifier) (i : ℕ) (s : Specifier) → SpecifiersAreBuilt ss → i < length ss → s ≡ get_or ss i s → SpecifierIsBuilt s
unfolding SpecifiersAreBuilt SpecifierIsBuilt
one_specifier [] i s h lt is = absurd (omega arith)
one_specifier (x ∷ ss) zero s h lt is = ap place.specifier is ∙ left (place.specifier x) (first_of (map place.specifier ss)) h
one_specifier (x ∷ ss) (suc i) s h lt is = one_specifier ss i s (right (place.specifier x) (first_of (map place.specifier ss)) h) (omega arith) is

-- ---- declarators

module _ (d : InitDeclarator) (h : DeclaratorIsBuilt d) where
  pub declarator_tree : expression.TreeIsBuilt d.declarator
  unfolding DeclaratorIsBuilt expression.TreeIsBuilt
  declarator_tree = left (built.declarator d.declarator) (built.of_initialiser d.initialiser) h

  pub declarator_initialiser : written.PartsAreBuilt d.initialiser
  unfolding DeclaratorIsBuilt written.PartsAreBuilt written.InitialiserIsBuilt
  declarator_initialiser = by d.initialiser (right (built.declarator d.declarator) (built.of_initialiser d.initialiser) h)
    where
      by : (i : Option Initialiser) → built.of_initialiser i ≡ None → written.PartsAreBuilt i
      by None h = tt
      by (Some (initialiser.Equals at i)) h = h
      by (Some (initialiser.Arguments at es)) h = h

pub ruleset declarator_laws = (declarator_tree, declarator_initialiser)

pub one_declarator : (ds : List InitDeclarator) (i : ℕ) (d : InitDeclarator) → DeclaratorsAreBuilt ds → i < length ds → d ≡ get_or ds i d → DeclaratorIsBuilt d
unfolding DeclaratorsAreBuilt DeclaratorIsBuilt
one_declarator [] i d h lt is = absurd (omega arith)
one_declarator (x ∷ ds) zero d h lt is = ap built.of_declarator is ∙ left (built.of_declarator x) (first_of (map built.of_declarator ds)) h
one_declarator (x ∷ ds) (suc i) d h lt is = one_declarator ds i d (right (built.of_declarator x) (first_of (map built.of_declarator ds)) h) (omega arith) is

-- ---- declarations

module _ (d : Declaration) (h : IsBuilt d) where
  both : first (first_of (map place.specifier (out-Declaration d).specifiers)) (first_of (map built.of_declarator (out-Declaration d).declarators)) ≡ None
  unfolding IsBuilt
  both = sym (fold_out-Declaration Place Place Place Place Place Place member_step specifier_step statement_step class_step function_step declaration_step d) ∙ h

  pub declaration_specifiers : SpecifiersAreBuilt (out-Declaration d).specifiers
  unfolding SpecifiersAreBuilt
  declaration_specifiers = left (first_of (map place.specifier (out-Declaration d).specifiers)) (first_of (map built.of_declarator (out-Declaration d).declarators)) both

  pub declaration_declarators : DeclaratorsAreBuilt (out-Declaration d).declarators
  unfolding DeclaratorsAreBuilt
  declaration_declarators = right (first_of (map place.specifier (out-Declaration d).specifiers)) (first_of (map built.of_declarator (out-Declaration d).declarators)) both

pub ruleset declaration_laws = (declaration_specifiers, declaration_declarators)
