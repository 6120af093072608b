-- Declarators with what they enter and what initialises them (8), read step by step: the readings by words that stay shut.
use Rattle.std.specs.Prelude.{ℕ, List, [], ◌∷◌, ◌++◌, length, Option}
use Rattle.cf_syntax.specs.declared.declarator.DeclTree.{DeclTree}
use Rattle.cf_syntax.specs.NamesData.{Names}
use Rattle.cf_syntax.specs.Grammar.{sees, here}
use Rattle.cf_syntax.specs.Named.{opened}
use Rattle.cf_syntax.specs.Parse.{Parse, pure, with_rest, then, word}
use Rattle.cf_syntax.specs.Words.{comma}
use Rattle.cf_parse_decl.specs.Statements.{by}
use Rattle.cf_parse_expr.specs.Whole.{declarator_at}
use Rattle.cf_unit.specs.declared.declaration.InitDeclarator.{InitDeclarator}
use Rattle.cf_unit.specs.declared.initialiser.Initialiser.{Initialiser}
use Rattle.cf_unit.specs.declared.reading.Given.{Given}
use Rattle.cf_unit.specs.Declarations as rule
use Rattle.cf_unit.specs.Declares.{Declared, shape}
use Rattle.cf_unit.specs.Enters.{entered}
use Rattle.cf_unit.specs.Files.{inner, by_tree}
use Rattle.cf_unit.specs.Known.{Known, with_names, closed_to}
use Rattle.cf_unit.specs.Pieces.{semicolon}
use Rattle.cf_unit.specs.Read.{reading, taking, row}

abbrev pub declared_at : ℕ → DeclTree → Declared
declared_at at d = record { at = at; tree = d; shape = shape d }

abbrev pub known_behind : ℕ → Given → Known → DeclTree → List ℕ → Known
known_behind home g k d classes = with_names k (opened (entered home g k (shape d)).names classes)

-- decl: its name is entered, and the classes that qualify it are open
unfoldable pub one_declarator : ℕ → Given → Known → Parse (Declared × Known)
one_declarator home g k = then here (λ at. then (declarator_at k.names) (λ d. pure (declared_at at d.0, known_behind home g k d.0 d.1)))

-- ["=" init | "(" args ")"]
unfoldable pub value_at : ℕ → Names → Parse (Option Initialiser)
value_at depth names ts = reading (rule.initialiser (inner by_tree depth) names) ts

abbrev pub with_value : Declared → Option Initialiser → InitDeclarator
with_value d i = record { at = d.at; declarator = d.tree; initialiser = i }

-- ";": the classes that qualify declarators are closed
unfoldable pub closed : ℕ → List InitDeclarator × Known → Parse (List InitDeclarator × Known)
closed home s = then (word semicolon) (λ _. pure (s.0, with_names s.1 (closed_to home s.1.names)))

module _ (depth : ℕ) where
  -- ["=" init | "(" args ")"] behind a declarator
  unfoldable pub initialised : Declared × Known → Parse (InitDeclarator × Known)
  initialised d = then (value_at depth d.1.names) (λ i. pure (with_value d.0 i, d.1))

  -- "," idecl
  unfoldable pub next_declarator : ℕ → Given → Known → Parse (InitDeclarator × Known)
  next_declarator home g k = then (word comma) (λ _. then (one_declarator home g k) initialised)

  unfoldable pub declarator_turn : ℕ → Given → List InitDeclarator × Known → Parse (List InitDeclarator × Known)
  declarator_turn home g s = then (next_declarator home g s.1) (λ d. pure (s.0 ++ d.0 ∷ [], d.1))

  -- {"," idecl} ";"
  unfoldable pub behind_commas : ℕ → Given → List InitDeclarator × Known → Parse (List InitDeclarator × Known)
  behind_commas home g s ts = with_rest (row (λ b us. taking (declarator_turn home g b us) us) (length ts) s ts) (closed home)

  unfoldable pub more_declarators : ℕ → Given → InitDeclarator × Known → Parse (List InitDeclarator × Known)
  more_declarators home g first = behind_commas home g (first.0 ∷ [], first.1)

  -- [idecl {"," idecl}] ";"
  unfoldable pub declarators : ℕ → Given → Known → Parse (List InitDeclarator × Known)
  declarators home g k = by (sees semicolon) (then (word semicolon) (λ _. pure ([], k)))
      (then (one_declarator home g k) (λ d. then (initialised d) (more_declarators home g)))
