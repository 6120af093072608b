-- Functions with bodies and members of classes (8.3, 9.2), read step by step: the readings by words that stay shut.
use Rattle.std.specs.Prelude.{ℕ, List, [], ◌∷◌, ◌++◌, length, Option}
use Rattle.cf_syntax.specs.Grammar.{sees, begins, here}
use Rattle.cf_syntax.specs.Parse.{Parse, with_rest, then, word}
use Rattle.cf_syntax.specs.Parse.{pure as just}
use Rattle.cf_syntax.specs.Words.{comma, colon}
use Rattle.cf_parse_decl.specs.Statements.{by}
use Rattle.cf_unit.specs.declared.class.FunctionDef.{FunctionDef}
use Rattle.cf_unit.specs.declared.class.Member.{Member}
use Rattle.cf_unit.specs.declared.class.Member.TheVariants as member
use Rattle.cf_unit.specs.declared.class.MemberDeclarator.{MemberDeclarator}
use Rattle.cf_unit.specs.declared.reading.Given.{Given}
use Rattle.cf_unit.specs.Bodies as bodies
use Rattle.cf_unit.specs.Bodies.{Body}
use Rattle.cf_unit.specs.Declarations as rules
use Rattle.cf_unit.specs.Declares.{Shape, Declared}
use Rattle.cf_unit.specs.Files.{inner, by_tree}
use Rattle.cf_unit.specs.Known.{Known, with_names, open_scopes, closed_to}
use Rattle.cf_unit.specs.Members.{access_word, begins_body, pure_behind}
use Rattle.cf_unit.specs.Pieces.{semicolon, private_word, protected_word, public_word}
use Rattle.cf_unit.specs.Read.{reading, taking, row}

-- ["=" "0"]: the place of the `=`
unfoldable pub pure_at : Parse (Option ℕ)
pure_at ts = reading pure_behind ts

abbrev pub declarator_of : Declared → Option ℕ → MemberDeclarator
declarator_of d p = record { at = d.at; declarator = d.tree; pure = p }

-- ["=" "0"] behind a declarator
unfoldable pub with_pure : Declared → Parse MemberDeclarator
with_pure d = then pure_at (λ p. just (declarator_of d p))

-- [";"]
unfoldable pub maybe_semicolon : Parse (Unit {0})
maybe_semicolon = by (sees semicolon) (then (word semicolon) (λ _. just tt)) (just tt)

-- ";": the classes that qualify declarators are closed
unfoldable pub closed : ℕ → List MemberDeclarator × Known → Parse (List MemberDeclarator × Known)
closed home s = then (word semicolon) (λ _. just (s.0, with_names s.1 (closed_to home s.1.names)))

-- (public | protected | private) ":"
unfoldable pub access_label : Known → Parse (Member × Known)
access_label k = then access_word (λ a. then (word colon) (λ _. just (member.Access a.0 a.1, k)))

abbrev pub declaration_of : ℕ → Given → List MemberDeclarator → Member
declaration_of at g all = member.Declaration at g.list all

abbrev pub function_of : ℕ → Given → Declared → Body → FunctionDef
function_of at g d b = record {
  at = at;
  specifiers = g.list;
  declarator_at = d.at;
  declarator = d.tree;
  initialisers = b.0;
  body_at = b.1;
  body = b.2;
}

abbrev pub access_words : List ℕ
access_words = public_word ∷ protected_word ∷ private_word ∷ []

module _ (depth : ℕ) where
  -- ---- parts

  -- {spec}
  unfoldable pub some_specifiers : Known → Parse (Given × Known)
  some_specifiers k ts = reading (rules.specifiers (inner by_tree depth) k) ts

  -- decl
  unfoldable pub a_declarator : ℕ → Given → Known → Parse (Declared × Known)
  a_declarator home g k ts = reading (rules.one_declarator (inner by_tree depth) home g k) ts

  -- [":" minit {"," minit}] block
  unfoldable pub a_body : ℕ → Shape → Known → Parse (Body × Known)
  a_body home s k ts = reading (bodies.body_by (inner by_tree depth) k.bodies home s k) ts

  -- ---- functions

  unfoldable pub defined : ℕ → ℕ → Given → Declared → Known → Parse (FunctionDef × Known)
  defined home at g d k = then (a_body home d.shape k) (λ b. just (function_of at g d b.0, b.1))

  -- [";"] belongs to a function
  unfoldable pub member_function : ℕ → ℕ → Given → Declared → Known → Parse (Member × Known)
  member_function home at g d k = then (defined home at g d k) (λ f. then maybe_semicolon (λ _. just (member.Function f.0, f.1)))

  -- ---- declarators

  -- "," decl ["=" "0"]
  unfoldable pub next_declarator : ℕ → Given → Known → Parse (MemberDeclarator × Known)
  next_declarator home g k = then (word comma) (λ _. then (a_declarator home g k) (λ d. then (with_pure d.0) (λ m. just (m, d.1))))

  unfoldable pub declarator_turn : ℕ → Given → List MemberDeclarator × Known → Parse (List MemberDeclarator × Known)
  declarator_turn home g s = then (next_declarator home g s.1) (λ d. just (s.0 ++ d.0 ∷ [], d.1))

  -- {"," decl ["=" "0"]} ";"
  unfoldable pub behind_commas : ℕ → Given → List MemberDeclarator × Known → Parse (List MemberDeclarator × Known)
  behind_commas home g s ts = with_rest (row (λ b us. taking (declarator_turn home g b us) us) (length ts) s ts) (closed home)

  -- ["=" "0"] {"," decl ["=" "0"]} ";"
  unfoldable pub declarators : ℕ → Given → Declared → Known → Parse (List MemberDeclarator × Known)
  declarators home g d k = then (with_pure d) (λ m. behind_commas home g (m ∷ [], k))

  unfoldable pub member_declared : ℕ → ℕ → Given → Declared → Known → Parse (Member × Known)
  member_declared home at g d k = then (declarators home g d k) (λ all. just (declaration_of at g all.0, all.1))

  -- ---- members

  unfoldable pub member_behind : ℕ → ℕ → Given → Declared → Known → Parse (Member × Known)
  member_behind home at g d k = by begins_body (member_function home at g d k) (member_declared home at g d k)

  -- ";", or a declarator and what stands behind it
  unfoldable pub member_specified : ℕ → ℕ → Given → Known → Parse (Member × Known)
  member_specified home at g k = by (sees semicolon) (then (word semicolon) (λ _. just (declaration_of at g [], k)))
      (then (a_declarator home g k) (λ d. member_behind home at g d.0 d.1))

  unfoldable pub one_member : Known → Parse (Member × Known)
  one_member k = by (begins access_words) (access_label k)
      (then here (λ at. then (some_specifiers k) (λ s. member_specified (open_scopes k.names) at s.0 s.1)))
