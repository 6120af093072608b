-- Classes and their members (9, 10).
use Rattle.std.specs.Prelude.{ℕ, Bool, cond, List, [], ◌∷◌, ◌++◌, nat_eq, Option, Some, None}
use Rattle.cf_tokens.specs.declared.token.Token.{Token}
use Rattle.cf_syntax.specs.declared.specifier.ClassKey.{ClassKey}
use Rattle.cf_syntax.specs.declared.specifier.ClassKey.TheVariants as key
use Rattle.cf_syntax.specs.declared.type_names.NameKind.{NameKind}
use Rattle.cf_syntax.specs.declared.type_names.NameKind.TheVariants as kind
use Rattle.cf_syntax.specs.declared.type_names.Scope.TheVariants as scope
use Rattle.cf_syntax.specs.NamesData.{Names}
use Rattle.cf_syntax.specs.Names.{with_bases, with_scope}
use Rattle.cf_syntax.specs.Grammar.{sees, begins, here, taken}
use Rattle.cf_syntax.specs.Named.{type_path}
use Rattle.cf_syntax.specs.Parse.{Parse}
use Rattle.cf_syntax.specs.Words.{front, place, comma, colon, equals, class_word}
use Rattle.cf_unit.specs.declared.class.Access.{Access}
use Rattle.cf_unit.specs.declared.class.Access.TheVariants as access
use Rattle.cf_unit.specs.declared.class.Base.{Base}
use Rattle.cf_unit.specs.declared.class.BaseWord.{BaseWord}
use Rattle.cf_unit.specs.declared.class.BaseWord.TheVariants as base_word
use Rattle.cf_unit.specs.declared.class.ClassDef.{ClassDef}
use Rattle.cf_unit.specs.declared.class.Member.{Member}
use Rattle.cf_unit.specs.declared.class.Member.TheVariants as member
use Rattle.cf_unit.specs.declared.class.MemberDeclarator.{MemberDeclarator}
use Rattle.cf_unit.specs.declared.reading.Given.{Given}
use Rattle.cf_unit.specs.Rule.{Bodies, at_once, left_out, late, Rule, empty, exactly, then, by, often, until, twice, made}
use Rattle.cf_unit.specs.Known.{Known, with_names, open_scopes, closed_to}
use Rattle.cf_unit.specs.Declares.{Declared}
use Rattle.cf_unit.specs.Enters.{path_kind, class_to_define, base_number}
use Rattle.cf_unit.specs.Pieces.{left_brace, right_brace, semicolon, private_word, protected_word, public_word, virtual_word, word, zero_constant, before}
use Rattle.cf_unit.specs.Declarations.{Inner, maybe_identifier, specifiers, one_declarator}
use Rattle.cf_unit.specs.Statements.{names_behind}
use Rattle.cf_unit.specs.Bodies.{defined}

-- ---- bases: {virtual | public | private} qtype

abbrev pub base_word_of : ℕ → Option BaseWord
base_word_of n = cond (nat_eq n virtual_word) (Some base_word.Virtual)
    (cond (nat_eq n public_word) (Some base_word.Public) (cond (nat_eq n private_word) (Some base_word.Private) None))

abbrev pub placed : {A : Type 0} → ℕ → Option A → Option (ℕ × A)
placed at None = None
placed at (Some x) = Some (at, x)

abbrev pub next_base_word : List (ℕ × BaseWord) → Parse (List (ℕ × BaseWord))
next_base_word all ts = taken (more (placed (place ts) (base_word_of (front ts)))) (taken_tokens ts)
  where
    more : Option (ℕ × BaseWord) → Option (List (ℕ × BaseWord))
    more None = None
    more (Some w) = Some (all ++ w ∷ [])

    taken_tokens : List Token → List Token
    taken_tokens [] = []
    taken_tokens (t ∷ us) = us

-- a base, with the numbers of the classes that are bases so far
abbrev pub one_base : Names → List Base × List ℕ → Rule (List Base × List ℕ)
one_base names s = then (exactly here) (λ at. then (often (λ all. exactly (next_base_word all)) []) (λ words.
    made (λ p. (s.0 ++ record { at = at; words = words; path = p } ∷ [], s.1 ++ base_number names (path_kind names p))) (exactly (type_path names))))

-- [":" base {"," base}]
abbrev pub bases : Names → Rule (List Base × List ℕ)
bases names = by (sees colon) (then (word colon) (λ _. then (one_base names ([], [])) (λ first.
    often (λ s. then (word comma) (λ _. one_base names s)) first))) (empty ([], []))

-- ---- members

abbrev pub access_of : ℕ → Option Access
access_of n = cond (nat_eq n public_word) (Some access.Public)
    (cond (nat_eq n protected_word) (Some access.Protected) (cond (nat_eq n private_word) (Some access.Private) None))

abbrev pub access_word : Parse (ℕ × Access)
access_word [] = None
access_word (t ∷ ts) = taken (placed t.at (access_of (front (t ∷ ts)))) ts

-- ["=" "0"]: the place of the `=`
abbrev pub pure_behind : Rule (Option ℕ)
pure_behind = by (sees equals) (then (word equals) (λ at. made (λ _. Some at) (exactly zero_constant))) (empty None)

-- whether initialisers or a block follow a declarator
abbrev pub begins_body : List Token → Bool
begins_body ts = begins (colon ∷ left_brace ∷ []) ts

module _ («in» : Inner) where
  abbrev pub next_member_declarator : ℕ → Given → List MemberDeclarator × Known → Rule (List MemberDeclarator × Known)
  next_member_declarator home g s = then (word comma) (λ _. then (one_declarator «in» home g s.1) (λ d.
      made (λ p. (s.0 ++ record { at = d.0.at; declarator = d.0.tree; pure = p } ∷ [], d.1)) pure_behind))

  -- ["=" "0"] {"," decl ["=" "0"]} ";"
  abbrev pub member_declared : ℕ → ℕ → Given → Declared × Known → Rule (Member × Known)
  member_declared home at g d = then pure_behind (λ p. then (often (next_member_declarator home g) (record { at = d.0.at; declarator = d.0.tree; pure = p } ∷ [], d.1)) (λ all.
      made (λ _. (member.Declaration at g.list all.0, with_names all.1 (closed_to home all.1.names))) (word semicolon)))

  -- a `;` directly behind the block belongs to the member
  abbrev pub member_function : ℕ → ℕ → Given → Declared × Known → Rule (Member × Known)
  member_function home at g d = then (defined «in» home at g d) (λ f.
      by (sees semicolon) (made (λ _. (member.Function f.0, f.1)) (word semicolon)) (empty (member.Function f.0, f.1)))

  abbrev pub member_behind : ℕ → ℕ → Given → Declared × Known → Rule (Member × Known)
  member_behind home at g d = by begins_body (member_function home at g d) (member_declared home at g d)

  -- {spec} [ decl ["=" "0"] {"," decl ["=" "0"]} ] ";" | {spec} decl [":" minit {"," minit}] block [";"]
  abbrev pub member_specified : ℕ → ℕ → Given × Known → Rule (Member × Known)
  member_specified home at s = by (sees semicolon) (made (λ _. (member.Declaration at s.0.list [], s.1)) (word semicolon))
      (then (one_declarator «in» home s.0 s.1) (member_behind home at s.0))

  abbrev pub one_member : Known → Rule (Member × Known)
  one_member k = by (begins (public_word ∷ protected_word ∷ private_word ∷ []))
      (then (exactly access_word) (λ a. made (λ _. (member.Access a.0 a.1, k)) (word colon)))
      (then (exactly here) (λ at. then (specifiers «in» k) (member_specified (open_scopes k.names) at)))

  abbrev pub next_member : List Member × Known → Rule (List Member × Known)
  next_member s = made (λ x. (s.0 ++ x.0 ∷ [], x.1)) (one_member s.1)

  -- {member} "}"
  abbrev pub members : Known → Rule (List Member × Known)
  members k = before right_brace (λ all. all) (until (sees right_brace) names_behind next_member ([], k))

  -- ---- classdef

  abbrev pub cut : ℕ → Bodies → Bodies
  cut n at_once = at_once
  cut n left_out = left_out
  cut n (late names) = late (closed_to n names)

  abbrev pub names_after : Bodies → Names → Names
  names_after at_once names = names
  names_after left_out names = names
  names_after (late end) names = end

  -- the members of a class that stands in no other: bodies are read with the names at its end, and the classes in them are known behind it
  abbrev pub outermost : ℕ → Known → Rule (List Member × Known)
  outermost home k = made (λ all. (all.0, record { names = closed_to home (names_after all.1.bodies all.1.names); bodies = at_once; own = None }))
      (twice names_behind (λ bodies. members (record { names = k.names; bodies = cut (open_scopes k.names) bodies; own = k.own })))

  -- the members of a class in another one
  abbrev pub nested : ℕ → Known → Rule (List Member × Known)
  nested home k = made (λ all. (all.0, with_names all.1 (closed_to home all.1.names))) (members k)

  abbrev pub members_by : Bodies → ℕ → Known → Rule (List Member × Known)
  members_by at_once home k = outermost home k
  members_by left_out home k = nested home k
  members_by (late names) home k = nested home k

  abbrev pub name_of : Option (ℕ × List ℕ) → Option (List ℕ)
  name_of None = None
  name_of (Some n) = Some n.1

  -- in the class: it is defined from its `{` on
  abbrev pub in_class : Known → Names → ℕ → List ℕ → Option (ℕ × List ℕ) → Known
  in_class k names class numbers name =
      record { names = with_scope (with_bases names class numbers) (scope.Class class); bodies = k.bodies; own = name_of name }

  abbrev pub class_as : Known → ℕ → ClassKey → Option (ℕ × List ℕ) → ℕ × Names → Rule ((ClassDef × NameKind) × Known)
  class_as k at c name start = then (bases start.1) (λ bs. then (word left_brace) (λ _.
      made (λ all. ((record { at = at; key = c; name = name; bases = bs.0; members = all.0 }, kind.OfClass start.0), record { names = all.1.names; bodies = all.1.bodies; own = k.own }))
      (members_by k.bodies (open_scopes k.names) (in_class k start.1 start.0 bs.1 name))))

  abbrev pub class_key : List Token → Option ((ℕ × ClassKey) × List Token)
  class_key [] = None
  class_key (t ∷ ts) = Some ((t.at, cond (sees class_word (t ∷ ts)) key.Class key.Struct), ts)

  -- (class | struct) [ID] [":" base {"," base}] "{" {member} "}": the name is entered before the bases are read
  abbrev pub class : Known → Rule ((ClassDef × NameKind) × Known)
  class k = then (exactly class_key) (λ c. then maybe_identifier (λ name. class_as k c.0 c.1 name (class_to_define k.names name)))
