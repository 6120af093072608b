-- Specifiers, declarators with initialisers, enumerations and declarations (7, 8).
use Rattle.std.specs.Prelude.{ℕ, Bool, true, false, cond, ◌&&◌, ◌||◌, List, [], ◌∷◌, ◌++◌, drop, bytes_eq, Option, Some, None, is_some}
use Rattle.cf_tokens.specs.declared.token.Token.{Token}
use Rattle.cf_syntax.specs.declared.declarator.DeclTree.{DeclTree}
use Rattle.cf_syntax.specs.declared.name.Last.{Last}
use Rattle.cf_syntax.specs.declared.name.Last.TheVariants as last
use Rattle.cf_syntax.specs.declared.type_names.NameKind.{NameKind}
use Rattle.cf_syntax.specs.declared.type_names.NameKind.TheVariants as kind
use Rattle.cf_syntax.specs.NamesData.{Names}
use Rattle.cf_syntax.specs.Grammar.{sees, begins, here}
use Rattle.cf_syntax.specs.Named.{opened}
use Rattle.cf_syntax.specs.Parse.{Parse}
use Rattle.cf_syntax.specs.Parse.{then as after}
use Rattle.cf_syntax.specs.Specified.{one_specifier, name}
use Rattle.cf_syntax.specs.Words.{place, ident_at, left_paren, comma, colon, equals, class_word, struct_word, enum_word}
use Rattle.cf_unit.specs.declared.class.ClassDef.{ClassDef}
use Rattle.cf_unit.specs.declared.declaration.Declaration.{Declaration}
use Rattle.cf_unit.specs.declared.declaration.InitDeclarator.{InitDeclarator}
use Rattle.cf_unit.specs.declared.enumeration.EnumDef.{EnumDef}
use Rattle.cf_unit.specs.declared.enumeration.Enumerator.{Enumerator}
use Rattle.cf_unit.specs.declared.initialiser.Init.{Init}
use Rattle.cf_unit.specs.declared.initialiser.Init.TheVariants as init
use Rattle.cf_unit.specs.declared.initialiser.Initialiser.{Initialiser}
use Rattle.cf_unit.specs.declared.initialiser.Initialiser.TheVariants as initial
use Rattle.cf_unit.specs.declared.reading.Given.{Given}
use Rattle.cf_unit.specs.declared.specifier.Specifier.TheVariants as specifier
use Rattle.cf_unit.specs.declared.statement.Stmt.{Stmt}
use Rattle.cf_unit.specs.Rule.{Rule, assign, condition, empty, exactly, expression, declarator, parameters, then, by, unless, often, made}
use Rattle.cf_unit.specs.Known.{Known, with_names, open_scopes, closed_to}
use Rattle.cf_unit.specs.Declares.{Shape, Declared}
use Rattle.cf_unit.specs.Enters.{nothing_given, given_all, with_type, entered, entered_here, is_own}
use Rattle.cf_unit.specs.Pieces.{left_brace, right_brace, semicolon, word, identifier, sees_identifier, some_arguments}

-- what stands inside, by what is known there; a class with what its name stands for
pub record Inner : Type 1 where
  pub statement : Known → Rule (Stmt × Known)
  pub class : Known → Rule ((ClassDef × NameKind) × Known)
  pub init : Names → Rule Init
  -- what a declarator with this tree declares, which begins at these tokens
  pub shape : List Token → DeclTree → Shape

-- no token: those that follow
abbrev pub tokens_here : Parse (List Token)
tokens_here ts = Some (ts, ts)

-- ---- the name of a constructor (12.1)

-- the last of these names is this one
abbrev pub ends_in : List (List ℕ) → List ℕ → Bool
ends_in [] n = false
ends_in (m ∷ []) n = bytes_eq m n
ends_in (m ∷ k ∷ ks) n = ends_in (k ∷ ks) n

abbrev pub is_twice : List (List ℕ) → Last → Bool
is_twice scopes (last.Ident n) = ends_in scopes n
is_twice scopes (last.Destructor n) = false
is_twice scopes (last.Operator n) = false
is_twice scopes (last.Conversion list ps) = false

abbrev pub own_at : Option (List ℕ) → Option (List ℕ) → Bool
own_at own None = false
own_at own (Some n) = is_own own n

-- a qualified name whose last two names are equal, with the names for what stands behind it
abbrev pub twice_named : Names → Parse Names
twice_named names = after (name names) (λ n us. cond (is_twice n.0.scopes n.0.last) (Some (opened names n.1, us)) None)

-- a constructor's name, with the names for what stands behind it: in a class its own name
abbrev pub constructor_name : Known → Parse Names
constructor_name k ts = cond (own_at k.own (ident_at ts) && sees left_paren (drop 1 ts)) (Some (k.names, drop 1 ts)) (twice_named k.names ts)

-- a constructor's name with parameters
abbrev pub constructor : Known → Rule Names
constructor k = then (exactly (constructor_name k)) (λ names. made (λ _. names) (parameters names))

-- ---- where definitions begin

abbrev pub behind_key : ℕ → List Token → Bool
behind_key n ts = sees n (drop 1 ts) || cond (sees_identifier (drop 1 ts)) (sees n (drop 2 ts)) false

-- (class | struct) [ID] and ":" or "{"
abbrev pub begins_class : List Token → Bool
begins_class ts = cond (begins (class_word ∷ struct_word ∷ []) ts) (behind_key left_brace ts || behind_key colon ts) false

-- enum [ID] "{"
abbrev pub begins_enumeration : List Token → Bool
begins_enumeration ts = cond (sees enum_word ts) (behind_key left_brace ts) false

-- ---- enumdef

abbrev pub maybe_identifier : Rule (Option (ℕ × List ℕ))
maybe_identifier = by sees_identifier (made (λ n. Some n) (exactly identifier)) (empty None)

-- ["=" x], at the `=`
abbrev pub maybe_value : {A : Type 0} → Rule A → Rule (Option (ℕ × A))
maybe_value g = by (sees equals) (then (word equals) (λ at. made (λ x. Some (at, x)) g)) (empty None)

-- ID ["=" cond]: the name is entered before its value is read
abbrev pub enumerator : List Enumerator × Known → Rule (List Enumerator × Known)
enumerator s = then (exactly identifier) (λ n.
    let k = with_names s.1 (entered_here s.1.names n.1 kind.Value) in
    made (λ v. (s.0 ++ record { at = n.0; name = n.1; value = v } ∷ [], k)) (maybe_value (expression condition k.names)))

-- the name of an enumeration is entered before its enumerators
abbrev pub enumeration_entered : Known → Option (ℕ × List ℕ) → Known
enumeration_entered k None = k
enumeration_entered k (Some n) = with_names k (entered_here k.names n.1 kind.Plain)

-- enum [ID] "{" enumerator {"," enumerator} "}"
abbrev pub enumeration : Known → Rule (EnumDef × Known)
enumeration k = then (word enum_word) (λ at. then maybe_identifier (λ n. then (word left_brace) (λ _.
    then (enumerator ([], enumeration_entered k n)) (λ first. then (often (λ s. then (word comma) (λ _. enumerator s)) first) (λ all.
    made (λ _. (record { at = at; name = n; enumerators = all.0 }, all.1)) (word right_brace))))))

-- ---- initialisers

-- init ["," | where "}" follows]
abbrev pub listed_init : (Names → Rule Init) → Names → List Init → Rule (List Init)
listed_init inner names all = then (inner names) (λ x. by (sees right_brace) (empty (all ++ x ∷ [])) (made (λ _. all ++ x ∷ []) (word comma)))

-- "{" init {"," init} [","] "}"
abbrev pub init_list : (Names → Rule Init) → Names → Rule Init
init_list inner names = then (word left_brace) (λ at. then (listed_init inner names []) (λ first.
    then (often (listed_init inner names) first) (λ all. made (λ _. init.List at all) (word right_brace))))

-- assign
abbrev pub init_value : Names → Rule Init
init_value names = then (exactly here) (λ at. made (λ x. init.Value at x) (expression assign names))

abbrev pub initialising : (Names → Rule Init) → Names → Rule Init
initialising inner names = by (sees left_brace) (init_list inner names) (init_value names)

-- ---- declarations of what was read

abbrev pub declared_by : ℕ → Given → Rule (List InitDeclarator × Known) → Rule (Declaration × Known)
declared_by at g rest = made (λ all. (record { at = at; specifiers = g.list; declarators = all.0 }, all.1)) rest

-- whether there is a specifier
abbrev pub is_given : Given → Bool
is_given g = some_of g.list
  where
    some_of : {A : Type 0} → List A → Bool
    some_of [] = false
    some_of (x ∷ xs) = true

module _ («in» : Inner) where
  -- ["=" init | "(" args ")"]
  abbrev pub initialiser : Names → Rule (Option Initialiser)
  initialiser names = by (sees equals) (then (word equals) (λ at. made (λ x. Some (initial.Equals at x)) («in».init names)))
      (by (sees left_paren) (made (λ all. Some (initial.Arguments all.0 all.1)) (some_arguments names)) (empty None))

  -- ---- specifiers

  -- a specifier that defines nothing; a type's name only where no type was named yet
  abbrev pub plain_specifier : Given × Known → Rule (Given × Known)
  plain_specifier s = made (λ one. given_all s one.list) (exactly (one_specifier s.1.names (record { list = []; has_type = is_some s.0.kind })))

  abbrev pub one_given : Given × Known → Rule (Given × Known)
  one_given s = by begins_class (made (λ c. (with_type s.0 (specifier.Class c.0.0) c.0.1, c.1)) («in».class s.1))
      (by begins_enumeration (made (λ e. (with_type s.0 (specifier.Enumeration e.0) kind.Plain, e.1)) (enumeration s.1))
      (by (λ _. is_some s.0.kind) (plain_specifier s) (unless (constructor s.1) (plain_specifier s))))

  -- {spec}, as many as can be taken; the name of a constructor is no specifier
  abbrev pub specifiers : Known → Rule (Given × Known)
  specifiers k = often one_given (nothing_given, k)

  -- ---- idecl

  -- decl, at its first token, in a declaration that stands in the last of so many open scopes: its name is entered, and the classes
  -- that qualify it are open
  abbrev pub declared_as : ℕ → Given → Known → Declared → List ℕ → Declared × Known
  declared_as home g k d classes = (d, with_names k (opened (entered home g k d.shape).names classes))

  abbrev pub one_declarator : ℕ → Given → Known → Rule (Declared × Known)
  one_declarator home g k = then (exactly tokens_here) (λ ts. made (λ d.
      declared_as home g k (record { at = place ts; tree = d.0; shape = «in».shape ts d.0 }) d.1) (declarator k.names))

  -- ["=" init | "(" args ")"] behind a declarator
  abbrev pub initialised : Declared × Known → Rule (InitDeclarator × Known)
  initialised d = made (λ i. (record { at = d.0.at; declarator = d.0.tree; initialiser = i }, d.1)) (initialiser d.1.names)

  -- {"," idecl} ";"
  abbrev pub next_declarator : ℕ → Given → List InitDeclarator × Known → Rule (List InitDeclarator × Known)
  next_declarator home g s = then (word comma) (λ _. then (one_declarator home g s.1) (λ d. made (λ i. (s.0 ++ i.0 ∷ [], i.1)) (initialised d)))

  abbrev pub more_declarators : ℕ → Given → InitDeclarator × Known → Rule (List InitDeclarator × Known)
  more_declarators home g first = then (often (next_declarator home g) (first.0 ∷ [], first.1)) (λ all.
      made (λ _. (all.0, with_names all.1 (closed_to home all.1.names))) (word semicolon))

  -- [idecl {"," idecl}] ";": the classes that qualify a declarator are open up to the `;`
  abbrev pub declarators : ℕ → Given → Known → Rule (List InitDeclarator × Known)
  declarators home g k = by (sees semicolon) (made (λ _. ([], k)) (word semicolon))
      (then (one_declarator home g k) (λ d. then (initialised d) (more_declarators home g)))

  -- ---- simple

  -- {spec} [idecl {"," idecl}] ";"
  abbrev pub simple : Known → Rule (Declaration × Known)
  simple k = then (exactly here) (λ at. then (specifiers k) (λ s. declared_by at s.0 (declarators (open_scopes k.names) s.0 s.1)))

  -- the same with one specifier at least
  abbrev pub specified : Known → Rule (Declaration × Known)
  specified k = then (exactly here) (λ at. then (specifiers k) (λ s. by (λ _. is_given s.0)
      (declared_by at s.0 (declarators (open_scopes k.names) s.0 s.1)) (exactly (λ _. None))))
