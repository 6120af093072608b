-- Declarators, initialisers, enumerations, member initialisers and bases hold no place.
use Rattle.std.proofs.Common.{ℕ, zero, suc, List, [], Option}
use Rattle.cf_syntax.specs.NamesData.{Names}
use Rattle.cf_syntax.specs.Words.{left_paren, right_paren, comma, colon, equals, enum_word}
use Rattle.cf_unit.specs.declared.declaration.InitDeclarator.{InitDeclarator}
use Rattle.cf_unit.specs.declared.class.Base.{Base}
use Rattle.cf_unit.specs.declared.class.MemberInit.{MemberInit}
use Rattle.cf_unit.specs.declared.enumeration.EnumDef.{EnumDef}
use Rattle.cf_unit.specs.declared.enumeration.Enumerator.{Enumerator}
use Rattle.cf_unit.specs.declared.initialiser.Init.{Init}
use Rattle.cf_unit.specs.declared.reading.Given.{Given}
use Rattle.cf_unit.specs.Bodies.{member_init, member_inits}
use Rattle.cf_unit.specs.Declarations as rule
use Rattle.cf_unit.specs.Declares.{Declared}
use Rattle.cf_unit.specs.Files.{inner, by_tree}
use Rattle.cf_unit.specs.Known.{Known}
use Rattle.cf_unit.specs.Members.{pure_behind, member_declared, bases, one_base}
use Rattle.cf_unit.specs.Pieces as pieces
use Rattle.cf_unit.specs.Pieces.{left_brace, right_brace, semicolon}
use Rattle.cf_unit.specs.Rule.{Rule, assign, condition, expression, then, often, made}
use Rattle.cf_stuck_statement.proofs.Quiet.{Quiet, quiet-empty, quiet-exactly, quiet-form, quiet-named, quiet-then, quiet-made, quiet-by, quiet-often}
use Rattle.cf_stuck_statement.proofs.Stuck.{quiet-word, quiet-before}

-- ---- arguments

quiet-arguments : (names : Names) → Quiet (pieces.arguments names)
quiet-arguments names = quiet-then (quiet-form assign names) (λ x. quiet-often (λ all. quiet-then (quiet-word comma) (λ _. quiet-made (quiet-form assign names))))

quiet-some-arguments : (names : Names) → Quiet (pieces.some_arguments names)
quiet-some-arguments names = quiet-then (quiet-word left_paren) (λ at. quiet-before right_paren (quiet-arguments names))

quiet-maybe-arguments : (names : Names) → Quiet (pieces.maybe_arguments names)
quiet-maybe-arguments names = quiet-then (quiet-word left_paren) (λ at. quiet-by (quiet-made (quiet-word right_paren)) (quiet-before right_paren (quiet-arguments names)))

quiet-member-init : (names : Names) (all : List MemberInit) → Quiet (member_init names all)
quiet-member-init names all = quiet-then (quiet-exactly _) (λ p. quiet-made (quiet-maybe-arguments names))

pub quiet-member-inits : (names : Names) → Quiet (member_inits names)
quiet-member-inits names = quiet-by (quiet-then (quiet-word colon) (λ _. quiet-then (quiet-member-init names []) (λ first.
    quiet-often (λ all. quiet-then (quiet-word comma) (λ _. quiet-member-init names all))))) (quiet-empty _)

-- ---- enumerations

pub quiet-maybe-identifier : Quiet rule.maybe_identifier
quiet-maybe-identifier = quiet-by (quiet-made (quiet-exactly _)) (quiet-empty _)

quiet-maybe-value : (names : Names) → Quiet (rule.maybe_value (expression condition names))
quiet-maybe-value names = quiet-by (quiet-then (quiet-word equals) (λ at. quiet-made (quiet-form condition names))) (quiet-empty _)

quiet-enumerator : (s : List Enumerator × Known) → Quiet (rule.enumerator s)
quiet-enumerator s = quiet-then (quiet-exactly _) (λ n. quiet-made (quiet-maybe-value _))

abbrev enumeration-of : ℕ → Option (ℕ × List ℕ) → List Enumerator × Known → EnumDef × Known
enumeration-of at n all = (record { at = at; name = n; enumerators = all.0 }, all.1)

quiet-enumerators : (at : ℕ) (n : Option (ℕ × List ℕ)) (first : List Enumerator × Known)
    → Quiet (then (often (λ s. then (pieces.word comma) (λ _. rule.enumerator s)) first) (λ all. made (λ _. enumeration-of at n all) (pieces.word right_brace)))
quiet-enumerators at n first = quiet-then (quiet-often {a = first} (λ s. quiet-then (quiet-word comma) (λ _. quiet-enumerator s)))
    (λ all. quiet-made {f = λ _. enumeration-of at n all} (quiet-word right_brace))

pub quiet-enumeration : (k : Known) → Quiet (rule.enumeration k)
quiet-enumeration k = quiet-then (quiet-word enum_word) (λ at. quiet-then quiet-maybe-identifier (λ n. quiet-then (quiet-word left_brace) (λ _.
    quiet-then (quiet-enumerator ([], rule.enumeration_entered k n)) (λ first. quiet-enumerators at n first))))

-- ---- initialisers

module _ (one : Names → Rule Init) (quiet-one : (names : Names) → Quiet (one names)) where
  quiet-listed : (names : Names) (all : List Init) → Quiet (rule.listed_init one names all)
  quiet-listed names all = quiet-then (quiet-one names) (λ x. quiet-by (quiet-empty _) (quiet-made (quiet-word comma)))

  quiet-list : (names : Names) → Quiet (rule.init_list one names)
  quiet-list names = quiet-then (quiet-word left_brace) (λ at. quiet-then (quiet-listed names []) (λ first.
      quiet-then (quiet-often (λ all. quiet-listed names all)) (λ all. quiet-made (quiet-word right_brace))))

  quiet-initialising : (names : Names) → Quiet (rule.initialising one names)
  quiet-initialising names = quiet-by (quiet-list names) (quiet-then (quiet-exactly _) (λ at. quiet-made (quiet-form assign names)))

quiet-init : (n : ℕ) (names : Names) → Quiet ((inner by_tree n).init names)
quiet-init zero names = quiet-exactly _
quiet-init (suc n) names = quiet-initialising (inner by_tree n).init (quiet-init n) names

-- ---- bases

quiet-base : (names : Names) (s : List Base × List ℕ) → Quiet (one_base names s)
quiet-base names s = quiet-then (quiet-exactly _) (λ at. quiet-then (quiet-often (λ all. quiet-exactly _)) (λ words. quiet-made (quiet-exactly _)))

pub quiet-bases : (names : Names) → Quiet (bases names)
quiet-bases names = quiet-by (quiet-then (quiet-word colon) (λ _. quiet-then (quiet-base names ([], []))
    (λ first. quiet-often (λ s. quiet-then (quiet-word comma) (λ _. quiet-base names s))))) (quiet-empty _)

quiet-pure : Quiet pure_behind
quiet-pure = quiet-by (quiet-then (quiet-word equals) (λ at. quiet-made (quiet-exactly _))) (quiet-empty _)

module _ (n : ℕ) where
  quiet-initialiser : (names : Names) → Quiet (rule.initialiser (inner by_tree n) names)
  quiet-initialiser names = quiet-by (quiet-then (quiet-word equals) (λ at. quiet-made (quiet-init n names)))
      (quiet-by (quiet-made (quiet-some-arguments names)) (quiet-empty _))

  -- ---- declarators

  pub quiet-declarator : (home : ℕ) (g : Given) (k : Known) → Quiet (rule.one_declarator (inner by_tree n) home g k)
  quiet-declarator home g k = quiet-then (quiet-exactly _) (λ us. quiet-made (quiet-named k.names))

  quiet-initialised : (d : Declared × Known) → Quiet (rule.initialised (inner by_tree n) d)
  quiet-initialised d = quiet-made (quiet-initialiser d.1.names)

  quiet-more-declarators : (home : ℕ) (g : Given) (first : InitDeclarator × Known) → Quiet (rule.more_declarators (inner by_tree n) home g first)
  quiet-more-declarators home g first = quiet-then (quiet-often (λ s. quiet-then (quiet-word comma) (λ _. quiet-then (quiet-declarator home g s.1)
      (λ d. quiet-made (quiet-initialised d))))) (λ all. quiet-made (quiet-word semicolon))

  pub quiet-behind-declarator : (home : ℕ) (g : Given) (d : Declared × Known)
      → Quiet (then (rule.initialised (inner by_tree n) d) (rule.more_declarators (inner by_tree n) home g))
  quiet-behind-declarator home g d = quiet-then (quiet-initialised d) (λ first. quiet-more-declarators home g first)

  pub quiet-declarators : (home : ℕ) (g : Given) (k : Known) → Quiet (rule.declarators (inner by_tree n) home g k)
  quiet-declarators home g k = quiet-by (quiet-made (quiet-word semicolon)) (quiet-then (quiet-declarator home g k) (λ d. quiet-behind-declarator home g d))

  -- ---- members

  pub quiet-member-declared : (home at : ℕ) (g : Given) (d : Declared × Known) → Quiet (member_declared (inner by_tree n) home at g d)
  quiet-member-declared home at g d = quiet-then quiet-pure (λ p. quiet-then (quiet-often (λ s. quiet-then (quiet-word comma) (λ _.
      quiet-then (quiet-declarator home g s.1) (λ e. quiet-made quiet-pure)))) (λ all. quiet-made (quiet-word semicolon)))

  -- ---- specifiers

  pub quiet-plain : (s : Given × Known) → Quiet (rule.plain_specifier (inner by_tree n) s)
  quiet-plain s = quiet-made (quiet-exactly _)
