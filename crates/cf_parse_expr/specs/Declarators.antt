-- Declarators (8), read step by step.
use Rattle.std.specs.Prelude.{ℕ, ◌-◌, Bool, List, [], length, Option, Some, None, is_some}
use Rattle.cf_syntax.specs.declared.declarator.DeclTree.{DeclTree}
use Rattle.cf_syntax.specs.declared.declarator.DeclTree.TheVariants as decl
use Rattle.cf_syntax.specs.declared.declarator.Param.{Param}
use Rattle.cf_syntax.specs.declared.expression.Expr.{Expr}
use Rattle.cf_syntax.specs.declared.reading.DeclaratorKind.{DeclaratorKind}
use Rattle.cf_syntax.specs.declared.reading.DeclaratorKind.TheVariants as kind
use Rattle.cf_syntax.specs.declared.specifier.Pointer.{Pointer}
use Rattle.cf_syntax.specs.NamesData.{Names}
use Rattle.cf_syntax.specs.Reading.{Readers}
use Rattle.cf_syntax.specs.Named.{const_behind}
use Rattle.cf_syntax.specs.Parse.{Parse, pure, none, with_rest, then, choose, option, loop, word}
use Rattle.cf_syntax.specs.Grammar.{sees, begins, name_words}
use Rattle.cf_syntax.specs.Words.{left_paren, right_paren, left_bracket, right_bracket}
use Rattle.cf_parse_expr.specs.declared.declarators.DeclaratorSuffix.{DeclaratorSuffix}
use Rattle.cf_parse_expr.specs.declared.declarators.DeclaratorSuffix.TheVariants as suffix
use Rattle.cf_parse_expr.specs.Reads.{tried}
use Rattle.cf_parse_expr.specs.Leaves.{a_name, a_pointer}
use Rattle.cf_parse_expr.specs.Named.{within}
use Rattle.cf_parse_expr.specs.Arguments.{params_in_brackets}

unfoldable pub named_head : Names → Parse (DeclTree × List ℕ)
named_head names = then (a_name names) (λ n. pure (decl.Declared n.0, n.1))

-- a name, if one stands there
unfoldable pub maybe_named : Names → Parse (DeclTree × List ℕ)
maybe_named names = option (λ _. choose (begins name_words) (named_head names) none) (decl.Unnamed, [])

abbrev pub suffixed : DeclTree → DeclaratorSuffix → DeclTree
suffixed d (suffix.Array at bound) = decl.Array at d bound
suffixed d (suffix.Function at all is_const) = decl.Function at d all is_const

module _ (r : Readers) where
  unfoldable pub bracketed_head : DeclaratorKind → Names → Parse (DeclTree × List ℕ)
  bracketed_head k names = then (word left_paren) (λ at. then (r.declarator k names) (λ d. then (word right_paren) (λ _. pure (decl.Bracketed at d.0, d.1))))

  unfoldable pub array_bound : Names → Parse (Option Expr)
  array_bound names = choose (sees right_bracket) (then (word right_bracket) (λ _. pure None))
      (then (r.condition names) (λ x. then (word right_bracket) (λ _. pure (Some x))))

  unfoldable pub array_behind : Names → Parse (ℕ × Option Expr)
  array_behind names = then (word left_bracket) (λ at. then (array_bound names) (λ b. pure (at, b)))

  unfoldable pub parameters_behind : Names → Parse (ℕ × List Param × Bool)
  parameters_behind names = then (params_in_brackets r names) (λ all. const_behind (λ is_const. (all.0, all.1, is_const)))

  -- an array's bound or a function's parameters
  unfoldable pub suffix_at : Names → Parse DeclaratorSuffix
  suffix_at names = choose (sees left_bracket) (then (array_behind names) (λ s. pure (suffix.Array s.0 s.1)))
      (then (parameters_behind names) (λ s. pure (suffix.Function s.0 s.1 s.2)))

  unfoldable pub tree_turn : Names → DeclTree → Parse DeclTree
  tree_turn names d = then (suffix_at names) (λ s. pure (suffixed d s))

  -- so many arrays and functions at most
  unfoldable pub tree_turns : Names → ℕ → DeclTree → Parse DeclTree
  tree_turns names n d ts = loop (tree_turn names) n d ts

  -- the same behind a name, in the scopes of the classes that qualify it
  unfoldable pub declarator_turns : Names → ℕ → DeclTree × List ℕ → Parse (DeclTree × List ℕ)
  declarator_turns names n d ts = with_rest (tree_turns (within names d.1) n d.0 ts) (λ tree. pure (tree, d.1))

  unfoldable pub all_turns : Names → DeclTree × List ℕ → Parse (DeclTree × List ℕ)
  all_turns names d ts = declarator_turns names (length ts) d ts

  -- brackets before which no name stands: those of parameters, of a declarator, or of neither
  unfoldable pub bracketed_direct : DeclaratorKind → Names → Parse (DeclTree × List ℕ)
  bracketed_direct k names ts = tried (bracketed_head k names ts) (all_turns names) (Some ((decl.Unnamed, []), ts))

  unfoldable pub paren_direct : DeclaratorKind → Names → Parse (DeclTree × List ℕ)
  paren_direct k names ts = tried (parameters_behind names ts)
      (λ s us. declarator_turns names (length ts - 1) (decl.Function s.0 decl.Unnamed s.1 s.2, []) us) (bracketed_direct k names ts)

  unfoldable pub named_direct : Names → Parse (DeclTree × List ℕ)
  named_direct names = then (choose (sees left_paren) (bracketed_head kind.Named names) (named_head names)) (all_turns names)

  unfoldable pub abstract_direct : Names → Parse (DeclTree × List ℕ)
  abstract_direct names = choose (sees left_paren) (paren_direct kind.Abstract names) (all_turns names (decl.Unnamed, []))

  unfoldable pub either_direct : Names → Parse (DeclTree × List ℕ)
  either_direct names = choose (sees left_paren) (paren_direct kind.Either names) (then (maybe_named names) (all_turns names))

  unfoldable pub direct : DeclaratorKind → Names → Parse (DeclTree × List ℕ)
  direct kind.Named names = named_direct names
  direct kind.Abstract names = abstract_direct names
  direct kind.Either names = either_direct names

  unfoldable pub pointed : DeclaratorKind → Names → Pointer → Parse (DeclTree × List ℕ)
  pointed k names p = then (r.declarator k names) (λ d. pure (decl.Pointed p d.0, d.1))

  unfoldable pub declarator : DeclaratorKind → Names → Parse (DeclTree × List ℕ)
  declarator k names = choose (λ ts. is_some (a_pointer names ts)) (then (a_pointer names) (pointed k names)) (direct k names)
