-- How expressions and declarators are read from the left, without looking back.
use Rattle.std.specs.Prelude.{ℕ, zero, suc, Bool, true, false, List, [], ◌∷◌, ◌++◌, Option, Some, None, is_some}
use Rattle.cf_tokens.specs.declared.token.Token.{Token}
use Rattle.cf_syntax.specs.declared.declarator.DeclTree.{DeclTree}
use Rattle.cf_syntax.specs.declared.declarator.DeclTree.TheVariants as decl
use Rattle.cf_syntax.specs.declared.declarator.Param.{Param}
use Rattle.cf_syntax.specs.declared.declarator.TypeId.{TypeId}
use Rattle.cf_syntax.specs.declared.expression.Expr.{Expr}
use Rattle.cf_syntax.specs.declared.expression.Expr.TheVariants as tree
use Rattle.cf_syntax.specs.declared.name.Name.{Name}
use Rattle.cf_syntax.specs.declared.operator.BinaryOp.{BinaryOp}
use Rattle.cf_syntax.specs.declared.operator.AssignOp.{AssignOp}
use Rattle.cf_syntax.specs.declared.reading.DeclaratorKind.{DeclaratorKind}
use Rattle.cf_syntax.specs.declared.reading.DeclaratorKind.TheVariants as kind
use Rattle.cf_syntax.specs.declared.reading.Suffix.{Suffix}
use Rattle.cf_syntax.specs.declared.reading.Suffix.TheVariants as suffix
use Rattle.cf_syntax.specs.NamesData.{Names}
use Rattle.cf_syntax.specs.Named.{opened, type_path, one_pointer, pointers, const_behind}
use Rattle.cf_syntax.specs.Specified.{specifiers, name}
use Rattle.cf_syntax.specs.Operators.{level, assigning, prefixing, stepping, operator, heads}
use Rattle.cf_syntax.specs.Parse.{Parse, pure, none, then, choose, option, repeat, word}
use Rattle.cf_syntax.specs.Grammar.{sees, begins, name_words, specifier_words, here, constant, basic_word, allocates, from_file, array_brackets, applied, param_of, with_default}
use Rattle.cf_syntax.specs.Words.{left_paren, right_paren, left_bracket, right_bracket, comma, colon, question, dot, arrow, tilde, equals, delete_word, new_word, sizeof_word}

-- how what stands inside is read
pub record Readers : Type 0 where
  pub commas : Names → Parse Expr
  pub assign : Names → Parse Expr
  pub condition : Names → Parse Expr
  pub cast : Names → Parse Expr
  pub unary : Names → Parse Expr
  pub type_id : Names → Parse TypeId
  pub params : Names → Parse (List Param)
  pub declarator : DeclaratorKind → Names → Parse (DeclTree × List ℕ)

-- what was read, with a word behind it
abbrev pub closed : {A B : Type 0} → ℕ → (A → B) → Parse A → Parse B
closed n make p = then p (λ a. then (word n) (λ _. pure (make a)))

module _ (r : Readers) where
  abbrev pub next_assign : Names → Parse (ℕ × Expr)
  next_assign names = then (word comma) (λ at. then (r.assign names) (λ x. pure (at, x)))

  abbrev pub more_assigns : Names → List Expr → Parse (List Expr)
  more_assigns names = repeat (λ all. then (next_assign names) (λ next. pure (all ++ next.1 ∷ [])))

  abbrev pub first_assigns : Names → Parse (List Expr)
  first_assigns names = then (then (r.assign names) (λ x. pure (x ∷ []))) (more_assigns names)

  abbrev pub arguments_behind : Names → ℕ → Parse (ℕ × List Expr)
  arguments_behind names at = choose (sees right_paren) (then (word right_paren) (λ _. pure (at, [])))
      (then (first_assigns names) (λ all. then (word right_paren) (λ _. pure (at, all))))

  abbrev pub arguments : Names → Parse (ℕ × List Expr)
  arguments names = then (word left_paren) (arguments_behind names)

  abbrev pub type_in_brackets : Names → Parse (ℕ × TypeId)
  type_in_brackets names = then (word left_paren) (λ at. then (r.type_id names) (λ t. then (word right_paren) (λ _. pure (at, t))))

  abbrev pub holds_type : Names → List Token → Bool
  holds_type names ts = is_some (type_in_brackets names ts)

  abbrev pub params_in_brackets : Names → Parse (ℕ × List Param)
  params_in_brackets names = then (word left_paren) (λ at. then (r.params names) (λ all. then (word right_paren) (λ _. pure (at, all))))

  abbrev pub holds_params : Names → List Token → Bool
  holds_params names ts = is_some (params_in_brackets names ts)

  abbrev pub bracketed : Names → Parse Expr
  bracketed names = then (word left_paren) (λ at. then (r.commas names) (λ x. then (word right_paren) (λ _. pure (tree.Paren at x))))

  abbrev pub basic_call : Names → Parse Expr
  basic_call names = then basic_word (λ b. then (arguments names) (λ all. pure (tree.BasicCall b.0 b.1 all.1)))

  abbrev pub type_call : Names → Parse Expr
  type_call names = then (type_path names) (λ path. then (arguments names) (λ all. pure (tree.TypeCall path.at path all.1)))

  abbrev pub named : Names → Parse Expr
  named names = choose (sees tilde) none (then (name names) (λ n. pure (tree.Named n.0)))

  abbrev pub head : Names → Parse Expr
  head names = choose (λ ts. is_some (constant ts)) constant
      (choose (sees left_paren) (bracketed names)
      (choose (λ ts. is_some (basic_word ts)) (basic_call names)
      (choose (λ ts. is_some (type_path names ts)) (type_call names) (named names))))

  abbrev pub member : Names → ℕ → (ℕ → Name → Suffix) → Parse Suffix
  member names sign make = then (word sign) (λ at. then (name names) (λ n. pure (make at n.0)))

  abbrev pub index : Names → Parse Suffix
  index names = then (word left_bracket) (λ at. then (r.commas names) (λ i. then (word right_bracket) (λ _. pure (suffix.Index at i))))

  abbrev pub behind : Names → Parse Suffix
  behind names = choose (sees left_bracket) (index names)
      (choose (sees left_paren) (then (arguments names) (λ all. pure (suffix.Call all.0 all.1)))
      (choose (sees dot) (member names dot suffix.Dot)
      (choose (sees arrow) (member names arrow suffix.Arrow)
      (then (operator stepping) (λ op. pure (suffix.Step op.0 op.1))))))

  abbrev pub post : Names → Parse Expr
  post names = then (head names) (repeat (λ a. then (behind names) (λ s. pure (applied a s))))

  abbrev pub size_of : Names → ℕ → Parse Expr
  size_of names at = choose (holds_type names) (then (type_in_brackets names) (λ t. pure (tree.SizeofType at t.1)))
      (then (r.unary names) (λ x. pure (tree.SizeofExpr at x)))

  abbrev pub bound : Names → Parse Expr
  bound names = then (word left_bracket) (λ _. then (r.commas names) (λ x. then (word right_bracket) (λ _. pure x)))

  abbrev pub bounds : Names → List Expr → Parse (List Expr)
  bounds names = repeat (λ all. then (bound names) (λ x. pure (all ++ x ∷ [])))

  abbrev pub initialised : Names → Bool × List Expr → Parse (Bool × List Expr)
  initialised names = option (λ _. then (arguments names) (λ all. pure (true, all.1)))

  abbrev pub new_bracketed : Names → ℕ → Bool → Parse Expr
  new_bracketed names at file = then (type_in_brackets names) (λ t. then (initialised names (false, [])) (λ i. pure (tree.NewBracketed at file t.1 i.0 i.1)))

  abbrev pub new_plain : Names → ℕ → Bool → Parse Expr
  new_plain names at file = then (specifiers names) (λ list. then (pointers names) (λ ps. then (bounds names [])
      (λ all. then (initialised names (false, [])) (λ i. pure (tree.New at file list ps all i.0 i.1)))))

  abbrev pub new_type : Names → Bool → ℕ → Parse Expr
  new_type names file at = choose (sees left_paren) (new_bracketed names at file) (new_plain names at file)

  abbrev pub deleted : Names → Bool → Parse Expr
  deleted names file = then (word delete_word) (λ at. then array_brackets (λ array. then (r.cast names) (λ x. pure (tree.Delete at file array x))))

  abbrev pub allocation : Names → Bool → Parse Expr
  allocation names file = choose (sees new_word) (then (word new_word) (new_type names file)) (deleted names file)

  abbrev pub stepped : Names → Parse Expr
  stepped names = then (operator stepping) (λ op. then (r.unary names) (λ x. pure (tree.StepBefore op.0 op.1 x)))

  abbrev pub prefixed : Names → Parse Expr
  prefixed names = then (operator prefixing) (λ op. then (r.cast names) (λ x. pure (tree.Prefix op.0 op.1 x)))

  abbrev pub unary : Names → Parse Expr
  unary names = choose (heads stepping) (stepped names)
      (choose (heads prefixing) (prefixed names)
      (choose (sees sizeof_word) (then (word sizeof_word) (size_of names))
      (choose allocates (then from_file (allocation names)) (post names))))

  abbrev pub cast_only : Names → Parse Expr
  cast_only names = then (type_in_brackets names) (λ t. then (r.cast names) (λ x. pure (tree.Cast t.0 t.1 x)))

  abbrev pub cast : Names → Parse Expr
  cast names = choose (holds_type names) (cast_only names) (unary names)

  -- an operator of a level with its right operand
  abbrev pub right_side : Names → ℕ → (Expr → Parse Expr) → Parse ((ℕ × BinaryOp) × Expr)
  right_side names n tighter = then (operator (level n)) (λ op. then (then (cast names) tighter) (λ y. pure (op, y)))

  -- the binary expression that goes on from a left operand
  abbrev pub joined_from : Names → ℕ → Expr → Parse Expr
  joined_from names zero a = pure a
  joined_from names (suc n) a = then (joined_from names n a)
      (repeat (λ b. then (right_side names n (joined_from names n)) (λ s. pure (tree.Binary s.0.0 s.0.1 b s.1))))

  abbrev pub choice : Names → Parse (ℕ × Expr × Expr)
  choice names = then (word question) (λ at. then (r.commas names) (λ a. then (word colon) (λ _. then (r.condition names) (λ b. pure (at, a, b)))))

  abbrev pub condition_from : Names → Expr → Parse Expr
  condition_from names a = then (joined_from names 11 a) (option (λ c. then (choice names) (λ s. pure (tree.Conditional s.0 c s.1 s.2))))

  abbrev pub condition : Names → Parse Expr
  condition names = then (cast names) (condition_from names)

  abbrev pub assigned : Names → Parse ((ℕ × AssignOp) × Expr)
  assigned names = then (operator assigning) (λ op. then (r.assign names) (λ y. pure (op, y)))

  abbrev pub assign_from : Names → Expr → Parse Expr
  assign_from names a = choose (heads assigning) (option (λ b. then (assigned names) (λ s. pure (tree.Assign s.0.0 s.0.1 b s.1))) a) (condition_from names a)

  abbrev pub assign : Names → Parse Expr
  assign names = choose (holds_type names) (then (cast_only names) (condition_from names)) (then (unary names) (assign_from names))

  abbrev pub commas : Names → Parse Expr
  commas names = then (assign names) (option (λ x. then (next_assign names) (λ next. then (more_assigns names (x ∷ next.1 ∷ [])) (λ all. pure (tree.Comma next.0 all)))))

  -- ---- declarators

  abbrev pub named_head : Names → Parse (DeclTree × List ℕ)
  named_head names = then (name names) (λ n. pure (decl.Declared n.0, n.1))

  abbrev pub bracketed_head : DeclaratorKind → Names → Parse (DeclTree × List ℕ)
  bracketed_head k names = then (word left_paren) (λ at. then (r.declarator k names) (λ d. then (word right_paren) (λ _. pure (decl.Bracketed at d.0, d.1))))

  abbrev pub bracketed_unless : DeclaratorKind → Names → Parse (DeclTree × List ℕ)
  bracketed_unless k names = choose (holds_params names) none (bracketed_head k names)

  abbrev pub some_head : DeclaratorKind → Names → Parse (DeclTree × List ℕ)
  some_head kind.Named names = choose (sees left_paren) (bracketed_head kind.Named names) (named_head names)
  some_head kind.Abstract names = option (λ _. choose (sees left_paren) (bracketed_unless kind.Abstract names) none) (decl.Unnamed, [])
  some_head kind.Either names = option (λ _. choose (sees left_paren) (bracketed_unless kind.Either names) (choose (begins name_words) (named_head names) none)) (decl.Unnamed, [])

  -- the bound of an array, if it has one
  abbrev pub array_bound : Names → Parse (Option Expr)
  array_bound names = choose (sees right_bracket) (then (word right_bracket) (λ _. pure None))
      (then (r.condition names) (λ x. then (word right_bracket) (λ _. pure (Some x))))

  abbrev pub array_behind : Names → DeclTree × List ℕ → Parse (DeclTree × List ℕ)
  array_behind names d = then {A = ℕ × Option Expr} (then (word left_bracket) (λ at. then (array_bound (opened names d.1)) (λ b. pure (at, b)))) (λ s. pure (decl.Array s.0 d.0 s.1, d.1))

  abbrev pub parameters_behind : Names → Parse (ℕ × List Param × Bool)
  parameters_behind names = then (params_in_brackets names) (λ all. const_behind (λ is_const. (all.0, all.1, is_const)))

  abbrev pub function_behind : Names → DeclTree × List ℕ → Parse (DeclTree × List ℕ)
  function_behind names d = then (parameters_behind (opened names d.1)) (λ s. pure (decl.Function s.0 d.0 s.1 s.2, d.1))

  abbrev pub declarator_behind : Names → DeclTree × List ℕ → Parse (DeclTree × List ℕ)
  declarator_behind names d = choose (sees left_bracket) (array_behind names d) (function_behind names d)

  abbrev pub pointed : DeclaratorKind → Names → Parse (DeclTree × List ℕ)
  pointed k names = then (one_pointer names) (λ p. then (r.declarator k names) (λ d. pure (decl.Pointed p d.0, d.1)))

  abbrev pub direct : DeclaratorKind → Names → Parse (DeclTree × List ℕ)
  direct k names = then (some_head k names) (repeat (declarator_behind names))

  abbrev pub declarator : DeclaratorKind → Names → Parse (DeclTree × List ℕ)
  declarator k names = choose (λ ts. is_some (one_pointer names ts)) (pointed k names) (direct k names)

  -- ---- params and typeid

  abbrev pub plain_param : Names → Parse Param
  plain_param names = then here (λ at. then (specifiers names) (λ list. then (r.declarator kind.Either names) (λ d. pure (param_of at list d.0))))

  abbrev pub default_behind : Names → Parse (ℕ × Expr)
  default_behind names = then (word equals) (λ at. then (r.assign names) (λ x. pure (at, x)))

  abbrev pub one_param : Names → Parse Param
  one_param names = then (plain_param names) (option (λ p. then (default_behind names) (λ s. pure (with_default p s.0 s.1))))

  abbrev pub next_param : Names → Parse Param
  next_param names = then (word comma) (λ _. one_param names)

  abbrev pub some_params : Names → Parse (List Param)
  some_params names = then (then (one_param names) (λ p. pure (p ∷ []))) (repeat (λ all. then (next_param names) (λ p. pure (all ++ p ∷ []))))

  abbrev pub params : Names → Parse (List Param)
  params names = option (λ _. choose (begins specifier_words) (some_params names) none) []

  abbrev pub type_inside : Names → Parse TypeId
  type_inside names = then here (λ at. then (specifiers names) (λ list. then (r.declarator kind.Abstract names)
      (λ d. pure (record { at = at; specifiers = list; declarator = d.0 }))))

-- ---- the depth

abbrev pub no_readers : Readers
no_readers = record {
  commas = λ _. none;
  assign = λ _. none;
  condition = λ _. none;
  cast = λ _. none;
  unary = λ _. none;
  type_id = λ _. none;
  params = λ _. none;
  declarator = λ _ _. none;
}

abbrev pub readers : ℕ → Readers
readers zero = no_readers
readers (suc n) = record {
  commas = commas (readers n);
  assign = assign (readers n);
  condition = condition (readers n);
  cast = cast (readers n);
  unary = unary (readers n);
  type_id = type_inside (readers n);
  params = params (readers n);
  declarator = declarator (readers n);
}
