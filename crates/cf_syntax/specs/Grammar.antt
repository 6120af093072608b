-- The grammar of expressions, declarators, parameters and types in brackets (5, 8): which trees tokens spell.
--
-- Each production is a language made of parts. What stands inside it at a smaller depth is a part `in`; the depth of a
-- phrase is at most the number of its tokens.
use Rattle.std.specs.Prelude.{ℕ, zero, suc, Bool, true, false, cond, ◌&&◌, ◌||◌, List, [], ◌∷◌, ◌++◌, length, drop, Option, Some, None, nat_eq, is_some}
use Rattle.cf_tokens.specs.declared.token.Token.{Token}
use Rattle.cf_tokens.specs.declared.token.Word.{Word as TokenWord}
use Rattle.cf_tokens.specs.declared.token.Word.TheVariants as words
use Rattle.cf_syntax.specs.declared.declarator.DeclTree.{DeclTree}
use Rattle.cf_syntax.specs.declared.declarator.DeclTree.TheVariants as decl
use Rattle.cf_syntax.specs.declared.declarator.Param.{Param}
use Rattle.cf_syntax.specs.declared.declarator.TypeId.{TypeId}
use Rattle.cf_syntax.specs.declared.expression.Expr.{Expr}
use Rattle.cf_syntax.specs.declared.expression.Expr.TheVariants as tree
use Rattle.cf_syntax.specs.declared.name.Name.{Name}
use Rattle.cf_syntax.specs.declared.operator.AssignOp.{AssignOp}
use Rattle.cf_syntax.specs.declared.operator.BinaryOp.{BinaryOp}
use Rattle.cf_syntax.specs.declared.reading.DeclaratorKind.{DeclaratorKind}
use Rattle.cf_syntax.specs.declared.reading.DeclaratorKind.TheVariants as kind
use Rattle.cf_syntax.specs.declared.reading.Suffix.{Suffix}
use Rattle.cf_syntax.specs.declared.reading.Suffix.TheVariants as suffix
use Rattle.cf_syntax.specs.declared.specifier.BasicType.{BasicType}
use Rattle.cf_syntax.specs.declared.specifier.TypeSpecifier.{TypeSpecifier}
use Rattle.cf_syntax.specs.NamesData.{Names}
use Rattle.cf_syntax.specs.Named.{opened, type_path, one_pointer, pointers, const_behind}
use Rattle.cf_syntax.specs.Specified.{specifiers, name, basic_of}
use Rattle.cf_syntax.specs.Operators.{level, assigning, prefixing, stepping, operator, heads}
use Rattle.cf_syntax.specs.Parse.{Parse}
use Rattle.cf_syntax.specs.Language.{Language, Never, Exactly, Word, Then, Either, Made, Where, Maybe, Many, By, Rather}
use Rattle.cf_syntax.specs.Words.{front, place, left_paren, right_paren, left_bracket, right_bracket, comma, colon, scope, question, dot, arrow, tilde, equals, delete_word, new_word, sizeof_word}

-- what stands inside, by the names that are known there
pub record Inside : Type 1 where
  pub commas : Names → Language Expr
  pub assign : Names → Language Expr
  pub condition : Names → Language Expr
  pub cast : Names → Language Expr
  pub unary : Names → Language Expr
  pub type_id : Names → Language TypeId
  pub params : Names → Language (List Param)
  pub declarator : DeclaratorKind → Names → Language (DeclTree × List ℕ)

-- ---- tokens

abbrev pub sees : ℕ → List Token → Bool
sees n ts = nat_eq (front ts) n

abbrev pub begins : List ℕ → List Token → Bool
begins [] ts = false
begins (n ∷ ns) ts = cond (nat_eq (front ts) n) true (begins ns ts)

-- the words that a name begins with, and those that a specifier does
abbrev pub name_words : List ℕ
name_words = 128 ∷ 9 ∷ 16 ∷ 89 ∷ []

abbrev pub specifier_words : List ℕ
specifier_words =
    128 ∷ 9 ∷ 65 ∷ 93 ∷ 98 ∷ 79 ∷ 85 ∷ 108 ∷ 82 ∷ 105 ∷ 71 ∷ 69 ∷ 95 ∷ 86 ∷ 87 ∷ 96 ∷ 107 ∷ 109 ∷ 70 ∷ 99 ∷ 78 ∷ []

-- no token: the place of what follows
abbrev pub here : Parse ℕ
here ts = Some (place ts, ts)

abbrev pub constant_of : ℕ → TokenWord → Option Expr
constant_of at (words.Ident bytes) = None
constant_of at (words.Keyword k) = cond (nat_eq k 38) (Some (tree.This at)) None
constant_of at (words.Int value kind) = Some (tree.Int at value kind)
constant_of at (words.Char value) = Some (tree.Char at value)
constant_of at (words.Text bytes) = Some (tree.Text at bytes)
constant_of at (words.Sign s) = None

abbrev pub taken : {A : Type 0} → Option A → Parse A
taken None ts = None
taken (Some x) ts = Some (x, ts)

-- INT, CHAR, STRING, this
abbrev pub constant : Parse Expr
constant [] = None
constant (t ∷ ts) = taken (constant_of t.at t.word) ts

abbrev pub basic_word : Parse (ℕ × BasicType)
basic_word ts = taken (with_place (place ts) (basic_of (front ts))) (drop 1 ts)
  where
    with_place : ℕ → Option BasicType → Option (ℕ × BasicType)
    with_place at None = None
    with_place at (Some b) = Some (at, b)

-- `delete` or `new`, also behind `::`
abbrev pub allocates : List Token → Bool
allocates ts =
    (sees delete_word ts || sees new_word ts) || (sees scope ts && (sees delete_word (drop 1 ts) || sees new_word (drop 1 ts)))

-- ["::"]
abbrev pub from_file : Parse Bool
from_file ts = cond (sees scope ts) (Some (true, drop 1 ts)) (Some (false, ts))

-- ["[" "]"]
abbrev pub array_brackets : Parse Bool
array_brackets ts = cond (sees left_bracket ts && sees right_bracket (drop 1 ts)) (Some (true, drop 2 ts)) (Some (false, ts))

abbrev pub applied : Expr → Suffix → Expr
applied a (suffix.Index at i) = tree.Index at a i
applied a (suffix.Call at all) = tree.Call at a all
applied a (suffix.Dot at n) = tree.Dot at a n
applied a (suffix.Arrow at n) = tree.Arrow at a n
applied a (suffix.Step at op) = tree.StepAfter at op a

abbrev pub param_of : ℕ → List TypeSpecifier → DeclTree → Param
param_of at list d = record { at = at; specifiers = list; declarator = d; default = None }

abbrev pub with_default : Param → ℕ → Expr → Param
with_default p at x = record { at = p.at; specifiers = p.specifiers; declarator = p.declarator; default = Some (at, x) }

module _ («in» : Inside) where
  -- ---- lists and brackets

  -- "," assign
  abbrev pub NextAssign : Names → Language (ℕ × Expr)
  NextAssign names = Then (Word comma) (λ at. Made (λ x. (at, x)) («in».assign names))

  abbrev pub MoreAssigns : Names → List Expr → Language (List Expr)
  MoreAssigns names = Many (λ all. Made (λ next. all ++ next.1 ∷ []) (NextAssign names))

  -- "(" [args] ")"
  abbrev pub Arguments : Names → Language (ℕ × List Expr)
  Arguments names = Then (Word left_paren) (λ at. By (sees right_paren)
      (Made (λ _. (at, [])) (Word right_paren))
      (Then (Then (Made (λ x. x ∷ []) («in».assign names)) (MoreAssigns names)) (λ all. Made (λ _. (at, all)) (Word right_paren))))

  -- "(" typeid ")"
  abbrev pub TypeInBrackets : Names → Language (ℕ × TypeId)
  TypeInBrackets names = Then (Word left_paren) (λ at. Then («in».type_id names) (λ t. Made (λ _. (at, t)) (Word right_paren)))

  abbrev pub HoldsType : Names → List Token → Type 0
  HoldsType names ts = (x : ℕ × TypeId) × (rest : List Token) × TypeInBrackets names ts x rest

  -- "(" params ")"
  abbrev pub ParamsInBrackets : Names → Language (ℕ × List Param)
  ParamsInBrackets names = Then (Word left_paren) (λ at. Then («in».params names) (λ all. Made (λ _. (at, all)) (Word right_paren)))

  abbrev pub HoldsParams : Names → List Token → Type 0
  HoldsParams names ts = (x : ℕ × List Param) × (rest : List Token) × ParamsInBrackets names ts x rest

  -- ---- prim and post

  -- "(" comma ")"
  abbrev pub Bracketed : Names → Language Expr
  Bracketed names = Then (Word left_paren) (λ at. Then («in».commas names) (λ x. Made (λ _. tree.Paren at x) (Word right_paren)))

  -- prim, or a type with arguments; a name is no type's and doesn't begin with ~
  abbrev pub Head : Names → Language Expr
  Head names = By (λ ts. is_some (constant ts)) (Exactly constant)
      (By (sees left_paren) (Bracketed names)
      (By (λ ts. is_some (basic_word ts)) (Then (Exactly basic_word) (λ b. Made (λ all. tree.BasicCall b.0 b.1 all.1) (Arguments names)))
      (By (λ ts. is_some (type_path names ts)) (Then (Exactly (type_path names)) (λ path. Made (λ all. tree.TypeCall path.at path all.1) (Arguments names)))
      (By (sees tilde) Never (Made (λ n. tree.Named n.0) (Exactly (name names)))))))

  abbrev pub Member : Names → ℕ → (ℕ → Name → Suffix) → Language Suffix
  Member names sign make = Then (Word sign) (λ at. Made (λ n. make at n.0) (Exactly (name names)))

  -- "[" comma "]" | "(" [args] ")" | ("." | "->") name | "++" | "--"
  abbrev pub Behind : Names → Language Suffix
  Behind names = By (sees left_bracket) (Then (Word left_bracket) (λ at. Then («in».commas names) (λ i. Made (λ _. suffix.Index at i) (Word right_bracket))))
      (By (sees left_paren) (Made (λ all. suffix.Call all.0 all.1) (Arguments names))
      (By (sees dot) (Member names dot suffix.Dot)
      (By (sees arrow) (Member names arrow suffix.Arrow)
      (Made (λ op. suffix.Step op.0 op.1) (Exactly (operator stepping))))))

  abbrev pub Post : Names → Language Expr
  Post names = Then (Head names) (Many (λ a. Made (applied a) (Behind names)))

  -- ---- unary and cast

  -- brackets that can hold a typeid behind `sizeof` hold one
  abbrev pub Sizeof : Names → ℕ → Language Expr
  Sizeof names at = Rather (HoldsType names) (Made (λ t. tree.SizeofType at t.1) (TypeInBrackets names)) (Made (tree.SizeofExpr at) («in».unary names))

  -- "[" comma "]"
  abbrev pub Bound : Names → Language Expr
  Bound names = Then (Word left_bracket) (λ _. Then («in».commas names) (λ x. Made (λ _. x) (Word right_bracket)))

  abbrev pub Bounds : Names → List Expr → Language (List Expr)
  Bounds names = Many (λ all. Made (λ x. all ++ x ∷ []) (Bound names))

  -- ["(" [args] ")"]
  abbrev pub Initialised : Names → Bool × List Expr → Language (Bool × List Expr)
  Initialised names = Maybe (λ _. Made (λ all. (true, all.1)) (Arguments names))

  -- what stands behind `new`
  abbrev pub NewType : Names → ℕ → Bool → Language Expr
  NewType names at file = By (sees left_paren)
      (Then (TypeInBrackets names) (λ t. Made (λ i. tree.NewBracketed at file t.1 i.0 i.1) (Initialised names (false, []))))
      (Then (Exactly (specifiers names)) (λ list. Then (Exactly (pointers names)) (λ ps.
      Then (Bounds names []) (λ bounds. Made (λ i. tree.New at file list ps bounds i.0 i.1) (Initialised names (false, []))))))

  abbrev pub Allocation : Names → Bool → Language Expr
  Allocation names file = By (sees new_word) (Then (Word new_word) (λ at. NewType names at file))
      (Then (Word delete_word) (λ at. Then (Exactly array_brackets) (λ array. Made (tree.Delete at file array) («in».cast names))))

  abbrev pub Unary : Names → Language Expr
  Unary names = By (heads stepping) (Then (Exactly (operator stepping)) (λ op. Made (tree.StepBefore op.0 op.1) («in».unary names)))
      (By (heads prefixing) (Then (Exactly (operator prefixing)) (λ op. Made (tree.Prefix op.0 op.1) («in».cast names)))
      (By (sees sizeof_word) (Then (Word sizeof_word) (Sizeof names))
      (By allocates (Then (Exactly from_file) (Allocation names)) (Post names))))

  -- brackets that can hold a typeid in the place of a cast hold one
  abbrev pub Cast : Names → Language Expr
  Cast names = Rather (HoldsType names) (Then (TypeInBrackets names) (λ t. Made (tree.Cast t.0 t.1) («in».cast names))) (Unary names)

  -- ---- binary, cond, assign, comma

  -- casts joined by the operators of the tightest levels, so many, each from the left
  abbrev pub Joined : Names → ℕ → Language Expr
  Joined names zero = Cast names
  Joined names (suc n) = Then (Joined names n) (Many (λ a. Made {A = (ℕ × BinaryOp) × Expr} (λ s. tree.Binary s.0.0 s.0.1 a s.1)
      (Then (Exactly (operator (level n))) (λ op. Made (λ y. (op, y)) (Joined names n)))))

  abbrev pub Choice : Names → Language (ℕ × Expr × Expr)
  Choice names = Then (Word question) (λ at. Then («in».commas names) (λ a. Then (Word colon) (λ _. Made (λ b. (at, a, b)) («in».condition names))))

  abbrev pub Condition : Names → Language Expr
  Condition names = Then (Joined names 11) (Maybe (λ c. Made (λ s. tree.Conditional s.0 c s.1 s.2) (Choice names)))

  abbrev pub Assigned : Names → Language ((ℕ × AssignOp) × Expr)
  Assigned names = Then (Exactly (operator assigning)) (λ op. Made (λ y. (op, y)) («in».assign names))

  -- the left side stands in the place of a cast too
  abbrev pub Assign : Names → Language Expr
  Assign names = Either (Condition names)
      (Where (λ ts. HoldsType names ts → ⊥) (Then (Unary names) (λ a. Made (λ s. tree.Assign s.0.0 s.0.1 a s.1) (Assigned names))))

  abbrev pub Commas : Names → Language Expr
  Commas names = Then (Assign names) (Maybe (λ x. Then (NextAssign names) (λ next. Made (tree.Comma next.0) (MoreAssigns names (x ∷ next.1 ∷ [])))))

  -- ---- declarators

  abbrev pub NamedHead : Names → Language (DeclTree × List ℕ)
  NamedHead names = Made (λ n. (decl.Declared n.0, n.1)) (Exactly (name names))

  abbrev pub BracketedHead : DeclaratorKind → Names → Language (DeclTree × List ℕ)
  BracketedHead k names = Then (Word left_paren) (λ at. Then («in».declarator k names) (λ d. Made (λ _. (decl.Bracketed at d.0, d.1)) (Word right_paren)))

  -- brackets that can hold params in a parameter or a type in brackets hold them
  abbrev pub BracketedUnless : DeclaratorKind → Names → Language (DeclTree × List ℕ)
  BracketedUnless k names = Where (λ ts. HoldsParams names ts → ⊥) (BracketedHead k names)

  abbrev pub SomeHead : DeclaratorKind → Names → Language (DeclTree × List ℕ)
  SomeHead kind.Named names = By (sees left_paren) (BracketedHead kind.Named names) (NamedHead names)
  SomeHead kind.Abstract names = Maybe (λ _. By (sees left_paren) (BracketedUnless kind.Abstract names) Never) (decl.Unnamed, [])
  SomeHead kind.Either names = Maybe (λ _. By (sees left_paren) (BracketedUnless kind.Either names) (By (begins name_words) (NamedHead names) Never)) (decl.Unnamed, [])

  -- "[" [cond] "]"
  abbrev pub ArrayBound : Names → Language (Option Expr)
  ArrayBound names = By (sees right_bracket) (Made (λ _. None) (Word right_bracket))
      (Then («in».condition names) (λ x. Made (λ _. Some x) (Word right_bracket)))

  abbrev pub ArrayBehind : Names → DeclTree × List ℕ → Language (DeclTree × List ℕ)
  ArrayBehind names d = Made {A = ℕ × Option Expr} (λ s. (decl.Array s.0 d.0 s.1, d.1)) (Then (Word left_bracket) (λ at. Made (λ b. (at, b)) (ArrayBound (opened names d.1))))

  -- "(" params ")" [const]
  abbrev pub ParametersBehind : Names → Language (ℕ × List Param × Bool)
  ParametersBehind names = Then (ParamsInBrackets names) (λ all. Exactly (const_behind (λ is_const. (all.0, all.1, is_const))))

  abbrev pub FunctionBehind : Names → DeclTree × List ℕ → Language (DeclTree × List ℕ)
  FunctionBehind names d = Made (λ s. (decl.Function s.0 d.0 s.1 s.2, d.1)) (ParametersBehind (opened names d.1))

  abbrev pub DeclaratorBehind : Names → DeclTree × List ℕ → Language (DeclTree × List ℕ)
  DeclaratorBehind names d = By (sees left_bracket) (ArrayBehind names d) (FunctionBehind names d)

  -- {ptr} dir, with the numbers of the classes that qualify the name: their scopes are open behind it
  abbrev pub Declarator : DeclaratorKind → Names → Language (DeclTree × List ℕ)
  Declarator k names = By (λ ts. is_some (one_pointer names ts))
      (Then (Exactly (one_pointer names)) (λ p. Made (λ d. (decl.Pointed p d.0, d.1)) («in».declarator k names)))
      (Then (SomeHead k names) (Many (DeclaratorBehind names)))

  -- ---- params and typeid

  abbrev pub PlainParam : Names → Language Param
  PlainParam names = Then (Exactly here) (λ at. Then (Exactly (specifiers names)) (λ list. Made (λ d. param_of at list d.0) («in».declarator kind.Either names)))

  abbrev pub DefaultBehind : Names → Language (ℕ × Expr)
  DefaultBehind names = Then (Word equals) (λ at. Made (λ x. (at, x)) («in».assign names))

  abbrev pub OneParam : Names → Language Param
  OneParam names = Then (PlainParam names) (Maybe (λ p. Made (λ s. with_default p s.0 s.1) (DefaultBehind names)))

  abbrev pub NextParam : Names → Language Param
  NextParam names = Then (Word comma) (λ _. OneParam names)

  abbrev pub SomeParams : Names → Language (List Param)
  SomeParams names = Then (Made (λ p. p ∷ []) (OneParam names)) (Many (λ all. Made (λ p. all ++ p ∷ []) (NextParam names)))

  abbrev pub Params : Names → Language (List Param)
  Params names = Maybe (λ _. By (begins specifier_words) (SomeParams names) Never) []

  abbrev pub TypeInside : Names → Language TypeId
  TypeInside names = Then (Exactly here) (λ at. Then (Exactly (specifiers names)) (λ list. Made (λ d. record { at = at; specifiers = list; declarator = d.0 }) («in».declarator kind.Abstract names)))

-- ---- the depth

abbrev pub nothing_inside : Inside
nothing_inside = record {
  commas = λ _. Never;
  assign = λ _. Never;
  condition = λ _. Never;
  cast = λ _. Never;
  unary = λ _. Never;
  type_id = λ _. Never;
  params = λ _. Never;
  declarator = λ _ _. Never;
}

abbrev pub inside : ℕ → Inside
inside zero = nothing_inside
inside (suc n) = record {
  commas = Commas (inside n);
  assign = Assign (inside n);
  condition = Condition (inside n);
  cast = Cast (inside n);
  unary = Unary (inside n);
  type_id = TypeInside (inside n);
  params = Params (inside n);
  declarator = Declarator (inside n);
}

-- ---- what tokens spell: more depth than tokens is no other language

abbrev pub SpellsCommas : Names → Language Expr
SpellsCommas names ts x rest = (inside (suc (length ts))).commas names ts x rest

abbrev pub SpellsAssign : Names → Language Expr
SpellsAssign names ts x rest = (inside (suc (length ts))).assign names ts x rest

abbrev pub SpellsCondition : Names → Language Expr
SpellsCondition names ts x rest = (inside (suc (length ts))).condition names ts x rest

abbrev pub SpellsDeclarator : Names → Language (DeclTree × List ℕ)
SpellsDeclarator names ts x rest = (inside (suc (length ts))).declarator kind.Named names ts x rest

abbrev pub SpellsParams : Names → Language (List Param)
SpellsParams names ts x rest = (inside (suc (length ts))).params names ts x rest

abbrev pub SpellsTypeId : Names → Language TypeId
SpellsTypeId names ts x rest = (inside (suc (length ts))).type_id names ts x rest
