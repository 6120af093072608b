-- Files (17), read step by step: the readings by words that stay shut.
use Rattle.std.specs.Prelude.{ℕ, Bool, true, false, cond, List, [], ◌∷◌, ◌++◌, length, drop}
use Rattle.cf_tokens.specs.declared.token.Token.{Token}
use Rattle.cf_syntax.specs.Grammar.{sees, here}
use Rattle.cf_syntax.specs.Parse.{Parse, pure, with_rest, then, word}
use Rattle.cf_unit.specs.declared.class.FunctionDef.{FunctionDef}
use Rattle.cf_unit.specs.declared.declaration.Declaration.{Declaration}
use Rattle.cf_unit.specs.declared.declaration.InitDeclarator.{InitDeclarator}
use Rattle.cf_unit.specs.declared.file.Item.{Item}
use Rattle.cf_unit.specs.declared.file.Item.TheVariants as item
use Rattle.cf_unit.specs.declared.file.Linkage.{Linkage}
use Rattle.cf_unit.specs.declared.reading.Given.{Given}
use Rattle.cf_unit.specs.Read.{element, row, up_to, reading}
use Rattle.cf_unit.specs.Known.{Known}
use Rattle.cf_unit.specs.Declares.{Declared}
use Rattle.cf_unit.specs.Declarations as rule
use Rattle.cf_unit.specs.Bodies.{defined}
use Rattle.cf_unit.specs.Members.{begins_body}
use Rattle.cf_unit.specs.Files.{inner, by_tree, at_end}
use Rattle.cf_unit.specs.Pieces.{left_brace, right_brace, semicolon, extern_word, string}
use Rattle.cf_parse_decl.specs.Statements.{by}

-- extern STRING
abbrev pub begins_linkage : List Token → Bool
begins_linkage ts = cond (sees extern_word ts) (sees 131 (drop 1 ts)) false

-- {spec} ";"
unfoldable pub undeclared : ℕ → Given → Known → Parse (Item × Known)
undeclared at g k = then (word semicolon) (λ _. pure (item.Declaration (record { at = at; specifiers = g.list; declarators = [] }), k))

module _ (depth : ℕ) where
  -- ---- what stands in a file, as other rules read it

  unfoldable pub simple_at : Known → Parse (Declaration × Known)
  simple_at k ts = reading (rule.simple (inner by_tree depth) k) ts

  unfoldable pub specifiers_at : Known → Parse (Given × Known)
  specifiers_at k ts = reading (rule.specifiers (inner by_tree depth) k) ts

  unfoldable pub declarator_at : Given → Known → Parse (Declared × Known)
  declarator_at g k ts = reading (rule.one_declarator (inner by_tree depth) 0 g k) ts

  unfoldable pub initialised_at : Declared → Known → Parse (InitDeclarator × Known)
  initialised_at d k ts = reading (rule.initialised (inner by_tree depth) (d, k)) ts

  unfoldable pub more_at : Given → InitDeclarator → Known → Parse (List InitDeclarator × Known)
  more_at g first k ts = reading (rule.more_declarators (inner by_tree depth) 0 g (first, k)) ts

  unfoldable pub defined_at : ℕ → Given → Declared → Known → Parse (FunctionDef × Known)
  defined_at at g d k ts = reading (defined (inner by_tree depth) 0 at g (d, k)) ts

  -- ---- extern STRING ( "{" {simple} "}" | simple )

  unfoldable pub next_simple : List Declaration × Known → Parse (List Declaration × Known)
  next_simple s = then (simple_at s.1) (λ d. pure (s.0 ++ d.0 ∷ [], d.1))

  unfoldable pub all_simple : Known → Parse (List Declaration × Known)
  all_simple k ts = with_rest (row (λ s. element (sees right_brace) (next_simple s)) (length ts) ([], k) ts) (up_to (sees right_brace))

  unfoldable pub braced_linkage : ℕ → ℕ × List ℕ → Known → Parse (Linkage × Known)
  braced_linkage at language k = then (word left_brace) (λ _. then (all_simple k) (λ all. then (word right_brace) (λ _.
      pure (record { at = at; language = language; has_braces = true; declarations = all.0 }, all.1))))

  unfoldable pub single_linkage : ℕ → ℕ × List ℕ → Known → Parse (Linkage × Known)
  single_linkage at language k = then (simple_at k) (λ d.
      pure (record { at = at; language = language; has_braces = false; declarations = d.0 ∷ [] }, d.1))

  unfoldable pub linked : ℕ → ℕ × List ℕ → Known → Parse (Linkage × Known)
  linked at language k = by (sees left_brace) (braced_linkage at language k) (single_linkage at language k)

  unfoldable pub linkage : Known → Parse (Linkage × Known)
  linkage k = then (word extern_word) (λ at. then string (λ language. linked at language k))

  -- ---- {spec} decl [":" minit {"," minit}] block | simple

  unfoldable pub function_behind : ℕ → Given → Declared → Known → Parse (Item × Known)
  function_behind at g d k = then (defined_at at g d k) (λ f. pure (item.Function f.0, f.1))

  unfoldable pub declaration_behind : ℕ → Given → Declared → Known → Parse (Item × Known)
  declaration_behind at g d k = then (initialised_at d k) (λ i. then (more_at g i.0 i.1) (λ all.
      pure (item.Declaration (record { at = at; specifiers = g.list; declarators = all.0 }), all.1)))

  unfoldable pub item_behind : ℕ → Given → Declared → Known → Parse (Item × Known)
  item_behind at g d k = by begins_body (function_behind at g d k) (declaration_behind at g d k)

  unfoldable pub item_declared : ℕ → Given → Known → Parse (Item × Known)
  item_declared at g k = then (declarator_at g k) (λ d. item_behind at g d.0 d.1)

  unfoldable pub item_specified : ℕ → Given → Known → Parse (Item × Known)
  item_specified at g k = by (sees semicolon) (undeclared at g k) (item_declared at g k)

  unfoldable pub declared_item : Known → Parse (Item × Known)
  declared_item k = then here (λ at. then (specifiers_at k) (λ s. item_specified at s.0 s.1))

  unfoldable pub linkage_item : Known → Parse (Item × Known)
  linkage_item k = then (linkage k) (λ l. pure (item.Linkage l.0, l.1))

  unfoldable pub one_item : Known → Parse (Item × Known)
  one_item k = by begins_linkage (linkage_item k) (declared_item k)

  -- ---- {function | simple | link}

  unfoldable pub next_item : List Item × Known → Parse (List Item × Known)
  next_item s = then (one_item s.1) (λ x. pure (s.0 ++ x.0 ∷ [], x.1))

  unfoldable pub items : Known → Parse (List Item × Known)
  items k ts = with_rest (row (λ s. element at_end (next_item s)) (length ts) ([], k) ts) (up_to at_end)
