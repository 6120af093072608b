-- Files (17), and the depth of phrases.
use Rattle.std.specs.Prelude.{ℕ, zero, suc, Bool, true, false, cond, List, [], ◌∷◌, ◌++◌, length, drop, None}
use Rattle.cf_tokens.specs.declared.token.Token.{Token}
use Rattle.cf_syntax.specs.declared.declarator.DeclTree.{DeclTree}
use Rattle.cf_syntax.specs.Names.{no_names}
use Rattle.cf_syntax.specs.Grammar.{sees, here}
use Rattle.cf_unit.specs.declared.declaration.Declaration.{Declaration}
use Rattle.cf_unit.specs.declared.file.Item.{Item}
use Rattle.cf_unit.specs.declared.file.Item.TheVariants as item
use Rattle.cf_unit.specs.declared.file.Linkage.{Linkage}
use Rattle.cf_unit.specs.declared.file.Unit.{Unit as File}
use Rattle.cf_unit.specs.declared.reading.Given.{Given}
use Rattle.cf_unit.specs.Rule.{Rule, exactly, then, by, until, closed, made, spells}
use Rattle.cf_unit.specs.Declares.{Shape, Declared, shape}
use Rattle.cf_unit.specs.Known.{Known, in_block}
use Rattle.cf_unit.specs.Pieces.{left_brace, right_brace, semicolon, extern_word, word, string, before}
use Rattle.cf_unit.specs.Declarations.{Inner, initialising, specifiers, one_declarator, initialised, more_declarators, declared_by, simple}
use Rattle.cf_unit.specs.Statements.{names_behind, statement}
use Rattle.cf_unit.specs.Bodies.{defined}
use Rattle.cf_unit.specs.Members.{begins_body, class}

abbrev pub at_end : List Token → Bool
at_end [] = true
at_end (t ∷ ts) = false

module _ («in» : Inner) where
  -- ---- link: extern STRING ( "{" {simple} "}" | simple )

  abbrev pub next_simple : List Declaration × Known → Rule (List Declaration × Known)
  next_simple s = made (λ d. (s.0 ++ d.0 ∷ [], d.1)) (simple «in» s.1)

  abbrev pub linked : ℕ → ℕ × List ℕ → Known → Rule (Linkage × Known)
  linked at language k = by (sees left_brace)
      (then (word left_brace) (λ _. before right_brace (λ all. (record { at = at; language = language; has_braces = true; declarations = all.0 }, all.1))
      (until (sees right_brace) names_behind next_simple ([], k))))
      (made (λ d. (record { at = at; language = language; has_braces = false; declarations = d.0 ∷ [] }, d.1)) (simple «in» k))

  abbrev pub linkage : Known → Rule (Linkage × Known)
  linkage k = closed (then (word extern_word) (λ at. then (exactly string) (λ language. linked at language k)))

  -- extern STRING
  abbrev pub begins_linkage : List Token → Bool
  begins_linkage ts = cond (sees extern_word ts) (sees 131 (drop 1 ts)) false

  -- ---- {spec} decl [":" minit {"," minit}] block | simple

  abbrev pub declaration_item : Rule (Declaration × Known) → Rule (Item × Known)
  declaration_item g = made (λ d. (item.Declaration d.0, d.1)) g

  abbrev pub item_behind : ℕ → Given → Declared × Known → Rule (Item × Known)
  item_behind at g d = by begins_body (made (λ f. (item.Function f.0, f.1)) (defined «in» 0 at g d))
      (declaration_item (declared_by at g (then (initialised «in» d) (more_declarators «in» 0 g))))

  abbrev pub item_specified : ℕ → Given × Known → Rule (Item × Known)
  item_specified at s = by (sees semicolon)
      (declaration_item (declared_by at s.0 (made (λ _. ([], s.1)) (word semicolon))))
      (then (one_declarator «in» 0 s.0 s.1) (item_behind at s.0))

  abbrev pub one_item : Known → Rule (Item × Known)
  one_item k = by begins_linkage (made (λ l. (item.Linkage l.0, l.1)) (linkage k))
      (then (exactly here) (λ at. then (specifiers «in» k) (item_specified at)))

  abbrev pub next_item : List Item × Known → Rule (List Item × Known)
  next_item s = made (λ x. (s.0 ++ x.0 ∷ [], x.1)) (one_item s.1)

  -- {function | simple | link}, up to the end of the tokens
  abbrev pub items : Rule (List Item × Known)
  items = until at_end names_behind next_item ([], in_block no_names)

-- ---- the depth

abbrev pub nothing : {A : Type 0} → Rule A
nothing = exactly (λ _. None)

abbrev pub Shapes : Type 0
Shapes = List Token → DeclTree → Shape

abbrev pub inner : Shapes → ℕ → Inner
inner shapes zero = record { statement = λ _. nothing; class = λ _. nothing; init = λ _. nothing; shape = shapes }
inner shapes (suc n) = record {
  statement = statement (inner shapes n);
  class = class (inner shapes n);
  init = initialising (inner shapes n).init;
  shape = shapes;
}

-- what a file of so many tokens is made of, where this tells what declarators declare: more depth than tokens is no other language
abbrev pub file_by : Shapes → ℕ → Rule (List Item × Known)
file_by shapes n = items (inner shapes (suc n))

-- what a declarator declares is told by its tree
abbrev pub by_tree : Shapes
by_tree ts d = shape d

abbrev pub file : ℕ → Rule (List Item × Known)
file n = file_by by_tree n

abbrev pub SpellsFile : List Token → File → Type 0
SpellsFile ts f = (known : Known) × spells (file (length ts)) ts (f.items, known) []
