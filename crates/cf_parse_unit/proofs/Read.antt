-- The steps read what the rules of files read.
use Rattle.std.proofs.Common.{◌≡◌, ℕ, Bool, true, false, List, [], ◌∷◌, ◌++◌, length, Option, Some, None, refl, ap}
use Rattle.std.proofs.Math.Path.{fun_ext}
use Rattle.cf_tokens.specs.declared.token.Token.{Token}
use Rattle.cf_syntax.specs.Grammar.{sees}
use Rattle.cf_syntax.specs.Words.{place}
use Rattle.cf_syntax.specs.Parse.{Parse, pure, with_rest, word}
use Rattle.cf_parse_expr.proofs.Steps.{with-rest-same}
use Rattle.cf_unit.specs.declared.declaration.Declaration.{Declaration}
use Rattle.cf_unit.specs.declared.declaration.InitDeclarator.{InitDeclarator}
use Rattle.cf_unit.specs.declared.file.Item.{Item}
use Rattle.cf_unit.specs.declared.file.Item.TheVariants as item
use Rattle.cf_unit.specs.declared.reading.Given.{Given}
use Rattle.cf_unit.specs.Rule.{made, until}
use Rattle.cf_unit.specs.Read.{chosen, element, row, up_to, reading}
use Rattle.cf_unit.specs.Known.{Known}
use Rattle.cf_unit.specs.Declares.{Declared}
use Rattle.cf_unit.specs.Declarations as declarations
use Rattle.cf_unit.specs.Bodies as bodies
use Rattle.cf_unit.specs.Members.{begins_body}
use Rattle.cf_unit.specs.Pieces.{semicolon}
use Rattle.cf_unit.specs.Statements.{names_behind}
use Rattle.cf_unit.specs.Files.{inner, by_tree, at_end}
use Rattle.cf_unit.specs.Files as whole
use Rattle.cf_parse_unit.specs.Files as steps

chosen-same : {A : Type 0} (b : Bool) (p q p' q' : Parse A) (ts : List Token) → p ts ≡ p' ts → q ts ≡ q' ts → chosen b p q ts ≡ chosen b p' q' ts
chosen-same true p q p' q' ts e f = e
chosen-same false p q p' q' ts e f = f

abbrev as-declaration : ℕ → Given → List InitDeclarator × Known → Declaration × Known
as-declaration at g all = (record { at = at; specifiers = g.list; declarators = all.0 }, all.1)

abbrev as-item : Declaration × Known → Item × Known
as-item d = (item.Declaration d.0, d.1)

made-of-made : {B C D : Type 0} (r : Option (B × List Token)) (g : B → C) (h : C → D)
    → with_rest r (λ b. pure (h (g b))) ≡ with_rest (with_rest r (λ b. pure (g b))) (λ c. pure (h c))
made-of-made None g h = refl
made-of-made (Some p) g h = refl

-- what is made of two that stand one behind the other
made-twice : {A B C D : Type 0} (o : Option (A × List Token)) (f : A → Parse B) (g : B → C) (h : C → D)
    → with_rest o (λ a us. with_rest (f a us) (λ b. pure (h (g b)))) ≡ with_rest (with_rest (with_rest o f) (λ b. pure (g b))) (λ c. pure (h c))
made-twice None f g h = refl
made-twice (Some q) f g h = made-of-made (f q.0 q.1) g h

module _ (n : ℕ) where
  pub linkage-is : (k : Known) (ts : List Token) → steps.linkage n k ts ≡ reading (whole.linkage (inner by_tree n) k) ts
  unfolding steps.linkage steps.linked steps.braced_linkage steps.single_linkage steps.all_simple steps.next_simple steps.simple_at
  linkage-is k ts = refl

  declaration-is : (at : ℕ) (g : Given) (d : Declared) (k : Known) (ts : List Token) → steps.declaration_behind n at g d k ts
      ≡ with_rest (with_rest (with_rest (reading (declarations.initialised (inner by_tree n) (d, k)) ts) (λ i. reading (declarations.more_declarators (inner by_tree n) 0 g i)))
      (λ all. pure (as-declaration at g all))) (λ x. pure (as-item x))
  unfolding steps.declaration_behind steps.initialised_at steps.more_at
  declaration-is at g d k ts = made-twice (reading (declarations.initialised (inner by_tree n) (d, k)) ts) (λ i. reading (declarations.more_declarators (inner by_tree n) 0 g i))
      (as-declaration at g) as-item

  behind-is : (at : ℕ) (g : Given) (d : Declared) (k : Known) (ts : List Token)
      → steps.item_behind n at g d k ts ≡ reading (whole.item_behind (inner by_tree n) at g (d, k)) ts
  unfolding steps.item_behind steps.function_behind steps.defined_at
  behind-is at g d k ts = chosen-same (begins_body ts) (steps.function_behind n at g d k) (steps.declaration_behind n at g d k)
      (reading (made (λ f. (item.Function f.0, f.1)) (bodies.defined (inner by_tree n) 0 at g (d, k)))) _ ts refl (declaration-is at g d k ts)

  declared-is : (at : ℕ) (g : Given) (k : Known) (ts : List Token) → steps.item_declared n at g k ts
      ≡ with_rest (reading (declarations.one_declarator (inner by_tree n) 0 g k) ts) (λ d. reading (whole.item_behind (inner by_tree n) at g d))
  unfolding steps.item_declared steps.declarator_at
  declared-is at g k ts = with-rest-same (reading (declarations.one_declarator (inner by_tree n) 0 g k) ts) (reading (declarations.one_declarator (inner by_tree n) 0 g k) ts)
      _ _ refl (λ d us. behind-is at g d.0 d.1 us)

  undeclared-is : (at : ℕ) (g : Given) (k : Known) (ts : List Token) → steps.undeclared at g k ts
      ≡ with_rest (with_rest (with_rest (word semicolon ts) (λ _. pure ([], k))) (λ all. pure (as-declaration at g all))) (λ x. pure (as-item x))
  unfolding steps.undeclared
  undeclared-is at g k ts = made-twice (word semicolon ts) (λ _. pure ([], k)) (as-declaration at g) as-item

  specified-is : (at : ℕ) (g : Given) (k : Known) (ts : List Token)
      → steps.item_specified n at g k ts ≡ reading (whole.item_specified (inner by_tree n) at (g, k)) ts
  unfolding steps.item_specified
  specified-is at g k ts = chosen-same (sees semicolon ts) (steps.undeclared at g k) (steps.item_declared n at g k) _ _ ts
      (undeclared-is at g k ts) (declared-is at g k ts)

  plain-is : (k : Known) (ts : List Token) → steps.declared_item n k ts
      ≡ with_rest (reading (declarations.specifiers (inner by_tree n) k) ts) (λ s. reading (whole.item_specified (inner by_tree n) (place ts) s))
  unfolding steps.declared_item steps.specifiers_at
  plain-is k ts = with-rest-same (reading (declarations.specifiers (inner by_tree n) k) ts) (reading (declarations.specifiers (inner by_tree n) k) ts)
      _ _ refl (λ s us. specified-is (place ts) s.0 s.1 us)

  linkage-item-is : (k : Known) (ts : List Token) → steps.linkage_item n k ts ≡ reading (made (λ l. (item.Linkage l.0, l.1)) (whole.linkage (inner by_tree n) k)) ts
  unfolding steps.linkage_item
  linkage-item-is k ts = ap (λ o. with_rest o (λ l. pure (item.Linkage l.0, l.1))) (linkage-is k ts)

  -- an item read step by step is what the rule of items reads
  pub item-is : (k : Known) (ts : List Token) → steps.one_item n k ts ≡ reading (whole.one_item (inner by_tree n) k) ts
  unfolding steps.one_item
  item-is k ts = chosen-same (steps.begins_linkage ts) (steps.linkage_item n k) (steps.declared_item n k)
      (reading (made (λ l. (item.Linkage l.0, l.1)) (whole.linkage (inner by_tree n) k))) _ ts (linkage-item-is k ts) (plain-is k ts)

  next-is : (s : List Item × Known) (ts : List Token) → steps.next_item n s ts ≡ reading (whole.next_item (inner by_tree n) s) ts
  unfolding steps.next_item
  next-is s ts = ap (λ o. with_rest o (λ x. pure (s.0 ++ x.0 ∷ [], x.1))) (item-is s.1 ts)

  -- and so are the items of a file
  pub items-are : (k : Known) (ts : List Token)
      → steps.items n k ts ≡ reading (until at_end names_behind (whole.next_item (inner by_tree n)) ([], k)) ts
  unfolding steps.items
  items-are k ts = ap (λ f. with_rest (row (λ s. element at_end (f s)) (length ts) ([], k) ts) (up_to at_end)) (fun_ext (λ s. fun_ext (λ us. next-is s us)))
