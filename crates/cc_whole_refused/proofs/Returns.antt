-- `int main(void)`, `{`, `return 3;` and `}` as a text, and two texts that differ from it: with `x` in the place of `3`, and cut behind `return`.
use Rattle.std.proofs.Common.{◌≡◌, ℕ, false, List, [], ◌∷◌, ◌++◌, pos, Some, None, refl, ap, sym, ◌∙◌, codes, arith}
use Rattle.std.specs.Prelude.{◌==◌}
use Rattle.std.proofs.lemmas.Fmt.{decimal_digit}
use Rattle.std.proofs.lemmas.List.Sums.{AllPass-from_list_all}
use Rattle.cc_whole_tokens.specs.declared.mark.Mark.TheVariants as mark
use Rattle.cc_whole_tokens.specs.declared.token.Token.{Token}
use Rattle.cc_whole_tokens.specs.declared.token.Token.TheVariants as token
use Rattle.cc_whole_tokens.specs.Cut as cuts
use Rattle.cc_whole_tokens.specs.Cut.{Cut, is_blank}
use Rattle.cc_whole.specs.declared.types.CType.TheVariants as ty
use Rattle.cc_whole.specs.declared.types.CConstant.TheVariants as int
use Rattle.cc_whole.specs.declared.expression.CExpression.{CExpression}
use Rattle.cc_whole.specs.declared.expression.CExpression.TheVariants as tree
use Rattle.cc_whole.specs.declared.expression.CPlace.TheVariants as place
use Rattle.cc_whole.specs.declared.statement.CStatement.{CStatement}
use Rattle.cc_whole.specs.declared.statement.CStatement.TheVariants as statement
use Rattle.cc_whole.specs.declared.unit.CPrototype.{CPrototype}
use Rattle.cc_whole.specs.declared.unit.CItem.{CItem}
use Rattle.cc_whole.specs.declared.unit.CItem.TheVariants as item
use Rattle.cc_whole.specs.declared.unit.CUnit.{CUnit}
use Rattle.cc_whole.specs.Build.{made_body}
use Rattle.cc_whole.specs.Plain.{items_of, expression_of, Expression, constant, load, named, Statement, give, in_order, body, Item, defines}
use Rattle.cc_whole.specs.Types.{same_type}
use Rattle.cc_whole.specs.Fault.{fine, broken}
use Rattle.cc_whole.specs.Valid.{first_fault}
use Rattle.cc_whole.specs.SpellsTypes as spells
use Rattle.cc_whole.specs.Spells as g
use Rattle.cc_whole.specs.Spells.{SpellsExpression}
use Rattle.cc_whole.specs.SpellsItems as i
use Rattle.cc_whole.specs.SpellsItems.{SpellsItems}
use Rattle.cc_whole.specs.Text.{FirstLine, Text}
use Rattle.cc_whole_refused.specs.Fronts as fronts
use Rattle.cc_whole_refused.specs.Fronts.{Begins, Fronts}
use Rattle.cc_whole_refused.specs.NotC as stops
use Rattle.cc_whole_refused.specs.NotC.{GoesOn, NotC}
use Rattle.cc_whole_refused.specs.Invalid.{Invalid}
use Rattle.cc_whole_laws.proofs.Views.{of-Name, of-Constant, of-Load, of-Return, of-made}
use Rattle.cc_whole_refused.proofs.Braces.{even-items}

-- ---- the trees and their tokens

abbrev main_head : CPrototype
main_head = record { is_static = false; result = Some ty.Int; name = codes "main"; parameters = [] }

abbrev main_of : CStatement → CItem
main_of s = item.Function (record { is_shared = false; prototype = main_head; body = made_body [] (s ∷ []) })

abbrev unit_of : CStatement → CUnit
unit_of s = record { version = 1; items = main_of s ∷ [] }

abbrev returning : CExpression → CUnit
returning e = unit_of (statement.Return (Some e))

abbrev head_tokens : List Token
head_tokens = token.Mark mark.Int ∷ token.Name (codes "main") ∷ token.Mark mark.LeftParen ∷ token.Mark mark.Void ∷ token.Mark mark.RightParen
    ∷ token.Mark mark.LeftBrace ∷ []

abbrev cut_behind_return : List Token
cut_behind_return = head_tokens ++ (token.Mark mark.Return ∷ [])

spelled_main : (s : CStatement) (ts : List Token) → g.SpellsStatement s ts
    → SpellsItems (main_of s ∷ []) (head_tokens ++ ((ts ++ []) ++ (token.Mark mark.RightBrace ∷ [])) ++ [])
spelled_main s ts d = i.more _ _ [] [] (i.function false main_head _ _ (g.body [] [] _ _ g.none (g.more _ _ [] [] d g.none))) i.none

loosened : (e : CExpression) (ts : List Token) → SpellsExpression 0 e ts → SpellsExpression 8 e ts
loosened e ts d = g.tighter 7 e ts (g.tighter 6 e ts (g.tighter 5 e ts (g.tighter 4 e ts (g.tighter 3 e ts (g.tighter 2 e ts (g.tighter 1 e ts (g.tighter 0 e ts d)))))))

-- ---- the trees as plain data

abbrev plainly : Statement → List Item
plainly s = defines (record { is_shared = false; prototype = main_head; body = body [] (in_order (s ∷ [])) }) ∷ []

plain_returning : (e : CExpression) (x : Expression) → expression_of e ≡ x → items_of (returning e).items ≡ plainly (give (Some x))
plain_returning e x is =
    ap (λ b. defines (record { is_shared = false; prototype = main_head; body = b }) ∷ []) (of-made [] (statement.Return (Some e) ∷ []))
    ∙ (ap plainly (of-Return (Some e)) ∙ ap (λ y. plainly (give (Some y))) is)

-- ---- the texts

abbrev first_line : List ℕ
first_line = codes "#pragma cfront 1\n"

abbrev head_text : List ℕ
head_text = codes "int main(void)\n{\nreturn"

is_first_line : FirstLine 1 first_line
is_first_line = record {
  before = [];
  gap = 32 ∷ [];
  spaces = [];
  blank_before = AllPass-from_list_all is_blank [] refl;
  blank_gap = AllPass-from_list_all is_blank (32 ∷ []) refl;
  a_gap = omega (arith);
  all_spaces = AllPass-from_list_all (λ b. b == 32) [] refl;
  from_one = omega (arith);
  nine_digits = omega (arith);
  line_is = ap (λ ds. codes "#pragma cfront" ++ (32 ∷ (ds ++ (10 ∷ [])))) (sym (decimal_digit 1 (omega (arith))));
}

-- ---- cut behind `return`

no_unit_is_cut_behind_return : (items : List CItem) → SpellsItems items cut_behind_return → ⊥
no_unit_is_cut_behind_return items d = let unlike : 1 ≡ 0 = even-items d in omega (arith, unlike)

fronts_of_the_head : Fronts head_text cut_behind_return []
fronts_of_the_head =
    fronts.token (token.Mark mark.Int) _ _ _ refl refl (fronts.blank 32 _ _ _ refl (fronts.token (token.Name (codes "main")) _ _ _ refl refl
    (fronts.token (token.Mark mark.LeftParen) _ _ _ refl refl (fronts.token (token.Mark mark.Void) _ _ _ refl refl (fronts.token (token.Mark mark.RightParen) _ _ _ refl refl
    (fronts.blank 10 _ _ _ refl (fronts.token (token.Mark mark.LeftBrace) _ _ _ refl refl (fronts.blank 10 _ _ _ refl (fronts.token (token.Mark mark.Return) _ _ _ refl refl (fronts.here []))))))))))

cut_behind_return_stops_at_40 : NotC (first_line ++ head_text) 40
cut_behind_return_stops_at_40 = record {
  version = 1;
  line = first_line;
  body = head_text;
  tokens = cut_behind_return;
  rest = [];
  first = is_first_line;
  parts = refl;
  fronts = fronts_of_the_head;
  goes = record { items = main_of (statement.Return None) ∷ []; more = token.Mark mark.Semicolon ∷ token.Mark mark.RightBrace ∷ []; spelled = spelled_main _ _ g.returns };
  stops = stops.ended no_unit_is_cut_behind_return;
  place = refl;
}

-- ---- with `x` in the place of `3`

abbrev body_of : List ℕ → List ℕ
body_of value = codes "int main(void)\n{\nreturn " ++ (value ++ codes ";\n}\n")

abbrev tokens_of : Token → List Token
tokens_of t = cut_behind_return ++ (t ∷ token.Mark mark.Semicolon ∷ token.Mark mark.RightBrace ∷ [])

cut_x : Cut (body_of (codes "x")) (tokens_of (token.Name (codes "x")))
cut_x =
    cuts.token (token.Mark mark.Int) _ _ refl refl (cuts.blank 32 _ _ refl (cuts.token (token.Name (codes "main")) _ _ refl refl
    (cuts.token (token.Mark mark.LeftParen) _ _ refl refl (cuts.token (token.Mark mark.Void) _ _ refl refl (cuts.token (token.Mark mark.RightParen) _ _ refl refl
    (cuts.blank 10 _ _ refl (cuts.token (token.Mark mark.LeftBrace) _ _ refl refl (cuts.blank 10 _ _ refl (cuts.token (token.Mark mark.Return) _ _ refl refl
    (cuts.blank 32 _ _ refl (cuts.token (token.Name (codes "x")) _ _ refl refl (cuts.token (token.Mark mark.Semicolon) _ _ refl refl
    (cuts.blank 10 _ _ refl (cuts.token (token.Mark mark.RightBrace) _ _ refl refl (cuts.blank 10 _ _ refl cuts.ended)))))))))))))))

fronts_x : Fronts (body_of (codes "x")) cut_behind_return (codes "x;\n}\n")
fronts_x =
    fronts.token (token.Mark mark.Int) _ _ _ refl refl (fronts.blank 32 _ _ _ refl (fronts.token (token.Name (codes "main")) _ _ _ refl refl
    (fronts.token (token.Mark mark.LeftParen) _ _ _ refl refl (fronts.token (token.Mark mark.Void) _ _ _ refl refl (fronts.token (token.Mark mark.RightParen) _ _ _ refl refl
    (fronts.blank 10 _ _ _ refl (fronts.token (token.Mark mark.LeftBrace) _ _ _ refl refl (fronts.blank 10 _ _ _ refl (fronts.token (token.Mark mark.Return) _ _ _ refl refl
    (fronts.blank 32 _ _ _ refl (fronts.here _)))))))))))

abbrev returning_x : CUnit
returning_x = returning (tree.Load (place.Name (codes "x")))

text_x : Text (first_line ++ body_of (codes "x")) returning_x
text_x = record {
  line = first_line;
  rest = body_of (codes "x");
  tokens = tokens_of (token.Name (codes "x"));
  first = is_first_line;
  cut = cut_x;
  spelled = spelled_main _ _ (g.gives _ _ (loosened _ _ (g.load _ _ (g.name (codes "x")))));
  parts = refl;
}

fault_of_x : first_fault (plainly (give (Some (load (named (codes "x")))))) ≡ broken 1 4
unfolding same_type
fault_of_x = refl

return_x_breaks_rule_1_at_41 : Invalid (first_line ++ body_of (codes "x")) 1 41
return_x_breaks_rule_1_at_41 = record {
  unit = returning_x;
  number = 4;
  line = first_line;
  body = body_of (codes "x");
  tokens = cut_behind_return;
  next = token.Name (codes "x");
  rest = codes "x;\n}\n";
  is = text_x;
  fault = ap first_fault (plain_returning _ _ (of-Load _ ∙ ap load (of-Name (codes "x")))) ∙ fault_of_x;
  first = is_first_line;
  parts = refl;
  fronts = fronts_x;
  begins = fronts.token (token.Name (codes "x")) _ refl refl;
  is_landmark = refl;
  before = refl;
  place = refl;
}

-- ---- as it stands

cut_three : Cut (body_of (codes "3")) (tokens_of (token.Signed (codes "3")))
cut_three =
    cuts.token (token.Mark mark.Int) _ _ refl refl (cuts.blank 32 _ _ refl (cuts.token (token.Name (codes "main")) _ _ refl refl
    (cuts.token (token.Mark mark.LeftParen) _ _ refl refl (cuts.token (token.Mark mark.Void) _ _ refl refl (cuts.token (token.Mark mark.RightParen) _ _ refl refl
    (cuts.blank 10 _ _ refl (cuts.token (token.Mark mark.LeftBrace) _ _ refl refl (cuts.blank 10 _ _ refl (cuts.token (token.Mark mark.Return) _ _ refl refl
    (cuts.blank 32 _ _ refl (cuts.token (token.Signed (codes "3")) _ _ refl refl (cuts.token (token.Mark mark.Semicolon) _ _ refl refl
    (cuts.blank 10 _ _ refl (cuts.token (token.Mark mark.RightBrace) _ _ refl refl (cuts.blank 10 _ _ refl cuts.ended)))))))))))))))

abbrev returning_three : CUnit
returning_three = returning (tree.Constant (int.Signed (pos 3)))

text_three : Text (first_line ++ body_of (codes "3")) returning_three
text_three = record {
  line = first_line;
  rest = body_of (codes "3");
  tokens = tokens_of (token.Signed (codes "3"));
  first = is_first_line;
  cut = cut_three;
  spelled = spelled_main _ _ (g.gives _ _ (loosened _ _ (g.number _ _ (spells.signed (codes "3")))));
  parts = refl;
}

no_fault_of_three : first_fault (plainly (give (Some (constant (int.Signed (pos 3)))))) ≡ fine
unfolding same_type
no_fault_of_three = refl

return_three_is_valid : first_fault (items_of returning_three.items) ≡ fine
return_three_is_valid = ap first_fault (plain_returning _ _ (of-Constant (int.Signed (pos 3)))) ∙ no_fault_of_three
