-- Statements and bodies: what stands for their tokens is spelled, and stands beside them.
use Rattle.std.proofs.Common.{◌≡◌, ℕ, ◌+◌, ◌%◌, ◌^◌, true, List, [], ◌∷◌, ◌++◌, Option, Some, None, option_map, map, refl, ap, sym, ◌∙◌, subst, arith, decimal, append_assoc}
use Rattle.std.specs.Prelude.{nat_lt}
use Rattle.std.specs.Str.Parse.{digits_value}
use Rattle.std.proofs.lemmas.Bool.Decides.{nat_tests}
use Rattle.cc_whole_tokens.specs.declared.mark.Mark.TheVariants as mark
use Rattle.cc_whole_tokens.specs.declared.token.Token.{Token}
use Rattle.cc_whole_tokens.specs.declared.token.Token.TheVariants as token
use Rattle.cc_whole.specs.declared.types.CConstant.{CConstant}
use Rattle.cc_whole.specs.declared.types.CConstant.TheVariants as int
use Rattle.cc_whole.specs.declared.expression.CExpression.{CExpression}
use Rattle.cc_whole.specs.declared.statement.CBody.{CBody}
use Rattle.cc_whole.specs.declared.statement.CStatement.{CStatement}
use Rattle.cc_whole.specs.declared.statement.CStatement.TheVariants as statement
use Rattle.cc_whole.specs.declared.statement.CSwitchItem.{CSwitchItem}
use Rattle.cc_whole.specs.declared.statement.CSwitchItem.TheVariants as part
use Rattle.cc_whole.specs.Build.{made_body}
use Rattle.cc_whole.specs.Numbers.{fits_constant, label_of}
use Rattle.cc_whole.specs.SpellsTypes as types
use Rattle.cc_whole.specs.SpellsTypes.{sign, SpellsConstant, SpellsLocal, type_tokens, signature_tokens, array_tokens}
use Rattle.cc_whole.specs.Spells as g
use Rattle.cc_whole.specs.Spells.{bracketed, SpellsPlace, SpellsExpression, SpellsSome, SpellsArguments, SpellsCallee, SpellsTarget, SpellsLocals, SpellsBody, SpellsStatements, SpellsStatement, SpellsSwitch}
use Rattle.cc_whole.specs.Plain.{Statements, SwitchItems, labelled, stated, choose, place_of, expression_of, callee_of, statement_of, switch_item_of, body_of, in_order, switch_in_order, else_of}
use Rattle.cc_whole.specs.Landmarks.{marks, place_marks, target_marks, callee_marks, locals_marks, statement_marks, body_marks}
use Rattle.cc_whole.specs.Statements.{checked, checked_statements, checked_body}
use Rattle.cc_whole_laws.specs.Landmark.{landmarks_in}
use Rattle.cc_whole_laws.proofs.Counts.{count-append, count-bracketed, count-constant}
use Rattle.cc_whole_laws.proofs.TreeMarks.{count-place, count-expression, count-body}
use Rattle.cc_whole_laws.proofs.Views.{of-Assign, of-Call, of-Block, of-If, of-If-only, of-Loop, of-Switch, of-Return, of-Case, of-Default, of-Statement, of-made}
use Rattle.cc_whole_fitting.specs.declared.before.Before.{Before}
use Rattle.cc_whole_fitting.specs.declared.before.Before.TheVariants as before
use Rattle.cc_whole_wide.specs.declared.role.Role.{Role}
use Rattle.cc_whole_wide.specs.declared.role.Role.TheVariants as role
use Rattle.cc_whole_wide.specs.Others.{later, zero_token, breaking_tokens, label_tokens}
use Rattle.cc_whole_wide.proofs.Stopping.{first_of, Beside, same}
use Rattle.cc_whole_wide.proofs.ExpressionSides.{breaking}
use Rattle.cc_whole_wide.proofs.StatementSides.{nought, beside_called, beside_call, beside_assign, beside_give, beside_followed, beside_body, beside_block, beside_loop, switch_so, beside_select, beside_bodies, beside_choose, next_label, next_default, beside_stated, breaks, wide_label}
use Rattle.cc_whole_wide.proofs.Turns.{Turned, Stays, Calm, told, later_zero, first_alone, both, closed, marked, silent, one, value_calm, pair_calm, in_brackets}
use Rattle.cc_whole_wide.proofs.TypeTurns.{label_small, same_label, Constant, fits, wide, constant_turned}
use Rattle.cc_whole_wide.proofs.TreeTurns.{Other, seen, broken_tree, broken_spells, broken_is, other_place, other_expression}
use Rattle.cc_whole_wide.proofs.CallTurns.{other_arguments, other_callee, count_callee, other_target, other_locals}

-- ---- labels

label_calm : Calm role.Label
label_calm own = refl

-- the label of the same bits
other_label : CConstant → CConstant
other_label c = int.Unsigned (digits_value 10 (decimal (label_of c)))

label_fits : (c : CConstant) → fits_constant (other_label c) ≡ true
unfolding other_label
label_fits c =
    let h = label_small c in
    let small : nat_lt (label_of c) (2 ^ 32) ≡ true = grind (arith, nat_tests) in
    ap (λ n. nat_lt n (2 ^ 32)) (same_label c) ∙ small

label_stays : (c : CConstant) → label_of (other_label c) ≡ label_of c
unfolding other_label
label_stays c =
    let h = label_small c in
    let small : label_of c % 2 ^ 32 ≡ label_of c = omega (arith, h) in
    ap (λ n. n % 2 ^ 32) (same_label c) ∙ small

breaking_statement : CStatement
breaking_statement = statement.If broken_tree (made_body [] []) None

breaks_is : statement_of breaking_statement ≡ breaks
unfolding breaking_statement
breaks_is = of-If-only broken_tree (made_body [] []) ∙ (ap (λ e. choose e (body_of (made_body [] [])) (else_of None)) broken_is ∙ ap (λ b. choose breaking b (else_of None)) (of-made [] []))

-- ---- statements and bodies

abbrev pub OtherStatement : Role → CStatement → List Token → Type 0
OtherStatement r s xs = Other SpellsStatement statement_of (Beside checked) before.Other r before.Other role.Value s xs

abbrev pub OtherBody : Before → Role → CBody → List Token → Type 0
OtherBody b r x xs = Other SpellsBody body_of (Beside checked_body) b r before.Other role.Value x xs

abbrev statements_of : List CStatement → Statements
statements_of all = in_order (map statement_of all)

abbrev items_in : List CSwitchItem → SwitchItems
items_in all = switch_in_order (map switch_item_of all)

-- statements and `}`
record OtherStatements (r : Role) (all : List CStatement) (xs : List Token) : Type 0 where
  tree : List CStatement
  tokens : List Token
  found : Option ℕ
  spells : SpellsStatements tree tokens
  turned : Turned before.Other r (xs ++ sign mark.RightBrace) (tokens ++ sign mark.RightBrace) found before.Other role.Value
  beside : Beside checked_statements found (statements_of all) (statements_of tree)

-- items of a `switch` and `}`
record OtherSwitch (r : Role) (all : List CSwitchItem) (xs : List Token) : Type 0 where
  tree : List CSwitchItem
  tokens : List Token
  found : Option ℕ
  spells : SpellsSwitch tree tokens
  turned : Turned before.Other r (xs ++ sign mark.RightBrace) (tokens ++ sign mark.RightBrace) found before.Other role.Value
  beside : Beside switch_so found (items_in all) (items_in tree)

-- a statement alone has the landmarks of its tokens
count_statement : {s : CStatement} {xs : List Token} → SpellsStatement s xs → landmarks_in xs ≡ statement_marks (statement_of s)
count_statement {s} {xs} d =
    let b = count-body (g.SpellsBody.body [] [] (s ∷ []) (xs ++ []) g.SpellsLocals.none (g.SpellsStatements.more s xs [] [] d g.SpellsStatements.none)) in
    let v : body_marks (body_of (made_body [] (s ∷ []))) ≡ 0 + (statement_marks (statement_of s) + 0) = ap body_marks (of-made [] (s ∷ [])) in
    omega (arith, b, v, count-append (xs ++ []) (sign mark.RightBrace), count-append xs [])

regroup : (xs ys zs : List Token) → (xs ++ ys) ++ zs ≡ xs ++ (ys ++ zs)
regroup = append_assoc

again : {b c : Before} {r q : Role} {xs us ys vs : List Token} {o : Option ℕ} → xs ≡ us → ys ≡ vs → Turned b r us vs o c q → Turned b r xs ys o c q
again {b} {c} {r} {q} {us = us} {ys = ys} {vs = vs} {o = o} e f t =
    subst (λ l. Turned b r l ys o c q) (sym e) (subst (λ l. Turned b r us l o c q) (sym f) t)

-- `( ; ; )`
forever : (b : Before) (r : Role) → Stays b r (bracketed (token.Mark mark.Semicolon ∷ sign mark.Semicolon)) before.Operand role.Value
forever b r = record { puts = refl; after = refl; serves = refl; wide = refl; fit = refl; ends = refl }

plain : (s : CStatement) (xs : List Token) (r : Role) → SpellsStatement s xs → Stays before.Other r xs before.Other role.Value → OtherStatement r s xs
plain s xs r d t = record { tree = s; tokens = xs; found = None; spells = d; turned = t; beside = same (statement_of s) }

-- an operand is an expression of each level
loose : {e : CExpression} {xs : List Token} → SpellsExpression 0 e xs → SpellsExpression 8 e xs
loose {e} {xs} d =
    g.SpellsExpression.tighter 7 e xs (g.SpellsExpression.tighter 6 e xs (g.SpellsExpression.tighter 5 e xs (g.SpellsExpression.tighter 4 e xs
    (g.SpellsExpression.tighter 3 e xs (g.SpellsExpression.tighter 2 e xs (g.SpellsExpression.tighter 1 e xs (g.SpellsExpression.tighter 0 e xs d)))))))

later_one : (o : Option ℕ) → later 2 o ≡ later 1 (later 1 o)
later_one None = refl
later_one (Some w) = let e : 2 + w ≡ 1 + (1 + w) = omega arith in ap (λ n. Some n) e

breaking_spells : SpellsStatement breaking_statement (token.Mark mark.If ∷ (bracketed breaking_tokens ++ (token.Mark mark.LeftBrace ∷ sign mark.RightBrace)))
unfolding breaking_statement
breaking_spells =
    g.SpellsStatement.if_only broken_tree breaking_tokens (made_body [] []) (token.Mark mark.LeftBrace ∷ sign mark.RightBrace) (loose broken_spells)
    (g.SpellsBody.body [] [] [] [] g.SpellsLocals.none g.SpellsStatements.none)

wide_spells : (c : CConstant) (all : List CSwitchItem) (ys : List Token) → SpellsSwitch all ys
    → SpellsSwitch (part.Case (other_label c) ∷ (part.Statement breaking_statement ∷ (part.Case nought ∷ all)))
    (token.Mark mark.Case ∷ (label_tokens (decimal (label_of c)) ++ (token.Mark mark.Colon ∷ ys)))
unfolding other_label
wide_spells c all ys d =
    g.SpellsSwitch.label (other_label c) (token.Unsigned (decimal (label_of c)) ∷ []) (part.Statement breaking_statement ∷ (part.Case nought ∷ all)) _
    (types.SpellsConstant.unsigned (decimal (label_of c)))
    (g.SpellsSwitch.stated breaking_statement _ (part.Case nought ∷ all) _ breaking_spells
    (g.SpellsSwitch.label nought (zero_token ∷ []) all ys (types.SpellsConstant.signed (48 ∷ [])) d))

wide_items : (c : CConstant) (all : List CSwitchItem)
    → items_in (part.Case (other_label c) ∷ (part.Statement breaking_statement ∷ (part.Case nought ∷ all))) ≡ labelled (other_label c) (stated breaks (labelled nought (items_in all)))
wide_items c all =
    ap (λ i. switch_in_order (i ∷ map switch_item_of (part.Statement breaking_statement ∷ (part.Case nought ∷ all)))) (of-Case (other_label c))
    ∙ (ap (λ i. labelled (other_label c) (switch_in_order (i ∷ map switch_item_of (part.Case nought ∷ all)))) (of-Statement breaking_statement)
    ∙ (ap (λ s. labelled (other_label c) (stated s (items_in (part.Case nought ∷ all)))) breaks_is
    ∙ ap (λ i. labelled (other_label c) (stated breaks (switch_in_order (i ∷ map switch_item_of all)))) (of-Case nought)))

-- a label, and what follows it
after_label : (cs ys xs : List Token) → (token.Mark mark.Case ∷ (cs ++ (token.Mark mark.Colon ∷ ys))) ++ xs ≡ token.Mark mark.Case ∷ (cs ++ (token.Mark mark.Colon ∷ (ys ++ xs)))
after_label cs ys xs = ap (λ l. token.Mark mark.Case ∷ l) (append_assoc cs (token.Mark mark.Colon ∷ ys) xs)

labelled_on : (r : Role) (c : CConstant) (cs : List Token) → SpellsConstant c cs → Constant role.Label c cs → {all : List CSwitchItem} {ys : List Token} → OtherSwitch role.Value all ys
    → OtherSwitch r (part.Case c ∷ all) (token.Mark mark.Case ∷ (cs ++ (token.Mark mark.Colon ∷ ys)))
labelled_on r c cs d (fits f t) {all} {ys} y = record {
  tree = part.Case c ∷ y.tree;
  tokens = token.Mark mark.Case ∷ (cs ++ (token.Mark mark.Colon ∷ y.tokens));
  found = later 2 y.found;
  spells = g.SpellsSwitch.label c cs y.tree y.tokens d y.spells;
  turned = again (after_label cs ys (sign mark.RightBrace)) (after_label cs y.tokens (sign mark.RightBrace))
      (told (sym (later_one y.found)) (marked mark.Case (told (ap (λ n. later n y.found) (count-constant d)) (both t (silent mark.Colon refl y.turned)))));
  beside = seen (Beside switch_so) (ap (λ i. switch_in_order (i ∷ map switch_item_of all)) (of-Case c)) (ap (λ i. switch_in_order (i ∷ map switch_item_of y.tree)) (of-Case c))
      (next_label c y.beside);
}
labelled_on r c cs d (wide f t) {all} {ys} y = record {
  tree = part.Case (other_label c) ∷ (part.Statement breaking_statement ∷ (part.Case nought ∷ y.tree));
  tokens = token.Mark mark.Case ∷ (label_tokens (decimal (label_of c)) ++ (token.Mark mark.Colon ∷ y.tokens));
  found = Some 1;
  spells = wide_spells c y.tree y.tokens y.spells;
  turned = again (after_label cs ys (sign mark.RightBrace)) (after_label (label_tokens (decimal (label_of c))) y.tokens (sign mark.RightBrace))
      (marked mark.Case (both t (silent mark.Colon refl y.turned)));
  beside = seen (Beside switch_so) (ap (λ i. switch_in_order (i ∷ map switch_item_of all)) (of-Case c)) (wide_items c y.tree)
      (wide_label c (other_label c) (items_in all) (labelled nought (items_in y.tree)) f (label_fits c) (label_stays c));
}

mutual
  pub other_body : {x : CBody} {xs : List Token} (b : Before) (r : Role) → SpellsBody x xs → OtherBody b r x xs
  other_body b r (g.SpellsBody.body locals xs all ys d e) =
      let l = other_locals role.Pair pair_calm d in
      let s = other_statements l.ends l.calm e in
      let x = l.other in
      record {
        tree = made_body x.tree s.tree;
        tokens = token.Mark mark.LeftBrace ∷ (x.tokens ++ (s.tokens ++ sign mark.RightBrace));
        found = first_of x.found (locals_marks locals) s.found;
        spells = g.SpellsBody.body x.tree x.tokens s.tree s.tokens x.spells s.spells;
        turned = silent mark.LeftBrace refl (told (ap (λ n. first_of x.found n s.found) l.count) (both x.turned s.turned));
        beside = seen (Beside checked_body) (of-made locals all) (of-made x.tree s.tree) (beside_body x.beside s.beside);
      }

  other_statements : {all : List CStatement} {xs : List Token} (r : Role) → Calm r → SpellsStatements all xs → OtherStatements r all xs
  other_statements r calm g.SpellsStatements.none = record {
    tree = [];
    tokens = [];
    found = None;
    spells = g.SpellsStatements.none;
    turned = one mark.RightBrace before.Other r;
    beside = same (statements_of []);
  }
  other_statements r calm (g.SpellsStatements.more s xs all ys d e) =
      let x = other_statement r calm d in
      let y = other_statements role.Value value_calm e in
      record {
        tree = x.tree ∷ y.tree;
        tokens = x.tokens ++ y.tokens;
        found = first_of x.found (statement_marks (statement_of s)) y.found;
        spells = g.SpellsStatements.more x.tree x.tokens y.tree y.tokens x.spells y.spells;
        turned = again (regroup xs ys (sign mark.RightBrace)) (regroup x.tokens y.tokens (sign mark.RightBrace))
            (told (ap (λ n. first_of x.found n y.found) (count_statement d)) (both x.turned y.turned));
        beside = beside_followed x.beside y.beside;
      }

  other_statement : {s : CStatement} {xs : List Token} (r : Role) → Calm r → SpellsStatement s xs → OtherStatement r s xs
  other_statement r calm (g.SpellsStatement.assign p ps e xs c d) =
      let x = other_place before.Other r calm c in
      let y = other_expression d in
      record {
        tree = statement.Assign x.tree y.tree;
        tokens = x.tokens ++ (token.Mark mark.Assign ∷ (y.tokens ++ sign mark.Semicolon));
        found = first_of x.found (place_marks (place_of p)) y.found;
        spells = g.SpellsStatement.assign x.tree x.tokens y.tree y.tokens x.spells y.spells;
        turned = told (ap (λ n. first_of x.found n y.found) (count-place c))
            (both x.turned (silent mark.Assign refl (closed y.turned (one mark.Semicolon before.Operand role.Value))));
        beside = seen (Beside checked) (of-Assign p e) (of-Assign x.tree y.tree) (beside_assign x.beside y.beside);
      }
  other_statement r calm (g.SpellsStatement.calls p ps c cs es xs d f h) =
      let t = other_target r calm d in
      let x = t.other in
      let y = other_callee before.Other t.ends t.calm f in
      let z = other_arguments before.Operand role.Value h in
      record {
        tree = statement.Call x.tree y.tree z.tree;
        tokens = x.tokens ++ (y.tokens ++ (bracketed z.tokens ++ sign mark.Semicolon));
        found = first_of x.found (target_marks (option_map place_of p)) (first_of y.found (callee_marks (callee_of c)) z.found);
        spells = g.SpellsStatement.calls x.tree x.tokens y.tree y.tokens z.tree z.tokens x.spells y.spells z.spells;
        turned = told (ap (λ n. first_of x.found n (first_of y.found (callee_marks (callee_of c)) z.found)) t.count)
            (both x.turned (told (ap (λ n. first_of y.found n z.found) (count_callee f)) (both y.turned (closed z.turned (one mark.Semicolon before.Operand role.Value)))));
        beside = seen (Beside checked) (of-Call p c es) (of-Call x.tree y.tree z.tree) (beside_call x.beside (beside_called y.beside z.beside));
      }
  other_statement r calm (g.SpellsStatement.block b xs d) =
      let x = other_body before.Other r d in
      record {
        tree = statement.Block x.tree;
        tokens = x.tokens;
        found = x.found;
        spells = g.SpellsStatement.block x.tree x.tokens x.spells;
        turned = x.turned;
        beside = seen (Beside checked) (of-Block b) (of-Block x.tree) (beside_block x.beside);
      }
  other_statement r calm g.SpellsStatement.leaves = plain statement.Break _ r g.SpellsStatement.leaves (record { puts = refl; after = refl; serves = refl; wide = refl; fit = refl; ends = refl })
  other_statement r calm g.SpellsStatement.continues = plain statement.Continue _ r g.SpellsStatement.continues (record { puts = refl; after = refl; serves = refl; wide = refl; fit = refl; ends = refl })
  other_statement r calm (g.SpellsStatement.if_only e xs b ys c d) =
      let x = other_expression c in
      let y = other_body before.Operand role.Value d in
      record {
        tree = statement.If x.tree y.tree None;
        tokens = token.Mark mark.If ∷ (bracketed x.tokens ++ y.tokens);
        found = later 1 (first_of x.found (marks (expression_of e)) (first_of y.found (body_marks (body_of b)) None));
        spells = g.SpellsStatement.if_only x.tree x.tokens y.tree y.tokens x.spells y.spells;
        turned = marked mark.If (told (ap (λ n. first_of x.found n y.found) (count-bracketed xs ∙ count-expression c)
            ∙ ap (λ o. first_of x.found (marks (expression_of e)) o) (sym (first_alone y.found (body_marks (body_of b))))) (both (in_brackets before.Other role.Value x.turned) y.turned));
        beside = seen (Beside checked) (of-If-only e b) (of-If-only x.tree y.tree) (beside_choose x.beside (beside_bodies y.beside (same (else_of None))));
      }
  other_statement r calm (g.SpellsStatement.if_else e xs b ys c zs d f h) =
      let x = other_expression d in
      let y = other_body before.Operand role.Value f in
      let z = other_body before.Other role.Value h in
      record {
        tree = statement.If x.tree y.tree (Some z.tree);
        tokens = token.Mark mark.If ∷ (bracketed x.tokens ++ (y.tokens ++ (token.Mark mark.Else ∷ z.tokens)));
        found = later 1 (first_of x.found (marks (expression_of e)) (first_of y.found (body_marks (body_of b)) z.found));
        spells = g.SpellsStatement.if_else x.tree x.tokens y.tree y.tokens z.tree z.tokens x.spells y.spells z.spells;
        turned = marked mark.If (told (ap (λ n. first_of x.found n (first_of y.found (body_marks (body_of b)) z.found)) (count-bracketed xs ∙ count-expression d))
            (both (in_brackets before.Other role.Value x.turned) (told (ap (λ n. first_of y.found n z.found) (count-body f)) (both y.turned (silent mark.Else refl z.turned)))));
        beside = seen (Beside checked) (of-If e b c) (of-If x.tree y.tree z.tree) (beside_choose x.beside (beside_bodies y.beside z.beside));
      }
  other_statement r calm (g.SpellsStatement.loops b xs d) =
      let x = other_body before.Operand role.Value d in
      record {
        tree = statement.Loop x.tree;
        tokens = token.Mark mark.For ∷ (bracketed (token.Mark mark.Semicolon ∷ sign mark.Semicolon) ++ x.tokens);
        found = later 1 x.found;
        spells = g.SpellsStatement.loops x.tree x.tokens x.spells;
        turned = marked mark.For (told (later_zero x.found) (both (forever before.Other role.Value) x.turned));
        beside = seen (Beside checked) (of-Loop b) (of-Loop x.tree) (beside_loop x.beside);
      }
  other_statement r calm (g.SpellsStatement.switches e xs all ys c d) =
      let x = other_expression c in
      let y = other_switch role.Pair pair_calm d in
      record {
        tree = statement.Switch x.tree y.tree;
        tokens = token.Mark mark.Switch ∷ (bracketed x.tokens ++ (token.Mark mark.LeftBrace ∷ (y.tokens ++ sign mark.RightBrace)));
        found = later 1 (first_of x.found (marks (expression_of e)) y.found);
        spells = g.SpellsStatement.switches x.tree x.tokens y.tree y.tokens x.spells y.spells;
        turned = marked mark.Switch (told (ap (λ n. first_of x.found n y.found) (count-bracketed xs ∙ count-expression c))
            (both (in_brackets before.Other role.Value x.turned) (silent mark.LeftBrace refl y.turned)));
        beside = seen (Beside checked) (of-Switch e all) (of-Switch x.tree y.tree) (beside_select x.beside y.beside);
      }
  other_statement r calm g.SpellsStatement.returns = plain (statement.Return None) _ r g.SpellsStatement.returns (record { puts = refl; after = refl; serves = refl; wide = refl; fit = refl; ends = refl })
  other_statement r calm (g.SpellsStatement.gives e xs d) =
      let x = other_expression d in
      record {
        tree = statement.Return (Some x.tree);
        tokens = token.Mark mark.Return ∷ (x.tokens ++ sign mark.Semicolon);
        found = later 1 x.found;
        spells = g.SpellsStatement.gives x.tree x.tokens x.spells;
        turned = marked mark.Return (closed x.turned (one mark.Semicolon before.Operand role.Value));
        beside = seen (Beside checked) (of-Return (Some e)) (of-Return (Some x.tree)) (beside_give x.beside);
      }

  other_switch : {all : List CSwitchItem} {xs : List Token} (r : Role) → Calm r → SpellsSwitch all xs → OtherSwitch r all xs
  other_switch r calm g.SpellsSwitch.closed = record {
    tree = [];
    tokens = [];
    found = None;
    spells = g.SpellsSwitch.closed;
    turned = one mark.RightBrace before.Other r;
    beside = same (items_in []);
  }
  other_switch r calm (g.SpellsSwitch.label c cs all ys d e) = labelled_on r c cs d (constant_turned role.Label label_calm d) (other_switch role.Value value_calm e)
  other_switch r calm (g.SpellsSwitch.otherwise all ys e) =
      let y = other_switch role.Value value_calm e in
      record {
        tree = part.Default ∷ y.tree;
        tokens = token.Mark mark.Default ∷ token.Mark mark.Colon ∷ y.tokens;
        found = later 1 y.found;
        spells = g.SpellsSwitch.otherwise y.tree y.tokens y.spells;
        turned = marked mark.Default (silent mark.Colon refl y.turned);
        beside = seen (Beside switch_so) (ap (λ i. switch_in_order (i ∷ map switch_item_of all)) of-Default) (ap (λ i. switch_in_order (i ∷ map switch_item_of y.tree)) of-Default)
            (next_default y.beside);
      }
  other_switch r calm (g.SpellsSwitch.stated s xs all ys d e) =
      let x = other_statement r calm d in
      let y = other_switch role.Value value_calm e in
      record {
        tree = part.Statement x.tree ∷ y.tree;
        tokens = x.tokens ++ y.tokens;
        found = first_of x.found (statement_marks (statement_of s)) y.found;
        spells = g.SpellsSwitch.stated x.tree x.tokens y.tree y.tokens x.spells y.spells;
        turned = again (regroup xs ys (sign mark.RightBrace)) (regroup x.tokens y.tokens (sign mark.RightBrace))
            (told (ap (λ n. first_of x.found n y.found) (count_statement d)) (both x.turned y.turned));
        beside = seen (Beside switch_so) (ap (λ i. switch_in_order (i ∷ map switch_item_of all)) (of-Statement s))
            (ap (λ i. switch_in_order (i ∷ map switch_item_of y.tree)) (of-Statement x.tree)) (beside_stated x.beside y.beside);
      }
