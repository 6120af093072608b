-- The tokens of a tree have as many landmarks as the tree.
use Rattle.std.proofs.Common.{◌≡◌, ℕ, List, ◌∷◌, ◌++◌, Option, Some, None, option_map, map, refl, ap, sym, ◌∙◌, arith}
use Rattle.cc_whole_tokens.specs.declared.mark.Mark.TheVariants as mark
use Rattle.cc_whole_tokens.specs.declared.token.Token.{Token}
use Rattle.cc_whole_tokens.specs.declared.token.Token.TheVariants as token
use Rattle.cc_whole.specs.declared.expression.Prefix.{Prefix}
use Rattle.cc_whole.specs.declared.expression.Prefix.TheVariants as prefix
use Rattle.cc_whole.specs.declared.expression.CPlace.{CPlace}
use Rattle.cc_whole.specs.declared.expression.CExpression.{CExpression}
use Rattle.cc_whole.specs.declared.statement.CLocal.{CLocal}
use Rattle.cc_whole.specs.declared.statement.CCallee.{CCallee}
use Rattle.cc_whole.specs.declared.statement.CBody.{CBody}
use Rattle.cc_whole.specs.declared.statement.CStatement.{CStatement}
use Rattle.cc_whole.specs.declared.statement.CSwitchItem.{CSwitchItem}
use Rattle.cc_whole.specs.Operators.{prefix_mark}
use Rattle.cc_whole.specs.SpellsTypes.{sign, type_tokens, signature_tokens}
use Rattle.cc_whole.specs.Spells as g
use Rattle.cc_whole.specs.Spells.{bracketed, SpellsPlace, SpellsExpression, SpellsSome, SpellsArguments, SpellsCallee, SpellsTarget, SpellsLocals, SpellsBody, SpellsStatements, SpellsStatement, SpellsSwitch}
use Rattle.cc_whole.specs.Plain.{place_of, expression_of, callee_of, statement_of, switch_item_of, body_of, in_order, switch_in_order}
use Rattle.cc_whole.specs.Landmarks.{place_marks, marks, all_marks, target_marks, callee_marks, locals_marks, statement_marks, statements_marks, switch_marks, body_marks}
use Rattle.cc_whole_laws.specs.Landmark.{word_mark, landmarks_in}
use Rattle.cc_whole_laws.proofs.Counts.{count-append, count-bracketed, joins-sign, count-constant, count-type, count-signature, count-local}
use Rattle.cc_whole_laws.proofs.Views.{of-Name, of-At, of-Constant, of-Load, of-Unary, of-Cast, of-AddressOf, of-Binary, of-Assign, of-Call, of-Block, of-Break, of-Continue, of-If, of-If-only, of-Loop, of-Switch, of-Return, of-Case, of-Default, of-Statement, of-made}

prefix-sign : (o : Prefix) → word_mark (prefix_mark o) ≡ 0
prefix-sign prefix.Negate = refl
prefix-sign prefix.Complement = refl
prefix-sign prefix.Not = refl

mutual
  pub count-place : {p : CPlace} {xs : List Token} → SpellsPlace p xs → landmarks_in xs ≡ place_marks (place_of p)
  count-place (g.SpellsPlace.name name) = sym (ap place_marks (of-Name name))
  count-place (g.SpellsPlace.pointed t e xs d) =
      (let c = count-expression d in
      omega (
        arith,
        count-append (bracketed (type_tokens t ++ sign mark.Star)) (bracketed xs),
        count-bracketed (type_tokens t ++ sign mark.Star),
        count-append (type_tokens t) (sign mark.Star),
        count-type t,
        count-bracketed xs,
        c,
      )) ∙ sym (ap place_marks (of-At t e))

  pub count-expression : {level : ℕ} {e : CExpression} {xs : List Token} → SpellsExpression level e xs → landmarks_in xs ≡ marks (expression_of e)
  count-expression (g.SpellsExpression.number c xs d) = count-constant d ∙ sym (ap marks (of-Constant c))
  count-expression (g.SpellsExpression.load p ps d) = count-place d ∙ sym (ap marks (of-Load p))
  count-expression (g.SpellsExpression.prefixed o e xs d) = omega (arith, prefix-sign o, count-expression d) ∙ sym (ap marks (of-Unary o e))
  count-expression (g.SpellsExpression.cast t e xs d) =
      omega (arith, count-append (bracketed (type_tokens t)) xs, count-bracketed (type_tokens t), count-type t, count-expression d) ∙ sym (ap marks (of-Cast t e))
  count-expression (g.SpellsExpression.address name) = sym (ap marks (of-AddressOf name))
  count-expression (g.SpellsExpression.brackets e xs d) = count-bracketed xs ∙ count-expression d
  count-expression (g.SpellsExpression.tighter level e xs d) = count-expression d
  count-expression (g.SpellsExpression.joined level t o a b xs ys j c d) =
      omega (arith, count-append xs (t ∷ ys), joins-sign t _ j, count-expression c, count-expression d) ∙ sym (ap marks (of-Binary o a b))

count-more : {es : List CExpression} {xs : List Token} → SpellsSome es xs → landmarks_in xs ≡ all_marks (map expression_of es)
count-more (g.SpellsSome.last e xs d) = omega (arith, count-expression d)
count-more (g.SpellsSome.more e xs es ys d r) = omega (arith, count-append xs (token.Mark mark.Comma ∷ ys), count-expression d, count-more r)

count-arguments : {es : List CExpression} {xs : List Token} → SpellsArguments es xs → landmarks_in xs ≡ all_marks (map expression_of es)
count-arguments g.SpellsArguments.none = refl
count-arguments (g.SpellsArguments.some es xs d) = count-more d

count-callee : {c : CCallee} {xs : List Token} → SpellsCallee c xs → landmarks_in xs ≡ callee_marks (callee_of c)
count-callee (g.SpellsCallee.name name) = refl
count-callee (g.SpellsCallee.pointer s e xs d) =
    omega (arith, count-bracketed (signature_tokens s ++ bracketed xs), count-append (signature_tokens s) (bracketed xs), count-signature s, count-bracketed xs, count-expression d)

count-target : {p : Option CPlace} {xs : List Token} → SpellsTarget p xs → landmarks_in xs ≡ target_marks (option_map place_of p)
count-target g.SpellsTarget.none = refl
count-target (g.SpellsTarget.some p ps d) = omega (arith, count-append ps (sign mark.Assign), count-place d)

count-locals : {locals : List CLocal} {xs : List Token} → SpellsLocals locals xs → landmarks_in xs ≡ locals_marks locals
count-locals g.SpellsLocals.none = refl
count-locals (g.SpellsLocals.more t name ts locals xs d r) = omega (arith, count-append ts (token.Mark mark.Semicolon ∷ xs), count-local d, count-locals r)

mutual
  pub count-body : {b : CBody} {xs : List Token} → SpellsBody b xs → landmarks_in xs ≡ body_marks (body_of b)
  count-body (g.SpellsBody.body locals xs all ys d r) =
      omega (arith, count-append xs (ys ++ sign mark.RightBrace), count-append ys (sign mark.RightBrace), count-locals d, count-statements r)
      ∙ sym (ap body_marks (of-made locals all))

  count-statements : {all : List CStatement} {xs : List Token} → SpellsStatements all xs → landmarks_in xs ≡ statements_marks (in_order (map statement_of all))
  count-statements g.SpellsStatements.none = refl
  count-statements (g.SpellsStatements.more s xs all ys d r) = omega (arith, count-append xs ys, count-statement d, count-statements r)

  count-statement : {s : CStatement} {xs : List Token} → SpellsStatement s xs → landmarks_in xs ≡ statement_marks (statement_of s)
  count-statement (g.SpellsStatement.assign p ps e xs c d) =
      omega (arith, count-append ps (token.Mark mark.Assign ∷ (xs ++ sign mark.Semicolon)), count-append xs (sign mark.Semicolon), count-place c, count-expression d)
      ∙ sym (ap statement_marks (of-Assign p e))
  count-statement (g.SpellsStatement.calls p ps c cs es xs d f h) =
      omega (
        arith,
        count-append ps (cs ++ (bracketed xs ++ sign mark.Semicolon)),
        count-append cs (bracketed xs ++ sign mark.Semicolon),
        count-append (bracketed xs) (sign mark.Semicolon),
        count-bracketed xs,
        count-target d,
        count-callee f,
        count-arguments h,
      )
      ∙ sym (ap statement_marks (of-Call p c es))
  count-statement (g.SpellsStatement.block b xs d) = count-body d ∙ sym (ap statement_marks (of-Block b))
  count-statement g.SpellsStatement.leaves = sym (ap statement_marks of-Break)
  count-statement g.SpellsStatement.continues = sym (ap statement_marks of-Continue)
  count-statement (g.SpellsStatement.if_only e xs b ys c d) =
      omega (arith, count-append (bracketed xs) ys, count-bracketed xs, count-expression c, count-body d) ∙ sym (ap statement_marks (of-If-only e b))
  count-statement (g.SpellsStatement.if_else e xs b ys c zs d f h) =
      omega (
        arith,
        count-append (bracketed xs) (ys ++ (token.Mark mark.Else ∷ zs)),
        count-bracketed xs,
        count-append ys (token.Mark mark.Else ∷ zs),
        count-expression d,
        count-body f,
        count-body h,
      ) ∙ sym (ap statement_marks (of-If e b c))
  count-statement (g.SpellsStatement.loops b xs d) =
      omega (arith, count-append (bracketed (token.Mark mark.Semicolon ∷ sign mark.Semicolon)) xs, count-body d) ∙ sym (ap statement_marks (of-Loop b))
  count-statement (g.SpellsStatement.switches e xs all ys c d) =
      omega (
        arith,
        count-append (bracketed xs) (token.Mark mark.LeftBrace ∷ (ys ++ sign mark.RightBrace)),
        count-bracketed xs,
        count-append ys (sign mark.RightBrace),
        count-expression c,
        count-switch d,
      ) ∙ sym (ap statement_marks (of-Switch e all))
  count-statement g.SpellsStatement.returns = sym (ap statement_marks (of-Return None))
  count-statement (g.SpellsStatement.gives e xs d) =
      omega (arith, count-append xs (sign mark.Semicolon), count-expression d) ∙ sym (ap statement_marks (of-Return (Some e)))

  count-switch : {all : List CSwitchItem} {xs : List Token} → SpellsSwitch all xs → landmarks_in xs ≡ switch_marks (switch_in_order (map switch_item_of all))
  count-switch g.SpellsSwitch.closed = refl
  count-switch (g.SpellsSwitch.label c cs all ys d r) =
      omega (arith, count-append cs (token.Mark mark.Colon ∷ ys), count-constant d, count-switch r)
      ∙ sym (ap (λ i. switch_marks (switch_in_order (i ∷ map switch_item_of all))) (of-Case c))
  count-switch (g.SpellsSwitch.otherwise all ys r) =
      omega (arith, count-switch r) ∙ sym (ap (λ i. switch_marks (switch_in_order (i ∷ map switch_item_of all))) of-Default)
  count-switch (g.SpellsSwitch.stated s xs all ys d r) =
      omega (arith, count-append xs ys, count-statement d, count-switch r)
      ∙ sym (ap (λ i. switch_marks (switch_in_order (i ∷ map switch_item_of all))) (of-Statement s))
