-- Reading bodies with some constants, and with all, is alike.
use Rattle.std.proofs.Common.{◌≡◌, ℕ, zero, suc, List, [], Some, None, refl, ap, ◌∙◌}
use Rattle.cc_whole_tokens.specs.declared.mark.Mark.TheVariants as mark
use Rattle.cc_whole.specs.declared.expression.CPlace.{CPlace}
use Rattle.cc_whole.specs.declared.expression.CExpression.{CExpression}
use Rattle.cc_whole.specs.declared.statement.CCallee.{CCallee}
use Rattle.cc_whole.specs.declared.statement.CBody.{CBody}
use Rattle.cc_whole.specs.declared.statement.CStatement.{CStatement}
use Rattle.cc_whole.specs.declared.statement.CStatement.TheVariants as statement
use Rattle.cc_whole.specs.declared.statement.CSwitchItem.TheVariants as part
use Rattle.cc_whole.specs.Build.{made_body}
use Rattle.cc_whole_reading.specs.declared.constants.Constants.{Constants}
use Rattle.cc_whole_reading.specs.Parse.{Parse, ◌>>=◌, pure, sees_not, expect}
use Rattle.cc_whole_reading.specs.Constants.{keeps, constant}
use Rattle.cc_whole_reading.proofs.ConstantLaws.{all_kept}
use Rattle.cc_whole_reading.proofs.Alike.{Alike, AsTheyStand, alike_pure, alike_itself, alike_then, alike_next, alike_made, alike_if, alike_sight, alike_either, alike_all, alike_constant}
use Rattle.cc_whole_read_types.specs.ReadTypes.{sees_type, one_local}
use Rattle.cc_whole_read_types.proofs.VariableLaws.{alike_local}
use Rattle.cc_whole_read_expr.specs.ReadExpr.{expression, one_place, arguments, callee}
use Rattle.cc_whole_read_expr.proofs.AlikeExpressions.{alike_expression, alike_place, alike_arguments, alike_callee}
use Rattle.cc_whole_read_body.specs.declared.effects.CallParts.{CallParts}
use Rattle.cc_whole_read_body.specs.declared.effects.Right.TheVariants as right
use Rattle.cc_whole_read_body.specs.ReadBody.{local_line, locals, called_of, called, right_call, value, right_side, stored, store_to, store, unstored, call, effect, block, leaves, continues, condition, some_body, otherwise, branches, conditional, forever, label, default_label, inner, switch_item, switch_items, cases, switch, gives, returned, plain, leaving, statement_by, statements, body_by, one_statement, body}

parts_of : CCallee → List CExpression → CallParts
parts_of c es = record { callee = c; arguments = es }

module _ (wanted : Constants) where
  abbrev E : Type 0
  E = AsTheyStand wanted

  alike_line : Alike E (local_line (keeps wanted)) (local_line all_kept)
  unfolding local_line
  alike_line =
      alike_then E (one_local (keeps wanted)) (one_local all_kept) (λ l. expect mark.Semicolon >>= (λ u. pure l)) (λ l. expect mark.Semicolon >>= (λ u. pure l)) (alike_local wanted)
      (λ l x e. alike_next E (expect mark.Semicolon) (λ u. pure l) (λ u. pure x) (λ u. alike_pure E l x e))

  alike_locals : Alike E (locals (keeps wanted)) (locals all_kept)
  alike_locals = alike_all E sees_type (local_line (keeps wanted)) (local_line all_kept) alike_line [] [] (λ e. refl)

  alike_label : Alike E (label (keeps wanted)) (label all_kept)
  unfolding label
  alike_label =
      alike_then E (constant (keeps wanted)) (constant all_kept) (λ c. expect mark.Colon >>= (λ u. pure (part.Case c))) (λ c. expect mark.Colon >>= (λ u. pure (part.Case c))) (alike_constant wanted)
      (λ c d e. alike_next E (expect mark.Colon) (λ u. pure (part.Case c)) (λ u. pure (part.Case d)) (λ u. alike_pure E (part.Case c) (part.Case d) (λ x. ap part.Case (e x))))

  module _ (ex fx : Parse CExpression) (dx : Alike E ex fx) where
    alike_called_of : (c d : CCallee) → (E → d ≡ c) → Alike E (called_of ex c) (called_of fx d)
    unfolding called_of parts_of
    alike_called_of c d e =
        alike_next E (expect mark.LeftParen) _ _ (λ u. alike_then E (arguments ex) (arguments fx) _ _ (alike_arguments wanted ex fx dx) (λ es fs f.
        alike_next E (expect mark.RightParen) _ _ (λ v. alike_next E (expect mark.Semicolon) (λ w. pure (parts_of c es)) (λ w. pure (parts_of d fs))
        (λ w. alike_pure E (parts_of c es) (parts_of d fs) (λ x. ap (λ y. parts_of y fs) (e x) ∙ ap (parts_of c) (f x))))))

    alike_called : Alike E (called ex) (called fx)
    unfolding called
    alike_called = alike_then E (callee ex) (callee fx) (λ c. called_of ex c) (λ c. called_of fx c) (alike_callee wanted ex fx dx) alike_called_of

    alike_value : Alike E (value ex) (value fx)
    unfolding value
    alike_value =
        alike_then E ex fx _ _ dx (λ a b e. alike_next E (expect mark.Semicolon) (λ u. pure (right.Value a)) (λ u. pure (right.Value b))
        (λ u. alike_pure E (right.Value a) (right.Value b) (λ x. ap right.Value (e x))))

    alike_right : Alike E (right_side ex) (right_side fx)
    unfolding right_side right_call
    alike_right = alike_either E (value ex) (value fx) (right_call ex) (right_call fx) alike_value (alike_made E right.Call (called ex) (called fx) alike_called)

    alike_store_to : (p q : CPlace) → (E → q ≡ p) → Alike E (store_to ex p) (store_to fx q)
    unfolding store_to
    alike_store_to p q e =
        alike_next E (expect mark.Assign) _ _ (λ u. alike_then E (right_side ex) (right_side fx) (λ r. pure (stored p r)) (λ r. pure (stored q r)) alike_right
        (λ r s f. alike_pure E (stored p r) (stored q s) (λ x. ap (λ y. stored y s) (e x) ∙ ap (stored p) (f x))))

    alike_effect : Alike E (effect ex) (effect fx)
    unfolding effect store call
    alike_effect =
        alike_either E (store ex) (store fx) (call ex) (call fx)
        (alike_then E (one_place ex) (one_place fx) (λ p. store_to ex p) (λ p. store_to fx p) (alike_place wanted ex fx dx) alike_store_to)
        (alike_made E unstored (called ex) (called fx) alike_called)

    alike_condition : Alike E (condition ex) (condition fx)
    unfolding condition
    alike_condition =
        alike_next E (expect mark.LeftParen) _ _ (λ u. alike_then E ex fx _ _ dx (λ a b e. alike_next E (expect mark.RightParen) (λ v. pure a) (λ v. pure b) (λ v. alike_pure E a b e)))

    alike_returned : Alike E (returned ex) (returned fx)
    unfolding returned gives
    alike_returned =
        alike_sight E mark.Semicolon (pure (statement.Return None)) (pure (statement.Return None)) (gives ex) (gives fx) (alike_itself E (pure (statement.Return None)))
        (alike_then E ex fx _ _ dx (λ a b e. alike_next E (expect mark.Semicolon) (λ u. pure (statement.Return (Some a))) (λ u. pure (statement.Return (Some b)))
        (λ u. alike_pure E (statement.Return (Some a)) (statement.Return (Some b)) (λ x. ap (λ y. statement.Return (Some y)) (e x)))))

  module _ (bo co : Parse CBody) (db : Alike E bo co) where
    alike_otherwise : Alike E (otherwise bo) (otherwise co)
    unfolding otherwise some_body
    alike_otherwise = alike_sight E mark.Else (some_body bo) (some_body co) (pure None) (pure None) (alike_made E Some bo co db) (alike_itself E (pure None))

    alike_branches : (a b : CExpression) → (E → b ≡ a) → Alike E (branches bo a) (branches co b)
    unfolding branches
    alike_branches a b e =
        alike_then E bo co (λ c. otherwise bo >>= (λ o. pure (statement.If a c o))) (λ c. otherwise co >>= (λ o. pure (statement.If b c o))) db (λ c d f.
        alike_then E (otherwise bo) (otherwise co) (λ o. pure (statement.If a c o)) (λ o. pure (statement.If b d o)) alike_otherwise (λ o p h.
        alike_pure E (statement.If a c o) (statement.If b d p)
        (λ x. ap (λ y. statement.If y d p) (e x) ∙ ap (λ y. statement.If a y p) (f x) ∙ ap (statement.If a c) (h x))))

    alike_forever : Alike E (forever bo) (forever co)
    unfolding forever
    alike_forever =
        alike_next E (expect mark.LeftParen) _ _ (λ u. alike_next E (expect mark.Semicolon) _ _ (λ v. alike_next E (expect mark.Semicolon) _ _ (λ w.
        alike_next E (expect mark.RightParen) _ _ (λ x. alike_made E statement.Loop bo co db))))

  module _ (st rt : Parse CStatement) (ds : Alike E st rt) where
    alike_item : Alike E (switch_item (keeps wanted) st) (switch_item all_kept rt)
    unfolding switch_item inner
    alike_item =
        alike_sight E mark.Case (label (keeps wanted)) (label all_kept) _ _ alike_label
        (alike_sight E mark.Default default_label default_label (inner st) (inner rt) (alike_itself E default_label) (alike_made E part.Statement st rt ds))

    alike_cases : (a b : CExpression) → (E → b ≡ a) → Alike E (cases (keeps wanted) st a) (cases all_kept rt b)
    unfolding cases
    alike_cases a b e =
        alike_next E (expect mark.LeftBrace) _ _ (λ u.
        alike_then E (switch_items (keeps wanted) st) (switch_items all_kept rt) (λ all. expect mark.RightBrace >>= (λ v. pure (statement.Switch a all)))
        (λ all. expect mark.RightBrace >>= (λ v. pure (statement.Switch b all)))
        (alike_all E (sees_not mark.RightBrace) (switch_item (keeps wanted) st) (switch_item all_kept rt) alike_item [] [] (λ x. refl)) (λ xs ys f.
        alike_next E (expect mark.RightBrace) (λ v. pure (statement.Switch a xs)) (λ v. pure (statement.Switch b ys)) (λ v.
        alike_pure E (statement.Switch a xs) (statement.Switch b ys) (λ x. ap (λ y. statement.Switch y ys) (e x) ∙ ap (statement.Switch a) (f x)))))

    alike_body_by : Alike E (body_by (keeps wanted) st) (body_by all_kept rt)
    unfolding body_by
    alike_body_by =
        alike_next E (expect mark.LeftBrace) _ _ (λ u.
        alike_then E (locals (keeps wanted)) (locals all_kept) (λ ls. statements st >>= (λ all. expect mark.RightBrace >>= (λ v. pure (made_body ls all))))
        (λ ls. statements rt >>= (λ all. expect mark.RightBrace >>= (λ v. pure (made_body ls all)))) alike_locals (λ ls ms e.
        alike_then E (statements st) (statements rt) (λ all. expect mark.RightBrace >>= (λ v. pure (made_body ls all))) (λ all. expect mark.RightBrace >>= (λ v. pure (made_body ms all)))
        (alike_all E (sees_not mark.RightBrace) st rt ds [] [] (λ x. refl)) (λ xs ys f.
        alike_next E (expect mark.RightBrace) (λ v. pure (made_body ls xs)) (λ v. pure (made_body ms ys)) (λ v.
        alike_pure E (made_body ls xs) (made_body ms ys) (λ x. ap (λ y. made_body y ys) (e x) ∙ ap (made_body ls) (f x))))))

  module _ (ex fx : Parse CExpression) (dx : Alike E ex fx) (bo co : Parse CBody) (db : Alike E bo co) (st rt : Parse CStatement) (ds : Alike E st rt) where
    alike_plain : Alike E (plain ex bo) (plain fx co)
    unfolding plain block
    alike_plain = alike_if E _ (block bo) (block co) (effect ex) (effect fx) (alike_made E statement.Block bo co db) (alike_effect ex fx dx)

    alike_leaving : Alike E (leaving ex bo) (leaving fx co)
    unfolding leaving
    alike_leaving =
        alike_sight E mark.Break leaves leaves _ _ (alike_itself E leaves) (alike_sight E mark.Continue continues continues _ _ (alike_itself E continues)
        (alike_sight E mark.Return (returned ex) (returned fx) (plain ex bo) (plain fx co) (alike_returned ex fx dx) alike_plain))

    alike_by : Alike E (statement_by (keeps wanted) ex bo st) (statement_by all_kept fx co rt)
    unfolding statement_by conditional switch
    alike_by =
        alike_sight E mark.If (conditional ex bo) (conditional fx co) _ _
        (alike_then E (condition ex) (condition fx) (λ e. branches bo e) (λ e. branches co e) (alike_condition ex fx dx) (alike_branches bo co db))
        (alike_sight E mark.For (forever bo) (forever co) _ _ (alike_forever bo co db)
        (alike_sight E mark.Switch (switch (keeps wanted) ex st) (switch all_kept fx rt) (leaving ex bo) (leaving fx co)
        (alike_then E (condition ex) (condition fx) (λ e. cases (keeps wanted) st e) (λ e. cases all_kept rt e) (alike_condition ex fx dx) (alike_cases st rt ds)) alike_leaving))

  alike_statement : (n : ℕ) → Alike E (one_statement (keeps wanted) n) (one_statement all_kept n)
  unfolding one_statement
  alike_statement zero ts = refl
  alike_statement (suc n) ts =
      let inside = alike_statement n in
      alike_by (expression (keeps wanted) n) (expression all_kept n) (alike_expression wanted n) (body (keeps wanted) n) (body all_kept n)
      (alike_body_by (one_statement (keeps wanted) n) (one_statement all_kept n) inside) (one_statement (keeps wanted) n) (one_statement all_kept n) inside ts

  pub alike_body : (n : ℕ) → Alike E (body (keeps wanted) n) (body all_kept n)
  alike_body n = alike_body_by (one_statement (keeps wanted) n) (one_statement all_kept n) (alike_statement n)
