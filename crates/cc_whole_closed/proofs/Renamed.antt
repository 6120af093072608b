-- A renamed tree is, as plain data, the plain data renamed.
use Rattle.std.proofs.Common.{◌≡◌, List, [], ◌∷◌, Option, Some, None, option_map, map, refl, ap, sym, subst, ◌∙◌}
use Rattle.cc_whole.specs.declared.expression.CPlace.{CPlace, roll-CPlace, ind-CPlace}
use Rattle.cc_whole.specs.declared.expression.CPlace.TheVariants as place
use Rattle.cc_whole.specs.declared.expression.CExpression.{CExpression, roll-CExpression, ind-CExpression}
use Rattle.cc_whole.specs.declared.expression.CExpression.TheFolds.{map-CExpression, map-CPlace, fold-roll-CExpression, fold-roll-CPlace}
use Rattle.cc_whole.specs.declared.expression.CExpression.TheOpen.{CExpression-F, CPlace-F}
use Rattle.cc_whole.specs.declared.expression.CExpression.TheVariants as tree
use Rattle.cc_whole.specs.declared.statement.CCallee.{CCallee}
use Rattle.cc_whole.specs.declared.statement.CCallee.TheVariants as callee
use Rattle.cc_whole.specs.declared.statement.CBody.{CBody, CBody-F, roll-CBody, ind-CBody}
use Rattle.cc_whole.specs.declared.statement.CStatement.{CStatement, roll-CStatement, fold-CStatement}
use Rattle.cc_whole.specs.declared.statement.CStatement.TheFolds.{map-CStatement, map-CSwitchItem, map-CBody, fold-roll-CStatement, fold-roll-CSwitchItem, fold-roll-CBody}
use Rattle.cc_whole.specs.declared.statement.CStatement.TheOpen.{CStatement-F, CSwitchItem-F}
use Rattle.cc_whole.specs.declared.statement.CSwitchItem.{CSwitchItem, roll-CSwitchItem, fold-CSwitchItem}
use Rattle.cc_whole.specs.Plain.{Place, Expression, constant, load, unary, cast, address, binary, named, pointed, place_step, expression_step, place_of, expression_of, callee_of, by_pointer, Statement, assign, call, block, choose, loop, select, give, followed, labelled, otherwise, stated, in_order, SwitchItem, label, default_label, inner, switch_in_order, Body, body, else_of, statement_step, switch_step, body_step, statement_of, switch_item_of, body_of}
use Rattle.cc_whole.specs.Uses.{local_names}
use Rattle.cc_whole_laws.proofs.Views.{of-Name, of-At, of-Constant, of-Load, of-Unary, of-Cast, of-AddressOf, of-Binary, of-Assign, of-Call, of-Block, of-Break, of-Continue, of-If, of-If-only, of-Loop, of-Switch, of-Return, of-Case, of-Default, of-Statement, of-made}
use Rattle.cc_whole_link.specs.Rename as rename
use Rattle.cc_whole_link.specs.Rename.{Renaming, Renames, hiding, place_renamed, expression_renamed, callee_renamed, all_renamed, body_renamed}
use Rattle.cc_whole_closed.proofs.Plains.{place_with, expression_with, expressions_with, target_with, callee_with, given_with, statement_with, statements_with, switch_with, body_with, item_with}

-- ---- expressions

abbrev IsAs : CExpression → Type 0
IsAs e = (r : Renaming) → expression_of (expression_renamed e r) ≡ expression_with (expression_of e) r

abbrev IsPlaceAs : CPlace → Type 0
IsPlaceAs p = (r : Renaming) → place_of (place_renamed p r) ≡ place_with (place_of p) r

renamed_at : (x : CExpression-F CExpression CPlace) (r : Renaming) → expression_renamed (roll-CExpression x) r
    ≡ rename.expression_step (map-CExpression _ _ _ _ expression_renamed place_renamed x) r
renamed_at x r = ap (λ (f : Renaming → CExpression). f r)
    (fold-roll-CExpression (Renaming → CExpression) (Renaming → CPlace) rename.expression_step rename.place_step x)

place_renamed_at : (x : CPlace-F CExpression CPlace) (r : Renaming) → place_renamed (roll-CPlace x) r
    ≡ rename.place_step (map-CPlace _ _ _ _ expression_renamed place_renamed x) r
place_renamed_at x r = ap (λ (f : Renaming → CPlace). f r)
    (fold-roll-CPlace (Renaming → CExpression) (Renaming → CPlace) rename.expression_step rename.place_step x)

plain_at : (x : CExpression-F CExpression CPlace) (r : Renaming)
    → expression_with (expression_of (roll-CExpression x)) r ≡ expression_with (expression_step (map-CExpression _ _ _ _ expression_of place_of x)) r
plain_at x r = ap (λ e. expression_with e r) (fold-roll-CExpression Expression Place expression_step place_step x)

plain_place_at : (x : CPlace-F CExpression CPlace) (r : Renaming)
    → place_with (place_of (roll-CPlace x)) r ≡ place_with (place_step (map-CPlace _ _ _ _ expression_of place_of x)) r
plain_place_at x r = ap (λ p. place_with p r) (fold-roll-CPlace Expression Place expression_step place_step x)

layer : (y : CExpression-F ((e : CExpression) × IsAs e) ((p : CPlace) × IsPlaceAs p)) → IsAs (roll-CExpression (map-CExpression _ _ _ _ (λ c. c.0) (λ c. c.0) y))
layer (CExpression-F.Constant c) r = ap expression_of (renamed_at (CExpression-F.Constant c) r) ∙ of-Constant c ∙ sym (plain_at (CExpression-F.Constant c) r)
layer (CExpression-F.Load p) r =
    ap expression_of (renamed_at (CExpression-F.Load p.0) r) ∙ of-Load (place_renamed p.0 r) ∙ ap load (p.1 r) ∙ sym (plain_at (CExpression-F.Load p.0) r)
layer (CExpression-F.Unary o e) r =
    ap expression_of (renamed_at (CExpression-F.Unary o e.0) r) ∙ of-Unary o (expression_renamed e.0 r) ∙ ap (unary o) (e.1 r) ∙ sym (plain_at (CExpression-F.Unary o e.0) r)
layer (CExpression-F.Cast t e) r =
    ap expression_of (renamed_at (CExpression-F.Cast t e.0) r) ∙ of-Cast t (expression_renamed e.0 r) ∙ ap (cast t) (e.1 r) ∙ sym (plain_at (CExpression-F.Cast t e.0) r)
layer (CExpression-F.AddressOf name) r =
    ap expression_of (renamed_at (CExpression-F.AddressOf name) r) ∙ of-AddressOf (r name) ∙ sym (plain_at (CExpression-F.AddressOf name) r)
layer (CExpression-F.Binary o a b) r =
    ap expression_of (renamed_at (CExpression-F.Binary o a.0 b.0) r) ∙ of-Binary o (expression_renamed a.0 r) (expression_renamed b.0 r)
    ∙ ap (λ x. binary o x (expression_of (expression_renamed b.0 r))) (a.1 r) ∙ ap (binary o (expression_with (expression_of a.0) r)) (b.1 r)
    ∙ sym (plain_at (CExpression-F.Binary o a.0 b.0) r)

place_layer : (y : CPlace-F ((e : CExpression) × IsAs e) ((p : CPlace) × IsPlaceAs p)) → IsPlaceAs (roll-CPlace (map-CPlace _ _ _ _ (λ c. c.0) (λ c. c.0) y))
place_layer (CPlace-F.Name name) r = ap place_of (place_renamed_at (CPlace-F.Name name) r) ∙ of-Name (r name) ∙ sym (plain_place_at (CPlace-F.Name name) r)
place_layer (CPlace-F.At t e) r =
    ap place_of (place_renamed_at (CPlace-F.At t e.0) r) ∙ of-At t (expression_renamed e.0 r) ∙ ap (pointed t) (e.1 r) ∙ sym (plain_place_at (CPlace-F.At t e.0) r)

expression_as : (e : CExpression) → IsAs e
expression_as = ind-CExpression IsAs IsPlaceAs
    (λ x y is. subst (λ z. IsAs (roll-CExpression z)) is (layer y))
    (λ x y is. subst (λ z. IsPlaceAs (roll-CPlace z)) is (place_layer y))

place_as : (p : CPlace) → IsPlaceAs p
place_as = ind-CPlace IsAs IsPlaceAs
    (λ x y is. subst (λ z. IsAs (roll-CExpression z)) is (layer y))
    (λ x y is. subst (λ z. IsPlaceAs (roll-CPlace z)) is (place_layer y))

expressions_as : (es : List CExpression) (r : Renaming) → map expression_of (map (λ e. expression_renamed e r) es) ≡ expressions_with (map expression_of es) r
expressions_as [] r = refl
expressions_as (e ∷ es) r =
    ap (λ x. x ∷ map expression_of (map (λ e. expression_renamed e r) es)) (expression_as e r) ∙ ap (λ l. expression_with (expression_of e) r ∷ l) (expressions_as es r)

target_as : (p : Option CPlace) (r : Renaming) → option_map place_of (option_map (λ x. place_renamed x r) p) ≡ target_with (option_map place_of p) r
target_as None r = refl
target_as (Some p) r = ap Some (place_as p r)

callee_as : (c : CCallee) (r : Renaming) → callee_of (callee_renamed c r) ≡ callee_with (callee_of c) r
callee_as (callee.Name name) r = refl
callee_as (callee.Pointer s e) r = ap (by_pointer s) (expression_as e r)

given_as : (e : Option CExpression) (r : Renaming) → option_map expression_of (option_map (λ x. expression_renamed x r) e) ≡ given_with (option_map expression_of e) r
given_as None r = refl
given_as (Some e) r = ap Some (expression_as e r)

-- ---- statements

abbrev statement_renamed : CStatement → Renaming → CStatement
statement_renamed = fold-CStatement (Renames CStatement) (Renames CSwitchItem) (Renames CBody) rename.statement_step rename.switch_step rename.body_step

abbrev part_renamed : CSwitchItem → Renaming → CSwitchItem
part_renamed = fold-CSwitchItem (Renames CStatement) (Renames CSwitchItem) (Renames CBody) rename.statement_step rename.switch_step rename.body_step

abbrev IsStatementAs : CStatement → Type 0
IsStatementAs s = (r : Renaming) → statement_of (statement_renamed s r) ≡ statement_with (statement_of s) r

abbrev IsPartAs : CSwitchItem → Type 0
IsPartAs s = (r : Renaming) → switch_item_of (part_renamed s r) ≡ item_with (switch_item_of s) r

abbrev pub IsBodyAs : CBody → Type 0
IsBodyAs b = (r : Renaming) → body_of (body_renamed b r) ≡ body_with (body_of b) r

abbrev Statements : Type 0
Statements = (s : CStatement) × IsStatementAs s

abbrev Parts : Type 0
Parts = (s : CSwitchItem) × IsPartAs s

abbrev Bodies : Type 0
Bodies = (b : CBody) × IsBodyAs b

statement_at : (x : CStatement-F CStatement CSwitchItem CBody) (r : Renaming) → statement_of (statement_renamed (roll-CStatement x) r)
    ≡ statement_of (rename.statement_step (map-CStatement _ _ _ _ _ _ statement_renamed part_renamed body_renamed x) r)
statement_at x r = ap (λ (f : Renames CStatement). statement_of (f r))
    (fold-roll-CStatement (Renames CStatement) (Renames CSwitchItem) (Renames CBody) rename.statement_step rename.switch_step rename.body_step x)

part_at : (x : CSwitchItem-F CStatement CSwitchItem CBody) (r : Renaming) → switch_item_of (part_renamed (roll-CSwitchItem x) r)
    ≡ switch_item_of (rename.switch_step (map-CSwitchItem _ _ _ _ _ _ statement_renamed part_renamed body_renamed x) r)
part_at x r = ap (λ (f : Renames CSwitchItem). switch_item_of (f r))
    (fold-roll-CSwitchItem (Renames CStatement) (Renames CSwitchItem) (Renames CBody) rename.statement_step rename.switch_step rename.body_step x)

body_at : (x : CBody-F CStatement CSwitchItem CBody) (r : Renaming) → body_of (body_renamed (roll-CBody x) r)
    ≡ body_of (rename.body_step (map-CBody _ _ _ _ _ _ statement_renamed part_renamed body_renamed x) r)
body_at x r = ap (λ (f : Renames CBody). body_of (f r))
    (fold-roll-CBody (Renames CStatement) (Renames CSwitchItem) (Renames CBody) rename.statement_step rename.switch_step rename.body_step x)

plain_statement : (x : CStatement-F CStatement CSwitchItem CBody) (r : Renaming)
    → statement_with (statement_of (roll-CStatement x)) r ≡ statement_with (statement_step (map-CStatement _ _ _ _ _ _ statement_of switch_item_of body_of x)) r
plain_statement x r = ap (λ s. statement_with s r) (fold-roll-CStatement Statement SwitchItem Body statement_step switch_step body_step x)

plain_part : (x : CSwitchItem-F CStatement CSwitchItem CBody) (r : Renaming)
    → item_with (switch_item_of (roll-CSwitchItem x)) r ≡ item_with (switch_step (map-CSwitchItem _ _ _ _ _ _ statement_of switch_item_of body_of x)) r
plain_part x r = ap (λ s. item_with s r) (fold-roll-CSwitchItem Statement SwitchItem Body statement_step switch_step body_step x)

plain_body : (x : CBody-F CStatement CSwitchItem CBody) (r : Renaming)
    → body_with (body_of (roll-CBody x)) r ≡ body_with (body_step (map-CBody _ _ _ _ _ _ statement_of switch_item_of body_of x)) r
plain_body x r = ap (λ b. body_with b r) (fold-roll-CBody Statement SwitchItem Body statement_step switch_step body_step x)

statements_as : (all : List Statements) (r : Renaming)
    → in_order (map statement_of (all_renamed (map statement_renamed (map (λ (c : Statements). c.0) all)) r)) ≡ statements_with (in_order (map statement_of (map (λ (c : Statements). c.0) all))) r
statements_as [] r = refl
statements_as (s ∷ all) r =
    ap (λ x. followed x (in_order (map statement_of (all_renamed (map statement_renamed (map (λ (c : Statements). c.0) all)) r)))) (s.1 r)
    ∙ ap (followed (statement_with (statement_of s.0) r)) (statements_as all r)

put_as : (i : SwitchItem) (these those : List SwitchItem) (r : Renaming) → switch_in_order these ≡ switch_with (switch_in_order those) r
    → switch_in_order (item_with i r ∷ these) ≡ switch_with (switch_in_order (i ∷ those)) r
put_as (label c) these those r e = ap (labelled c) e
put_as default_label these those r e = ap otherwise e
put_as (inner s) these those r e = ap (stated (statement_with s r)) e

parts_as : (all : List Parts) (r : Renaming)
    → switch_in_order (map switch_item_of (all_renamed (map part_renamed (map (λ (c : Parts). c.0) all)) r)) ≡ switch_with (switch_in_order (map switch_item_of (map (λ (c : Parts). c.0) all))) r
parts_as [] r = refl
parts_as (s ∷ all) r =
    let these = map switch_item_of (all_renamed (map part_renamed (map (λ (c : Parts). c.0) all)) r) in
    ap (λ x. switch_in_order (x ∷ these)) (s.1 r) ∙ put_as (switch_item_of s.0) these (map switch_item_of (map (λ (c : Parts). c.0) all)) r (parts_as all r)

statement_layer : (y : CStatement-F Statements Parts Bodies)
    → IsStatementAs (roll-CStatement (map-CStatement _ _ _ _ _ _ (λ (c : Statements). c.0) (λ (c : Parts). c.0) (λ (c : Bodies). c.0) y))
statement_layer (CStatement-F.Assign p e) r =
    statement_at (CStatement-F.Assign p e) r ∙ of-Assign (place_renamed p r) (expression_renamed e r)
    ∙ ap (λ q. assign q (expression_of (expression_renamed e r))) (place_as p r) ∙ ap (assign (place_with (place_of p) r)) (expression_as e r)
    ∙ sym (plain_statement (CStatement-F.Assign p e) r)
statement_layer (CStatement-F.Call p c es) r =
    let args = map (λ e. expression_renamed e r) es in
    statement_at (CStatement-F.Call p c es) r ∙ of-Call (option_map (λ x. place_renamed x r) p) (callee_renamed c r) args
    ∙ ap (λ q. call q (callee_of (callee_renamed c r)) (map expression_of args)) (target_as p r)
    ∙ ap (λ d. call (target_with (option_map place_of p) r) d (map expression_of args)) (callee_as c r)
    ∙ ap (call (target_with (option_map place_of p) r) (callee_with (callee_of c) r)) (expressions_as es r) ∙ sym (plain_statement (CStatement-F.Call p c es) r)
statement_layer (CStatement-F.Block b) r =
    statement_at (CStatement-F.Block b.0) r ∙ of-Block (body_renamed b.0 r) ∙ ap block (b.1 r) ∙ sym (plain_statement (CStatement-F.Block b.0) r)
statement_layer CStatement-F.Break r = statement_at CStatement-F.Break r ∙ of-Break ∙ sym (plain_statement CStatement-F.Break r)
statement_layer CStatement-F.Continue r = statement_at CStatement-F.Continue r ∙ of-Continue ∙ sym (plain_statement CStatement-F.Continue r)
statement_layer (CStatement-F.If e b None) r =
    statement_at (CStatement-F.If e b.0 None) r ∙ of-If-only (expression_renamed e r) (body_renamed b.0 r)
    ∙ ap (λ d. choose d (body_of (body_renamed b.0 r)) (else_of None)) (expression_as e r)
    ∙ ap (λ d. choose (expression_with (expression_of e) r) d (else_of None)) (b.1 r) ∙ sym (plain_statement (CStatement-F.If e b.0 None) r)
statement_layer (CStatement-F.If e b (Some c)) r =
    statement_at (CStatement-F.If e b.0 (Some c.0)) r ∙ of-If (expression_renamed e r) (body_renamed b.0 r) (body_renamed c.0 r)
    ∙ ap (λ d. choose d (body_of (body_renamed b.0 r)) (body_of (body_renamed c.0 r))) (expression_as e r)
    ∙ ap (λ d. choose (expression_with (expression_of e) r) d (body_of (body_renamed c.0 r))) (b.1 r)
    ∙ ap (choose (expression_with (expression_of e) r) (body_with (body_of b.0) r)) (c.1 r) ∙ sym (plain_statement (CStatement-F.If e b.0 (Some c.0)) r)
statement_layer (CStatement-F.Loop b) r =
    statement_at (CStatement-F.Loop b.0) r ∙ of-Loop (body_renamed b.0 r) ∙ ap loop (b.1 r) ∙ sym (plain_statement (CStatement-F.Loop b.0) r)
statement_layer (CStatement-F.Switch e all) r =
    let parts = map (λ (c : Parts). c.0) all in
    let these = all_renamed (map part_renamed parts) r in
    statement_at (CStatement-F.Switch e parts) r ∙ of-Switch (expression_renamed e r) these
    ∙ ap (λ d. select d (switch_in_order (map switch_item_of these))) (expression_as e r)
    ∙ ap (select (expression_with (expression_of e) r)) (parts_as all r) ∙ sym (plain_statement (CStatement-F.Switch e parts) r)
statement_layer (CStatement-F.Return e) r =
    statement_at (CStatement-F.Return e) r ∙ of-Return (option_map (λ x. expression_renamed x r) e) ∙ ap give (given_as e r) ∙ sym (plain_statement (CStatement-F.Return e) r)

part_layer : (y : CSwitchItem-F Statements Parts Bodies)
    → IsPartAs (roll-CSwitchItem (map-CSwitchItem _ _ _ _ _ _ (λ (c : Statements). c.0) (λ (c : Parts). c.0) (λ (c : Bodies). c.0) y))
part_layer (CSwitchItem-F.Case c) r = part_at (CSwitchItem-F.Case c) r ∙ of-Case c ∙ sym (plain_part (CSwitchItem-F.Case c) r)
part_layer CSwitchItem-F.Default r = part_at CSwitchItem-F.Default r ∙ of-Default ∙ sym (plain_part CSwitchItem-F.Default r)
part_layer (CSwitchItem-F.Statement s) r =
    part_at (CSwitchItem-F.Statement s.0) r ∙ of-Statement (statement_renamed s.0 r) ∙ ap inner (s.1 r) ∙ sym (plain_part (CSwitchItem-F.Statement s.0) r)

body_layer : (y : CBody-F Statements Parts Bodies) → IsBodyAs (roll-CBody (map-CBody _ _ _ _ _ _ (λ (c : Statements). c.0) (λ (c : Parts). c.0) (λ (c : Bodies). c.0) y))
body_layer y r =
    let all = map (λ (c : Statements). c.0) y.statements in
    let inside = hiding (local_names y.locals) r in
    body_at (record { locals = y.locals; statements = all }) r ∙ of-made y.locals (all_renamed (map statement_renamed all) inside)
    ∙ ap (body y.locals) (statements_as y.statements inside) ∙ sym (plain_body (record { locals = y.locals; statements = all }) r)

pub body_as : (b : CBody) → IsBodyAs b
body_as = ind-CBody IsStatementAs IsPartAs IsBodyAs
    (λ x y is. subst (λ z. IsStatementAs (roll-CStatement z)) is (statement_layer y))
    (λ x y is. subst (λ z. IsPartAs (roll-CSwitchItem z)) is (part_layer y))
    (λ x y is. subst (λ z. IsBodyAs (roll-CBody z)) is (body_layer y))
