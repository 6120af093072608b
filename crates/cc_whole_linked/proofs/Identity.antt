-- A renaming that keeps every name keeps every tree that is not static.
use Rattle.std.proofs.Common.{◌≡◌, ℕ, Bool, true, false, cond, List, [], ◌∷◌, Option, Some, None, option_map, map, refl, ap, sym, subst, ◌∙◌}
use Rattle.cc_whole.specs.declared.expression.CPlace.{CPlace, roll-CPlace}
use Rattle.cc_whole.specs.declared.expression.CPlace.TheVariants as place
use Rattle.cc_whole.specs.declared.expression.CPlace.TheVariants.{rolls-Name, rolls-At}
use Rattle.cc_whole.specs.declared.expression.CExpression.{CExpression, roll-CExpression, ind-CExpression}
use Rattle.cc_whole.specs.declared.expression.CPlace.{ind-CPlace}
use Rattle.cc_whole.specs.declared.expression.CExpression.TheFolds.{map-CExpression, map-CPlace, fold-roll-CExpression, fold-roll-CPlace}
use Rattle.cc_whole.specs.declared.expression.CExpression.TheOpen.{CExpression-F, CPlace-F}
use Rattle.cc_whole.specs.declared.expression.CExpression.TheVariants as tree
use Rattle.cc_whole.specs.declared.expression.CExpression.TheVariants.{rolls-Constant, rolls-Load, rolls-Unary, rolls-Cast, rolls-AddressOf, rolls-Binary}
use Rattle.cc_whole.specs.declared.statement.CCallee.{CCallee}
use Rattle.cc_whole.specs.declared.statement.CCallee.TheVariants as callee
use Rattle.cc_whole.specs.declared.statement.CBody.{CBody, CBody-F, roll-CBody, ind-CBody}
use Rattle.cc_whole.specs.declared.statement.CStatement.{CStatement, roll-CStatement, fold-CStatement}
use Rattle.cc_whole.specs.declared.statement.CStatement.TheFolds.{map-CStatement, map-CSwitchItem, map-CBody, fold-roll-CStatement, fold-roll-CSwitchItem, fold-roll-CBody}
use Rattle.cc_whole.specs.declared.statement.CStatement.TheOpen.{CStatement-F, CSwitchItem-F}
use Rattle.cc_whole.specs.declared.statement.CStatement.TheVariants as statement
use Rattle.cc_whole.specs.declared.statement.CStatement.TheVariants.{rolls-Assign, rolls-Call, rolls-Block, rolls-Break, rolls-Continue, rolls-If, rolls-Loop, rolls-Switch, rolls-Return}
use Rattle.cc_whole.specs.declared.statement.CSwitchItem.{CSwitchItem, roll-CSwitchItem, fold-CSwitchItem}
use Rattle.cc_whole.specs.declared.statement.CSwitchItem.TheVariants as part
use Rattle.cc_whole.specs.declared.statement.CSwitchItem.TheVariants.{rolls-Case, rolls-Default, rolls-Statement}
use Rattle.cc_whole.specs.declared.unit.CPrototype.{CPrototype}
use Rattle.cc_whole.specs.declared.unit.CFunction.{CFunction}
use Rattle.cc_whole.specs.declared.unit.CPair.{CPair}
use Rattle.cc_whole.specs.declared.unit.CInitialiser.{CInitialiser}
use Rattle.cc_whole.specs.declared.unit.CInitialiser.TheVariants as initialiser
use Rattle.cc_whole.specs.declared.unit.CVariable.{CVariable}
use Rattle.cc_whole.specs.declared.unit.CItem.{CItem}
use Rattle.cc_whole.specs.declared.unit.CItem.TheVariants as item
use Rattle.cc_whole.specs.Build.{made_body}
use Rattle.cc_whole.specs.Known.{is_in}
use Rattle.cc_whole.specs.Plain.{item_of}
use Rattle.cc_whole.specs.Uses.{local_names, parameter_names}
use Rattle.cc_whole.specs.ValidUnit.{is_static}
use Rattle.cc_whole_link.specs.Rename.{Renaming, Renames, hiding, place_step, expression_step, place_renamed, expression_renamed, callee_renamed, all_renamed, statement_step, switch_step, body_step, body_renamed, prototype_renamed, pair_renamed, start_renamed, function_renamed, variable_renamed, item_renamed}

abbrev pub same : Renaming
same name = name

hiding-same : (names : List (List ℕ)) → hiding names same ≡ same
hiding-same names = λ j name. by (is_in names name) name j
  where
    by : (b : Bool) (name : List ℕ) → cond b name name ≡ name
    by true name = refl
    by false name = refl

-- ---- expressions

abbrev IsSame : CExpression → Type 0
IsSame e = expression_renamed e same ≡ e

abbrev IsPlaceSame : CPlace → Type 0
IsPlaceSame p = place_renamed p same ≡ p

same-expression : (x : CExpression-F CExpression CPlace) → expression_renamed (roll-CExpression x) same
    ≡ expression_step (map-CExpression _ _ _ _ expression_renamed place_renamed x) same
same-expression x = ap (λ (f : Renaming → CExpression). f same) (fold-roll-CExpression (Renaming → CExpression) (Renaming → CPlace) expression_step place_step x)

same-place : (x : CPlace-F CExpression CPlace) → place_renamed (roll-CPlace x) same ≡ place_step (map-CPlace _ _ _ _ expression_renamed place_renamed x) same
same-place x = ap (λ (f : Renaming → CPlace). f same) (fold-roll-CPlace (Renaming → CExpression) (Renaming → CPlace) expression_step place_step x)

layer : (y : CExpression-F ((e : CExpression) × IsSame e) ((p : CPlace) × IsPlaceSame p))
    → IsSame (roll-CExpression (map-CExpression _ _ _ _ (λ c. c.0) (λ c. c.0) y))
layer (CExpression-F.Constant c) = same-expression (CExpression-F.Constant c) ∙ sym (rolls-Constant c)
layer (CExpression-F.Load p) = same-expression (CExpression-F.Load p.0) ∙ ap tree.Load p.1 ∙ sym (rolls-Load p.0)
layer (CExpression-F.Unary o e) = same-expression (CExpression-F.Unary o e.0) ∙ ap (tree.Unary o) e.1 ∙ sym (rolls-Unary o e.0)
layer (CExpression-F.Cast t e) = same-expression (CExpression-F.Cast t e.0) ∙ ap (tree.Cast t) e.1 ∙ sym (rolls-Cast t e.0)
layer (CExpression-F.AddressOf name) = same-expression (CExpression-F.AddressOf name) ∙ sym (rolls-AddressOf name)
layer (CExpression-F.Binary o a b) =
    same-expression (CExpression-F.Binary o a.0 b.0) ∙ ap (λ x. tree.Binary o x (expression_renamed b.0 same)) a.1 ∙ ap (tree.Binary o a.0) b.1
    ∙ sym (rolls-Binary o a.0 b.0)

place_layer : (y : CPlace-F ((e : CExpression) × IsSame e) ((p : CPlace) × IsPlaceSame p))
    → IsPlaceSame (roll-CPlace (map-CPlace _ _ _ _ (λ c. c.0) (λ c. c.0) y))
place_layer (CPlace-F.Name name) = same-place (CPlace-F.Name name) ∙ sym (rolls-Name name)
place_layer (CPlace-F.At t e) = same-place (CPlace-F.At t e.0) ∙ ap (place.At t) e.1 ∙ sym (rolls-At t e.0)

expression-same : (e : CExpression) → IsSame e
expression-same = ind-CExpression IsSame IsPlaceSame
    (λ x y is. subst (λ z. IsSame (roll-CExpression z)) is (layer y))
    (λ x y is. subst (λ z. IsPlaceSame (roll-CPlace z)) is (place_layer y))

place-same : (p : CPlace) → IsPlaceSame p
place-same = ind-CPlace IsSame IsPlaceSame
    (λ x y is. subst (λ z. IsSame (roll-CExpression z)) is (layer y))
    (λ x y is. subst (λ z. IsPlaceSame (roll-CPlace z)) is (place_layer y))

map-same : {A : Type 0} (f : A → A) → ((a : A) → f a ≡ a) → (xs : List A) → map f xs ≡ xs
map-same f h [] = refl
map-same f h (x ∷ xs) = ap (λ y. y ∷ map f xs) (h x) ∙ ap (λ l. x ∷ l) (map-same f h xs)

option-same : {A : Type 0} (f : A → A) → ((a : A) → f a ≡ a) → (o : Option A) → option_map f o ≡ o
option-same f h None = refl
option-same f h (Some a) = ap Some (h a)

callee-same : (c : CCallee) → callee_renamed c same ≡ c
callee-same (callee.Name name) = refl
callee-same (callee.Pointer s e) = ap (callee.Pointer s) (expression-same e)

-- ---- statements

abbrev statement_renamed : CStatement → Renaming → CStatement
statement_renamed = fold-CStatement (Renames CStatement) (Renames CSwitchItem) (Renames CBody) statement_step switch_step body_step

abbrev part_renamed : CSwitchItem → Renaming → CSwitchItem
part_renamed = fold-CSwitchItem (Renames CStatement) (Renames CSwitchItem) (Renames CBody) statement_step switch_step body_step

abbrev IsStatementSame : CStatement → Type 0
IsStatementSame s = statement_renamed s same ≡ s

abbrev IsPartSame : CSwitchItem → Type 0
IsPartSame s = part_renamed s same ≡ s

abbrev IsBodySame : CBody → Type 0
IsBodySame b = body_renamed b same ≡ b

abbrev Statements : Type 0
Statements = (s : CStatement) × IsStatementSame s

abbrev Parts : Type 0
Parts = (s : CSwitchItem) × IsPartSame s

abbrev Bodies : Type 0
Bodies = (b : CBody) × IsBodySame b

same-statement : (x : CStatement-F CStatement CSwitchItem CBody) → statement_renamed (roll-CStatement x) same
    ≡ statement_step (map-CStatement _ _ _ _ _ _ statement_renamed part_renamed body_renamed x) same
same-statement x = ap (λ (f : Renames CStatement). f same)
    (fold-roll-CStatement (Renames CStatement) (Renames CSwitchItem) (Renames CBody) statement_step switch_step body_step x)

same-part : (x : CSwitchItem-F CStatement CSwitchItem CBody) → part_renamed (roll-CSwitchItem x) same
    ≡ switch_step (map-CSwitchItem _ _ _ _ _ _ statement_renamed part_renamed body_renamed x) same
same-part x = ap (λ (f : Renames CSwitchItem). f same)
    (fold-roll-CSwitchItem (Renames CStatement) (Renames CSwitchItem) (Renames CBody) statement_step switch_step body_step x)

same-body : (x : CBody-F CStatement CSwitchItem CBody) → body_renamed (roll-CBody x) same
    ≡ body_step (map-CBody _ _ _ _ _ _ statement_renamed part_renamed body_renamed x) same
same-body x = ap (λ (f : Renames CBody). f same)
    (fold-roll-CBody (Renames CStatement) (Renames CSwitchItem) (Renames CBody) statement_step switch_step body_step x)

statements-same : (all : List Statements) → all_renamed (map statement_renamed (map (λ (c : Statements). c.0) all)) same ≡ map (λ (c : Statements). c.0) all
statements-same [] = refl
statements-same (s ∷ all) =
    ap (λ x. x ∷ all_renamed (map statement_renamed (map (λ (c : Statements). c.0) all)) same) s.1 ∙ ap (λ l. s.0 ∷ l) (statements-same all)

parts-same : (all : List Parts) → all_renamed (map part_renamed (map (λ (c : Parts). c.0) all)) same ≡ map (λ (c : Parts). c.0) all
parts-same [] = refl
parts-same (s ∷ all) =
    ap (λ x. x ∷ all_renamed (map part_renamed (map (λ (c : Parts). c.0) all)) same) s.1 ∙ ap (λ l. s.0 ∷ l) (parts-same all)

statement_layer : (y : CStatement-F Statements Parts Bodies)
    → IsStatementSame (roll-CStatement (map-CStatement _ _ _ _ _ _ (λ (c : Statements). c.0) (λ (c : Parts). c.0) (λ (c : Bodies). c.0) y))
statement_layer (CStatement-F.Assign p e) =
    same-statement (CStatement-F.Assign p e) ∙ ap (λ q. statement.Assign q (expression_renamed e same)) (place-same p) ∙ ap (statement.Assign p) (expression-same e)
    ∙ sym (rolls-Assign p e)
statement_layer (CStatement-F.Call p c es) =
    same-statement (CStatement-F.Call p c es)
    ∙ ap (λ q. statement.Call q (callee_renamed c same) (map (λ e. expression_renamed e same) es)) (option-same (λ x. place_renamed x same) place-same p)
    ∙ ap (λ d. statement.Call p d (map (λ e. expression_renamed e same) es)) (callee-same c)
    ∙ ap (statement.Call p c) (map-same (λ e. expression_renamed e same) expression-same es) ∙ sym (rolls-Call p c es)
statement_layer (CStatement-F.Block b) = same-statement (CStatement-F.Block b.0) ∙ ap statement.Block b.1 ∙ sym (rolls-Block b.0)
statement_layer CStatement-F.Break = same-statement CStatement-F.Break ∙ sym rolls-Break
statement_layer CStatement-F.Continue = same-statement CStatement-F.Continue ∙ sym rolls-Continue
statement_layer (CStatement-F.If e b None) =
    same-statement (CStatement-F.If e b.0 None) ∙ ap (λ d. statement.If d (body_renamed b.0 same) None) (expression-same e) ∙ ap (λ d. statement.If e d None) b.1
    ∙ sym (rolls-If e b.0 None)
statement_layer (CStatement-F.If e b (Some c)) =
    same-statement (CStatement-F.If e b.0 (Some c.0))
    ∙ ap (λ d. statement.If d (body_renamed b.0 same) (Some (body_renamed c.0 same))) (expression-same e)
    ∙ ap (λ d. statement.If e d (Some (body_renamed c.0 same))) b.1 ∙ ap (λ d. statement.If e b.0 (Some d)) c.1 ∙ sym (rolls-If e b.0 (Some c.0))
statement_layer (CStatement-F.Loop b) = same-statement (CStatement-F.Loop b.0) ∙ ap statement.Loop b.1 ∙ sym (rolls-Loop b.0)
statement_layer (CStatement-F.Switch e all) =
    let parts = map (λ (c : Parts). c.0) all in
    same-statement (CStatement-F.Switch e parts) ∙ ap (λ d. statement.Switch d (all_renamed (map part_renamed parts) same)) (expression-same e)
    ∙ ap (statement.Switch e) (parts-same all) ∙ sym (rolls-Switch e parts)
statement_layer (CStatement-F.Return e) =
    same-statement (CStatement-F.Return e) ∙ ap statement.Return (option-same (λ x. expression_renamed x same) expression-same e) ∙ sym (rolls-Return e)

part_layer : (y : CSwitchItem-F Statements Parts Bodies)
    → IsPartSame (roll-CSwitchItem (map-CSwitchItem _ _ _ _ _ _ (λ (c : Statements). c.0) (λ (c : Parts). c.0) (λ (c : Bodies). c.0) y))
part_layer (CSwitchItem-F.Case c) = same-part (CSwitchItem-F.Case c) ∙ sym (rolls-Case c)
part_layer CSwitchItem-F.Default = same-part CSwitchItem-F.Default ∙ sym rolls-Default
part_layer (CSwitchItem-F.Statement s) = same-part (CSwitchItem-F.Statement s.0) ∙ ap part.Statement s.1 ∙ sym (rolls-Statement s.0)

body_layer : (y : CBody-F Statements Parts Bodies)
    → IsBodySame (roll-CBody (map-CBody _ _ _ _ _ _ (λ (c : Statements). c.0) (λ (c : Parts). c.0) (λ (c : Bodies). c.0) y))
body_layer y =
    let all = map (λ (c : Statements). c.0) y.statements in
    same-body (record { locals = y.locals; statements = all })
    ∙ ap (λ r. made_body y.locals (all_renamed (map statement_renamed all) r)) (hiding-same (local_names y.locals))
    ∙ ap (made_body y.locals) (statements-same y.statements)

body-same : (b : CBody) → IsBodySame b
body-same = ind-CBody IsStatementSame IsPartSame IsBodySame
    (λ x y is. subst (λ z. IsStatementSame (roll-CStatement z)) is (statement_layer y))
    (λ x y is. subst (λ z. IsPartSame (roll-CSwitchItem z)) is (part_layer y))
    (λ x y is. subst (λ z. IsBodySame (roll-CBody z)) is (body_layer y))

-- ---- items

prototype-same : (p : CPrototype) → p.is_static ≡ false → prototype_renamed p same ≡ p
prototype-same p e = ap (λ b. record p { is_static = b }) (sym e)

pair-same : (p : CPair) → pair_renamed p same ≡ p
pair-same p = ap (λ f. record p { function = f }) (option-same same (λ name. refl) p.function)

start-same : (s : CInitialiser) → start_renamed s same ≡ s
start-same (initialiser.Text bytes) = refl
start-same (initialiser.Pairs ps) = ap initialiser.Pairs (map-same (λ p. pair_renamed p same) pair-same ps)

function-same : (f : CFunction) → f.prototype.is_static ≡ false → function_renamed f same ≡ f
function-same f e =
    ap (λ p. record f { prototype = p; body = body_renamed f.body (hiding (parameter_names f.prototype.parameters) same) }) (prototype-same f.prototype e)
    ∙ ap (λ r. record f { body = body_renamed f.body r }) (hiding-same (parameter_names f.prototype.parameters))
    ∙ ap (λ b. record f { body = b }) (body-same f.body)

variable-same : (v : CVariable) → v.is_static ≡ false → variable_renamed v same ≡ v
variable-same v e =
    ap (λ b. record v { is_static = b; initialiser = option_map (λ s. start_renamed s same) v.initialiser }) (sym e)
    ∙ ap (λ i. record v { initialiser = i }) (option-same (λ s. start_renamed s same) start-same v.initialiser)

pub item-same : (i : CItem) → is_static (item_of i) ≡ false → item_renamed i same ≡ i
item-same (item.Prototype p) e = ap item.Prototype (prototype-same p e)
item-same (item.Extern t name) e = refl
item-same (item.Function f) e = ap item.Function (function-same f e)
item-same (item.Variable v) e = ap item.Variable (variable-same v e)
