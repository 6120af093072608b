-- The items that linking keeps have a text.
use Rattle.std.proofs.Common.{◌≡◌, ℕ, suc, Bool, true, false, ◌&&◌, cond, List, [], ◌∷◌, ◌++◌, Option, Some, None, option_map, map, refl, ap, ◌∙◌}
use Rattle.std.specs.Prelude.{bytes_eq, codes}
use Rattle.std.specs.List.{list_all}
use Rattle.std.proofs.lemmas.Bool.{and_parts, and_from}
use Rattle.std.proofs.lemmas.List.Folds.{list_all-append}
use Rattle.cc_whole_tokens.specs.Token.{is_name}
use Rattle.cc_whole.specs.declared.unit.CParameter.{CParameter}
use Rattle.cc_whole.specs.declared.unit.CInitialiser.{CInitialiser}
use Rattle.cc_whole.specs.declared.unit.CInitialiser.TheVariants as initialiser
use Rattle.cc_whole.specs.declared.unit.CItem.{CItem}
use Rattle.cc_whole.specs.declared.unit.CItem.TheVariants as item
use Rattle.cc_whole.specs.declared.unit.CUnit.{CUnit}
use Rattle.cc_whole.specs.declared.types.CType.TheVariants as ty
use Rattle.cc_whole.specs.declared.types.CLocalType.TheVariants as «local»
use Rattle.cc_whole.specs.declared.expression.CPlace.TheVariants as place
use Rattle.cc_whole.specs.declared.expression.CExpression.TheVariants as tree
use Rattle.cc_whole.specs.declared.statement.CStatement.{CStatement}
use Rattle.cc_whole.specs.declared.statement.CStatement.TheVariants as statement
use Rattle.cc_whole.specs.declared.statement.CCallee.TheVariants as callee
use Rattle.cc_whole.specs.Plain.{Statement, assign, call, block, leave, next, choose, loop, select, give, Statements, done, followed, SwitchItems, closed, labelled, otherwise, stated, Body, body, item_of, items_of, statement_of, in_order, body_of}
use Rattle.cc_whole.specs.Spellable.{good_locals, spellable, spellable_statements, spellable_switch, spellable_body, spellable_prototype, spellable_start, spellable_item, spellable_items, spellable_version}
use Rattle.cc_whole.specs.Uses.{local_names, parameter_names}
use Rattle.cc_whole.specs.Valid.{first_fault}
use Rattle.cc_whole.specs.ValidUnit.{keeps, valid_items, valid_unit}
use Rattle.cc_whole_laws.proofs.Views.{of-Call, of-Return, of-made}
use Rattle.cc_whole_link.specs.Rename.{Renaming, hiding, start_renamed, item_renamed}
use Rattle.cc_whole_link.specs.Placed.{Placed, placed, placed_items, placed_units, statics, static_renaming, its_name, old_name, defines_it}
use Rattle.cc_whole_link.specs.Link.{repeats, kept_items, calls_of, added_main}
use Rattle.cc_whole_closed.proofs.Plains.{statement_with, statements_with, switch_with, body_with}
use Rattle.cc_whole_closed.proofs.Renamed.{body_as}
use Rattle.cc_whole_linked_valid.proofs.Names.{Names}
use Rattle.cc_whole_linked_valid.proofs.Words.{unit_name}

both_same : (a b c d : Bool) → c ≡ a → d ≡ b → (c && d) ≡ (a && b)
both_same a b c d e f = ap (λ x. x && d) e ∙ ap (λ x. a && x) f

mutual
  statement_same : (s : Statement) (r : Renaming) → spellable (statement_with s r) ≡ spellable s
  statement_same (assign p e) r = refl
  statement_same (call p c es) r = refl
  statement_same (block b) r = body_same b r
  statement_same leave r = refl
  statement_same next r = refl
  statement_same (choose e b other) r = both_same (spellable_body b) (spellable_body other) (spellable_body (body_with b r)) (spellable_body (body_with other r)) (body_same b r) (body_same other r)
  statement_same (loop b) r = body_same b r
  statement_same (select e items) r = switch_same items r
  statement_same (give e) r = refl

  statements_same : (all : Statements) (r : Renaming) → spellable_statements (statements_with all r) ≡ spellable_statements all
  statements_same done r = refl
  statements_same (followed s rest) r =
      both_same (spellable s) (spellable_statements rest) (spellable (statement_with s r)) (spellable_statements (statements_with rest r)) (statement_same s r) (statements_same rest r)

  switch_same : (items : SwitchItems) (r : Renaming) → spellable_switch (switch_with items r) ≡ spellable_switch items
  switch_same closed r = refl
  switch_same (labelled c rest) r = switch_same rest r
  switch_same (otherwise rest) r = switch_same rest r
  switch_same (stated s rest) r =
      both_same (spellable s) (spellable_switch rest) (spellable (statement_with s r)) (spellable_switch (switch_with rest r)) (statement_same s r) (switch_same rest r)

  body_same : (b : Body) (r : Renaming) → spellable_body (body_with b r) ≡ spellable_body b
  body_same (body locals all) r = ap (λ x. good_locals locals && x) (statements_same all (hiding (local_names locals) r))

start_same : (s : Option CInitialiser) (r : Renaming) → spellable_start (option_map (λ x. start_renamed x r) s) ≡ spellable_start s
start_same None r = refl
start_same (Some (initialiser.Text bytes)) r = refl
start_same (Some (initialiser.Pairs [])) r = refl
start_same (Some (initialiser.Pairs (p ∷ ps))) r = refl

module _ (unit : ℕ) (names : Names) where
  abbrev r : Renaming
  r = static_renaming unit names

  item_spelled : (i : CItem) → spellable_item (item_of i) ≡ true → spellable_item (item_of (item_renamed i r)) ≡ true
  item_spelled (item.Prototype p) e =
      let parts = and_parts (is_name p.name) (list_all (λ (x : CParameter). is_name x.name) p.parameters) e in
      and_from (is_name (r p.name)) (list_all (λ (x : CParameter). is_name x.name) p.parameters) (unit_name unit names p.name parts.0) parts.1
  item_spelled (item.Extern t name) e = unit_name unit names name e
  item_spelled (item.Function f) e =
      let p = f.prototype in
      let hidden = hiding (parameter_names p.parameters) r in
      let parts = and_parts (spellable_prototype p) (spellable_body (body_of f.body)) e in
      let head = and_parts (is_name p.name) (list_all (λ (x : CParameter). is_name x.name) p.parameters) parts.0 in
      and_from _ _ (and_from (is_name (r p.name)) (list_all (λ (x : CParameter). is_name x.name) p.parameters) (unit_name unit names p.name head.0) head.1)
      (ap spellable_body (body_as f.body hidden) ∙ body_same (body_of f.body) hidden ∙ parts.1)
  item_spelled (item.Variable v) e =
      let parts = and_parts (is_name v.name) (spellable_start v.initialiser) e in
      and_from (is_name (r v.name)) _ (unit_name unit names v.name parts.0) (start_same v.initialiser r ∙ parts.1)

  items_spelled : (items : List CItem) → spellable_items (items_of items) ≡ true → list_all (λ (p : Placed). spellable_item (item_of p.now)) (map (placed unit names) items) ≡ true
  items_spelled [] e = refl
  items_spelled (i ∷ items) e =
      let parts = and_parts (spellable_item (item_of i)) (spellable_items (items_of items)) e in
      and_from (spellable_item (item_of (item_renamed i r))) _ (item_spelled i parts.0) (items_spelled items parts.1)

units_spelled : (n : ℕ) (units : List CUnit) → list_all valid_unit units ≡ true → list_all (λ (p : Placed). spellable_item (item_of p.now)) (placed_units n units) ≡ true
units_spelled n [] e = refl
units_spelled n (u ∷ units) e =
    let parts = and_parts (valid_unit u) (list_all valid_unit units) e in
    let whole = (and_parts (spellable_version u.version) (valid_items (items_of u.items)) parts.0).1 in
    let own = (and_parts (spellable_items (items_of u.items)) (keeps (first_fault (items_of u.items))) whole).0 in
    list_all-append (λ (p : Placed). spellable_item (item_of p.now)) (placed_items n u.items) (placed_units (suc n) units)
    ∙ and_from _ _ (items_spelled n (statics (items_of u.items)) u.items own) (units_spelled (suc n) units parts.1)

kept_spelled : (before rest : List Placed) (tail : List CItem) → list_all (λ (p : Placed). spellable_item (item_of p.now)) rest ≡ true → spellable_items (items_of tail) ≡ true
    → spellable_items (items_of (kept_items before rest ++ tail)) ≡ true
kept_spelled before [] tail e f = f
kept_spelled before (i ∷ rest) tail e f =
    let parts = and_parts (spellable_item (item_of i.now)) (list_all (λ (p : Placed). spellable_item (item_of p.now)) rest) e in
    go (kept_spelled (before ++ i ∷ []) rest tail parts.1 f) parts.0 (repeats before i)
  where
    go : spellable_items (items_of (kept_items (before ++ i ∷ []) rest ++ tail)) ≡ true → spellable_item (item_of i.now) ≡ true → (b : Bool)
        → spellable_items (items_of (cond b (kept_items (before ++ i ∷ []) rest) (i.now ∷ kept_items (before ++ i ∷ []) rest) ++ tail)) ≡ true
    go again own true = again
    go again own false = and_from (spellable_item (item_of i.now)) (spellable_items (items_of (kept_items (before ++ i ∷ []) rest ++ tail))) own again

pub spelled : (units : List CUnit) (tail : List CItem) → list_all valid_unit units ≡ true → spellable_items (items_of tail) ≡ true
    → spellable_items (items_of (kept_items [] (placed_units 1 units) ++ tail)) ≡ true
spelled units tail valid e = kept_spelled [] (placed_units 1 units) tail (units_spelled 1 units valid) e

-- ---- the added `main`

abbrev AllSpelled : List CStatement → Type 0
AllSpelled [] = Unit {0}
AllSpelled (s ∷ ss) = (spellable (statement_of s) ≡ true) × AllSpelled ss

both_spelled : (ss ts : List CStatement) → AllSpelled ss → AllSpelled ts → AllSpelled (ss ++ ts)
both_spelled [] ts a b = b
both_spelled (s ∷ ss) ts a b = (a.0, both_spelled ss ts a.1 b)

in_order_spelled : (ss : List CStatement) → AllSpelled ss → spellable_statements (in_order (map statement_of ss)) ≡ true
in_order_spelled [] a = refl
in_order_spelled (s ∷ ss) a = and_from (spellable (statement_of s)) (spellable_statements (in_order (map statement_of ss))) a.0 (in_order_spelled ss a.1)

calls_spelled : (word : List ℕ) (ps : List Placed) → AllSpelled (calls_of word ps)
calls_spelled word [] = tt
calls_spelled word (p ∷ ps) = go (defines_it p && (p.is_static && bytes_eq (old_name p) word)) (calls_spelled word ps)
  where
    go : (b : Bool) → AllSpelled (calls_of word ps) → AllSpelled (cond b (statement.Call None (callee.Name (its_name p)) [] ∷ calls_of word ps) (calls_of word ps))
    go true again = (ap spellable (of-Call None (callee.Name (its_name p)) []), again)
    go false again = again

pub added_spelled : (all : List Placed) → spellable_items (items_of (added_main all ∷ [])) ≡ true
added_spelled all =
    let ending = statement.Call (Some (place.Name (codes "status"))) (callee.Name (codes "__main")) [] ∷ statement.Return (Some (tree.Load (place.Name (codes "status")))) ∷ [] in
    let statements = calls_of (codes "__hci") all ++ (calls_of (codes "__sti") all ++ ending) in
    let own : AllSpelled ending =
    (ap spellable (of-Call (Some (place.Name (codes "status"))) (callee.Name (codes "__main")) []), (ap spellable (of-Return (Some (tree.Load (place.Name (codes "status"))))), tt)) in
    ap (λ b. spellable_body b && true) (of-made (record { ty = «local».Scalar ty.Int; name = codes "status" } ∷ []) statements)
    ∙ and_from (spellable_statements (in_order (map statement_of statements))) true
    (in_order_spelled statements (both_spelled (calls_of (codes "__hci") all) _ (calls_spelled (codes "__hci") all) (both_spelled (calls_of (codes "__sti") all) ending (calls_spelled (codes "__sti") all) own))) refl
