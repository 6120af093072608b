-- What the tokens of a text spell is a tree that has a text: its names are names, its strings are bytes, and there is a pair where there are pairs.
use Rattle.std.proofs.Common.{◌≡◌, ℕ, ◌≤◌, Bool, true, ◌&&◌, List, [], ◌∷◌, ◌++◌, Option, Some, None, map, refl, ap, ◌∙◌, arith}
use Rattle.std.specs.Prelude.{nat_lt, ◌==◌, not}
use Rattle.std.specs.List.{list_all}
use Rattle.std.proofs.lemmas.Bool.{and_parts, and_from}
use Rattle.std.proofs.lemmas.Bool.Decides.{nat_tests}
use Rattle.cc_whole_tokens.specs.declared.mark.Mark.TheVariants as mark
use Rattle.cc_whole_tokens.specs.declared.token.Token.{Token}
use Rattle.cc_whole_tokens.specs.declared.token.Token.TheVariants as token
use Rattle.cc_whole_tokens.specs.Token.{is_name, is_token}
use Rattle.cc_whole_tokens.specs.Cut.{Spelled, is_itself, is_octal, octal_value}
use Rattle.cc_whole_tokens.specs.Cut as cut
use Rattle.cc_whole.specs.declared.types.CVariableType.{CVariableType}
use Rattle.cc_whole.specs.declared.types.CLocalType.{CLocalType}
use Rattle.cc_whole.specs.declared.statement.CLocal.{CLocal}
use Rattle.cc_whole.specs.declared.statement.CBody.{CBody}
use Rattle.cc_whole.specs.declared.statement.CStatement.{CStatement}
use Rattle.cc_whole.specs.declared.statement.CSwitchItem.{CSwitchItem}
use Rattle.cc_whole.specs.declared.unit.CParameter.{CParameter}
use Rattle.cc_whole.specs.declared.unit.CPrototype.{CPrototype}
use Rattle.cc_whole.specs.declared.unit.CPair.{CPair}
use Rattle.cc_whole.specs.declared.unit.CInitialiser.{CInitialiser}
use Rattle.cc_whole.specs.declared.unit.CInitialiser.TheVariants as initialiser
use Rattle.cc_whole.specs.declared.unit.CItem.{CItem}
use Rattle.cc_whole.specs.SpellsTypes as types
use Rattle.cc_whole.specs.SpellsTypes.{sign, type_tokens, result_tokens, SpellsVariable, SpellsLocal}
use Rattle.cc_whole.specs.Spells as g
use Rattle.cc_whole.specs.Spells.{bracketed, SpellsLocals, SpellsBody, SpellsStatements, SpellsStatement, SpellsSwitch}
use Rattle.cc_whole.specs.SpellsItems as i
use Rattle.cc_whole.specs.SpellsItems.{shared_tokens, static_tokens, some_parameters, parameters_tokens, prototype_tokens, SpellsPairs, SpellsInitialiser, SpellsItem, SpellsItems}
use Rattle.cc_whole.specs.Plain.{statement_of, switch_item_of, body_of, in_order, switch_in_order, item_of, items_of}
use Rattle.cc_whole.specs.Spellable.{good_locals, spellable, spellable_statements, spellable_switch, spellable_body, spellable_prototype, spellable_start, spellable_item, spellable_items}
use Rattle.cc_whole_laws.proofs.Views.{of-Assign, of-Call, of-Block, of-Break, of-Continue, of-If, of-If-only, of-Loop, of-Switch, of-Return, of-Case, of-Default, of-Statement, of-made}
use Rattle.cc_whole_read.specs.Good.{good, all_good}
use Rattle.cc_whole_refused.specs.Fronts.{Fronts}
use Rattle.cc_whole_refused.specs.Fronts as fronts

good_parts : (xs ys : List Token) → all_good (xs ++ ys) ≡ true → (all_good xs ≡ true) × (all_good ys ≡ true)
good_parts [] ys h = (refl, h)
good_parts (x ∷ xs) ys h =
    let first = and_parts (good x) (all_good (xs ++ ys)) h in
    let rest = good_parts xs ys first.1 in
    (and_from (good x) (all_good xs) first.0 rest.0, rest.1)

good_head : (t : Token) (ts : List Token) → all_good (t ∷ ts) ≡ true → good t ≡ true
good_head t ts h = (and_parts (good t) (all_good ts) h).0

good_tail : (t : Token) (ts : List Token) → all_good (t ∷ ts) ≡ true → all_good ts ≡ true
good_tail t ts h = (and_parts (good t) (all_good ts) h).1

-- ---- the tokens of a text

itself_small : (b : ℕ) → is_itself b ≡ true → nat_lt b 256 ≡ true
itself_small b h = let below = and_parts (nat_lt 31 b && nat_lt b 127) (not (b == 34) && not (b == 92)) h in
    let small = (and_parts (nat_lt 31 b) (nat_lt b 127) below.0).1 in
    grind (arith, nat_tests)

spelled_bytes : {inside bytes : List ℕ} → Spelled inside bytes → list_all (λ b. nat_lt b 256) bytes ≡ true
spelled_bytes cut.Spelled.none = refl
spelled_bytes (cut.Spelled.itself b bs bytes is h) = and_from (nat_lt b 256) (list_all (λ b. nat_lt b 256) bytes) (itself_small b is) (spelled_bytes h)
spelled_bytes (cut.Spelled.octal x y z bs bytes ox oy oz small h) =
    and_from (nat_lt (octal_value x y z) 256) (list_all (λ b. nat_lt b 256) bytes) (below (octal_value x y z) small) (spelled_bytes h)
  where
    below : (n : ℕ) → n ≤ 255 → nat_lt n 256 ≡ true
    below n h = grind (arith, nat_tests)

good_token : (t : Token) → is_token t ≡ true → good t ≡ true
good_token (token.Mark m) h = refl
good_token token.Dash h = refl
good_token (token.Name name) h = h
good_token (token.Signed digits) h = refl
good_token (token.Unsigned digits) h = refl
good_token (token.Text bytes) h = absurd (cc)
good_token token.Shared h = refl

pub good_fronts : {bs : List ℕ} {ts : List Token} {rest : List ℕ} → Fronts bs ts rest → all_good ts ≡ true
good_fronts (fronts.Fronts.here rest) = refl
good_fronts (fronts.Fronts.blank b bs ts rest is h) = good_fronts h
good_fronts (fronts.Fronts.token t bs ts rest is stop h) = and_from (good t) (all_good ts) (good_token t is) (good_fronts h)
good_fronts (fronts.Fronts.string inside bytes bs ts rest is h) =
    and_from (list_all (λ b. nat_lt b 256) bytes) (all_good ts) (spelled_bytes is) (good_fronts h)

-- ---- statements

local_name : {t : CLocalType} {name : List ℕ} {ts : List Token} → SpellsLocal t name ts → all_good ts ≡ true → is_name name ≡ true
local_name (types.SpellsLocal.scalar t name) h = good_head (token.Name name) [] (good_parts (type_tokens t) (token.Name name ∷ []) h).1
local_name (types.SpellsLocal.ints c cs name d) h = good_head (token.Name name) (token.Mark mark.LeftBracket ∷ (cs ++ sign mark.RightBracket)) h

spelled_locals : {locals : List CLocal} {xs : List Token} → SpellsLocals locals xs → all_good xs ≡ true → good_locals locals ≡ true
spelled_locals g.SpellsLocals.none h = refl
spelled_locals (g.SpellsLocals.more t name ts locals xs d r) h =
    let both = good_parts ts (token.Mark mark.Semicolon ∷ xs) h in
    and_from (is_name name) (good_locals locals) (local_name d both.0) (spelled_locals r both.1)

mutual
  spelled_body : {b : CBody} {xs : List Token} → SpellsBody b xs → all_good xs ≡ true → spellable_body (body_of b) ≡ true
  spelled_body (g.SpellsBody.body locals xs all ys d r) h =
      let both = good_parts xs (ys ++ sign mark.RightBrace) h in
      ap spellable_body (of-made locals all)
      ∙ and_from (good_locals locals) (spellable_statements (in_order (map statement_of all))) (spelled_locals d both.0)
      (spelled_statements r (good_parts ys (sign mark.RightBrace) both.1).0)

  spelled_statements : {all : List CStatement} {xs : List Token} → SpellsStatements all xs → all_good xs ≡ true → spellable_statements (in_order (map statement_of all)) ≡ true
  spelled_statements g.SpellsStatements.none h = refl
  spelled_statements (g.SpellsStatements.more s xs all ys d r) h =
      let both = good_parts xs ys h in
      and_from (spellable (statement_of s)) (spellable_statements (in_order (map statement_of all))) (spelled_statement d both.0) (spelled_statements r both.1)

  spelled_statement : {s : CStatement} {xs : List Token} → SpellsStatement s xs → all_good xs ≡ true → spellable (statement_of s) ≡ true
  spelled_statement (g.SpellsStatement.assign p ps e xs c d) h = ap spellable (of-Assign p e)
  spelled_statement (g.SpellsStatement.calls p ps c cs es xs d f k) h = ap spellable (of-Call p c es)
  spelled_statement (g.SpellsStatement.block b xs d) h = ap spellable (of-Block b) ∙ spelled_body d h
  spelled_statement g.SpellsStatement.leaves h = ap spellable of-Break
  spelled_statement g.SpellsStatement.continues h = ap spellable of-Continue
  spelled_statement (g.SpellsStatement.if_only e xs b ys c d) h =
      ap spellable (of-If-only e b) ∙ and_from (spellable_body (body_of b)) true (spelled_body d (good_parts (bracketed xs) ys h).1) refl
  spelled_statement (g.SpellsStatement.if_else e xs b ys c zs d f k) h =
      let both = good_parts ys (token.Mark mark.Else ∷ zs) (good_parts (bracketed xs) (ys ++ (token.Mark mark.Else ∷ zs)) h).1 in
      ap spellable (of-If e b c) ∙ and_from (spellable_body (body_of b)) (spellable_body (body_of c)) (spelled_body f both.0) (spelled_body k both.1)
  spelled_statement (g.SpellsStatement.loops b xs d) h =
      ap spellable (of-Loop b) ∙ spelled_body d (good_parts (bracketed (token.Mark mark.Semicolon ∷ sign mark.Semicolon)) xs h).1
  spelled_statement (g.SpellsStatement.switches e xs all ys c d) h =
      ap spellable (of-Switch e all)
      ∙ spelled_switch d (good_parts ys (sign mark.RightBrace) (good_parts (bracketed xs) (token.Mark mark.LeftBrace ∷ (ys ++ sign mark.RightBrace)) h).1).0
  spelled_statement g.SpellsStatement.returns h = ap spellable (of-Return None)
  spelled_statement (g.SpellsStatement.gives e xs d) h = ap spellable (of-Return (Some e))

  spelled_switch : {all : List CSwitchItem} {xs : List Token} → SpellsSwitch all xs → all_good xs ≡ true → spellable_switch (switch_in_order (map switch_item_of all)) ≡ true
  spelled_switch g.SpellsSwitch.closed h = refl
  spelled_switch (g.SpellsSwitch.label c cs all ys d r) h =
      ap (λ x. spellable_switch (switch_in_order (x ∷ map switch_item_of all))) (of-Case c)
      ∙ spelled_switch r (good_parts cs (token.Mark mark.Colon ∷ ys) h).1
  spelled_switch (g.SpellsSwitch.otherwise all ys r) h =
      ap (λ x. spellable_switch (switch_in_order (x ∷ map switch_item_of all))) of-Default ∙ spelled_switch r h
  spelled_switch (g.SpellsSwitch.stated s xs all ys d r) h =
      let both = good_parts xs ys h in
      ap (λ x. spellable_switch (switch_in_order (x ∷ map switch_item_of all))) (of-Statement s)
      ∙ and_from (spellable (statement_of s)) (spellable_switch (switch_in_order (map switch_item_of all))) (spelled_statement d both.0) (spelled_switch r both.1)

-- ---- items

abbrev named : List CParameter → Bool
named ps = list_all (λ (p : CParameter). is_name p.name) ps

some_named : (p : CParameter) (ps : List CParameter) → all_good (some_parameters p ps) ≡ true → named (p ∷ ps) ≡ true
some_named p [] h = and_from (is_name p.name) true (good_head (token.Name p.name) [] (good_parts (type_tokens p.ty) (token.Name p.name ∷ []) h).1) refl
some_named p (q ∷ ps) h =
    let rest = (good_parts (type_tokens p.ty) (token.Name p.name ∷ token.Mark mark.Comma ∷ some_parameters q ps) h).1 in
    and_from (is_name p.name) (named (q ∷ ps)) (good_head (token.Name p.name) (token.Mark mark.Comma ∷ some_parameters q ps) rest)
    (some_named q ps (good_tail (token.Name p.name) (token.Mark mark.Comma ∷ some_parameters q ps) rest))

all_named : (ps : List CParameter) → all_good (parameters_tokens ps) ≡ true → named ps ≡ true
all_named [] h = refl
all_named (p ∷ ps) h = some_named p ps h

spelled_prototype : (p : CPrototype) → all_good (prototype_tokens p) ≡ true → spellable_prototype p ≡ true
spelled_prototype p h =
    let inside = parameters_tokens p.parameters in
    let behind = token.Name p.name ∷ bracketed inside in
    let named_on = (good_parts (result_tokens p.result) behind (good_parts (static_tokens p.is_static) (result_tokens p.result ++ behind) h).1).1 in
    let brackets = good_tail (token.Name p.name) (bracketed inside) named_on in
    and_from (is_name p.name) (named p.parameters) (good_head (token.Name p.name) (bracketed inside) named_on)
    (all_named p.parameters (good_parts inside (sign mark.RightParen) brackets).0)

variable_name : {t : CVariableType} {name : List ℕ} {ts : List Token} → SpellsVariable t name ts → all_good ts ≡ true → is_name name ≡ true
variable_name (types.SpellsVariable.scalar t name) h = good_head (token.Name name) [] (good_parts (type_tokens t) (token.Name name ∷ []) h).1
variable_name (types.SpellsVariable.ints c cs name d) h = good_head (token.Name name) (token.Mark mark.LeftBracket ∷ (cs ++ sign mark.RightBracket)) h
variable_name (types.SpellsVariable.chars c cs name d) h = good_head (token.Name name) (token.Mark mark.LeftBracket ∷ (cs ++ sign mark.RightBracket)) h
variable_name (types.SpellsVariable.pairs c cs name d) h = good_head (token.Name name) (token.Mark mark.LeftBracket ∷ (cs ++ sign mark.RightBracket)) h

spelled_start : {s : Option CInitialiser} {xs : List Token} → SpellsInitialiser s xs → all_good xs ≡ true → spellable_start s ≡ true
spelled_start i.SpellsInitialiser.none h = refl
spelled_start (i.SpellsInitialiser.text bytes) h = good_head (token.Text bytes) [] h
spelled_start (i.SpellsInitialiser.pairs all xs d) h = some_pairs d
  where
    some_pairs : {ps : List CPair} {xs : List Token} → SpellsPairs ps xs → spellable_start (Some (initialiser.Pairs ps)) ≡ true
    some_pairs (i.SpellsPairs.last p xs d) = refl
    some_pairs (i.SpellsPairs.more p xs all ys d r) = refl

spelled_item : {x : CItem} {xs : List Token} → SpellsItem x xs → all_good xs ≡ true → spellable_item (item_of x) ≡ true
spelled_item (i.SpellsItem.prototype p) h = spelled_prototype p (good_parts (prototype_tokens p) (sign mark.Semicolon) h).0
spelled_item (i.SpellsItem.extern_prototype p) h = spelled_prototype p (good_parts (prototype_tokens p) (sign mark.Semicolon) h).0
spelled_item (i.SpellsItem.extern_variable t name xs d) h = variable_name d (good_parts xs (sign mark.Semicolon) h).0
spelled_item (i.SpellsItem.function is_shared p b ys d) h =
    let both = good_parts (prototype_tokens p) ys (good_parts (shared_tokens is_shared) (prototype_tokens p ++ ys) h).1 in
    and_from (spellable_prototype p) (spellable_body (body_of b)) (spelled_prototype p both.0) (spelled_body d both.1)
spelled_item (i.SpellsItem.variable is_shared is_static t name xs start ys d e) h =
    let marked = (good_parts (shared_tokens is_shared) (static_tokens is_static ++ (xs ++ (ys ++ sign mark.Semicolon))) h).1 in
    let both = good_parts xs (ys ++ sign mark.Semicolon) (good_parts (static_tokens is_static) (xs ++ (ys ++ sign mark.Semicolon)) marked).1 in
    and_from (is_name name) (spellable_start start) (variable_name d both.0) (spelled_start e (good_parts ys (sign mark.Semicolon) both.1).0)

pub spelled_items : {items : List CItem} {xs : List Token} → SpellsItems items xs → all_good xs ≡ true → spellable_items (items_of items) ≡ true
spelled_items i.SpellsItems.none h = refl
spelled_items (i.SpellsItems.more x xs all ys d r) h =
    let both = good_parts xs ys h in
    and_from (spellable_item (item_of x)) (spellable_items (items_of all)) (spelled_item d both.0) (spelled_items r both.1)
