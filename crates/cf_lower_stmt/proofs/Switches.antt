-- The steps of the walk over the statements of a switch.
use Rattle.std.proofs.Common.{◌≡◌, ℕ, ◌+◌, ◌<◌, ◌≤◌, List, [], ◌∷◌, ◌++◌, length, drop, get_or, sym, ap, ◌∙◌, append_assoc}
use Rattle.std.proofs.lemmas.List.{at_drop_all}
use Rattle.cc_whole.specs.Plain as c
use Rattle.cc_whole.specs.Plain.{Expression, Statement, SwitchItem, SwitchItems, switch_in_order}
use Rattle.cc_whole.specs.declared.statement.CStatement.{CStatement}
use Rattle.cc_whole.specs.declared.statement.CSwitchItem.{CSwitchItem}
use Rattle.cf_plain.specs.declared.statement.Plain.{Plain as CodePlain}
use Rattle.cf_plain.specs.Plain.{Plains, more, switch}
use Rattle.cf_lower.specs.Expressions.{integer_in}
use Rattle.cf_lower.specs.Kept.{Keeping, untouched}
use Rattle.cf_lower.specs.Statements.{Inside, flag_set, if_flag, in_switch, items, lowered}
use Rattle.cf_lower_held.specs.declared.scene.Scene.{Scene}
use Rattle.cf_lower_held.specs.Scenes.{statement_in, statements_in}
use Rattle.cf_lower_held.proofs.Forgotten.{drop_item}
use Rattle.cf_lower_stmt.specs.Steps.{in_front, written, written_items}
use Rattle.cf_lower_stmt.proofs.Labels.{front_all}

pub items_begun : (x : Inside) (g h : Keeping) (ss : Plains) (none : List CSwitchItem) → none ≡ [] → h ≡ g → in_front (written_items none) (items ss x g h) ≡ items ss x g g
items_begun x g h ss none empty same = ap (λ l. in_front (written_items l) (items ss x g h)) empty ∙ ap (items ss x g) same

module _ (s : Scene) (x : Inside) (g h : Keeping) (all : List CodePlain) (i : ℕ) where
  pub items_turn : (one : CodePlain) (xs : List SwitchItem) (made whole : SwitchItems) → i < length all → one ≡ get_or all i one
      → made ≡ in_front xs (items (more (statement_in s one) (statements_in s (drop (i + 1) all))) x g h) → in_front xs (items (statements_in s (drop i all)) x g h) ≡ whole → made ≡ whole
  items_turn one xs made whole within is turned so_far = turned ∙ sym (ap (λ l. in_front xs (items (statements_in s l) x g h)) (drop_item all i one within is)) ∙ so_far

  pub items_ended : (xs : List SwitchItem) (whole : List CodePlain) → all ≡ whole → length all ≤ i
      → in_front xs (items (statements_in s (drop i all)) x g h) ≡ items (statements_in s all) x g g → switch_in_order xs ≡ items (statements_in s whole) x g g
  items_ended xs whole same past so_far =
      sym (front_all xs) ∙ sym (at_drop_all (λ (l : List CodePlain). in_front xs (items (statements_in s l) x g h)) all i past) ∙ so_far
      ∙ ap (λ l. items (statements_in s l) x g g) same

-- a switch, step by step
pub switched_is : (x y : Inside) (r : ℕ) (ss : Plains) (g h : Keeping) (is : SwitchItems) (e : Expression) (a b w v : List Statement) (none onward : List CStatement)
    → a ≡ w ++ flag_set x.depth 0 ∷ []
    → h ≡ untouched x.locals g ss
    → y ≡ in_switch x
    → is ≡ items ss y h h
    → e ≡ integer_in r
    → b ≡ a ++ c.select e is ∷ []
    → none ≡ []
    → written onward ≡ written none ++ x.going_on
    → v ≡ b ++ if_flag x.depth (written onward) ∷ []
    → v ≡ w ++ lowered (switch r ss) x g
switched_is x y r ss g h is e a b w v none onward flag forgot there made tested selected empty gone last =
    let k = untouched x.locals g ss in
    let begun = flag_set x.depth 0 in
    last ∙ ap (λ l. b ++ if_flag x.depth l ∷ []) (gone ∙ ap (λ l. written l ++ x.going_on) empty)
    ∙ ap (λ l. l ++ if_flag x.depth x.going_on ∷ []) (selected ∙ ap (λ l. l ++ c.select e is ∷ []) flag ∙ append_assoc w (begun ∷ []) (c.select e is ∷ []))
    ∙ append_assoc w (begun ∷ c.select e is ∷ []) (if_flag x.depth x.going_on ∷ [])
    ∙ ap (λ y. w ++ begun ∷ c.select y is ∷ if_flag x.depth x.going_on ∷ []) tested
    ∙ ap (λ y. w ++ begun ∷ c.select (integer_in r) y ∷ if_flag x.depth x.going_on ∷ []) (made ∙ ap (λ z. items ss z h h) there ∙ ap (λ l. items ss (in_switch x) l l) forgot)
