-- The labels and statements of a switch, put in front of others.
use Rattle.std.proofs.Common.{◌≡◌, ℕ, ◌+◌, ◌<◌, List, [], ◌∷◌, ◌++◌, length, map, drop, get_or, Option, Some, None, refl, sym, ap, ◌∙◌, append_assoc}
use Rattle.std.specs.Option.{option_map}
use Rattle.cc_whole.specs.Plain as c
use Rattle.cc_whole.specs.Plain.{Statement, SwitchItem, SwitchItems, label, default_label, inner, switch_in_order, switch_item_of}
use Rattle.cc_whole.specs.declared.statement.CStatement.{CStatement}
use Rattle.cc_whole.specs.declared.statement.CSwitchItem.{CSwitchItem}
use Rattle.cf_plain.specs.Plain as plain
use Rattle.cf_plain.specs.Plain.{Plain, Plains, more, case_label}
use Rattle.cf_lower.specs.Kept.{Keeping, after}
use Rattle.cf_lower.specs.Statements.{Inside, items, lowered, stated_all}
use Rattle.cf_lower_held.specs.Holds.{erasing}
use Rattle.cf_lower_held.proofs.Forgotten.{drop_item}
use Rattle.cf_lower_stmt.specs.Steps.{in_front, label_in, written}
use Rattle.cf_lower_stmt.proofs.Erasing.{items_second}

pub front_all : (xs : List SwitchItem) → in_front xs c.closed ≡ switch_in_order xs
front_all [] = refl
front_all (label k ∷ xs) = ap (c.labelled k) (front_all xs)
front_all (default_label ∷ xs) = ap c.otherwise (front_all xs)
front_all (inner s ∷ xs) = ap (c.stated s) (front_all xs)

front_both : (xs ys : List SwitchItem) (rest : SwitchItems) → in_front (xs ++ ys) rest ≡ in_front xs (in_front ys rest)
front_both [] ys rest = refl
front_both (label k ∷ xs) ys rest = ap (c.labelled k) (front_both xs ys rest)
front_both (default_label ∷ xs) ys rest = ap c.otherwise (front_both xs ys rest)
front_both (inner s ∷ xs) ys rest = ap (c.stated s) (front_both xs ys rest)

pub front_stated : (ss : List Statement) (rest : SwitchItems) → in_front (map inner ss) rest ≡ stated_all ss rest
front_stated [] rest = refl
front_stated (s ∷ ss) rest = ap (c.stated s) (front_stated ss rest)

-- ---- a list of statements, item by item

pub stated_more : (xs ys whole : List SwitchItem) (all : List CStatement) (n k : ℕ) (s : CStatement) → n < length all → s ≡ get_or all n s
    → xs ++ map inner (written (drop n all)) ≡ whole → ys ≡ xs ++ inner (c.statement_of s) ∷ [] → k ≡ n + 1 → ys ++ map inner (written (drop k all)) ≡ whole
stated_more xs ys whole all n k s within is so_far pushed next =
    ap (λ l. l ++ map inner (written (drop k all))) pushed ∙ append_assoc xs (inner (c.statement_of s) ∷ []) (map inner (written (drop k all)))
    ∙ ap (λ m. xs ++ (inner (c.statement_of s) ∷ map inner (written (drop m all)))) next
    ∙ sym (ap (λ l. xs ++ map inner (written l)) (drop_item all n s within is)) ∙ so_far

-- ---- a statement of a switch, by whether it is a label

same_label : (a b : SwitchItem) → Some a ≡ Some b → a ≡ b
same_label a b e = cc

module _ (x : Inside) (g h : Keeping) (rest : Plains) where
  at_label : (s : Plain) (l : SwitchItem) → label_in s ≡ Some l → items (more s rest) x g h ≡ in_front (l ∷ []) (items rest x g g)
  at_label (case_label z) l e = ap (λ k. in_front (k ∷ []) (items rest x g g)) (same_label _ l e)
  at_label plain.default_label l e = ap (λ k. in_front (k ∷ []) (items rest x g g)) (same_label _ l e)
  at_label s l e = cc

  at_statement : (s : Plain) → label_in s ≡ None → items (more s rest) x g h ≡ stated_all (lowered s x h) (items rest x g (after x.locals s h))
  at_statement (case_label z) e = cc
  at_statement plain.default_label e = cc
  at_statement (plain.act a) e = refl
  at_statement (plain.set r a) e = refl
  at_statement (plain.branch r ss ts) e = refl
  at_statement (plain.loop ss ts) e = refl
  at_statement (plain.switch r ss) e = refl
  at_statement plain.leave e = refl
  at_statement plain.continue e = refl
  at_statement (plain.give r) e = refl
  at_statement (plain.parts ps) e = refl

  front_label : (xs ys : List SwitchItem) (s : Plain) (l : SwitchItem) (k : Keeping) → Some l ≡ label_in s → ys ≡ xs ++ l ∷ [] → k ≡ g
      → in_front ys (items rest x g k) ≡ in_front xs (items (more s rest) x g h)
  front_label xs ys s l k e pushed same =
      ap (λ j. in_front ys (items rest x g j)) same ∙ ap (λ l. in_front l (items rest x g g)) pushed ∙ front_both xs (l ∷ []) (items rest x g g) ∙ ap (in_front xs) (sym (at_label s l (sym e)))

  front_statement : (xs ys : List SwitchItem) (s : Plain) (none : List CStatement) (ss : List Statement) (k : Keeping) → None ≡ label_in s → none ≡ []
      → ss ≡ written none ++ lowered s x h → k ≡ erasing (after x.locals s h) → ys ≡ xs ++ map inner ss → in_front ys (items rest x g k) ≡ in_front xs (items (more s rest) x g h)
  front_statement xs ys s none ss k e empty code held pushed =
      ap (λ l. in_front l (items rest x g k)) pushed ∙ front_both xs (map inner ss) (items rest x g k) ∙ ap (in_front xs) (front_stated ss (items rest x g k))
      ∙ ap (λ l. in_front xs (stated_all l (items rest x g k))) (code ∙ ap (λ l. written l ++ lowered s x h) empty)
      ∙ ap (λ j. in_front xs (stated_all (lowered s x h) (items rest x g j))) held
      ∙ ap (λ j. in_front xs (stated_all (lowered s x h) j)) (items_second rest x g (after x.locals s h)) ∙ ap (in_front xs) (sym (at_statement s (sym e)))

  -- ---- as the code finds the label

  module _ (s : Plain) (o : Option CSwitchItem) (told : option_map switch_item_of o ≡ label_in s) (k : Keeping) where
    pub label_turn : (l : CSwitchItem) (xs ys : List SwitchItem) → o ≡ Some l → ys ≡ xs ++ switch_item_of l ∷ [] → k ≡ g
        → in_front ys (items rest x g k) ≡ in_front xs (items (more s rest) x g h)
    label_turn l xs ys found pushed same = front_label xs ys s (switch_item_of l) k (sym (ap (option_map switch_item_of) found) ∙ told) pushed same

    pub statement_turn : (none code : List CStatement) (xs ys : List SwitchItem) → o ≡ None → none ≡ [] → written code ≡ written none ++ lowered s x h → k ≡ erasing (after x.locals s h)
        → ys ≡ xs ++ map inner (written code) → in_front ys (items rest x g k) ≡ in_front xs (items (more s rest) x g h)
    statement_turn none code xs ys absent empty stated held pushed =
        front_statement xs ys s none (written code) k (sym (ap (option_map switch_item_of) absent) ∙ told) empty stated held pushed
