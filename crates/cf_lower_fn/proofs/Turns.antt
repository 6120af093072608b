-- The steps of the walks over statements, and what is told behind the last one.
use Rattle.std.proofs.Common.{◌≡◌, ℕ, ◌+◌, ◌<◌, ◌≤◌, max, List, ◌++◌, length, map, drop, get_or, sym, ap, ◌∙◌, arith, append_assoc, append-nil}
use Rattle.std.proofs.lemmas.List.{at_drop_all}
use Rattle.cf_core.specs.FromClasses.{signature_of}
use Rattle.cf_core.specs.FromTypes.{Tables}
use Rattle.cf_plain.specs.declared.statement.Plain.{Plain as CodePlain}
use Rattle.cf_plain.specs.declared.statement.PlainPart.{PlainPart as CodePart}
use Rattle.cf_plain.specs.Named.{actions, all_actions, part_actions}
use Rattle.cf_plain.specs.Plain.{Action}
use Rattle.cf_plain.specs.View.{parts_in_order}
use Rattle.cf_lower.specs.Functions.{bound, all_bound, parts_bound, nesting, all_nesting}
use Rattle.cf_lower_held.proofs.Forgotten.{drop_item}
use Rattle.cf_lower_held.proofs.Views.{inside_part}
use Rattle.cf_lower_fn.specs.Walks.{built_at, statement_at, statements_at}

most_of_three : (a b c : ℕ) → max (max a b) c ≡ max a (max b c)
most_of_three a b c = omega arith

most_alone : (a : ℕ) → max a 0 ≡ a
most_alone a = omega arith

module _ (tables : Tables) where
  -- ---- statements

  module _ (all : List CodePlain) (i : ℕ) (s : CodePlain) (within : i < length all) (is : s ≡ get_or all i s) where
    pub actions_more : (w v whole : List Action) → v ≡ w ++ actions (statement_at tables s) → w ++ all_actions (statements_at tables (drop i all)) ≡ whole
        → v ++ all_actions (statements_at tables (drop (i + 1) all)) ≡ whole
    actions_more w v whole told so_far =
        let rest = all_actions (statements_at tables (drop (i + 1) all)) in
        ap (λ l. l ++ rest) told ∙ append_assoc w (actions (statement_at tables s)) rest
        ∙ sym (ap (λ l. w ++ all_actions (statements_at tables l)) (drop_item all i s within is)) ∙ so_far

    pub bound_more : (m b n whole : ℕ) → b ≡ bound (statement_at tables s) → n ≡ max m b → max m (all_bound (statements_at tables (drop i all))) ≡ whole
        → max n (all_bound (statements_at tables (drop (i + 1) all))) ≡ whole
    bound_more m b n whole here most so_far =
        let rest = all_bound (statements_at tables (drop (i + 1) all)) in
        ap (λ k. max k rest) (most ∙ ap (max m) here) ∙ most_of_three m (bound (statement_at tables s)) rest
        ∙ sym (ap (λ l. max m (all_bound (statements_at tables l))) (drop_item all i s within is)) ∙ so_far

    pub nesting_more : (m b n whole : ℕ) → b ≡ nesting (statement_at tables s) → n ≡ max m b → max m (all_nesting (statements_at tables (drop i all))) ≡ whole
        → max n (all_nesting (statements_at tables (drop (i + 1) all))) ≡ whole
    nesting_more m b n whole here most so_far =
        let rest = all_nesting (statements_at tables (drop (i + 1) all)) in
        ap (λ k. max k rest) (most ∙ ap (max m) here) ∙ most_of_three m (nesting (statement_at tables s)) rest
        ∙ sym (ap (λ l. max m (all_nesting (statements_at tables l))) (drop_item all i s within is)) ∙ so_far

  module _ (all : List CodePlain) (i : ℕ) (past : length all ≤ i) where
    pub actions_ended : (w whole : List Action) → w ++ all_actions (statements_at tables (drop i all)) ≡ whole → w ≡ whole
    actions_ended w whole so_far =
        sym (append-nil w) ∙ sym (at_drop_all (λ (l : List CodePlain). w ++ all_actions (statements_at tables l)) all i past) ∙ so_far

    pub bound_ended : (m whole : ℕ) → max m (all_bound (statements_at tables (drop i all))) ≡ whole → m ≡ whole
    bound_ended m whole so_far = sym (most_alone m) ∙ sym (at_drop_all (λ (l : List CodePlain). max m (all_bound (statements_at tables l))) all i past) ∙ so_far

    pub nesting_ended : (m whole : ℕ) → max m (all_nesting (statements_at tables (drop i all))) ≡ whole → m ≡ whole
    nesting_ended m whole so_far = sym (most_alone m) ∙ sym (at_drop_all (λ (l : List CodePlain). max m (all_nesting (statements_at tables l))) all i past) ∙ so_far

  -- ---- bases and data members

  abbrev in_parts : List CodePart → List Action
  in_parts l = part_actions (parts_in_order (map (built_at tables) l))

  abbrev bound_in : List CodePart → ℕ
  bound_in l = parts_bound (parts_in_order (map (built_at tables) l))

  module _ (all : List CodePart) (i : ℕ) (p : CodePart) (within : i < length all) (is : p ≡ get_or all i p) where
    pub parts_more : (w v whole : List Action) → v ≡ w ++ all_actions (statements_at tables p.statements) → w ++ in_parts (drop i all) ≡ whole
        → v ++ in_parts (drop (i + 1) all) ≡ whole
    parts_more w v whole told so_far =
        let rest = in_parts (drop (i + 1) all) in
        ap (λ l. l ++ rest) told ∙ append_assoc w (all_actions (statements_at tables p.statements)) rest
        ∙ ap (λ ss. w ++ (all_actions ss ++ rest)) (sym (inside_part tables (signature_of tables) p))
        ∙ sym (ap (λ l. w ++ in_parts l) (drop_item all i p within is)) ∙ so_far

    pub parts_bound_more : (m b n whole : ℕ) → b ≡ all_bound (statements_at tables p.statements) → n ≡ max m b → max m (bound_in (drop i all)) ≡ whole
        → max n (bound_in (drop (i + 1) all)) ≡ whole
    parts_bound_more m b n whole here most so_far =
        let rest = bound_in (drop (i + 1) all) in
        ap (λ k. max k rest) (most ∙ ap (max m) here) ∙ most_of_three m (all_bound (statements_at tables p.statements)) rest
        ∙ ap (λ ss. max m (max (all_bound ss) rest)) (sym (inside_part tables (signature_of tables) p))
        ∙ sym (ap (λ l. max m (bound_in l)) (drop_item all i p within is)) ∙ so_far

  module _ (all : List CodePart) (i : ℕ) (past : length all ≤ i) where
    pub parts_ended : (w whole : List Action) → w ++ in_parts (drop i all) ≡ whole → w ≡ whole
    parts_ended w whole so_far = sym (append-nil w) ∙ sym (at_drop_all (λ (l : List CodePart). w ++ in_parts l) all i past) ∙ so_far

    pub parts_bound_ended : (m whole : ℕ) → max m (bound_in (drop i all)) ≡ whole → m ≡ whole
    parts_bound_ended m whole so_far = sym (most_alone m) ∙ sym (at_drop_all (λ (l : List CodePart). max m (bound_in l)) all i past) ∙ so_far
