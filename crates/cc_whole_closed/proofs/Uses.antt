-- What a renamed tree uses are the new names of what it used, but for names that parameters and locals hide.
use Rattle.std.proofs.Common.{◌≡◌, ℕ, Bool, true, false, ◌&&◌, ◌||◌, cond, List, [], ◌∷◌, ◌++◌, Option, Some, None, refl, ap, sym, subst, ◌∙◌}
use Rattle.std.specs.List.{list_all}
use Rattle.std.proofs.lemmas.Bool.{and_parts, and_from, true≢false}
use Rattle.std.proofs.lemmas.List.Folds.{list_any-append, list_all-append}
use Rattle.std.specs.Prelude.{bytes_eq}
use Rattle.cc_whole.specs.declared.statement.CLocal.{CLocal}
use Rattle.cc_whole.specs.Plain.{Place, named, pointed, Expression, constant, load, unary, cast, address, binary, Callee, by_name, by_pointer, Statement, assign, call, block, leave, next, choose, loop, select, give, Statements, done, followed, SwitchItems, closed, labelled, otherwise, stated, Body, body}
use Rattle.cc_whole.specs.Known.{is_in}
use Rattle.cc_whole.specs.Uses.{local_names, use_of, uses_of_place, uses_of, uses_of_all, uses_of_target, uses_of_callee, uses_of_given, uses_of_statement, uses_of_statements, uses_of_switch, uses_of_body}
use Rattle.cc_whole_link.specs.Rename.{Renaming, hiding}
use Rattle.cc_whole_closed.proofs.Plains.{place_with, expression_with, expressions_with, target_with, callee_with, given_with, statement_with, statements_with, switch_with, body_with}

abbrev pub Names : Type 0
Names = List (List ℕ)

-- a renaming that keeps these names, and else is the other one
pub record Hides (r whole : Renaming) (hidden : Names) : Type 0 where
  pub inside : (name : List ℕ) → is_in hidden name ≡ true → r name ≡ name
  pub outside : (name : List ℕ) → is_in hidden name ≡ false → r name ≡ whole name

hidden_name : (names : Names) (r : Renaming) (name : List ℕ) → is_in names name ≡ true → hiding names r name ≡ name
hidden_name names r name h = ap (λ b. cond b name (r name)) h

shown_name : (names : Names) (r : Renaming) (name : List ℕ) → is_in names name ≡ false → hiding names r name ≡ r name
shown_name names r name h = ap (λ b. cond b name (r name)) h

pub first_hidden : (r : Renaming) (names : Names) → Hides (hiding names r) r names
first_hidden r names = record { inside = hidden_name names r; outside = shown_name names r }

or_false : (a b : Bool) → (a || b) ≡ false → (a ≡ false) × (b ≡ false)
or_false true b e = absurd (true≢false e)
or_false false b e = (refl, e)

in_either : (names hidden : Names) (name : List ℕ) → is_in (names ++ hidden) name ≡ (is_in names name || is_in hidden name)
in_either names hidden name = list_any-append (λ other. bytes_eq other name) names hidden

module _ (r whole : Renaming) (names hidden : Names) (h : Hides r whole hidden) where
  within : (name : List ℕ) (b : Bool) → is_in names name ≡ b → (b || is_in hidden name) ≡ true → hiding names r name ≡ name
  within name true is f = hidden_name names r name is
  within name false is f = shown_name names r name is ∙ h.inside name f

  without : (name : List ℕ) → (is_in names name || is_in hidden name) ≡ false → hiding names r name ≡ whole name
  without name e = let parts = or_false (is_in names name) (is_in hidden name) e in shown_name names r name parts.0 ∙ h.outside name parts.1

  more_hidden : Hides (hiding names r) whole (names ++ hidden)
  more_hidden = record {
    inside = λ name e. within name (is_in names name) refl (sym (in_either names hidden name) ∙ e);
    outside = λ name e. without name (sym (in_either names hidden name) ∙ e);
  }

-- ---- tests of lists

pub split : (p : List ℕ → Bool) (xs ys : Names) → list_all p (xs ++ ys) ≡ true → (list_all p xs ≡ true) × (list_all p ys ≡ true)
split p xs ys h = and_parts (list_all p xs) (list_all p ys) (sym (list_all-append p xs ys) ∙ h)

pub join : (p : List ℕ → Bool) (xs ys : Names) → list_all p xs ≡ true → list_all p ys ≡ true → list_all p (xs ++ ys) ≡ true
join p xs ys h k = list_all-append p xs ys ∙ and_from (list_all p xs) (list_all p ys) h k

-- ---- uses

-- the names that pass the test; a name that is used passes it by its new name
module _ (good : List ℕ → Bool) (whole : Renaming) where
  abbrev pub before : List ℕ → Bool
  before name = good (whole name)

  abbrev pub Keeps : Names → Names → Type 0
  Keeps old new = list_all before old ≡ true → list_all good new ≡ true

  one_shown : (name : List ℕ) (hidden : Names) (b : Bool) → good name ≡ true → list_all good (cond b [] (name ∷ [])) ≡ true
  one_shown name hidden true h = refl
  one_shown name hidden false h = and_from (good name) true h refl

  use_kept : (r : Renaming) (hidden : Names) → Hides r whole hidden → (name : List ℕ) → Keeps (use_of name hidden) (use_of (r name) hidden)
  use_kept r hidden h name e = go (is_in hidden name) refl e
    where
      go : (b : Bool) → is_in hidden name ≡ b → list_all before (cond b [] (name ∷ [])) ≡ true → list_all good (use_of (r name) hidden) ≡ true
      go true is f =
          subst (λ n. list_all good (use_of n hidden) ≡ true) (sym (h.inside name is)) (ap (λ b. list_all good (cond b [] (name ∷ []))) is)
      go false is f =
          subst (λ n. list_all good (use_of n hidden) ≡ true) (sym (h.outside name is))
          (one_shown (whole name) hidden (is_in hidden (whole name)) (and_parts (good (whole name)) true f).0)

  two_kept : (a b c d : Names) → Keeps a c → Keeps b d → Keeps (a ++ b) (c ++ d)
  two_kept a b c d f g e = let parts = split before a b e in join good c d (f parts.0) (g parts.1)

  mutual
    place_kept : (r : Renaming) (hidden : Names) → Hides r whole hidden → (p : Place) → Keeps (uses_of_place p hidden) (uses_of_place (place_with p r) hidden)
    place_kept r hidden h (named name) = use_kept r hidden h name
    place_kept r hidden h (pointed t e) = expression_kept r hidden h e

    expression_kept : (r : Renaming) (hidden : Names) → Hides r whole hidden → (e : Expression) → Keeps (uses_of e hidden) (uses_of (expression_with e r) hidden)
    expression_kept r hidden h (constant c) = λ e. refl
    expression_kept r hidden h (load p) = place_kept r hidden h p
    expression_kept r hidden h (unary o e) = expression_kept r hidden h e
    expression_kept r hidden h (cast t e) = expression_kept r hidden h e
    expression_kept r hidden h (address name) = use_kept r hidden h name
    expression_kept r hidden h (binary o a b) =
        two_kept (uses_of a hidden) (uses_of b hidden) (uses_of (expression_with a r) hidden) (uses_of (expression_with b r) hidden) (expression_kept r hidden h a) (expression_kept r hidden h b)

  all_kept : (r : Renaming) (hidden : Names) → Hides r whole hidden → (es : List Expression) → Keeps (uses_of_all es hidden) (uses_of_all (expressions_with es r) hidden)
  all_kept r hidden h [] = λ e. refl
  all_kept r hidden h (e ∷ es) =
      two_kept (uses_of e hidden) (uses_of_all es hidden) (uses_of (expression_with e r) hidden) (uses_of_all (expressions_with es r) hidden) (expression_kept r hidden h e) (all_kept r hidden h es)

  target_kept : (r : Renaming) (hidden : Names) → Hides r whole hidden → (p : Option Place) → Keeps (uses_of_target p hidden) (uses_of_target (target_with p r) hidden)
  target_kept r hidden h None = λ e. refl
  target_kept r hidden h (Some p) = place_kept r hidden h p

  callee_kept : (r : Renaming) (hidden : Names) → Hides r whole hidden → (c : Callee) → Keeps (uses_of_callee c hidden) (uses_of_callee (callee_with c r) hidden)
  callee_kept r hidden h (by_name name) = use_kept r hidden h name
  callee_kept r hidden h (by_pointer s e) = expression_kept r hidden h e

  given_kept : (r : Renaming) (hidden : Names) → Hides r whole hidden → (e : Option Expression) → Keeps (uses_of_given e hidden) (uses_of_given (given_with e r) hidden)
  given_kept r hidden h None = λ e. refl
  given_kept r hidden h (Some e) = expression_kept r hidden h e

  mutual
    statement_kept : (r : Renaming) (hidden : Names) → Hides r whole hidden → (s : Statement) → Keeps (uses_of_statement s hidden) (uses_of_statement (statement_with s r) hidden)
    statement_kept r hidden h (assign p e) =
        two_kept (uses_of_place p hidden) (uses_of e hidden) (uses_of_place (place_with p r) hidden) (uses_of (expression_with e r) hidden) (place_kept r hidden h p) (expression_kept r hidden h e)
    statement_kept r hidden h (call p c es) =
        two_kept (uses_of_target p hidden) (uses_of_callee c hidden ++ uses_of_all es hidden) (uses_of_target (target_with p r) hidden)
        (uses_of_callee (callee_with c r) hidden ++ uses_of_all (expressions_with es r) hidden) (target_kept r hidden h p)
        (two_kept (uses_of_callee c hidden) (uses_of_all es hidden) (uses_of_callee (callee_with c r) hidden) (uses_of_all (expressions_with es r) hidden) (callee_kept r hidden h c) (all_kept r hidden h es))
    statement_kept r hidden h (block b) = body_kept r hidden h b
    statement_kept r hidden h leave = λ e. refl
    statement_kept r hidden h next = λ e. refl
    statement_kept r hidden h (choose e b other) =
        two_kept (uses_of e hidden) (uses_of_body b hidden ++ uses_of_body other hidden) (uses_of (expression_with e r) hidden)
        (uses_of_body (body_with b r) hidden ++ uses_of_body (body_with other r) hidden) (expression_kept r hidden h e)
        (two_kept (uses_of_body b hidden) (uses_of_body other hidden) (uses_of_body (body_with b r) hidden) (uses_of_body (body_with other r) hidden) (body_kept r hidden h b) (body_kept r hidden h other))
    statement_kept r hidden h (loop b) = body_kept r hidden h b
    statement_kept r hidden h (select e items) =
        two_kept (uses_of e hidden) (uses_of_switch items hidden) (uses_of (expression_with e r) hidden) (uses_of_switch (switch_with items r) hidden) (expression_kept r hidden h e) (switch_kept r hidden h items)
    statement_kept r hidden h (give e) = given_kept r hidden h e

    statements_kept : (r : Renaming) (hidden : Names) → Hides r whole hidden → (all : Statements) → Keeps (uses_of_statements all hidden) (uses_of_statements (statements_with all r) hidden)
    statements_kept r hidden h done = λ e. refl
    statements_kept r hidden h (followed s rest) =
        two_kept (uses_of_statement s hidden) (uses_of_statements rest hidden) (uses_of_statement (statement_with s r) hidden) (uses_of_statements (statements_with rest r) hidden) (statement_kept r hidden h s)
        (statements_kept r hidden h rest)

    switch_kept : (r : Renaming) (hidden : Names) → Hides r whole hidden → (items : SwitchItems) → Keeps (uses_of_switch items hidden) (uses_of_switch (switch_with items r) hidden)
    switch_kept r hidden h closed = λ e. refl
    switch_kept r hidden h (labelled c rest) = switch_kept r hidden h rest
    switch_kept r hidden h (otherwise rest) = switch_kept r hidden h rest
    switch_kept r hidden h (stated s rest) =
        two_kept (uses_of_statement s hidden) (uses_of_switch rest hidden) (uses_of_statement (statement_with s r) hidden) (uses_of_switch (switch_with rest r) hidden) (statement_kept r hidden h s)
        (switch_kept r hidden h rest)

    pub body_kept : (r : Renaming) (hidden : Names) → Hides r whole hidden → (b : Body) → Keeps (uses_of_body b hidden) (uses_of_body (body_with b r) hidden)
    body_kept r hidden h (body locals all) =
        statements_kept (hiding (local_names locals) r) (local_names locals ++ hidden) (more_hidden r whole (local_names locals) hidden h) all
