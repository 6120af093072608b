-- What the code decides of used names is that each passes the definition's test.
use Rattle.std.proofs.Common.{◌≡◌, ℕ, Bool, true, false, not, ◌&&◌, ◌||◌, if◌then◌else◌, List, [], ◌∷◌, ◌++◌, Option, Some, None, refl, ap, ◌∙◌, sym}
use Rattle.std.specs.Prelude.{bytes_eq, codes}
use Rattle.std.specs.List.{list_all}
use Rattle.std.proofs.lemmas.List.Folds.{list_all-append}
use Rattle.cc_whole.specs.declared.unit.CPair.{CPair}
use Rattle.cc_whole.specs.declared.unit.CInitialiser.{CInitialiser}
use Rattle.cc_whole.specs.declared.unit.CInitialiser.TheVariants as initialiser
use Rattle.cc_whole.specs.Plain.{Place, named, pointed, Expression, constant, load, unary, cast, address, binary, Callee, by_name, by_pointer, Statement, assign, call, block, leave, next, choose, loop, select, give, Statements, done, followed, SwitchItems, closed, labelled, otherwise, stated, Body, body, Item, declares, declares_variable, defines, defines_variable, name_of}
use Rattle.cc_whole.specs.Known.{is_in, is_library}
use Rattle.cc_whole.specs.Uses.{local_names, parameter_names, use_of, uses_of, uses_of_place, uses_of_all, uses_of_target, uses_of_callee, uses_of_given, uses_of_statement, uses_of_statements, uses_of_switch, uses_of_body, use_of_function, uses_of_pairs, uses_of_start, uses_of_item}
use Rattle.cc_whole.specs.Valid.{is_definition, defined_after}
use Rattle.cc_whole.specs.ValidUnit.{defined_in, uses_defined, is_static, valid_items, valid_program_items}
use Rattle.cc_whole_program.specs.Uses.{all_defined, is_there, good_name, good, good_place, good_all, good_target, good_callee, good_given, good_statement, good_statements, good_switch, good_body, good_function, good_pairs, good_start, good_item, good_items, is_closed}

and-true : (a : Bool) → (a && true) ≡ a
and-true true = refl
and-true false = refl

module _ (defined : List (List ℕ)) where
  abbrev passes : List (List ℕ) → Bool
  passes names = list_all (is_there defined) names

  both-pass : (xs ys : List (List ℕ)) (a b : Bool) → passes xs ≡ a → passes ys ≡ b → passes (xs ++ ys) ≡ (a && b)
  both-pass xs ys a b e h = list_all-append (is_there defined) xs ys ∙ ap (λ t. t && passes ys) e ∙ ap (λ t. a && t) h

  use-passes : (hidden : List (List ℕ)) (name : List ℕ) → passes (use_of name hidden) ≡ good_name defined hidden name
  use-passes hidden name = by (is_in hidden name)
    where
      by : (b : Bool) → passes (if b then [] else (name ∷ [])) ≡ (b || is_there defined name)
      by true = refl
      by false = and-true (is_there defined name)

  mutual
    expression-passes : (e : Expression) (hidden : List (List ℕ)) → passes (uses_of e hidden) ≡ good e defined hidden
    expression-passes (constant c) hidden = refl
    expression-passes (load p) hidden = place-passes p hidden
    expression-passes (unary o e) hidden = expression-passes e hidden
    expression-passes (cast t e) hidden = expression-passes e hidden
    expression-passes (address name) hidden = use-passes hidden name
    expression-passes (binary o a b) hidden = both-pass (uses_of a hidden) (uses_of b hidden) _ _ (expression-passes a hidden) (expression-passes b hidden)

    place-passes : (p : Place) (hidden : List (List ℕ)) → passes (uses_of_place p hidden) ≡ good_place p defined hidden
    place-passes (named name) hidden = use-passes hidden name
    place-passes (pointed t e) hidden = expression-passes e hidden

  all-pass : (es : List Expression) (hidden : List (List ℕ)) → passes (uses_of_all es hidden) ≡ good_all es defined hidden
  all-pass [] hidden = refl
  all-pass (e ∷ es) hidden = both-pass (uses_of e hidden) (uses_of_all es hidden) _ _ (expression-passes e hidden) (all-pass es hidden)

  target-passes : (p : Option Place) (hidden : List (List ℕ)) → passes (uses_of_target p hidden) ≡ good_target p defined hidden
  target-passes None hidden = refl
  target-passes (Some p) hidden = place-passes p hidden

  callee-passes : (c : Callee) (hidden : List (List ℕ)) → passes (uses_of_callee c hidden) ≡ good_callee c defined hidden
  callee-passes (by_name name) hidden = use-passes hidden name
  callee-passes (by_pointer s e) hidden = expression-passes e hidden

  given-passes : (e : Option Expression) (hidden : List (List ℕ)) → passes (uses_of_given e hidden) ≡ good_given e defined hidden
  given-passes None hidden = refl
  given-passes (Some e) hidden = expression-passes e hidden

  mutual
    statement-passes : (s : Statement) (hidden : List (List ℕ)) → passes (uses_of_statement s hidden) ≡ good_statement s defined hidden
    statement-passes (assign p e) hidden = both-pass (uses_of_place p hidden) (uses_of e hidden) _ _ (place-passes p hidden) (expression-passes e hidden)
    statement-passes (call p c es) hidden =
        both-pass (uses_of_target p hidden) (uses_of_callee c hidden ++ uses_of_all es hidden) _ _ (target-passes p hidden)
        (both-pass (uses_of_callee c hidden) (uses_of_all es hidden) _ _ (callee-passes c hidden) (all-pass es hidden))
    statement-passes (block b) hidden = body-passes b hidden
    statement-passes leave hidden = refl
    statement-passes next hidden = refl
    statement-passes (choose e b other) hidden =
        both-pass (uses_of e hidden) (uses_of_body b hidden ++ uses_of_body other hidden) _ _ (expression-passes e hidden)
        (both-pass (uses_of_body b hidden) (uses_of_body other hidden) _ _ (body-passes b hidden) (body-passes other hidden))
    statement-passes (loop b) hidden = body-passes b hidden
    statement-passes (select e items) hidden =
        both-pass (uses_of e hidden) (uses_of_switch items hidden) _ _ (expression-passes e hidden) (switch-passes items hidden)
    statement-passes (give e) hidden = given-passes e hidden

    statements-pass : (all : Statements) (hidden : List (List ℕ)) → passes (uses_of_statements all hidden) ≡ good_statements all defined hidden
    statements-pass done hidden = refl
    statements-pass (followed s rest) hidden =
        both-pass (uses_of_statement s hidden) (uses_of_statements rest hidden) _ _ (statement-passes s hidden) (statements-pass rest hidden)

    switch-passes : (all : SwitchItems) (hidden : List (List ℕ)) → passes (uses_of_switch all hidden) ≡ good_switch all defined hidden
    switch-passes closed hidden = refl
    switch-passes (labelled c rest) hidden = switch-passes rest hidden
    switch-passes (otherwise rest) hidden = switch-passes rest hidden
    switch-passes (stated s rest) hidden =
        both-pass (uses_of_statement s hidden) (uses_of_switch rest hidden) _ _ (statement-passes s hidden) (switch-passes rest hidden)

    body-passes : (b : Body) (hidden : List (List ℕ)) → passes (uses_of_body b hidden) ≡ good_body b defined hidden
    body-passes (body locals all) hidden = statements-pass all (local_names locals ++ hidden)

  function-passes : (f : Option (List ℕ)) → passes (use_of_function f) ≡ good_function f defined
  function-passes None = refl
  function-passes (Some name) = and-true (is_there defined name)

  pairs-pass : (ps : List CPair) → passes (uses_of_pairs ps) ≡ good_pairs ps defined
  pairs-pass [] = refl
  pairs-pass (p ∷ ps) = both-pass (use_of_function p.function) (uses_of_pairs ps) _ _ (function-passes p.function) (pairs-pass ps)

  start-passes : (s : Option CInitialiser) → passes (uses_of_start s) ≡ good_start s defined
  start-passes None = refl
  start-passes (Some (initialiser.Text bytes)) = refl
  start-passes (Some (initialiser.Pairs ps)) = pairs-pass ps

  pub item-passes : (i : Item) → passes (uses_of_item i) ≡ good_item i defined
  item-passes (declares p) = refl
  item-passes (declares_variable t name) = refl
  item-passes (defines f) = body-passes f.body (parameter_names f.prototype.parameters)
  item-passes (defines_variable v) = start-passes v.initialiser

-- ---- what is defined

or-or : (a b c : Bool) → ((a || b) || c) ≡ (b || (a || c))
or-or true true c = refl
or-or true false c = refl
or-or false b c = refl

-- the names behind some items: those before them, and those that they define
defined-behind : (items : List Item) (defined : List (List ℕ)) (name : List ℕ)
    → is_in (all_defined items defined) name ≡ (is_in defined name || defined_in items name)
defined-behind [] defined name = sym (or-false (is_in defined name))
  where
    or-false : (a : Bool) → (a || false) ≡ a
    or-false true = refl
    or-false false = refl
defined-behind (i ∷ rest) defined name = defined-behind rest (defined_after i defined) name ∙ by (is_definition i)
  where
    by : (b : Bool) → (is_in (if b then (name_of i ∷ defined) else defined) name || defined_in rest name)
        ≡ (is_in defined name || ((b && bytes_eq (name_of i) name) || defined_in rest name))
    by true = or-or (bytes_eq (name_of i) name) (is_in defined name) (defined_in rest name)
    by false = refl

-- a name is there in the code's list where the definition has it
there : (items : List Item) (name : List ℕ) → is_there (all_defined items []) name ≡ (is_library name || defined_in items name)
there items name = ap (λ b. is_library name || b) (defined-behind items [] name)

all-there : (items : List Item) (names : List (List ℕ))
    → list_all (is_there (all_defined items [])) names ≡ list_all (λ name. is_library name || defined_in items name) names
all-there items [] = refl
all-there items (name ∷ names) =
    ap (λ b. b && list_all (is_there (all_defined items [])) names) (there items name)
    ∙ ap (λ b. (is_library name || defined_in items name) && b) (all-there items names)

pub all-good : (items rest : List Item) → good_items rest (all_defined items []) ≡ list_all (uses_defined items) rest
all-good items [] = refl
all-good items (i ∷ rest) =
    ap (λ b. b && good_items rest (all_defined items [])) (sym (item-passes (all_defined items []) i) ∙ all-there items (uses_of_item i))
    ∙ ap (λ b. uses_defined items i && b) (all-good items rest)

-- a name is among those that are defined
pub defined-is : (items : List Item) (name : List ℕ) → is_in (all_defined items []) name ≡ defined_in items name
defined-is items name = defined-behind items [] name

pub closed-is : (items : List Item) → is_closed items ≡ (defined_in items (codes "main") && list_all (uses_defined items) items)
closed-is items =
    ap (λ b. b && good_items items (all_defined items [])) (defined-is items (codes "main"))
    ∙ ap (λ b. defined_in items (codes "main") && b) (all-good items items)

-- valid items, none of them static, are a program where they are closed
pub program-is : (items : List Item) → valid_items items ≡ true → list_all (λ i. not (is_static i)) items ≡ true → is_closed items ≡ valid_program_items items
program-is items e h =
    let closed = defined_in items (codes "main") && list_all (uses_defined items) items in
    let none = list_all (λ i. not (is_static i)) items in
    closed-is items ∙ sym (ap (λ b. b && (none && closed)) e ∙ ap (λ b. b && closed) h)
