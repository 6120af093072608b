-- Sections of a file's items, one item more.
use Rattle.std.proofs.Common.{◌≡◌, ℕ, ◌+◌, ◌<◌, ◌≤◌, Bool, List, [], ◌∷◌, ◌++◌, length, map, drop, get_or, refl, sym, ap, ◌∙◌, append_assoc, append-nil}
use Rattle.std.proofs.lemmas.List.{at_drop_all, map-append}
use Rattle.std.specs.Borrow.{Bor}
use Rattle.std.specs.List.{flat_map}
use Rattle.cc_whole.specs.declared.unit.CPrototype.{CPrototype}
use Rattle.cc_whole.specs.declared.unit.CVariable.{CVariable}
use Rattle.cc_whole.specs.Plain.{Function, Item, Statement, declares, defines, defines_variable}
use Rattle.cf_core.specs.FromTypes.{Tables}
use Rattle.cf_core.specs.Types.{Name}
use Rattle.cf_lower.specs.Functions.{literal_at, literals, lowered_function, lowered_static, other_names, declared_at, prototype, start_literals}
use Rattle.cf_lower_fn.specs.Walks.{action_at, statements_at, told}
use Rattle.cf_lower_held.proofs.Forgotten.{drop_item}
use Rattle.cf_lower_types.specs.Bare.{classes_of}
use Rattle.cf_plain.specs.declared.action.Action.{Action as CodeAction}
use Rattle.cf_plain.specs.declared.unit.PlainFn.{PlainFn}
use Rattle.cf_plain.specs.declared.unit.PlainStatic.{PlainStatic}
use Rattle.cf_plain.specs.Plain.{Action}
use Rattle.cf_plain.specs.Named.{all_actions}
use Rattle.cf_plain.specs.View.{function_of, static_of}
use Rattle.cf_lower_unit.specs.Pieces.{all_done, all_started, all_starts, bodies_of, named_by, names_behind, objects_of, own_heads, start_at, start_texts_of, texts, texts_of}
use Rattle.cf_lower_unit.proofs.Names.{others-append}

-- ---- a list of items that each give some

module _ {A C : Type 0} (g : List A → List C) where
  next_item : (here : A → List C) (all : List A) (i : ℕ) (x : A) (made more whole : List C) → ((y : A) (ys : List A) → g (y ∷ ys) ≡ here y ++ g ys) → i < length all
      → x ≡ get_or all i x → made ++ g (drop i all) ≡ whole → more ≡ made ++ here x → more ++ g (drop (i + 1) all) ≡ whole
  next_item here all i x made more whole step within is so_far pushed =
      let rest = g (drop (i + 1) all) in
      ap (λ l. l ++ rest) pushed ∙ append_assoc made (here x) rest ∙ ap (λ l. made ++ l) (sym (step x (drop (i + 1) all)))
      ∙ sym (ap (λ l. made ++ g l) (drop_item all i x within is)) ∙ so_far

  pub no_more : g [] ≡ [] → (all : List A) (i : ℕ) (made whole : List C) → length all ≤ i → made ++ g (drop i all) ≡ whole → made ≡ whole
  no_more none all i made whole past so_far =
      sym (append-nil made) ∙ ap (λ l. made ++ l) (sym none) ∙ sym (at_drop_all (λ (l : List A). made ++ g l) all i past) ∙ so_far

module _ (tables : Tables) where
  -- ---- functions

  module _ (all : List PlainFn) (i : ℕ) (f : PlainFn) (within : i < length all) (is : f ≡ get_or all i f) where
    pub heads_more : (p : CPrototype) (made more whole : List Item) → made ++ own_heads tables (drop i all) ≡ whole → p ≡ prototype (function_of tables f)
        → more ≡ made ++ declares p ∷ [] → more ++ own_heads tables (drop (i + 1) all) ≡ whole
    heads_more p made more whole so_far same pushed =
        next_item (own_heads tables) (λ g. declares (prototype (function_of tables g)) ∷ []) all i f made more whole (λ y ys. refl) within is so_far
        (pushed ∙ ap (λ q. made ++ declares q ∷ []) same)

    pub bodies_more : (g : Function) (made more whole : List Item) → made ++ bodies_of tables (drop i all) ≡ whole → g ≡ lowered_function (classes_of tables) (function_of tables f)
        → more ≡ made ++ defines g ∷ [] → more ++ bodies_of tables (drop (i + 1) all) ≡ whole
    bodies_more g made more whole so_far same pushed =
        next_item (bodies_of tables) (λ h. defines (lowered_function (classes_of tables) (function_of tables h)) ∷ []) all i f made more whole (λ y ys. refl) within is so_far
        (pushed ∙ ap (λ q. made ++ defines q ∷ []) same)

    pub texts_more : (made more whole : List Item) → made ++ texts_of tables (drop i all) ≡ whole → more ≡ made ++ map defines_variable (literals (function_of tables f))
        → more ++ texts_of tables (drop (i + 1) all) ≡ whole
    texts_more made more whole so_far pushed =
        next_item (texts_of tables) (λ g. map defines_variable (literals (function_of tables g))) all i f made more whole
        (λ y ys. map-append defines_variable (literals (function_of tables y)) (flat_map literals (map (function_of tables) ys))) within is so_far pushed

    pub done_more : (made more whole : List Action) → made ++ all_done tables (drop i all) ≡ whole → more ≡ made ++ all_actions (statements_at tables f.body)
        → more ++ all_done tables (drop (i + 1) all) ≡ whole
    done_more made more whole so_far pushed =
        next_item (all_done tables) (λ g. all_actions (statements_at tables g.body)) all i f made more whole (λ y ys. refl) within is so_far pushed

  -- ---- static objects

  module _ (all : List PlainStatic) (i : ℕ) (x : PlainStatic) (within : i < length all) (is : x ≡ get_or all i x) where
    pub objects_more : (v : CVariable) (made more whole : List Item) → made ++ objects_of tables (drop i all) ≡ whole → v ≡ lowered_static (classes_of tables) (static_of tables x)
        → more ≡ made ++ defines_variable v ∷ [] → more ++ objects_of tables (drop (i + 1) all) ≡ whole
    objects_more v made more whole so_far same pushed =
        next_item (objects_of tables) (λ y. defines_variable (lowered_static (classes_of tables) (static_of tables y)) ∷ []) all i x made more whole (λ y ys. refl) within is so_far
        (pushed ∙ ap (λ q. made ++ defines_variable q ∷ []) same)

    pub start_texts_more : (made more whole : List Item) → made ++ start_texts_of tables (drop i all) ≡ whole → more ≡ made ++ map defines_variable (start_literals (static_of tables x))
        → more ++ start_texts_of tables (drop (i + 1) all) ≡ whole
    start_texts_more made more whole so_far pushed =
        next_item (start_texts_of tables) (λ y. map defines_variable (start_literals (static_of tables y))) all i x made more whole
        (λ y ys. map-append defines_variable (start_literals (static_of tables y)) (flat_map start_literals (map (static_of tables) ys))) within is so_far pushed

    pub started_more : (made more whole : List Action) → made ++ all_started tables (drop i all) ≡ whole → more ≡ made ++ all_actions (statements_at tables x.start)
        → more ++ all_started tables (drop (i + 1) all) ≡ whole
    started_more made more whole so_far pushed =
        next_item (all_started tables) (λ y. all_actions (statements_at tables y.start)) all i x made more whole (λ y ys. refl) within is so_far pushed

    pub stores_more : (made more whole : List Statement) → made ++ all_starts tables (drop i all) ≡ whole → more ≡ made ++ start_at tables x
        → more ++ all_starts tables (drop (i + 1) all) ≡ whole
    stores_more made more whole so_far pushed = next_item (all_starts tables) (start_at tables) all i x made more whole (λ y ys. refl) within is so_far pushed

-- ---- what actions name, and their literals

module _ (tables : Tables) (all : List (Bor CodeAction)) (i : ℕ) (a : Bor CodeAction) (within : i < length all) (is : a ≡ get_or all i a) where
  pub literals_more : (owner : Name) (s l : Bool) (made more whole : List Item) → made ++ texts owner s l (told tables (drop i all)) ≡ whole
      → more ≡ made ++ map defines_variable (literal_at owner s l (action_at tables a.now)) → more ++ texts owner s l (told tables (drop (i + 1) all)) ≡ whole
  literals_more owner s l made more whole so_far pushed =
      next_item (λ bs. texts owner s l (told tables bs)) (λ b. map defines_variable (literal_at owner s l (action_at tables b.now))) all i a made more whole
      (λ y ys. map-append defines_variable (literal_at owner s l (action_at tables y.now)) (flat_map (literal_at owner s l) (told tables ys))) within is so_far pushed

  pub others_more : (made more whole : List Item) (names behind : List Name) → made ++ other_names names (named_by tables (told tables (drop i all))) ≡ whole
      → more ≡ made ++ other_names names (declared_at (classes_of tables) (action_at tables a.now))
      → behind ≡ names_behind names (declared_at (classes_of tables) (action_at tables a.now))
      → more ++ other_names behind (named_by tables (told tables (drop (i + 1) all))) ≡ whole
  others_more made more whole names behind so_far pushed put =
      let here = declared_at (classes_of tables) (action_at tables a.now) in
      let rest = named_by tables (told tables (drop (i + 1) all)) in
      ap (λ l. l ++ other_names behind rest) pushed ∙ append_assoc made (other_names names here) (other_names behind rest)
      ∙ ap (λ (n : List Name). made ++ (other_names names here ++ other_names n rest)) put ∙ ap (λ l. made ++ l) (sym (others-append here rest names))
      ∙ sym (ap (λ l. made ++ other_names names (named_by tables (told tables l))) (drop_item all i a within is)) ∙ so_far
