-- Names that are there, and items by whether their names are.
use Rattle.std.proofs.Common.{◌≡◌, Bool, true, false, if◌then◌else◌, List, [], ◌∷◌, ◌++◌, map, refl, sym, ap, ◌∙◌, append_assoc, append-nil}
use Rattle.std.proofs.lemmas.List.{map-append}
use Rattle.cc_whole.specs.declared.unit.CItem.{CItem}
use Rattle.cc_whole.specs.Known.{is_in}
use Rattle.cc_whole.specs.Plain.{Item, item_of, items_of, name_of}
use Rattle.cf_core.specs.Types.{Name}
use Rattle.cf_lower.specs.Functions.{other_names}
use Rattle.cf_lower_unit.specs.Pieces.{names_behind}

-- ---- the names of items, put in front of others from the last one on

pub names_more : (all front : List CItem) (item : CItem) (n : Name) (old new whole : List Name) → all ≡ front ++ item ∷ [] → n ≡ name_of (item_of item) → new ≡ n ∷ old
    → map name_of (items_of all) ++ old ≡ whole → map name_of (items_of front) ++ new ≡ whole
names_more all front item n old new whole is named put so_far =
    let front_names = map name_of (items_of front) in
    ap (λ l. front_names ++ l) (put ∙ ap (λ m. m ∷ old) named) ∙ sym (append_assoc front_names (name_of (item_of item) ∷ []) old)
    ∙ ap (λ l. l ++ old) (sym (map-append name_of (items_of front) (item_of item ∷ []))) ∙ ap (λ l. map name_of l ++ old) (sym (map-append item_of front (item ∷ [])))
    ∙ sym (ap (λ l. map name_of (items_of l) ++ old) is) ∙ so_far

pub names_none : (all : List CItem) (old whole : List Name) → all ≡ [] → map name_of (items_of all) ++ old ≡ whole → old ≡ whole
names_none all old whole none so_far = sym (ap (λ l. map name_of (items_of l) ++ old) none) ∙ so_far

-- ---- one item

module _ (names : List Name) (i : Item) where
  abbrev made_by : Bool → List Item
  made_by b = if b then [] else i ∷ []

  abbrev left_by : Bool → List Name
  left_by b = if b then names else name_of i ∷ names

  module _ (there : is_in names (name_of i) ≡ true) where
    pub made_there : (made : List Item) → made ≡ made ++ other_names names (i ∷ [])
    made_there made = sym (append-nil made) ∙ sym (ap (λ b. made ++ made_by b) there)

    pub names_there : names ≡ names_behind names (i ∷ [])
    names_there = sym (ap left_by there)

  module _ (new : is_in names (name_of i) ≡ false) where
    pub made_new : (made more : List Item) → more ≡ made ++ i ∷ [] → more ≡ made ++ other_names names (i ∷ [])
    made_new made more pushed = pushed ∙ sym (ap (λ b. made ++ made_by b) new)

    pub names_new : (behind : List Name) → behind ≡ name_of i ∷ names → behind ≡ names_behind names (i ∷ [])
    names_new behind put = put ∙ sym (ap left_by new)

-- ---- items before others

module _ (i : Item) (rest others : List Item) (names : List Name) where
  first_by : (b : Bool) → other_names names (rest ++ others) ≡ other_names names rest ++ other_names (names_behind names rest) others
      → other_names (name_of i ∷ names) (rest ++ others) ≡ other_names (name_of i ∷ names) rest ++ other_names (names_behind (name_of i ∷ names) rest) others
      → (if b then other_names names (rest ++ others) else i ∷ other_names (name_of i ∷ names) (rest ++ others))
      ≡ (if b then other_names names rest else i ∷ other_names (name_of i ∷ names) rest)
      ++ other_names (if b then names_behind names rest else names_behind (name_of i ∷ names) rest) others
  first_by true there new = there
  first_by false there new = ap (λ l. i ∷ l) new

pub others-append : (xs ys : List Item) (names : List Name) → other_names names (xs ++ ys) ≡ other_names names xs ++ other_names (names_behind names xs) ys
others-append [] ys names = refl
others-append (i ∷ xs) ys names = first_by i xs ys names (is_in names (name_of i)) (others-append xs ys names) (others-append xs ys (name_of i ∷ names))
