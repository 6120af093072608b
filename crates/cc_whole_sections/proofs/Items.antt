-- Items one behind another.
use Rattle.std.proofs.Common.{◌≡◌, ℕ, ◌+◌, Bool, true, false, not, ◌&&◌, List, [], ◌∷◌, ◌++◌, refl, ap, ◌∙◌, inl, inr}
use Rattle.cc_whole.specs.declared.unit.CPrototype.{CPrototype}
use Rattle.cc_whole.specs.Plain.{Function, Item, declares, declares_variable, defines, defines_variable}
use Rattle.cc_whole.specs.Landmarks.{marks_before_name, marks_before, variable_marks, static_marks, prototype_marks, item_marks}
use Rattle.cc_whole.specs.Fault.{Checks, fine, holds, moved, ◌before◌}
use Rattle.cc_whole.specs.Known.{function, object, Named, lookup, is_in, is_library}
use Rattle.cc_whole.specs.Statements.{has_size, checked_body}
use Rattle.cc_whole.specs.Valid.{own_type, has_type, checked_name, checked_parameters, checked_prototype, inside, may_be_shared, holds_start, checked_start, checked_variable, named_by, is_definition, defined_after, checked_item, checked_items, first_fault}
use Rattle.cc_whole_sections.specs.Sections.{In, Every, item_name, OneType, Stands, IsFunction, Declares, Uses, DefinedOnce, Sections}
use Rattle.cc_whole_sections.proofs.Names.{Within, names-agree, stands-on, stands, behind, within-more, within-behind, names-there}

pub both-fine : (c d : Checks) → c ≡ fine → d ≡ fine → (c before d) ≡ fine
both-fine c d e f = ap (λ z. z before d) e ∙ f

pub moved-fine : (n : ℕ) (c : Checks) → c ≡ fine → moved n c ≡ fine
moved-fine n c e = ap (moved n) e

-- what is defined behind items
abbrev defined_behind : List Item → List (List ℕ) → List (List ℕ)
defined_behind [] defined = defined
defined_behind (i ∷ rest) defined = defined_behind rest (defined_after i defined)

-- what is said of the name of an item, where these items are known
module _ (known : List Named) (one : OneType known) (names : List Named) (within : Within known names) (defined : List (List ℕ)) where
  not-both : (a b : Bool) → (a ≡ true → b ≡ false) → not (a && b) ≡ true
  not-both true b h = ap not (h refl)
  not-both false b h = refl

  name-fine : (i : Item) (d : Bool) (place : ℕ) → In (named_by i) known → (d ≡ true → is_in defined (item_name i) ≡ false) → (d ≡ true → is_library (item_name i) ≡ false)
      → checked_name names defined d (item_name i) (named_by i).meant place ≡ fine
  name-fine i d place h new foreign =
      let y = item_name i in
      let m = (named_by i).meant in
      let second = holds (has_type (own_type y) m && not (d && is_library y)) 10 place in
      ap (λ b. holds (b && not (d && is_in defined y)) 2 place before second) (names-agree known one names within (named_by i) h)
      ∙ ap (λ b. holds b 2 place before second) (not-both d (is_in defined y) new)
      ∙ ap (λ b. holds (b && not (d && is_library y)) 10 place) (one.own (named_by i) h)
      ∙ ap (λ b. holds b 10 place) (not-both d (is_library y) foreign)

  prototype-fine : (i : Item) (p : CPrototype) (d : Bool) → checked_name names defined d p.name (function p) (marks_before_name p) ≡ fine
      → checked_parameters p.parameters [] ≡ fine → checked_prototype names defined d p ≡ fine
  prototype-fine i p d named fit =
      both-fine (checked_name names defined d p.name (function p) (marks_before_name p)) (moved (marks_before_name p + 1) (checked_parameters p.parameters []))
      named (moved-fine (marks_before_name p + 1) (checked_parameters p.parameters []) fit)

  never : {P : Type 0} → false ≡ true → P
  never e = absurd (cc)

  apart-fine : (a b : Bool) → (a && b) ≡ false → may_be_shared a b ≡ fine
  apart-fine a b e = ap (λ x. holds (not x) 12 0) e

  declared-fine : (i : Item) → In (named_by i) known → (is_definition i ≡ true → is_in defined (item_name i) ≡ false) → Declares i → checked_item i names defined ≡ fine
  declared-fine (declares p) h new d =
      prototype-fine (declares p) p false (name-fine (declares p) false (marks_before_name p) h never never) d
  declared-fine (declares_variable t name) h new d =
      both-fine (checked_name names defined false name (object t) (marks_before t)) (holds (has_size t && true) 11 (marks_before t + 1))
      (name-fine (declares_variable t name) false (marks_before t) h never never)
      (ap (λ b. holds (b && true) 11 (marks_before t + 1)) d)
  declared-fine (defines f) h new d = absurd d
  declared-fine (defines_variable v) h new d =
      let start = checked_start v.ty (named_by (defines_variable v) ∷ names) v.initialiser in
      let sized = holds (has_size v.ty && holds_start v.ty v.initialiser) 11 (marks_before v.ty + 1) in
      let variable = checked_variable names defined true v.ty v.name v.initialiser in
      both-fine (may_be_shared v.is_shared v.is_static) (moved (static_marks v.is_static) (variable before moved (variable_marks v.ty) start))
      (apart-fine v.is_shared v.is_static d.shared)
      (moved-fine (static_marks v.is_static) (variable before moved (variable_marks v.ty) start)
      (both-fine variable (moved (variable_marks v.ty) start)
      (both-fine (checked_name names defined true v.name (object v.ty) (marks_before v.ty)) sized
      (name-fine (defines_variable v) true (marks_before v.ty) h new (λ e. d.no_library))
      (ap (λ b. holds b 11 (marks_before v.ty + 1)) d.size))
      (moved-fine (variable_marks v.ty) start (d.start (named_by (defines_variable v) ∷ names)))))

  function-fine : (wanted : List Named) (f : Function) → In (named_by (defines f)) known → is_in defined f.prototype.name ≡ false
      → Every (Stands (named_by (defines f) ∷ names)) wanted → IsFunction wanted f → checked_item (defines f) names defined ≡ fine
  function-fine wanted f h new there d =
      let body = checked_body f.body (inside f.prototype (named_by (defines f) ∷ names)) in
      let head = checked_prototype names defined true f.prototype in
      both-fine (may_be_shared f.is_shared f.prototype.is_static) (head before moved (prototype_marks f.prototype) body)
      (apart-fine f.is_shared f.prototype.is_static d.shared)
      (both-fine head (moved (prototype_marks f.prototype) body)
      (prototype-fine (defines f) f.prototype true
      (name-fine (defines f) true (marks_before_name f.prototype) h (λ e. new) (λ e. d.no_library)) d.parameters)
      (moved-fine (prototype_marks f.prototype) body (d.body (named_by (defines f) ∷ names) there)))

  user-fine : (wanted : List Named) (i : Item) → In (named_by i) known → (is_definition i ≡ true → is_in defined (item_name i) ≡ false)
      → Every (Stands (named_by i ∷ names)) wanted → Uses wanted i → checked_item i names defined ≡ fine
  user-fine wanted (declares p) h new there d = absurd d
  user-fine wanted (declares_variable t name) h new there d = absurd d
  user-fine wanted (defines f) h new there d = function-fine wanted f h (new refl) there d
  user-fine wanted (defines_variable v) h new there d = absurd d

-- ---- sections

module _ (known : List Named) (one : OneType known) where
  pub declares-fine : (xs ys : List Item) (names : List Named) (defined : List (List ℕ)) → Within known names → Every (λ i. In (named_by i) known) xs → Every Declares xs
      → DefinedOnce (xs ++ ys) defined → (DefinedOnce ys (defined_behind xs defined) → checked_items ys (behind xs names) (defined_behind xs defined) ≡ fine)
      → checked_items (xs ++ ys) names defined ≡ fine
  declares-fine [] ys names defined w h d once rest = rest once
  declares-fine (i ∷ xs) ys names defined w h d once rest =
      both-fine (checked_item i names defined) (moved (item_marks i) (checked_items (xs ++ ys) (named_by i ∷ names) (defined_after i defined)))
      (declared-fine known one names w defined i (h i (inl refl)) once.0 (d i (inl refl)))
      (moved-fine (item_marks i) (checked_items (xs ++ ys) (named_by i ∷ names) (defined_after i defined))
      (declares-fine xs ys (named_by i ∷ names) (defined_after i defined) (within-more known (named_by i) names (h i (inl refl)) w)
      (λ x k. h x (inr k)) (λ x k. d x (inr k)) once.1 rest))

  pub uses-fine : (wanted : List Named) → Every (λ x. In x known) wanted → (xs : List Item) (names : List Named) (defined : List (List ℕ)) → Within known names
      → Every (Stands names) wanted → Every (λ i. In (named_by i) known) xs → Every (Uses wanted) xs → DefinedOnce xs defined → checked_items xs names defined ≡ fine
  uses-fine wanted k [] names defined w there h d once = refl
  uses-fine wanted k (i ∷ xs) names defined w there h d once =
      let on : Every (Stands (named_by i ∷ names)) wanted = λ j l. stands-on known one names (named_by i) j (h i (inl refl)) (k j l) (there j l) in
      both-fine (checked_item i names defined) (moved (item_marks i) (checked_items xs (named_by i ∷ names) (defined_after i defined)))
      (user-fine known one names w defined wanted i (h i (inl refl)) once.0 on (d i (inl refl)))
      (moved-fine (item_marks i) (checked_items xs (named_by i ∷ names) (defined_after i defined))
      (uses-fine wanted k xs (named_by i ∷ names) (defined_after i defined) (within-more known (named_by i) names (h i (inl refl)) w) on
      (λ x l. h x (inr l)) (λ x l. d x (inr l)) once.1))

pub sections-fine : (known wanted : List Named) (first second : List Item) → Sections known wanted first second → first_fault (first ++ second) ≡ fine
sections-fine known wanted first second s =
    declares-fine known s.one_type first second [] [] (λ x h. absurd h) s.first_known s.declares s.once
    (λ once. uses-fine known s.one_type wanted s.wanted_known second (behind first []) (defined_behind first []) behind-first
    (λ j l. stands known s.one_type (behind first []) behind-first j (s.wanted_known j l) (lookup (behind first []) j.name) refl
    (names-there first [] j.name (s.wanted_first j l)))
    s.second_known s.uses once)
  where
    behind-first : Within known (behind first [])
    behind-first = within-behind known first [] s.first_known (λ x h. absurd h)
