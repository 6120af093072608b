-- The definitions of a lowered file have names of their own.
use Rattle.std.proofs.Common.{◌≡◌, Bool, true, false, not, ◌||◌, List, [], ◌∷◌, ◌++◌, map, refl, ap, sym, subst, ◌∙◌, inl, inr, append_assoc}
use Rattle.std.specs.Prelude.{bytes_eq, codes}
use Rattle.std.specs.List.{flat_map}
use Rattle.cf_core.specs.Types.{Name}
use Rattle.cf_plain.specs.Plain.{Action, PlainFunction, PlainStatic}
use Rattle.cf_plain.specs.Plain as plain
use Rattle.cf_plain.specs.Named.{all_actions}
use Rattle.cc_whole.specs.declared.unit.CVariable.{CVariable}
use Rattle.cc_whole.specs.Plain.{Statement, Item, defines, defines_variable}
use Rattle.cc_whole.specs.Known.{is_helper}
use Rattle.cf_lower.specs.Functions.{owner_of, literal_at, lowered_static, literals, start_literals, lowered_function, constants_function}
use Rattle.cf_lower_program.specs.Names.{is_own_name}
use Rattle.cf_lower_program.specs.Lowerable.{Lowerable}
use Rattle.cc_whole_sections.specs.Sections.{In, Every, item_name, DefinedOnce}
use Rattle.cf_lower_valid.proofs.Inner.{mapped-in, every-mapped, every-append}
use Rattle.cf_lower_valid.proofs.Tests.{file_of, names-told, valid-told}
use Rattle.cf_lower_valid.proofs.Once.{Differ, differ-append, differ-named, differ-mapped, Apart, differ-parts, either-way, told-apart, once, from-flat}
use Rattle.cf_lower_valid.proofs.Naming.{Foreign, function-foreign, object-foreign, literal-own}

-- ---- literals

abbrev IsLiteral : CVariable → Type 0
IsLiteral v = is_own_name (codes "__s") v.name ≡ true

literal-named : (f : Name) (s l : Bool) (a : Action) → Every IsLiteral (literal_at f s l a)
literal-named f s l (plain.text j b) v (inl e) = subst IsLiteral e (literal-own f j)
literal-named f s l (plain.text j b) v (inr k) = absurd k
literal-named f s l a v h = absurd h

literals-named : (f : Name) (s l : Bool) (actions : List Action) → Every IsLiteral (flat_map (literal_at f s l) actions)
literals-named f s l actions v h = let x = from-flat (literal_at f s l) actions v h in literal-named f s l x.one v x.gives

-- ---- the definitions of a file

module _ (fs : List PlainFunction) (xs : List PlainStatic) (low : Lowerable (file_of fs xs)) (ss : List Statement) where
  abbrev texts : List CVariable
  texts = flat_map literals fs ++ flat_map start_literals xs

  abbrev objects : List CVariable
  objects = map (lowered_static []) xs

  abbrev functions : List Item
  functions = map (λ (f : PlainFunction). defines (lowered_function [] f)) fs

  abbrev variable_name : CVariable → Name
  variable_name v = v.name

  texts-named : Every IsLiteral texts
  texts-named =
      every-append IsLiteral (flat_map literals fs) (flat_map start_literals xs)
      (λ v h. let f = from-flat literals fs v h in literals-named f.one.name f.one.is_shared f.one.is_local (all_actions f.one.body) v f.gives)
      (λ v h. let x = from-flat start_literals xs v h in literals-named (owner_of x.one) x.one.is_shared (x.one.is_local || not x.one.is_shared) (all_actions x.one.start) v x.gives)

  function-names : Every (λ (f : PlainFunction). Foreign f.name) fs
  function-names f h = function-foreign f.name ((names-told fs xs low).functions f h)

  static-names : Every (λ (x : PlainStatic). Foreign x.name) xs
  static-names x h = object-foreign x.name ((names-told fs xs low).statics x h)

  parts : Apart (map (λ (f : PlainFunction). f.name) fs) (map (λ (x : PlainStatic). x.name) xs)
  parts = differ-parts (map (λ (f : PlainFunction). f.name) fs) (map (λ (x : PlainStatic). x.name) xs) (valid-told fs xs low).differ_all

  -- ---- each with those behind it

  helper-named : Every (λ i. is_helper (item_name i) ≡ true) (constants_function ss)
  helper-named = go ss
    where
      go : (ss : List Statement) → Every (λ i. is_helper (item_name i) ≡ true) (constants_function ss)
      go [] i h = absurd h
      go (s ∷ ss) i (inl e) = subst (λ i. is_helper (item_name i) ≡ true) e refl
      go (s ∷ ss) i (inr k) = absurd k

  helper-once : Differ item_name (constants_function ss)
  helper-once = go ss
    where
      go : (ss : List Statement) → Differ item_name (constants_function ss)
      go [] = tt
      go (s ∷ ss) = (λ i h. absurd h, tt)

  foreign-helper : (y : Name) → Foreign y → Every (λ i. bytes_eq y (item_name i) ≡ false) (constants_function ss)
  foreign-helper y f i h = either-way (item_name i) y (told-apart is_helper (item_name i) y (helper-named i h) f.no_helper)

  -- a literal's name is none of a helper
  literal-helper : (y : Name) → is_own_name (codes "__s") y ≡ true → Every (λ i. bytes_eq y (item_name i) ≡ false) (constants_function ss)
  literal-helper y e = go ss
    where
      go : (ss : List Statement) → Every (λ i. bytes_eq y (item_name i) ≡ false) (constants_function ss)
      go [] i h = absurd h
      go (s ∷ ss) i (inl k) = subst (λ i. bytes_eq y (item_name i) ≡ false) k (told-apart (is_own_name (codes "__s")) y (codes "__hci") e refl)
      go (s ∷ ss) i (inr k) = absurd k

  functions-differ : Differ item_name functions
  functions-differ =
      differ-mapped item_name (λ (f : PlainFunction). defines (lowered_function [] f)) fs (differ-named (λ (f : PlainFunction). f.name) fs parts.first)

  functions-on : Differ item_name (functions ++ constants_function ss)
  functions-on =
      differ-append item_name functions (constants_function ss) functions-differ helper-once
      (every-mapped (λ i. Every (λ j. bytes_eq (item_name i) (item_name j) ≡ false) (constants_function ss)) (λ (f : PlainFunction). defines (lowered_function [] f)) fs
      (λ f h. foreign-helper f.name (function-names f h)))

  -- a literal and what stands behind it
  text-apart : (v : CVariable) → In v texts → Every (λ j. bytes_eq v.name (item_name j) ≡ false) (functions ++ constants_function ss)
  text-apart v h =
      every-append (λ j. bytes_eq v.name (item_name j) ≡ false) functions (constants_function ss)
      (every-mapped (λ j. bytes_eq v.name (item_name j) ≡ false) (λ (f : PlainFunction). defines (lowered_function [] f)) fs
      (λ f k. told-apart (is_own_name (codes "__s")) v.name f.name (texts-named v h) (function-names f k).no_literal))
      (literal-helper v.name (texts-named v h))

  texts-on : Differ item_name (map defines_variable texts ++ (functions ++ constants_function ss))
  texts-on =
      differ-append item_name (map defines_variable texts) (functions ++ constants_function ss)
      (differ-mapped item_name defines_variable texts (differ-named variable_name texts low.literals)) functions-on
      (every-mapped (λ i. Every (λ j. bytes_eq (item_name i) (item_name j) ≡ false) (functions ++ constants_function ss)) defines_variable texts text-apart)

  static-apart : (x : PlainStatic) → In x xs → Every (λ j. bytes_eq x.name (item_name j) ≡ false) (map defines_variable texts ++ (functions ++ constants_function ss))
  static-apart x h =
      every-append (λ j. bytes_eq x.name (item_name j) ≡ false) (map defines_variable texts) (functions ++ constants_function ss)
      (every-mapped (λ j. bytes_eq x.name (item_name j) ≡ false) defines_variable texts
      (λ v k. either-way v.name x.name (told-apart (is_own_name (codes "__s")) v.name x.name (texts-named v k) (static-names x h).no_literal)))
      (every-append (λ j. bytes_eq x.name (item_name j) ≡ false) functions (constants_function ss)
      (every-mapped (λ j. bytes_eq x.name (item_name j) ≡ false) (λ (f : PlainFunction). defines (lowered_function [] f)) fs
      (λ f k. either-way f.name x.name (parts.cross f.name (mapped-in (λ (f : PlainFunction). f.name) f fs k) x.name (mapped-in (λ (x : PlainStatic). x.name) x xs h))))
      (foreign-helper x.name (static-names x h)))

  map-append : (vs ws : List CVariable) → map defines_variable (vs ++ ws) ≡ map defines_variable vs ++ map defines_variable ws
  map-append [] ws = refl
  map-append (v ∷ vs) ws = ap (λ is. defines_variable v ∷ is) (map-append vs ws)

  apart-all : Differ item_name (map defines_variable objects ++ (map defines_variable texts ++ (functions ++ constants_function ss)))
  apart-all =
      differ-append item_name (map defines_variable objects) (map defines_variable texts ++ (functions ++ constants_function ss))
      (differ-mapped item_name defines_variable objects
      (differ-mapped variable_name (lowered_static []) xs (differ-named (λ (x : PlainStatic). x.name) xs parts.second))) texts-on
      (every-mapped (λ i. Every (λ j. bytes_eq (item_name i) (item_name j) ≡ false) (map defines_variable texts ++ (functions ++ constants_function ss))) defines_variable objects
      (every-mapped (λ (v : CVariable). Every (λ j. bytes_eq v.name (item_name j) ≡ false) (map defines_variable texts ++ (functions ++ constants_function ss))) (lowered_static []) xs
      static-apart))

  abbrev of_functions : List CVariable
  of_functions = flat_map literals fs

  abbrev of_statics : List CVariable
  of_statics = flat_map start_literals xs

  -- variables, functions and the helper
  pub definitions-once : DefinedOnce (map defines_variable (objects ++ of_functions ++ of_statics) ++ (functions ++ constants_function ss)) []
  definitions-once =
      once (map defines_variable (objects ++ of_functions ++ of_statics) ++ (functions ++ constants_function ss)) []
      (subst (Differ item_name)
      (sym (append_assoc (map defines_variable objects) (map defines_variable texts) (functions ++ constants_function ss))
      ∙ ap (λ is. is ++ (functions ++ constants_function ss))
      (sym (map-append objects texts) ∙ ap (λ vs. map defines_variable vs) (sym (append_assoc objects of_functions of_statics))))
      apart-all)
      (λ i h. refl)
