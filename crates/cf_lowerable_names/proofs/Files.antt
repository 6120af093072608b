-- What is known of names is what the definition asks of a file's.
use Rattle.std.proofs.Common.{◌≡◌, Bool, true, false, if◌then◌else◌, List, [], ◌∷◌, ◌++◌, ◌||◌, ◌&&◌, map, refl, sym, ap, ◌∙◌, append-nil}
use Rattle.std.proofs.lemmas.List.{map-append}
use Rattle.std.proofs.lemmas.List.Concat.{flat_map-append}
use Rattle.std.proofs.lemmas.List.Folds.{list_all-append}
use Rattle.std.specs.Prelude.{filter}
use Rattle.std.specs.List.{flat_map}
use Rattle.cc_whole.specs.declared.unit.CVariable.{CVariable}
use Rattle.cc_whole.specs.Known.{is_in}
use Rattle.cc_whole.specs.Plain.{Item, Statement, declares, defines, defines_variable, name_of}
use Rattle.cc_whole.specs.Uses.{uses_of_item}
use Rattle.cf_classes.specs.ClassTable.{ClassTable}
use Rattle.cf_core.specs.Classes.{Class}
use Rattle.cf_core.specs.FromTypes.{Tables}
use Rattle.cf_core.specs.Types.{Name}
use Rattle.cf_types.specs.Table.{Table}
use Rattle.cf_plain.specs.declared.unit.PlainFn.{PlainFn}
use Rattle.cf_plain.specs.declared.unit.PlainStatic.{PlainStatic}
use Rattle.cf_plain.specs.Plain as plain
use Rattle.cf_plain.specs.Plain.{Action, PlainFunction, PlainFile, PlainStatic as StaticOf}
use Rattle.cf_plain.specs.Named.{all_actions}
use Rattle.cf_plain.specs.View.{Unit as PlainUnit, file_of, function_of, static_of}
use Rattle.cf_lower.specs.Constants.{constant_code, nothing_known}
use Rattle.cf_lower.specs.Functions.{constants_function, declared_at, defined_elsewhere, library, literals, lowered_file, lowered_function, lowered_static, named_in, other_names, own_prototypes, own_variables, owner_of, prototype, start_literals}
use Rattle.cf_lower_program.specs.Names.{names_used, own_names}
use Rattle.cf_lower_types.specs.Bare.{classes_of}
use Rattle.cf_lower_unit.specs.Pieces.{file_with}
use Rattle.cf_lowerable_names.specs.Given.{are_in, functions_in, is_known, library_names, names_of, statics_in, variable_names}
use Rattle.cf_lowerable_names.proofs.Among.{all_same, in_both, in_either}

-- ---- the variables that items define

nil_left : (xs ys : List Name) → xs ++ ys ≡ [] → xs ≡ []
nil_left [] ys e = refl
nil_left (x ∷ xs) ys e = cc

nil_right : (xs ys : List Name) → xs ++ ys ≡ [] → ys ≡ []
nil_right [] ys e = e
nil_right (x ∷ xs) ys e = cc

skipped : (xs ys : List Item) → flat_map variable_names xs ≡ [] → flat_map variable_names (xs ++ ys) ≡ flat_map variable_names ys
skipped xs ys none = flat_map-append variable_names xs ys ∙ ap (λ l. l ++ flat_map variable_names ys) none

dropped : (xs ys : List Item) → flat_map variable_names ys ≡ [] → flat_map variable_names (xs ++ ys) ≡ flat_map variable_names xs
dropped xs ys none = flat_map-append variable_names xs ys ∙ ap (λ l. flat_map variable_names xs ++ l) none ∙ append-nil (flat_map variable_names xs)

-- where each item gives none
none_each : {A : Type 0} (h : A → List Item) → ((x : A) → flat_map variable_names (h x) ≡ []) → (xs : List A) → flat_map variable_names (flat_map h xs) ≡ []
none_each h none [] = refl
none_each h none (x ∷ xs) = skipped (h x) (flat_map h xs) (none x) ∙ none_each h none xs

none_declared : (fs : List PlainFunction) → flat_map variable_names (map (λ (f : PlainFunction). declares (prototype f)) fs) ≡ []
none_declared [] = refl
none_declared (f ∷ fs) = none_declared fs

none_at : (classes : List Class) (a : Action) → flat_map variable_names (declared_at classes a) ≡ []
none_at classes (plain.static_object n t) = refl
none_at classes (plain.function n t) = refl
none_at classes (plain.call n t object is into) = refl
none_at classes a = refl

none_other : (names : List Name) (items : List Item) → flat_map variable_names items ≡ [] → flat_map variable_names (other_names names items) ≡ []
none_other names [] none = refl
none_other names (i ∷ rest) none =
    let here = nil_left (variable_names i) (flat_map variable_names rest) none in
    let behind = nil_right (variable_names i) (flat_map variable_names rest) none in
    by (is_in names (name_of i)) here (none_other names rest behind) (none_other (name_of i ∷ names) rest behind)
  where
    by : (b : Bool) → variable_names i ≡ [] → flat_map variable_names (other_names names rest) ≡ []
        → flat_map variable_names (other_names (name_of i ∷ names) rest) ≡ []
        → flat_map variable_names (if b then other_names names rest else i ∷ other_names (name_of i ∷ names) rest) ≡ []
    by true here there new = there
    by false here there new = ap (λ l. l ++ flat_map variable_names (other_names (name_of i ∷ names) rest)) here ∙ new

none_defined : (classes : List Class) (fs : List PlainFunction) → flat_map variable_names (map (λ (f : PlainFunction). defines (lowered_function classes f)) fs) ≡ []
none_defined classes [] = refl
none_defined classes (f ∷ fs) = none_defined classes fs

none_stored : (ss : List Statement) → flat_map variable_names (constants_function ss) ≡ []
none_stored [] = refl
none_stored (s ∷ ss) = refl

variables_named : (vs : List CVariable) → flat_map variable_names (map defines_variable vs) ≡ map name_of (map defines_variable vs)
variables_named [] = refl
variables_named (v ∷ vs) = ap (λ l. v.name ∷ l) (variables_named vs)

-- ---- names of functions

names_are : (tables : Tables) (fs : List PlainFn) → map name_of (map (λ (f : PlainFunction). declares (prototype f)) (map (function_of tables) fs)) ≡ names_of fs
names_are tables [] = refl
names_are tables (f ∷ fs) = ap (λ l. f.name ∷ l) (names_are tables fs)

or_grouped : (a b c d : Bool) → (a || (b || (c || d))) ≡ (((a || b) || c) || d)
or_grouped true b c d = refl
or_grouped false true c d = refl
or_grouped false false c d = refl

module _ (file : PlainFile) where
  none_elsewhere : flat_map variable_names (defined_elsewhere file) ≡ []
  none_elsewhere =
      let of_function = λ (f : PlainFunction). flat_map (declared_at file.classes) (all_actions f.body) in
      let of_static = λ (x : StaticOf). flat_map (declared_at file.classes) (all_actions x.start) in
      none_other (own_names file) (named_in file)
      (skipped (flat_map of_function file.functions) (flat_map of_static file.statics)
      (none_each of_function (λ f. none_each (declared_at file.classes) (none_at file.classes) (all_actions f.body)) file.functions)
      ∙ none_each of_static (λ x. none_each (declared_at file.classes) (none_at file.classes) (all_actions x.start)) file.statics)

  -- of the file's C
  variables_lowered : flat_map variable_names (lowered_file file) ≡ map name_of (own_variables file)
  variables_lowered =
      let functions = map (λ (f : PlainFunction). defines (lowered_function file.classes f)) file.functions in
      let stored =
      flat_map (λ (x : StaticOf). constant_code file.classes x.start (owner_of x) nothing_known) (filter (λ (x : StaticOf). x.is_constant) file.statics) in
      let start = constants_function stored in
      let own = own_variables file in
      let variables = map (lowered_static file.classes) file.statics ++ flat_map literals file.functions ++ flat_map start_literals file.statics in
      let front = library ++ own_prototypes file ++ defined_elsewhere file in
      dropped (front ++ own ++ functions) start (none_stored stored) ∙ dropped (front ++ own) functions (none_defined file.classes file.functions)
      ∙ flat_map-append variable_names front own
      ∙ ap (λ l. l ++ flat_map variable_names own)
      (dropped (library ++ own_prototypes file) (defined_elsewhere file) none_elsewhere ∙ skipped library (own_prototypes file) refl ∙ none_declared file.functions)
      ∙ variables_named variables

module _ (tables : Tables) (fs : List PlainFn) (xs : List PlainStatic) where
  abbrev file : PlainFile
  file = file_with tables fs xs

  -- a name is known where it is the file's own or its C uses it
  known_is : (q : Name) → is_known fs (lowered_file file) q ≡ (is_in (own_names file) q || is_in (flat_map uses_of_item (lowered_file file)) q)
  known_is q =
      let variables = map name_of (own_variables file) in
      let used = is_in (flat_map uses_of_item (lowered_file file)) q in
      let own : is_in (own_names file) q ≡ ((is_in library_names q || is_in (names_of fs) q) || is_in variables q) =
      ap (λ l. is_in l q) (map-append name_of (library ++ own_prototypes file) (own_variables file))
      ∙ in_both q (map name_of (library ++ own_prototypes file)) variables
      ∙ ap (λ b. b || is_in variables q)
      (ap (λ l. is_in l q) (map-append name_of library (own_prototypes file)) ∙ in_both q library_names (map name_of (own_prototypes file))
      ∙ ap (λ l. is_in library_names q || is_in l q) (names_are tables fs)) in
      ap (λ b. is_in library_names q || (is_in (names_of fs) q || b))
      (in_either q variable_names uses_of_item (lowered_file file) ∙ ap (λ l. is_in l q || used) (variables_lowered file))
      ∙ or_grouped (is_in library_names q) (is_in (names_of fs) q) (is_in variables q) used ∙ sym (ap (λ b. b || used) own)

  -- ---- what is named

  module _ (names : List Name) where
    abbrev of_function : PlainFunction → List Item
    of_function f = flat_map (declared_at (classes_of tables)) (all_actions f.body)

    abbrev of_static : StaticOf → List Item
    of_static x = flat_map (declared_at (classes_of tables)) (all_actions x.start)

    functions_asked : (gs : List PlainFn) → are_in names (flat_map of_function (map (function_of tables) gs)) ≡ functions_in names tables gs
    functions_asked [] = refl
    functions_asked (g ∷ gs) =
        list_all-append (λ i. is_in names (name_of i)) (of_function (function_of tables g)) (flat_map of_function (map (function_of tables) gs))
        ∙ ap (λ b. are_in names (of_function (function_of tables g)) && b) (functions_asked gs)

    statics_asked : (ys : List PlainStatic) → are_in names (flat_map of_static (map (static_of tables) ys)) ≡ statics_in names tables ys
    statics_asked [] = refl
    statics_asked (y ∷ ys) =
        list_all-append (λ i. is_in names (name_of i)) (of_static (static_of tables y)) (flat_map of_static (map (static_of tables) ys))
        ∙ ap (λ b. are_in names (of_static (static_of tables y)) && b) (statics_asked ys)

    -- all that is named is known
    pub used_is : (items : List Item) → items ≡ lowered_file file → ((q : Name) → is_in names q ≡ is_known fs items q)
        → (functions_in names tables fs && statics_in names tables xs) ≡ names_used file
    used_is items made known =
        let asked : are_in names (named_in file) ≡ (functions_in names tables fs && statics_in names tables xs) =
        list_all-append (λ i. is_in names (name_of i)) (flat_map of_function (map (function_of tables) fs)) (flat_map of_static (map (static_of tables) xs))
        ∙ ap (λ b. b && are_in names (flat_map of_static (map (static_of tables) xs))) (functions_asked fs)
        ∙ ap (λ b. functions_in names tables fs && b) (statics_asked xs) in
        sym asked
        ∙ all_same (λ i. is_in names (name_of i)) (λ i. is_in (own_names file) (name_of i) || is_in (flat_map uses_of_item (lowered_file file)) (name_of i))
        (λ i. known (name_of i) ∙ ap (λ l. is_known fs l (name_of i)) made ∙ known_is (name_of i)) (named_in file)

-- ---- of a unit

abbrev used_with : Table → ClassTable → List PlainFn → List PlainStatic → Bool
used_with types classes fs xs = names_used (file_with (record { types = types; classes = classes }) fs xs)

module _ (unit : PlainUnit) (tables : Tables) (types : Table) (classes : ClassTable) (fs : List PlainFn) (xs : List PlainStatic) (same_fs : fs ≡ unit.functions)
    (same_xs : xs ≡ unit.statics) (same_types : types ≡ unit.types) (same_classes : classes ≡ unit.classes) (is : tables ≡ record { types = types; classes = classes }) where
  pub used_of_unit : names_used (file_with tables fs xs) ≡ names_used (file_of unit)
  used_of_unit =
      ap (λ (t : Tables). names_used (file_with t fs xs)) is ∙ ap (λ t. used_with t classes fs xs) same_types ∙ ap (λ c. used_with unit.types c fs xs) same_classes
      ∙ ap (λ l. used_with unit.types unit.classes l xs) same_fs ∙ ap (λ l. used_with unit.types unit.classes unit.functions l) same_xs

  pub lowered_of_unit : lowered_file (file_with tables fs xs) ≡ lowered_file (file_of unit)
  lowered_of_unit =
      ap (λ (t : Tables). lowered_file (file_with t fs xs)) is ∙ ap (λ t. lowered_file (file_with (record { types = t; classes = classes }) fs xs)) same_types
      ∙ ap (λ c. lowered_file (file_with (record { types = unit.types; classes = c }) fs xs)) same_classes
      ∙ ap (λ l. lowered_file (file_with (record { types = unit.types; classes = unit.classes }) l xs)) same_fs
      ∙ ap (λ l. lowered_file (file_with (record { types = unit.types; classes = unit.classes }) unit.functions l)) same_xs

  -- the answer for a unit
  module _ (names : List Name) (items : List Item) (lowered : items ≡ lowered_file (file_of unit)) (known : (q : Name) → is_in names q ≡ is_known fs items q) where
    both_used : (functions_in names tables fs && statics_in names tables xs) ≡ names_used (file_of unit)
    both_used = used_is tables fs xs names items (lowered ∙ sym lowered_of_unit) known ∙ used_of_unit

    pub not_used : (a : Bool) → a ≡ functions_in names tables fs → a ≡ false → false ≡ names_used (file_of unit)
    not_used a is none = sym (ap (λ b. b && statics_in names tables xs) (sym is ∙ none)) ∙ both_used

    pub are_used : (a b : Bool) → a ≡ functions_in names tables fs → a ≡ true → b ≡ statics_in names tables xs → b ≡ names_used (file_of unit)
    are_used a b is all there = there ∙ sym (ap (λ c. c && statics_in names tables xs) (sym is ∙ all)) ∙ both_used
