-- What is asked of the parts of a file is what is asked of the file.
use Rattle.std.proofs.Common.{◌≡◌, Bool, List, [], ◌∷◌, ◌++◌, ◌&&◌, map, refl, sym, ap, ◌∙◌}
use Rattle.std.proofs.lemmas.List.Folds.{list_all-append}
use Rattle.std.specs.List.{flat_map, list_all}
use Rattle.cc_whole.specs.Known.{Named}
use Rattle.cc_whole.specs.Plain.{Item}
use Rattle.cc_whole.specs.Valid.{named_by as its_meaning}
use Rattle.cf_classes.specs.ClassTable.{ClassTable}
use Rattle.cf_core.specs.FromTypes.{Tables}
use Rattle.cf_types.specs.Table.{Table}
use Rattle.cf_plain.specs.declared.unit.PlainFn.{PlainFn}
use Rattle.cf_plain.specs.declared.unit.PlainStatic.{PlainStatic}
use Rattle.cf_plain.specs.Plain.{PlainFunction, PlainFile, PlainStatic as StaticOf}
use Rattle.cf_plain.specs.Named.{all_actions}
use Rattle.cf_plain.specs.View.{Unit as PlainUnit, file_of, function_of, static_of}
use Rattle.cf_lower.specs.Functions.{declared_at, lowered_file}
use Rattle.cf_lower_program.specs.Names.{may_be_function, may_be_object, names_lowered}
use Rattle.cf_lower_types.specs.Bare.{classes_of}
use Rattle.cf_lower_unit.specs.Pieces.{file_with}
use Rattle.cf_lowerable_links.specs.Fits.{fits, named_fits, names_fit}
use Rattle.cf_lowerable_links.proofs.Whole.{names-fit-lowered}
use Rattle.cf_lowerable_names.specs.Linked.{all_named, bodies_fit, functions_named, parts_fit, starts_fit, statics_named}

module _ (known : List Named) (tables : Tables) where
  abbrev of_function : PlainFunction → List Item
  of_function f = flat_map (declared_at (classes_of tables)) (all_actions f.body)

  abbrev of_static : StaticOf → List Item
  of_static x = flat_map (declared_at (classes_of tables)) (all_actions x.start)

  bodies_asked : (gs : List PlainFn) → all_named known (flat_map of_function (map (function_of tables) gs)) ≡ bodies_fit known tables gs
  bodies_asked [] = refl
  bodies_asked (g ∷ gs) =
      list_all-append (named_fits known) (of_function (function_of tables g)) (flat_map of_function (map (function_of tables) gs))
      ∙ ap (λ b. all_named known (of_function (function_of tables g)) && b) (bodies_asked gs)

  starts_asked : (ys : List PlainStatic) → all_named known (flat_map of_static (map (static_of tables) ys)) ≡ starts_fit known tables ys
  starts_asked [] = refl
  starts_asked (y ∷ ys) =
      list_all-append (named_fits known) (of_static (static_of tables y)) (flat_map of_static (map (static_of tables) ys))
      ∙ ap (λ b. all_named known (of_static (static_of tables y)) && b) (starts_asked ys)

functions_asked : (tables : Tables) (fs : List PlainFn)
    → list_all (λ (f : PlainFunction). may_be_function f.name) (map (function_of tables) fs) ≡ functions_named fs
functions_asked tables [] = refl
functions_asked tables (f ∷ fs) = ap (λ b. may_be_function f.name && b) (functions_asked tables fs)

statics_asked : (tables : Tables) (xs : List PlainStatic)
    → list_all (λ (x : StaticOf). may_be_object x.name) (map (static_of tables) xs) ≡ statics_named xs
statics_asked tables [] = refl
statics_asked tables (x ∷ xs) = ap (λ b. may_be_object x.name && b) (statics_asked tables xs)

-- of a file of these parts
parts-file : (items : List Item) (tables : Tables) (fs : List PlainFn) (xs : List PlainStatic)
    → names_fit items (file_with tables fs xs) ≡ parts_fit items tables fs xs
parts-file items tables fs xs =
    let known = map its_meaning items in
    let bodies = flat_map (of_function known tables) (map (function_of tables) fs) in
    let starts = flat_map (of_static known tables) (map (static_of tables) xs) in
    let item = list_all (fits known) items in
    let heads = list_all (λ (f : PlainFunction). may_be_function f.name) (map (function_of tables) fs) in
    let objects = list_all (λ (x : StaticOf). may_be_object x.name) (map (static_of tables) xs) in
    let left = bodies_fit known tables fs && starts_fit known tables xs in
    let named : list_all (named_fits known) (bodies ++ starts) ≡ left =
    list_all-append (named_fits known) bodies starts ∙ ap (λ b. b && all_named known starts) (bodies_asked known tables fs)
    ∙ ap (λ b. bodies_fit known tables fs && b) (starts_asked known tables xs) in
    ap (λ b. heads && (objects && (item && b))) named ∙ ap (λ b. b && (objects && (item && left))) (functions_asked tables fs)
    ∙ ap (λ b. functions_named fs && (b && (item && left))) (statics_asked tables xs)

-- ---- of a unit

abbrev file_by : Table → ClassTable → List PlainFn → List PlainStatic → PlainFile
file_by types classes fs xs = file_with (record { types = types; classes = classes }) fs xs

module _ (unit : PlainUnit) (tables : Tables) (types : Table) (classes : ClassTable) (fs : List PlainFn) (xs : List PlainStatic) (same_fs : fs ≡ unit.functions)
    (same_xs : xs ≡ unit.statics) (same_types : types ≡ unit.types) (same_classes : classes ≡ unit.classes) (is : tables ≡ record { types = types; classes = classes }) where
  of_unit : file_with tables fs xs ≡ file_of unit
  of_unit =
      ap (λ (t : Tables). file_with t fs xs) is ∙ ap (λ t. file_by t classes fs xs) same_types ∙ ap (λ c. file_by unit.types c fs xs) same_classes
      ∙ ap (λ l. file_by unit.types unit.classes l xs) same_fs ∙ ap (λ l. file_by unit.types unit.classes unit.functions l) same_xs

  -- the answer for a unit
  pub are_lowered : (items : List Item) → items ≡ lowered_file (file_of unit) → (fit : Bool) → fit ≡ parts_fit items tables fs xs → fit ≡ names_lowered (file_of unit)
  are_lowered items lowered fit asked =
      asked ∙ sym (parts-file items tables fs xs) ∙ ap (names_fit items) of_unit ∙ ap (λ (l : List Item). names_fit l (file_of unit)) lowered
      ∙ names-fit-lowered (file_of unit)
