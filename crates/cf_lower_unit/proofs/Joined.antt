-- Lists of items, made part by part.
use Rattle.std.proofs.Common.{◌≡◌, List, [], ◌∷◌, ◌++◌, map, sym, ap, ◌∙◌, append_assoc}
use Rattle.std.proofs.lemmas.List.{map-append}
use Rattle.std.specs.Prelude.{Some, None, codes}
use Rattle.std.specs.List.{flat_map}
use Rattle.cc_whole.specs.declared.types.CType.TheVariants as ty
use Rattle.cc_whole.specs.declared.unit.CItem.{CItem}
use Rattle.cc_whole.specs.declared.unit.CParameter.{CParameter}
use Rattle.cc_whole.specs.Plain.{Item, declares, defines_variable, items_of, name_of}
use Rattle.cf_classes.specs.ClassTable.{ClassTable}
use Rattle.cf_core.specs.FromTypes.{Tables}
use Rattle.cf_plain.specs.declared.unit.PlainFn.{PlainFn}
use Rattle.cf_plain.specs.declared.unit.PlainStatic.{PlainStatic}
use Rattle.cf_plain.specs.View.{Unit as PlainUnit, file_of, function_of, static_of}
use Rattle.cf_types.specs.Table.{Table}
use Rattle.cf_lower.specs.Functions.{constants_function, defined_elsewhere, library, literals, lowered_file, lowered_static, other_names, own_variables, parameter, start_literals}
use Rattle.cf_lower.specs.Written.{local_name}
use Rattle.cf_lower_types.specs.Bare.{classes_of}
use Rattle.cf_lower_unit.specs.Pieces.{all_done, all_started, all_starts, bodies_of, file_with, front_of, library_head, named_by, objects_of, own_heads, start_texts_of, texts_of}
use Rattle.cf_lower_unit.proofs.Others.{named_all}
use Rattle.cf_lower_unit.proofs.Stores.{starts_are}

-- ---- the library's functions

abbrev pub one_int : List CParameter
one_int = parameter ty.Int (local_name 0) ∷ []

pub three_declared : (a b c : List CParameter) (w x y z : List Item) → a ≡ one_int → b ≡ [] → c ≡ one_int → x ≡ w ++ declares (library_head (codes "putchar") (Some ty.Int) a) ∷ []
    → y ≡ x ++ declares (library_head (codes "getchar") (Some ty.Int) b) ∷ [] → z ≡ y ++ declares (library_head (codes "exit") None c) ∷ [] → z ≡ w ++ library
three_declared a b c w x y z first second third p q r =
    let out = declares (library_head (codes "putchar") (Some ty.Int) one_int) in
    let in_ = declares (library_head (codes "getchar") (Some ty.Int) []) in
    let end = declares (library_head (codes "exit") None one_int) in
    let begun : x ≡ w ++ out ∷ [] = p ∙ ap (λ l. w ++ declares (library_head (codes "putchar") (Some ty.Int) l) ∷ []) first in
    let more : y ≡ w ++ out ∷ in_ ∷ [] =
    q ∙ ap (λ l. x ++ declares (library_head (codes "getchar") (Some ty.Int) l) ∷ []) second ∙ ap (λ l. l ++ in_ ∷ []) begun ∙ append_assoc w (out ∷ []) (in_ ∷ []) in
    r ∙ ap (λ l. y ++ declares (library_head (codes "exit") None l) ∷ []) third ∙ ap (λ l. l ++ end ∷ []) more ∙ append_assoc w (out ∷ in_ ∷ []) (end ∷ [])

-- ---- a file's

-- two sections behind nothing
pub two_parts : (m : List CItem) (a b x y : List Item) → m ≡ [] → x ≡ items_of m ++ a → y ≡ x ++ b → y ≡ a ++ b
two_parts m a b x y none p q = q ∙ ap (λ l. l ++ b) (p ∙ ap (λ l. items_of l ++ a) none)

module _ (tables : Tables) (fs : List PlainFn) (xs : List PlainStatic) where
  -- the static objects and the literals
  pub variables_are : (m : List CItem) (x y z : List Item) → m ≡ [] → x ≡ items_of m ++ objects_of tables xs → y ≡ x ++ texts_of tables fs
      → z ≡ y ++ start_texts_of tables xs → z ≡ own_variables (file_with tables fs xs)
  variables_are m x y z none p q r =
      let objects = map (lowered_static (classes_of tables)) (map (static_of tables) xs) in
      let texts = flat_map literals (map (function_of tables) fs) in
      let starts = flat_map start_literals (map (static_of tables) xs) in
      r ∙ ap (λ l. l ++ start_texts_of tables xs)
      (q ∙ ap (λ l. l ++ texts_of tables fs) (p ∙ ap (λ l. items_of l ++ objects_of tables xs) none) ∙ sym (map-append defines_variable objects texts))
      ∙ sym (map-append defines_variable (objects ++ texts) starts)

  -- what stands before the functions
  pub front_is : (h v o d made : List Item) → h ≡ library ++ own_heads tables fs → v ≡ own_variables (file_with tables fs xs)
      → o ≡ other_names (map name_of h ++ map name_of v) (named_by tables (all_done tables fs ++ all_started tables xs)) → d ≡ h ++ o → made ≡ d ++ v
      → made ≡ front_of (file_with tables fs xs)
  front_is h v o d made heads variables others declared all =
      let file = file_with tables fs xs in
      let named = library ++ own_heads tables fs in
      let there : map name_of h ++ map name_of v ≡ map name_of (named ++ own_variables file) =
      ap (λ l. map name_of l ++ map name_of v) heads ∙ ap (λ l. map name_of named ++ map name_of l) variables ∙ sym (map-append name_of named (own_variables file)) in
      let elsewhere : o ≡ defined_elsewhere file =
      others ∙ ap (λ l. other_names l (named_by tables (all_done tables fs ++ all_started tables xs))) there
      ∙ ap (λ l. other_names (map name_of (named ++ own_variables file)) l) (named_all tables fs xs) in
      all ∙ ap (λ l. l ++ v) (declared ∙ ap (λ l. l ++ o) heads ∙ ap (λ l. named ++ l) elsewhere) ∙ ap (λ l. named ++ defined_elsewhere file ++ l) variables

  -- and all
  pub all_are : (a b c : List Item) → a ≡ front_of (file_with tables fs xs) → b ≡ a ++ bodies_of tables fs → c ≡ b ++ constants_function (all_starts tables xs)
      → c ≡ lowered_file (file_with tables fs xs)
  all_are a b c p q r =
      r ∙ ap (λ l. l ++ constants_function (all_starts tables xs)) (q ∙ ap (λ l. l ++ bodies_of tables fs) p)
      ∙ ap (λ l. front_of (file_with tables fs xs) ++ bodies_of tables fs ++ constants_function l) (starts_are tables xs)

-- the file of a unit
abbrev with_parts : Table → ClassTable → List PlainFn → List PlainStatic → List Item
with_parts types classes fs xs = lowered_file (file_with (record { types = types; classes = classes }) fs xs)

pub file_is : (unit : PlainUnit) (tables : Tables) (types : Table) (classes : ClassTable) (fs : List PlainFn) (xs : List PlainStatic) (made : List Item) → fs ≡ unit.functions
    → xs ≡ unit.statics → types ≡ unit.types → classes ≡ unit.classes → tables ≡ record { types = types; classes = classes }
    → made ≡ lowered_file (file_with tables fs xs) → made ≡ lowered_file (file_of unit)
file_is unit tables types classes fs xs made same_fs same_xs same_types same_classes is e =
    e ∙ ap (λ (t : Tables). lowered_file (file_with t fs xs)) is ∙ ap (λ t. with_parts t classes fs xs) same_types ∙ ap (λ c. with_parts unit.types c fs xs) same_classes
    ∙ ap (λ l. with_parts unit.types unit.classes l xs) same_fs ∙ ap (λ l. with_parts unit.types unit.classes unit.functions l) same_xs
