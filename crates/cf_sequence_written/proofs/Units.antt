-- What is written for a file of built functions is the definition's, and so it has the meaning of the file's core.
use Rattle.std.proofs.Common.{◌≡◌, ℕ, Bool, true, not, ◌&&◌, ◌||◌, List, [], ◌∷◌, ◌++◌, map, refl, ap, ◌∙◌}
use Rattle.std.specs.Prelude.{bytes_eq, codes}
use Rattle.std.specs.List.{list_all}
use Rattle.std.specs.declared.alloc.Global.{Global}
use Rattle.cf_base.proofs.Tests.{both}
use Rattle.cf_core.specs.declared.unit.CoreFn.{CoreFn}
use Rattle.cf_core.specs.Types.{Name, parameters}
use Rattle.cf_core.specs.Classes.{Class}
use Rattle.cf_core.specs.Core.{Function, Static}
use Rattle.cf_core.specs.Valid as checks
use Rattle.cf_core.specs.FromTypes.{Tables}
use Rattle.cf_core.specs.FromUnit.{Unit, IsValid, tables_of, file_of, function_of}
use Rattle.cf_plain.specs.Plain.{PlainFunction, PlainStatic}
use Rattle.cf_plain.specs.View as plain
use Rattle.cf_sequence.specs.Built.{is_built_file, is_built_function, is_body, is_plain_role, is_chain, is_none}
use Rattle.cf_sequence.specs.Sequenced.{sequenced_file, sequenced_function}
use Rattle.cf_sequence_fn.specs.Functions.{written_function, written_unit}
use Rattle.cf_sequence_written.proofs.Parameters.{parameters-are, rows-are}
use Rattle.cf_sequence_written.proofs.Functions.{function-is}
use Rattle.cf_sequence.proofs.OwnNames.{is_own}
use Rattle.cf_sequence_written.proofs.Objects.{objects-are}

body-built : (f : Function) → is_built_function f ≡ true → is_body f ≡ true
body-built f ok =
    let start : Bool = not (bytes_eq f.name (codes "__main")) || is_none (parameters f.type) in
    let two = both (is_plain_role f.role) (is_chain f.type && (start && is_body f)) ok in
    let three = both (is_chain f.type) (start && is_body f) two.1 in
    (both start (is_body f) three.1).1

module _ (alloc : Global) (frames : List ℕ) (unit : Unit) (valid : IsValid unit) (built : is_built_file (file_of unit) ≡ true) where
  abbrev tables : Tables
  tables = tables_of unit

  abbrev classes : List Class
  classes = (file_of unit).classes

  abbrev statics : List Static
  statics = (file_of unit).statics

  functions-are : (fs : List CoreFn) → list_all is_built_function (map (function_of tables) fs) ≡ true
      → map (plain.function_of tables) (map (written_function unit.types alloc) fs) ≡ map (sequenced_function classes statics) (map (function_of tables) fs)
  functions-are [] ok = refl
  functions-are (f ∷ fs) ok =
      let parts = both (is_built_function (function_of tables f)) (list_all is_built_function (map (function_of tables) fs)) ok in
      ap (λ z. z ∷ map (plain.function_of tables) (map (written_function unit.types alloc) fs))
      (function-is tables (parameters-are tables valid.names) (rows-are tables valid.names) classes statics alloc f (body-built (function_of tables f) parts.0))
      ∙ ap (λ l. sequenced_function classes statics (function_of tables f) ∷ l) (functions-are fs parts.1)

  names-differ : checks.all_differ (map (λ (f : Function). f.name) (file_of unit).functions ++ map (λ (x : Static). x.name) statics) ≡ true
  names-differ =
      let classes_good : Bool = checks.classes_fit [] classes && list_all (λ (c : Class). checks.overriders_exist classes c.code) classes in
      let names : List Name = map (λ (f : Function). f.name) (file_of unit).functions ++ map (λ (x : Static). x.name) statics in
      let functions_good : Bool = list_all (checks.function_fits (file_of unit)) (file_of unit).functions in
      let one = both (classes_good && checks.all_differ names && functions_good) (list_all (checks.static_fits (file_of unit)) statics) valid.file in
      (both classes_good (checks.all_differ names) (both (classes_good && checks.all_differ names) functions_good one.0).0).1

  pub file-is : plain.file_of (written_unit alloc frames unit) ≡ sequenced_file (file_of unit)
  file-is =
      let one = both (is_none classes) (list_all (is_own statics) statics && list_all is_built_function (file_of unit).functions) built in
      let two = both (list_all (is_own statics) statics) (list_all is_built_function (file_of unit).functions) one.1 in
      ap (λ (fs : List PlainFunction). record (plain.file_of (written_unit alloc frames unit)) { functions = fs }) (functions-are unit.functions two.1)
      ∙ ap (λ (xs : List PlainStatic). record (sequenced_file (file_of unit)) { statics = xs })
      (objects-are tables (parameters-are tables valid.names) (rows-are tables valid.names) classes alloc unit.statics (map (λ (f : Function). f.name) (file_of unit).functions) two.0 names-differ)
