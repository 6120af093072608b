-- What is written for a valid file of built functions is a valid plain unit, which is the definition's.
use Rattle.std.proofs.Common.{◌≡◌, ℕ, suc, Bool, true, false, not, ◌&&◌, List, [], ◌∷◌, ◌++◌, map, length, length-append, append-nil, refl, sym, ap, ◌∙◌, subst, arith}
use Rattle.std.proofs.lemmas.List.{length-map}
use Rattle.std.proofs.lemmas.Grind.{flat_map-append}
use Rattle.std.specs.Prelude.{None, is_some}
use Rattle.std.specs.List.{list_all, flat_map}
use Rattle.std.specs.declared.alloc.Global.{Global}
use Rattle.cf_base.proofs.Tests.{both, all_of}
use Rattle.cf_types.specs.Table.{Table}
use Rattle.cf_classes.specs.ClassTable.{ClassTable}
use Rattle.cf_classes.specs.declared.class.ClassDef.{ClassDef}
use Rattle.cf_core.specs.declared.unit.CoreFn.{CoreFn}
use Rattle.cf_core.specs.declared.unit.CoreStatic.{CoreStatic}
use Rattle.cf_core.specs.Types.{SourceType}
use Rattle.cf_core.specs.Core.{Core, Function, Static, CoreFile}
use Rattle.cf_core.specs.Nodes.{nodes}
use Rattle.cf_core.specs.Frame.{frame_bound, initialiser_bound}
use Rattle.cf_core.specs.FromClasses.{classes_in}
use Rattle.cf_core.specs.FromUnit.{Unit as CoreUnit, IsValid, tables_of, file_of, function_of, is_short}
use Rattle.cf_core.specs.Valid.{is_complete}
use Rattle.cf_frame.specs.Costed.{up_to_most}
use Rattle.cf_frame.specs.Bound.{makes_none, nodes_of, frames_of}
use Rattle.cf_plain.specs.declared.unit.PlainFn.{PlainFn}
use Rattle.cf_plain.specs.declared.unit.PlainStatic.{PlainStatic}
use Rattle.cf_plain.specs.View as plain
use Rattle.cf_plain.specs.Valid as checks
use Rattle.cf_sequence.specs.Built.{is_built_file, is_built_function, is_built_static, is_none, has_mark}
use Rattle.cf_sequence.specs.Made.{added, makes}
use Rattle.cf_sequence.specs.Statements.{type_of_static}
use Rattle.cf_sequence.proofs.Constants.{constant-start, start-adds}
use Rattle.cf_sequence.proofs.OwnNames.{is_own}
use Rattle.cf_sequence.proofs.Calling.{never}
use Rattle.cf_sequence_built.specs.Unbuilt.{in_file}
use Rattle.cf_sequence_fn.specs.Functions.{written_function, written_object, written_unit}
use Rattle.cf_sequence_written.proofs.TestedFiles.{file-tested}
use Rattle.cf_sequence_written.proofs.Units.{file-is}
use Rattle.cf_sequence_written.proofs.KnownFiles.{file-known, file-objects-known}
use Rattle.cf_sequence_valid.proofs.Files.{file-fits, file-complete}
use Rattle.cf_sequence_unit.specs.Sequences.{IsSequenced}
use Rattle.cf_sequence_unit.proofs.Objects.{nodes-make-none}

not-true : (b : Bool) → not b ≡ false → b ≡ true
not-true true e = refl
not-true false e = never (sym e)

pub built-file : (unit : CoreUnit) → in_file unit ≡ None → is_built_file (file_of unit) ≡ true
built-file unit none = not-true (is_built_file (file_of unit)) (sym (file-tested unit) ∙ ap is_some none)

short-names : (types : Table) (alloc : Global) (fs : List CoreFn) → list_all (λ (f : CoreFn). is_short f.name) fs ≡ true
    → list_all (λ (f : PlainFn). is_short f.name) (map (written_function types alloc) fs) ≡ true
unfolding written_function
short-names types alloc [] ok = refl
short-names types alloc (f ∷ fs) ok =
    let parts = both (is_short f.name) (list_all (λ (f : CoreFn). is_short f.name) fs) ok in
    all_of (is_short f.name) (list_all (λ (f : PlainFn). is_short f.name) (map (written_function types alloc) fs)) parts.0 (short-names types alloc fs parts.1)

short-objects : (types : Table) (alloc : Global) (xs : List CoreStatic) → list_all (λ (x : CoreStatic). is_short x.name) xs ≡ true
    → list_all (λ (x : PlainStatic). is_short x.name) (map (written_object types alloc) xs) ≡ true
unfolding written_object
short-objects types alloc [] ok = refl
short-objects types alloc (x ∷ xs) ok =
    let parts = both (is_short x.name) (list_all (λ (x : CoreStatic). is_short x.name) xs) ok in
    all_of (is_short x.name) (list_all (λ (x : PlainStatic). is_short x.name) (map (written_object types alloc) xs)) parts.0 (short-objects types alloc xs parts.1)

module _ (unit : CoreUnit) (valid : IsValid unit) (none : in_file unit ≡ None) where
  abbrev file : CoreFile
  file = file_of unit

  abbrev are_good : Bool
  are_good = list_all is_built_function file.functions

  parts : (is_none file.classes ≡ true) × (list_all (is_own file.statics) file.statics && are_good ≡ true)
  parts = both (is_none file.classes) (list_all (is_own file.statics) file.statics && are_good) (built-file unit none)

  pub no-definitions : unit.classes.defined ≡ []
  no-definitions = by unit.classes.defined parts.0
    where
      by : (ds : List (ℕ × ClassDef)) → is_none (classes_in (tables_of unit) ds) ≡ true → ds ≡ []
      by [] ok = refl
      by (d ∷ ds) ok = never ok

  no-classes : file.classes ≡ []
  no-classes = ap (classes_in (tables_of unit)) no-definitions

  abbrev function_nodes : List Core
  function_nodes = flat_map (λ (f : Function). nodes f.body) file.functions

  abbrev object_nodes : List Static → List Core
  object_nodes xs = flat_map (λ (x : Static). nodes x.start) xs

  -- initialisers add no local
  objects-add : (xs : List Static) → list_all (is_own file.statics) xs ≡ true → added (object_nodes xs) ≡ []
  objects-add [] ok = refl
  objects-add (x ∷ xs) ok =
      let parts = both (is_own file.statics x) (list_all (is_own file.statics) xs) ok in
      flat_map-append makes (nodes x.start) (object_nodes xs)
      ∙ ap (λ l. l ++ added (object_nodes xs)) (start-adds (type_of_static file.statics x.name) x.start (constant-start file.statics x (both (is_built_static file.statics x) (not (has_mark x.name)) parts.0).0)) ∙ objects-add xs parts.1

  -- nothing in it makes a class object
  pub none-made : makes_none (nodes_of file)
  none-made =
      let complete : List SourceType → Bool = list_all (is_complete file.classes) in
      nodes-make-none (function_nodes ++ object_nodes file.statics)
      (ap (λ cs. list_all (is_complete cs) (added (function_nodes ++ object_nodes file.statics))) (sym no-classes)
      ∙ ap complete (flat_map-append makes function_nodes (object_nodes file.statics) ∙ ap (λ l. added function_nodes ++ l) (objects-add file.statics (both (list_all (is_own file.statics) file.statics) are_good parts.1).0)
      ∙ append-nil (added function_nodes))
      ∙ file-complete file valid.file (built-file unit none))

  module _ (alloc : Global) where
    abbrev written : plain.Unit
    written = written_unit alloc (frames_of file) unit

    frames-long : length (frames_of file) ≡ suc (length unit.functions)
    frames-long =
        let bounds : List ℕ = map (λ (f : Function). up_to_most (frame_bound file.classes file.statics f)) file.functions in
        let a = length-append bounds (up_to_most (initialiser_bound file.classes file.statics) ∷ []) in
        let b : length bounds ≡ length unit.functions =
        length-map file.functions (λ (f : Function). up_to_most (frame_bound file.classes file.statics f)) ∙ length-map unit.functions (function_of (tables_of unit)) in
        omega (arith, a, b)

    is-valid : plain.IsValid written
    is-valid = record {
      fit = valid.fit;
      limits = record {
        sizes = valid.limits.sizes;
        functions = short-names unit.types alloc unit.functions valid.limits.functions;
        statics = short-objects unit.types alloc unit.statics valid.limits.statics;
        descriptions = valid.limits.descriptions;
      };
      functions = file-known alloc unit valid;
      statics = file-objects-known alloc unit valid;
      file = ap checks.valid_file (file-is alloc (frames_of file) unit valid (built-file unit none)) ∙ file-fits file valid.file (built-file unit none);
      frames = frames-long ∙ ap suc (sym (length-map unit.functions (written_function unit.types alloc)));
    }

    is-sequenced : IsSequenced unit written
    is-sequenced = record { types = refl; classes = refl; file = file-is alloc (frames_of file) unit valid (built-file unit none); frames = refl }

    -- by its parts
    module _ (types : Table) (classes : ClassTable) (functions : List PlainFn) (statics : List PlainStatic) (frames : List ℕ) (same_types : types ≡ unit.types)
        (same_classes : classes ≡ unit.classes) (same_functions : functions ≡ map (written_function unit.types alloc) unit.functions) (same_objects : statics ≡ map (written_object unit.types alloc) unit.statics)
        (same_frames : frames ≡ frames_of file) where
      abbrev made : plain.Unit
      made = record { types = types; classes = classes; functions = functions; statics = statics; frames = frames }

      same-unit : made ≡ written
      same-unit =
          ap (λ (x : Table). let u : plain.Unit = record made { types = x } in u) same_types
          ∙ ap (λ (x : ClassTable). let u : plain.Unit = record made { types = unit.types; classes = x } in u) same_classes
          ∙ ap (λ (x : List PlainFn). let u : plain.Unit = record made { types = unit.types; classes = unit.classes; functions = x } in u) same_functions
          ∙ ap (λ (x : List PlainStatic). let u : plain.Unit = record written { statics = x; frames = frames } in u) same_objects
          ∙ ap (λ (x : List ℕ). let u : plain.Unit = record written { frames = x } in u) same_frames

      pub made-valid : plain.IsValid made
      made-valid = subst plain.IsValid (sym same-unit) is-valid

      pub made-sequenced : IsSequenced unit made
      made-sequenced = subst (IsSequenced unit) (sym same-unit) is-sequenced
