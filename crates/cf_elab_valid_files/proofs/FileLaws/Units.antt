-- The core of an end that is well formed is valid.
use Rattle.std.proofs.Common.{◌≡◌, ℕ, zero, suc, ◌<◌, ◌≤◌, ◌^◌, All, IsTrue, Bool, true, false, not, ◌&&◌, ◌||◌, is_some, List, [], ◌∷◌, ◌++◌, length, map, find, codes, bytes_eq, Option, Some, None, slice_get, refl, sym, ap, subst, ◌∙◌, true≢false, arith}
use Rattle.std.specs.List.{list_any, list_all}
use Rattle.std.proofs.lemmas.List.{length-map, map-append}
use Rattle.std.proofs.lemmas.List.Elements.{All-cons}
use Rattle.cf_types.specs.Table.{IsTable}
use Rattle.cf_types.specs.declared.ty.Ty.{Ty}
use Rattle.cf_types.specs.declared.ty.Ty.TheVariants as ty
use Rattle.cf_classes.specs.Fit.{Fit, class_of_type, enum_of_type}
use Rattle.cf_classes.specs.Layout.{extent}
use Rattle.cf_classes.specs.declared.class.ClassDef.{ClassDef}
use Rattle.cf_unit.specs.declared.file.Unit.{Unit as FileTree}
use Rattle.cf_core.specs.Classes.{Class}
use Rattle.cf_core.specs.Core.{Function, Static, CoreFile, plain_function}
use Rattle.cf_core.specs.declared.unit.CoreFn.{CoreFn}
use Rattle.cf_core.specs.declared.unit.CoreStatic.{CoreStatic}
use Rattle.cf_core.specs.declared.unit.Role.{Role as UnitRole}
use Rattle.cf_core.specs.declared.unit.Role.TheVariants as role
use Rattle.cf_core.specs.FromClasses.{classes_in, signature_of}
use Rattle.cf_core.specs.FromTypes.{Tables, taking}
use Rattle.cf_core.specs.FromUnit.{IsValid, WithinLimits, is_short, file_of, function_of, static_of, role_of}
use Rattle.cf_core.specs.Numbers.{has_type, are_known, role_known, function_known, static_known}
use Rattle.cf_core.specs.Size.{size}
use Rattle.cf_core.specs.Types.{Name, SourceType, gives, parameters, result}
use Rattle.cf_core.specs.Typing.{is_function}
use Rattle.cf_core.specs.Valid.{Body, valid_file, all_differ, class_of_role, role_fits, result_fits, is_complete, fits, body_fits, body_of, function_fits, owner_fits, static_fits}
use Rattle.cf_core_typed.proofs.Same.{and-both}
use Rattle.cf_elab.specs.Answer.{Answer, Made}
use Rattle.cf_elab.specs.Built.{not_built}
use Rattle.cf_elab.specs.Complete.{most_bytes}
use Rattle.cf_elab.specs.Env.{Env, Extent}
use Rattle.cf_elab.specs.File.{first_env, item_row, in_turn, core_unit}
use Rattle.cf_elab.specs.Scan.{defined_names}
use Rattle.cf_elab_env.specs.Holds.{without_class}
use Rattle.cf_elab_env.proofs.Sorts.{no_class_at}
use Rattle.cf_elab_valid.specs.Answers.{Good, Fine}
use Rattle.cf_elab_valid.specs.Scene.{Scene, IsScene, tree, core, OwnerThere, StaticFits, FunctionFits, PartInside, Within, Classless, Holds}
use Rattle.cf_elab_valid.proofs.Calls.{taken_parameters, taken_result, taken_function}
use Rattle.cf_elab_valid.proofs.Ways.{begins-same}
use Rattle.cf_elab_valid_objects.proofs.Locals.{complete-no-void}
use Rattle.cf_elab_valid_files.proofs.StaticsLaws.Names.{Any}
use Rattle.cf_elab_valid_files.specs.Bodies.Laws.{ConstantsAreApart}
use Rattle.cf_elab_valid_files.specs.Functions.Laws.{IsFileEnd}
use Rattle.cf_elab_valid_files.proofs.FunctionsLaws.Ends.{nowhere, nowhere-end}
use Rattle.cf_elab_valid_files.specs.File.Ends.{is_finished}
use Rattle.cf_elab_valid_files.specs.File.Laws.{file_fits, tables_of, IsFinished}
use Rattle.cf_elab_valid_files.proofs.FileLaws.Decided.{decided}
use Rattle.cf_elab_valid_files.proofs.FileLaws.Items.{turn-fine}
use Rattle.cf_elab_valid_files.proofs.FileLaws.Measured.{size-small}
use Rattle.cf_elab_valid_files.proofs.FileLaws.Small.{SmallIn, turn-small}
use Rattle.cf_elab_valid_files.proofs.FileLaws.Lists.{all-from, all-mapped, any-mapped, map-through, differ-behind, find-own}

module _ (e : Env) (finished : IsFinished e) (c : Classless e) (sizes : (t : ℕ) → t < length e.types.types → (extent e.types [] t).size ≤ most_bytes) where
  abbrev T : Tables
  T = tables_of e

  -- ---- the scene of the end

  abbrev scene : Scene
  scene = record { tables = T; statics = map (static_of T) e.statics; functions = e.functions; locals = []; result = 0 }

  is_scene : IsScene scene
  is_scene = record { table = finished.table; no_class = c.no_type; none_to_reference = finished.aims; sizes = sizes }

  pub file-end : IsFileEnd scene
  file-end = record { scene = is_scene; arrays = λ t u n at. complete-no-void (tree scene u) (finished.elements t u n at); outside = refl; frames = finished.frames }

  static-names : all_differ (map (λ (x : CoreStatic). x.name) e.statics) ≡ true
  static-names = differ-behind (map (λ (f : CoreFn). f.name) e.functions) (map (λ (x : CoreStatic). x.name) e.statics) finished.names

  -- ---- at the end

  module _ (locals : e.hand.locals ≡ []) (holds : Within e scene → Holds scene e) where
    within : Within e scene
    within = record {
      types = begins-same e.types.types;
      funs = begins-same e.types.funs;
      enums = begins-same e.classes.enums;
      locals = record { more = []; all = sym (ap (λ l. l ++ []) locals) };
      statics = λ n x at. find-own T e.statics n x at static-names;
      functions = begins-same e.functions;
    }

    held : Holds scene e
    held = holds within

    -- ---- functions

    function-known : (n : ℕ) (f : CoreFn) → slice_get e.functions n ≡ Some f → function_known T f ≡ true
    function-known n f at =
        let k = held.functions n f at in
        and-both (role_known T f.role && has_type T f.result && list_all (has_type T) f.params && list_all (has_type T) f.locals) (are_known T f.body)
        (and-both (role_known T f.role && has_type T f.result && list_all (has_type T) f.params) (list_all (has_type T) f.locals)
        (and-both (role_known T f.role && has_type T f.result) (list_all (has_type T) f.params)
        (and-both (role_known T f.role) (has_type T f.result) (ap (role_known T) k.plain) k.result) k.params) k.locals) k.numbers

    -- the file, where no class is defined
    abbrev file : CoreFile
    file = record { classes = []; functions = map (function_of T) e.functions; statics = map (static_of T) e.statics }

    module _ (f : CoreFn) (k : FunctionFits scene f) where
      abbrev own : Function
      own = function_of T f

      abbrev ps : List SourceType
      ps = map (tree scene) f.params

      abbrev r : SourceType
      r = tree scene f.result

      abbrev ls : List SourceType
      ls = map (tree scene) f.locals

      taken : parameters (taking ps (gives r false)) ≡ ps
      taken = taken_parameters scene is_scene ps r false

      given : result (taking ps (gives r false)) ≡ r
      given = taken_result scene is_scene ps r false

      -- a body with these parameters and this result
      abbrev body_with : List SourceType → SourceType → Body
      body_with qs t = record { scope = record { classes = []; statics = map (static_of T) e.statics; locals = qs ++ ls; this = None }; parameters = length qs; result = t; is_main = bytes_eq f.name (codes "__main") }

      -- in a role
      abbrev in_role : UnitRole → Bool
      in_role q =
          body_fits (record { scope = record { classes = []; statics = map (static_of T) e.statics; locals = parameters own.type ++ ls; this = class_of_role (role_of T q) }; parameters = length (parameters own.type); result = result own.type; is_main = bytes_eq f.name (codes "__main") })
          (role_of T q) (core scene f.body)

      body-fits : body_fits (body_of file own) own.role own.body ≡ true
      body-fits =
          ap in_role k.plain
          ∙ ap (λ l. fits (body_with l (result own.type)) false false (core scene f.body)) taken
          ∙ ap (λ t. fits (body_with ps t) false false (core scene f.body)) given
          ∙ subst (λ l. fits (record (body_with ps r) { scope = record { classes = []; statics = map (static_of T) e.statics; locals = l; this = None } }) false false (core scene f.body) ≡ true) (map-append (tree scene) f.params f.locals)
          (subst (λ n. fits (record (body_with ps r) { scope = record { classes = []; statics = map (static_of T) e.statics; locals = map (tree scene) (f.params ++ f.locals); this = None }; parameters = n }) false false (core scene f.body) ≡ true) (sym (length-map f.params (tree scene))) k.body)

      function-valid : (n : ℕ) → slice_get e.functions n ≡ Some f → function_fits file own ≡ true
      function-valid n at =
          and-both (is_function own.type && role_fits [] (class_of_role own.role) && list_all (is_complete []) (parameters own.type ++ ls) && result_fits [] (result own.type)) (body_fits (body_of file own) own.role own.body)
          (and-both (is_function own.type && role_fits [] (class_of_role own.role) && list_all (is_complete []) (parameters own.type ++ ls)) (result_fits [] (result own.type))
          (and-both (is_function own.type && role_fits [] (class_of_role own.role)) (list_all (is_complete []) (parameters own.type ++ ls))
          (and-both (is_function own.type) (role_fits [] (class_of_role own.role)) (taken_function scene is_scene ps r false) (ap (λ q. role_fits [] (class_of_role (role_of T q))) k.plain))
          (ap (λ l. list_all (is_complete []) (l ++ ls)) taken ∙ ap (list_all (is_complete [])) (sym (map-append (tree scene) f.params f.locals)) ∙ all-mapped (is_complete []) (tree scene) (f.params ++ f.locals) (λ i t there. finished.frames n f at i t there)))
          (ap (result_fits []) given ∙ finished.results n f at)) body-fits

    -- ---- static objects

    static-known : (n : ℕ) (x : CoreStatic) → slice_get e.statics n ≡ Some x → static_known T x ≡ true
    static-known n x at = let k = held.statics n x at in and-both (has_type T x.ty) (are_known T x.start) k.type k.numbers

    owner-valid : (o : Option Name) → OwnerThere scene o → owner_fits file o ≡ true
    owner-valid None k = refl
    owner-valid (Some name) k = sym (any-mapped (λ (f : Function). bytes_eq f.name name) (function_of T) e.functions) ∙ k

    static-valid : (n : ℕ) (x : CoreStatic) → slice_get e.statics n ≡ Some x → static_fits file (static_of T x) ≡ true
    static-valid n x at =
        let k = held.statics n x at in
        and-both _ (owner_fits file x.owner) (and-both (is_complete [] (tree scene x.ty)) _ (finished.statics n x at) k.start) (owner-valid x.owner k.owner)

    -- ---- the whole

    names-valid : all_differ (map (λ (f : Function). f.name) file.functions ++ map (λ (x : Static). x.name) file.statics) ≡ true
    names-valid =
        ap (λ l. all_differ (l ++ map (λ (x : Static). x.name) file.statics)) (map-through (function_of T) (λ (f : Function). f.name) e.functions)
        ∙ ap (λ l. all_differ (map (λ (f : CoreFn). f.name) e.functions ++ l)) (map-through (static_of T) (λ (x : Static). x.name) e.statics) ∙ finished.names

    functions-valid : list_all (function_fits file) file.functions ≡ true
    functions-valid = all-mapped (function_fits file) (function_of T) e.functions (λ n f at. function-valid f (held.functions n f at) n at)

    statics-valid : list_all (static_fits file) file.statics ≡ true
    statics-valid = all-mapped (static_fits file) (static_of T) e.statics static-valid

    file-valid : valid_file file ≡ true
    file-valid =
        and-both (all_differ (map (λ (f : Function). f.name) file.functions ++ map (λ (x : Static). x.name) file.statics) && list_all (function_fits file) file.functions) (list_all (static_fits file) file.statics)
        (and-both (all_differ (map (λ (f : Function). f.name) file.functions ++ map (λ (x : Static). x.name) file.statics)) (list_all (function_fits file) file.functions) names-valid functions-valid) statics-valid

    no-classes : file_of (core_unit e) ≡ file
    no-classes = ap (λ (ds : List (ℕ × ClassDef)). let x : CoreFile = record { classes = classes_in T ds; functions = map (function_of T) e.functions; statics = map (static_of T) e.statics } in x) c.none

    -- ---- types, and the limits

    classes-given : (v : Ty) → IsTrue (without_class v) → All (λ k. k < length e.classes.labels) (class_of_type v)
    classes-given (ty.Class k) p = absurd (true≢false (sym p))
    classes-given (ty.MemData k t) p = absurd (true≢false (sym p))
    classes-given (ty.MemFun k f) p = absurd (true≢false (sym p))
    classes-given v p = λ i d w. absurd (omega arith)

    enums-given : (v : Ty) → PartInside e v → All (λ n. n < length e.classes.enums) (enum_of_type v)
    enums-given (ty.Enum n) k = All-cons (λ m. m < length e.classes.enums) n [] k (λ i d w. absurd (omega arith))
    enums-given v k = λ i d w. absurd (omega arith)

    none-defined : (i : ℕ) (d : ℕ × ClassDef) → slice_get e.classes.defined i ≡ Some d → ⊥
    none-defined i d at = by (subst (λ (l : List (ℕ × ClassDef)). slice_get l i ≡ Some d) c.none at)
      where
        by : slice_get [] i ≡ Some d → ⊥
        by q = absurd cc

    fits-together : Fit e.types e.classes
    fits-together = record {
      classes_given = λ i v at. classes-given v (no_class_at e.types i v c.no_type at);
      enums_given = λ i v at. enums-given v (held.parts i v at);
      types_exist = λ i d at. absurd (none-defined i d at);
      fields_defined = λ i d at. absurd (none-defined i d at);
      sizes = λ i d at. absurd (none-defined i d at);
    }

    limits : WithinLimits (core_unit e)
    limits = record {
      sizes = λ t k. subst (λ (ds : List (ℕ × ClassDef)). size (classes_in T ds) (tree scene t) ≤ 2 ^ 22) (sym c.none) (size-small T finished.table c.no_type finished.elements sizes t k);
      functions = finished.short_functions;
      statics = finished.short_statics;
      descriptions = ap (λ (ds : List (ℕ × ClassDef)). list_all (λ (x : Class). is_short x.description) (classes_in T ds)) c.none;
    }

    pub unit-valid : IsValid (core_unit e)
    unit-valid = record {
      names = λ i v at. finished.table.earlier i v at;
      fit = fits-together;
      limits = limits;
      functions = all-from (function_known T) e.functions function-known;
      statics = all-from (static_known T) e.statics static-known;
      file = ap valid_file no-classes ∙ file-valid;
    }

-- ---- the law

-- an end that no environment leads to, for what does not depend on it
nowhere-file : IsFileEnd (nowhere [] 0)
nowhere-file = let k = nowhere-end [] 0 in record { scene = k.scene; arrays = k.arrays; outside = refl; frames = λ n f at. absurd cc }

pub file-law : ConstantsAreApart → (extent : Extent) (u : FileTree) → not_built u ≡ None → file_fits u ≡ true → (e : Env) → in_turn (map item_row u.items) (first_env extent (defined_names u)) ≡ Made tt e → IsFinished e → IsValid (core_unit e)
file-law apart extent u b fits e run finished =
    let begin = first_env extent (defined_names u) in
    let first : Good (nowhere [] 0) Any begin tt e = subst (λ r. Fine (nowhere [] 0) Any begin r) run (turn-fine (nowhere [] 0) nowhere-file apart u.items b fits refl extent (defined_names u)) in
    let small = subst (λ (r : Answer (Unit {0})). SmallIn e.types finished.table r) run (turn-small e.types finished.table (nowhere [] 0) nowhere-file apart u.items b fits refl extent (defined_names u)) (begins-same e.types.types) in
    let good : Good (scene e finished first.classless small) Any begin tt e = subst (λ r. Fine (scene e finished first.classless small) Any begin r) run (turn-fine (scene e finished first.classless small) (file-end e finished first.classless small) apart u.items b fits refl extent (defined_names u)) in
    unit-valid e finished first.classless small finished.hand good.holds

-- where a look at the end finds it well formed
pub finished-law : ConstantsAreApart → (extent : Extent) (u : FileTree) → not_built u ≡ None → file_fits u ≡ true → (e : Env) → in_turn (map item_row u.items) (first_env extent (defined_names u)) ≡ Made tt e → IsTable e.types → is_finished e ≡ true → IsValid (core_unit e)
finished-law apart extent u b fits e run table told =
    let begin = first_env extent (defined_names u) in
    let first : Good (nowhere [] 0) Any begin tt e = subst (λ r. Fine (nowhere [] 0) Any begin r) run (turn-fine (nowhere [] 0) nowhere-file apart u.items b fits refl extent (defined_names u)) in
    file-law apart extent u b fits e run (decided e table first.classless.no_type told)
