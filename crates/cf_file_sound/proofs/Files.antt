-- A valid file of built forms that is sound is, joined alone, a sound program.
use Rattle.std.proofs.Common.{◌≡◌, ℕ, zero, suc, ◌+◌, Bool, true, false, cond, ◌&&◌, ◌||◌, not, List, [], ◌∷◌, ◌++◌, map, filter, length, ap, refl, sym, ◌∙◌, subst}
use Rattle.std.specs.Prelude.{Option, Some, None, is_some, find, slice_get, bytes_eq, codes}
use Rattle.std.specs.List.{list_any, list_all}
use Rattle.std.proofs.lemmas.List.Folds.{list_any-append}
use Rattle.cf_base.proofs.Tests.{both, all_of, bytes_same}
use Rattle.cf_core.specs.Types.{Name, SourceType, parameters, result, is_class}
use Rattle.cf_core.specs.Classes.{Class}
use Rattle.cf_core.specs.Core.{Core, blank, Role, plain_function, Function, Static, CoreFile}
use Rattle.cf_core.specs.Places.{is_reference}
use Rattle.cf_core.specs.Calls.{Program, is_library, function_named}
use Rattle.cf_core.specs.Objects.{static_type}
use Rattle.cf_core.specs.Joined.{renamed, is_nothing, local_names, function_in_file, static_in_file, sets_constant, constant_setting, program_of}
use Rattle.cf_core.specs.Typing.{is_function}
use Rattle.cf_core.specs.Typed.{typing}
use Rattle.cf_core.specs.Valid as valid
use Rattle.cf_core.specs.Valid.{Body, valid_file, is_complete, all_differ, body_of, fits, static_fits, owner_fits, role_fits, class_of_role, result_fits, body_fits}
use Rattle.cf_core_sound.specs.Proper.{is_proper}
use Rattle.cf_core_sound.specs.Simple as simply
use Rattle.cf_core_sound.specs.Simple.{has_object}
use Rattle.cf_core_sound.specs.Statements.{is_object, is_simple_initial, is_simple_statement}
use Rattle.cf_core_sound.specs.Calls.{frame_types}
use Rattle.cf_core_sound.specs.Programs as programs
use Rattle.cf_core_sound.specs.Programs.{in_program, is_sound_function, is_sound_static, outside, is_sound_setting, is_main, is_sound_program}
use Rattle.cf_core_sound.proofs.Runs.{at-all}
use Rattle.cf_sequence.specs.Built.{is_chain, is_statement, arms_fit, is_none, is_plain_role, is_body, is_built_function, is_built_static, is_constant_start, is_element, is_held, has_mark, is_built_file}
use Rattle.cf_sequence.specs.Statements.{type_of_static, binds}
use Rattle.cf_sequence.proofs.Constants.{constant-element, something-constant, by-set, bound-binds}
use Rattle.cf_file_sound.specs.Files.{alone, is_sound_tree, is_sound_body, is_sound_object, stands_for_main, is_sound_file}
use Rattle.cf_file_sound.proofs.Typed.{never, same-element}
use Rattle.cf_file_sound.proofs.Fitting.{there, same-fits}
use Rattle.cf_file_sound.proofs.Simple.{complete-object, initial, statement}
use Rattle.cf_file_sound.proofs.Lists.{none-is, of-some, negated, all-by, any-at, placed-any}
use Rattle.cf_file_sound.proofs.Names.{same-test, main-stays}
use Rattle.cf_file_sound.proofs.Joined.{starter, of_parts, own, joined_by, joined-is}
use Rattle.cf_file_sound.proofs.Standing.{has, serves, main-outside, main-found}
use Rattle.cf_file_sound.proofs.Objects.{Apart, is_unmarked, behind-differ, own-type, joined-type}

plain-role : (role : Role) → is_plain_role role ≡ true → programs.is_plain_role role ≡ true
plain-role plain_function ok = refl
plain-role role ok = never ok

plain-body : (body : Body) (role : Role) (e : Core) → is_plain_role role ≡ true → body_fits body role e ≡ true → fits body false false e ≡ true
plain-body body plain_function e ok is = is
plain-body body role e ok is = never ok

-- objects, where types are proper and complete
objects : (classes : List Class) (ts : List SourceType) → list_all is_proper ts ≡ true → list_all (is_complete classes) ts ≡ true → list_all is_object ts ≡ true
objects classes [] proper complete = refl
objects classes (t ∷ ts) proper complete =
    let p = both (is_proper t) (list_all is_proper ts) proper in
    let q = both (is_complete classes t) (list_all (is_complete classes) ts) complete in
    all_of (is_object t) (list_all is_object ts) (all_of (is_proper t) (not (is_function t)) p.0 (complete-object classes t q.0)) (objects classes ts p.1 q.1)

main-there : (f : Option Function) → is_main f ≡ true → is_some f ≡ true
main-there None ok = never ok
main-there (Some f) ok = refl

or-false : (b c : Bool) → b ≡ false → b || c ≡ true → c ≡ true
or-false true c e ok = never (sym e)
or-false false c e ok = ok

or-left : (b c : Bool) → b ≡ true → b || c ≡ true
or-left true c e = refl
or-left false c e = never e

first-none : (b c : Bool) → c ≡ false → b && c ≡ false
first-none true c e = e
first-none false c e = refl

module _ (functions : List Function) (statics : List Static) where
  abbrev file : CoreFile
  file = of_parts functions statics

  abbrev r : Name → Name
  r = own functions statics

  abbrev P : Program
  P = joined_by r functions statics

  abbrev by_other_names : List Static
  by_other_names = map (static_in_file r) statics

  abbrev names : List Name
  names = map (λ (f : Function). f.name) functions ++ map (λ (x : Static). x.name) statics

  module _ (library : list_all (λ (x : Static). not (is_library x.name)) statics ≡ true) (stays : (n : Name) → bytes_eq (r n) (codes "__main") ≡ bytes_eq n (codes "__main")) where
    -- ---- functions

    function-sound : (f : Function) → is_built_function f ≡ true → valid.function_fits file f ≡ true → is_sound_body file f ≡ true → is_sound_function P (function_in_file r f) ≡ true
    function-sound f built fit sound =
        let m : ℕ = length (parameters f.type) in
        let body : Body = body_of file f in
        let takes_none : Bool = not (bytes_eq f.name (codes "__main")) || is_none (parameters f.type) in
        let b1 = both (is_plain_role f.role) (is_chain f.type && (takes_none && is_body f)) built in
        let b2 = both (is_chain f.type) (takes_none && is_body f) b1.1 in
        let b3 = both (not (is_class (result f.type))) (is_statement m f.body && arms_fit (m + length f.locals) f.body) (both takes_none (is_body f) b2.1).1 in
        let formed = (both (is_statement m f.body) (arms_fit (m + length f.locals) f.body) b3.1).0 in
        let complete : Bool = list_all (is_complete []) (frame_types f) in
        let start : Bool = is_function f.type && role_fits [] (class_of_role f.role) in
        let v1 = both (start && complete && result_fits [] (result f.type)) (body_fits body f.role f.body) fit in
        let whole = (both start complete (both (start && complete) (result_fits [] (result f.type)) v1.0).0).1 in
        let fitting = plain-body body f.role f.body b1.0 v1.1 in
        let s1 = both (list_all is_proper (frame_types f)) (is_sound_tree file body.scope f.body) sound in
        let made : Body = body_of (in_program P) (function_in_file r f) in
        let simple = is_simple_statement P made.scope (renamed r f.body) in
        let fits_there = fits made false false (renamed r f.body) in
        let are_objects = list_all is_object (frame_types f) in
        all_of (programs.is_plain_role f.role) (simply.is_chain f.type && (are_objects && (simple && fits_there))) (plain-role f.role b1.0)
        (all_of (simply.is_chain f.type) (are_objects && (simple && fits_there)) b2.0
        (all_of are_objects (simple && fits_there) (objects [] (frame_types f) s1.0 whole)
        (all_of simple fits_there
        (statement file r P by_other_names (has functions statics) (serves functions statics library) body refl whole m false false f.body formed s1.1 fitting)
        (ap (λ b. let g : Body = record (there r body by_other_names) { is_main = b } in fits g false false (renamed r f.body)) (stays f.name)
        ∙ same-fits r body by_other_names m false false f.body formed ∙ fitting))))

    -- ---- objects

    module _ (differ : all_differ names ≡ true) (built : list_all (λ (x : Static). is_built_static statics x && is_unmarked x) statics ≡ true) where
      apart : Apart r
      apart = same-test (local_names file)

      unmarked : list_all is_unmarked statics ≡ true
      unmarked = all-by is_unmarked statics (λ i x at. (both (is_built_static statics x) (is_unmarked x) (at-all (λ (x : Static). is_built_static statics x && is_unmarked x) statics i x built at)).1)

      statics-differ : all_differ (map (λ (x : Static). x.name) statics) ≡ true
      statics-differ = behind-differ (map (λ (f : Function). f.name) functions) (map (λ (x : Static). x.name) statics) differ

      module _ (i : ℕ) (x : Static) (at : slice_get statics i ≡ Some x) (fit : static_fits file x ≡ true) (sound : is_sound_object file x ≡ true) where
        own-built : (is_built_static statics x ≡ true) × (is_unmarked x ≡ true)
        own-built = both (is_built_static statics x) (is_unmarked x) (at-all (λ (x : Static). is_built_static statics x && is_unmarked x) statics i x built at)

        same : type_of_static statics x.name ≡ x.type
        same = own-type statics statics-differ unmarked i x at own-built.1

        -- it is constant, and set by what is built
        formed : is_constant_start x.type x.start ≡ true
        formed = ap (λ t. is_constant_start t x.start) (sym same) ∙ (both x.is_constant (is_constant_start (type_of_static statics x.name) x.start) own-built.0).1

        abbrev begun : Bool
        begun = (is_some x.owner && is_nothing x.start) || (typing (outside (alone file)) x.start).start x.type

        fitting : (is_complete [] x.type ≡ true) × (begun ≡ true)
        fitting = both (is_complete [] x.type) begun (both (is_complete [] x.type && begun) (owner_fits file x.owner) fit).0

        abbrev sound_parts : Bool
        sound_parts = is_proper x.type && is_sound_tree file (outside (alone file)) x.start

        -- it is no reference
        other : (not (is_reference x.type) ≡ true) × (not (binds x.start) && sound_parts ≡ true)
        other = both (not (is_reference x.type)) (not (binds x.start) && sound_parts) (both (not (is_library x.name)) (not (is_reference x.type) && (not (binds x.start) && sound_parts)) sound).1

        unbound : (not (binds x.start) ≡ true) × (sound_parts ≡ true)
        unbound = both (not (binds x.start)) sound_parts other.1

        good : (is_proper x.type ≡ true) × (is_sound_tree file (outside (alone file)) x.start ≡ true)
        good = both (is_proper x.type) (is_sound_tree file (outside (alone file)) x.start) unbound.1

        pub static-sound : is_sound_static (static_in_file r x) ≡ true
        static-sound = all_of (is_object x.type) (not (is_reference x.type)) (all_of (is_proper x.type) (not (is_function x.type)) good.0 (complete-object [] x.type fitting.0)) other.0

        named : has_object P (r x.name) ≡ true
        named = has functions statics x.name (placed-any (λ (y : Static). bytes_eq y.name x.name) statics ∙ any-at (λ (y : Static). bytes_eq y.name x.name) statics i x at (bytes_same x.name x.name refl))

        pub setting-sound : (name : Name) → sets_constant (static_in_file r x) ≡ true → is_sound_setting P (constant_setting name (static_in_file r x)) ≡ true
        setting-sound name sets =
            let something : is_nothing x.start ≡ false = still x.start (negated (is_nothing (renamed r x.start)) (both x.is_constant (not (is_nothing (renamed r x.start))) sets).1) in
            let element =
            by-set x.type x.start (something-constant x.type x.start formed something) (λ bound. never (sym (ap not (bound-binds x.start bound)) ∙ unbound.0))
            (λ object constant. constant-element x.type x.start constant) in
            let begins = or-false (is_some x.owner && is_nothing x.start) ((typing (outside (alone file)) x.start).start x.type) (first-none (is_some x.owner) (is_nothing x.start) something) fitting.1 in
            let simple = is_simple_initial P (outside P) (renamed r x.start) in
            let starts = (typing (outside P) (renamed r x.start)).start (static_type P (r x.name)) in
            all_of (has_object P (r x.name)) (simple && starts) named
            (all_of simple starts
            (initial file r P by_other_names (has functions statics) (serves functions statics library) (outside (alone file)) refl 0 x.type x.type x.start
            (or-left (is_element x.type x.start) (is_held 0 x.start) element) good.1 refl begins)
            (ap (λ t. (typing (outside P) (renamed r x.start)).start t) (joined-type statics statics-differ unmarked i x at own-built.1 r apart)
            ∙ ap (λ y. y.start x.type) (same-element r (outside (alone file)) by_other_names x.type x.start element) ∙ begins))
          where
            still : (e : Core) → is_nothing (renamed r e) ≡ false → is_nothing e ≡ false
            still blank e = e
            still c e = refl

-- ---- lists of them

mapped : {A B : Type 0} (test : B → Bool) (g : A → B) (xs : List A) → ((i : ℕ) (x : A) → slice_get xs i ≡ Some x → test (g x) ≡ true) → list_all test (map g xs) ≡ true
mapped test g [] each = refl
mapped test g (x ∷ xs) each = all_of (test (g x)) (list_all test (map g xs)) (each 0 x refl) (mapped test g xs (λ i y at. each (suc i) y at))

picked : {A B : Type 0} (test : B → Bool) (keep : A → Bool) (g : A → B) (xs : List A) → ((i : ℕ) (x : A) → slice_get xs i ≡ Some x → keep x ≡ true → test (g x) ≡ true)
    → list_all test (map g (filter keep xs)) ≡ true
picked test keep g [] each = refl
picked test keep g (x ∷ xs) each = by (keep x) refl (picked test keep g xs (λ i y at. each (suc i) y at))
  where
    by : (b : Bool) → keep x ≡ b → list_all test (map g (filter keep xs)) ≡ true → list_all test (map g (cond b (x ∷ filter keep xs) (filter keep xs))) ≡ true
    by true is rest = all_of (test (g x)) (list_all test (map g (filter keep xs))) (each 0 x refl is) rest
    by false is rest = rest

mapped-at : {A B : Type 0} (g : A → B) (xs : List A) (Q : B → Type 0) → ((i : ℕ) (x : A) → slice_get xs i ≡ Some x → Q (g x)) → (i : ℕ) (y : B) → slice_get (map g xs) i ≡ Some y → Q y
mapped-at g [] Q each i y at = absurd (none-is y at)
mapped-at g (x ∷ xs) Q each zero y at = subst Q (of-some (g x) y at) (each 0 x refl)
mapped-at g (x ∷ xs) Q each (suc i) y at = mapped-at g xs Q (λ i z at. each (suc i) z at) i y at

module _ (functions : List Function) (statics : List Static) where
  abbrev whole_file : CoreFile
  whole_file = of_parts functions statics

  abbrev Q : Program
  Q = joined_by (own functions statics) functions statics

  pub constant-objects : is_built_file whole_file ≡ true → list_all (λ (x : Static). x.is_constant) statics ≡ true
  constant-objects built =
      let is_own : Static → Bool = λ x. is_built_static statics x && is_unmarked x in
      let b = both (list_all is_own statics) (list_all is_built_function functions) built in
      all-by (λ (x : Static). x.is_constant) statics
      (λ i x at. (both x.is_constant (is_constant_start (type_of_static statics x.name) x.start)
      (both (is_built_static statics x) (is_unmarked x) (at-all is_own statics i x b.0 at)).0).0)

  of-parts : valid_file whole_file ≡ true → is_built_file whole_file ≡ true → is_sound_file whole_file ≡ true → is_sound_program Q ≡ true
  of-parts valid_one built sound =
      let g : Name → Name = own functions statics in
      let every_name = map (λ (f : Function). f.name) functions ++ map (λ (x : Static). x.name) statics in
      let v1 = both (all_differ every_name && list_all (valid.function_fits whole_file) functions) (list_all (static_fits whole_file) statics) valid_one in
      let v2 = both (all_differ every_name) (list_all (valid.function_fits whole_file) functions) v1.0 in
      let is_own : Static → Bool = λ x. is_built_static statics x && is_unmarked x in
      let b = both (list_all is_own statics) (list_all is_built_function functions) built in
      let s1 = both (is_main (find stands_for_main functions)) (list_all (is_sound_body whole_file) functions && list_all (is_sound_object whole_file) statics) sound in
      let s2 = both (list_all (is_sound_body whole_file) functions) (list_all (is_sound_object whole_file) statics) s1.1 in
      let sound_at : (i : ℕ) (x : Static) → slice_get statics i ≡ Some x → is_sound_object whole_file x ≡ true = λ i x at. at-all (is_sound_object whole_file) statics i x s2.1 at in
      let fit_at : (i : ℕ) (x : Static) → slice_get statics i ≡ Some x → static_fits whole_file x ≡ true = λ i x at. at-all (static_fits whole_file) statics i x v1.1 at in
      let library : list_all (λ (x : Static). not (is_library x.name)) statics ≡ true =
      all-by (λ (x : Static). not (is_library x.name)) statics
      (λ i x at. (both (not (is_library x.name)) _ (sound_at i x at)).0) in
      let outside_names = main-outside functions statics v2.0 (main-there (find stands_for_main functions) s1.0) in
      let stays = main-stays (local_names whole_file) outside_names in
      let functions_sound = list_all (is_sound_function Q) Q.functions in
      let statics_sound = list_all is_sound_static Q.statics in
      let settings_sound = list_all (is_sound_setting Q) Q.constants in
      all_of (is_main (function_named Q (codes "__main"))) (functions_sound && (statics_sound && settings_sound))
      (main-found g stays functions (no-function functions statics outside_names) s1.0)
      (all_of functions_sound (statics_sound && settings_sound)
      (mapped (is_sound_function Q) (function_in_file g) functions (λ i f at.
      function-sound functions statics library stays f (at-all is_built_function functions i f b.1 at) (at-all (valid.function_fits whole_file) functions i f v2.1 at)
      (at-all (is_sound_body whole_file) functions i f s2.0 at)))
      (all_of statics_sound settings_sound
      (mapped is_sound_static (static_in_file g) statics (λ i x at. static-sound functions statics library stays v2.0 b.0 i x at (fit_at i x at) (sound_at i x at)))
      (picked (is_sound_setting Q) sets_constant (constant_setting starter) (map (static_in_file g) statics)
      (mapped-at (static_in_file g) statics (λ y. sets_constant y ≡ true → is_sound_setting Q (constant_setting starter y) ≡ true)
      (λ i x at. setting-sound functions statics library stays v2.0 b.0 i x at (fit_at i x at) (sound_at i x at) starter)))))
    where
      no-function : (fs : List Function) (xs : List Static) → list_any (bytes_eq (codes "__main")) (local_names (of_parts fs xs)) ≡ false
          → list_any (bytes_eq (codes "__main")) (map (λ (f : Function). f.name) (filter (λ (f : Function). f.is_local) fs)) ≡ false
      no-function fs xs ok =
          left (list_any (bytes_eq (codes "__main")) (map (λ (f : Function). f.name) (filter (λ (f : Function). f.is_local) fs)))
          (list_any (bytes_eq (codes "__main")) (map (λ (x : Static). x.name) (filter (λ (x : Static). x.is_local) xs)))
          (sym (list_any-append (bytes_eq (codes "__main")) (map (λ (f : Function). f.name) (filter (λ (f : Function). f.is_local) fs))
          (map (λ (x : Static). x.name) (filter (λ (x : Static). x.is_local) xs))) ∙ ok)
        where
          left : (b c : Bool) → b || c ≡ false → b ≡ false
          left true c ok = ok
          left false c ok = refl

abbrev Law : CoreFile → Type 0
Law file = valid_file file ≡ true → is_built_file file ≡ true → is_sound_file file ≡ true → is_sound_program (program_of (file ∷ [])) ≡ true

-- a file whose classes are none
file-is : (file : CoreFile) → is_none file.classes ≡ true → of_parts file.functions file.statics ≡ file
file-is file none = ap (λ cs. let x : CoreFile = record { classes = cs; functions = file.functions; statics = file.statics } in x) (sym (empty file.classes none))
  where
    empty : (cs : List Class) → is_none cs ≡ true → cs ≡ []
    empty [] ok = refl
    empty (c ∷ cs) ok = never ok

no-classes : (file : CoreFile) → is_built_file file ≡ true → is_none file.classes ≡ true
no-classes file built =
    (both (is_none file.classes) (list_all (λ (x : Static). is_built_static file.statics x && not (has_mark x.name)) file.statics && list_all is_built_function file.functions) built).0

pub sound-files : (file : CoreFile) → Law file
sound-files file valid_one built sound =
    subst Law (file-is file (no-classes file built)) (λ v b s.
    ap is_sound_program (joined-is file.functions file.statics (constant-objects file.functions file.statics b)) ∙ of-parts file.functions file.statics v b s) valid_one built sound

-- joined alone it has no classes, and nothing that is initialised as the program runs
abbrev Alone : CoreFile → Type 0
Alone file = is_built_file file ≡ true → (Program.classes (program_of (file ∷ [])) ≡ []) × (Program.initialisers (program_of (file ∷ [])) ≡ [])

pub nothing-more : (file : CoreFile) → Alone file
nothing-more file built =
    subst Alone (file-is file (no-classes file built)) (λ b.
    let joined = joined-is file.functions file.statics (constant-objects file.functions file.statics b) in
    (ap (λ (R : Program). R.classes) joined, ap (λ (R : Program). R.initialisers) joined)) built
