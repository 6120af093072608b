-- Files: what sequencing makes of a valid file of built functions is valid.
use Rattle.std.proofs.Common.{◌≡◌, ◌+◌, Bool, true, false, ◌&&◌, ◌||◌, not, if◌then◌else◌, List, [], ◌∷◌, ◌++◌, map, length, reverse, refl, sym, ap, ◌∙◌, subst}
use Rattle.std.specs.Prelude.{Some, None, slice_get, bytes_eq, codes, is_some}
use Rattle.std.specs.List.{list_all, flat_map}
use Rattle.std.proofs.lemmas.List.Concat.{flat_map-append}
use Rattle.std.proofs.lemmas.List.{reverse-append}
use Rattle.std.proofs.lemmas.List.Folds.{list_all-append}
use Rattle.cf_base.proofs.Tests.{both, all_of}
use Rattle.cf_core.specs.Types.{Name, SourceType, void, parameters, result, is_class}
use Rattle.cf_core.specs.Classes.{Class}
use Rattle.cf_core.specs.Core.{Core, Role, plain_function, Function, Static, CoreFile}
use Rattle.cf_core.specs.Nodes.{nodes}
use Rattle.cf_core.specs.Joined.{is_nothing}
use Rattle.cf_core.specs.Typing.{Scope, is_function}
use Rattle.cf_core.specs.Typed.{typing}
use Rattle.cf_core.specs.Valid as valid
use Rattle.cf_core.specs.Valid.{Body, is_complete, all_differ, role_fits, class_of_role, result_fits, body_of, fits}
use Rattle.cf_plain.specs.Plain as plain
use Rattle.cf_plain.specs.Plain.{Plains, PlainFunction, PlainStatic, nothing}
use Rattle.cf_plain.specs.Valid as checks
use Rattle.cf_sequence.specs.Built.{is_built_file, is_built_function, is_built_static, is_body, is_plain_role, is_chain, is_none, is_statement, arms_fit, has_mark}
use Rattle.cf_sequence.specs.Made.{Local, makes, added, declared, numbered}
use Rattle.cf_sequence.specs.Expressions.{finished}
use Rattle.cf_sequence.specs.Statements.{type_of_static, binds, reached, initialised}
use Rattle.cf_sequence.specs.Sequenced.{inside, outside, flowed_off, sequenced_body, sequenced_function, sequenced_start, sequenced_static, sequenced_file}
use Rattle.cf_sequence.proofs.Calling.{never}
use Rattle.cf_sequence.proofs.Constants.{constant-element, constant-object, constant-start, something-constant, by-set, start-adds, start-is}
use Rattle.cf_sequence.proofs.OwnNames.{is_own}
use Rattle.cf_sequence_valid.proofs.Serves.{either-true}
use Rattle.cf_sequence_valid.proofs.Fine.{Fine, fine-finished}
use Rattle.cf_sequence_valid.proofs.Stands.{stand-added, Stand, stand-behind, still-there, are_there, is_there, there-two, numbered-there}
use Rattle.cf_sequence_valid.proofs.Values.{Kept}
use Rattle.cf_sequence_valid.proofs.Lists.{Sound, element-sound, bound-sound}
use Rattle.cf_sequence_valid.proofs.Statements.{Works, works}

negated : (b : Bool) → not b ≡ true → b ≡ false
negated true e = never e
negated false e = refl

module _ (locals : List SourceType) where
  reversed-there : (xs : List Local) → are_there locals xs ≡ true → are_there locals (reverse xs) ≡ true
  reversed-there [] ok = refl
  reversed-there (x ∷ xs) ok =
      let parts = both (is_there locals x) (are_there locals xs) ok in
      ap (are_there locals) (reverse-append (x ∷ []) xs)
      ∙ there-two locals (reverse xs) (x ∷ []) (reversed-there xs parts.1) (all_of (is_there locals x) true parts.0 refl)

plain-statement : (body : Body) (role : Role) (e : Core) → is_plain_role role ≡ true → valid.body_fits body role e ≡ true → fits body false false e ≡ true
plain-statement body plain_function e ok is = is
plain-statement body role e ok is = never ok

plain-body : (locals : List SourceType) (classes : List Class) (role : Role) (ss : Plains) → is_plain_role role ≡ true → checks.all_fit locals false false ss ≡ true
    → checks.body_fits locals classes role ss ≡ true
plain-body locals classes plain_function ss ok is = is
plain-body locals classes role ss ok is = never ok

module _ (file : CoreFile) where
  abbrev completes : List SourceType → Bool
  completes ts = list_all (is_complete file.classes) ts

  -- a function's body is valid, and its locals are complete
  module _ (f : Function) (plain_role : is_plain_role f.role ≡ true) (built : is_body f ≡ true) (is : valid.function_fits file f ≡ true) where
    abbrev own : List SourceType
    own = parameters f.type ++ f.locals

    abbrev more : List SourceType
    more = added (nodes f.body)

    abbrev locals : List SourceType
    locals = parameters f.type ++ (f.locals ++ more)

    same-locals : own ++ more ≡ locals
    same-locals = together (parameters f.type) f.locals
      where
        together : (xs ys : List SourceType) → (xs ++ ys) ++ more ≡ xs ++ (ys ++ more)
        together [] ys = refl
        together (x ∷ xs) ys = ap (λ l. x ∷ l) (together xs ys)

    abbrev head : Bool
    head = is_function f.type && role_fits file.classes (class_of_role f.role) && completes own && result_fits file.classes (result f.type)

    fitting : (head ≡ true) × (valid.body_fits (body_of file f) f.role f.body ≡ true)
    fitting = both head (valid.body_fits (body_of file f) f.role f.body) is

    keeps : Kept (Body.scope (body_of file f)) locals
    keeps = record { kept = λ i t e. subst (λ l. slice_get l i ≡ Some t) same-locals (still-there own more i t e) }

    forms : (not (is_class (result f.type)) ≡ true) × (is_statement (length (parameters f.type)) f.body ≡ true)
    forms =
        let parts = both (not (is_class (result f.type))) (is_statement (length (parameters f.type)) f.body && arms_fit (length (parameters f.type) + length f.locals) f.body) built in
        (parts.0, (both (is_statement (length (parameters f.type)) f.body) (arms_fit (length (parameters f.type) + length f.locals) f.body) parts.1).0)

    body-works : Works (body_of file f) locals keeps false false f.body
    body-works = works (body_of file f) locals keeps f.body (length (parameters f.type)) false false forms.1 (plain-statement (body_of file f) f.role f.body plain_role fitting.1)

    parameters-there : are_there locals (reverse (numbered 0 (parameters f.type))) ≡ true
    parameters-there = reversed-there locals (numbered 0 (parameters f.type)) (numbered-there locals 0 (parameters f.type) (stand-behind [] (parameters f.type) (f.locals ++ more)))

    abbrev flowed : Plains
    flowed = finished (reverse (numbered 0 (parameters f.type))) nothing

    ends-fit : checks.all_fit locals false false (finished (declared f.body) (flowed_off f)) ≡ true
    ends-fit =
        Fine.fit (fine-finished locals {b = false} {c = false} (declared f.body) body-works.there) (flowed_off f)
        (ap (λ b. checks.all_fit locals false false (if b then nothing else flowed)) (negated (is_class (result f.type)) forms.0)
        ∙ Fine.fit (fine-finished locals {b = false} {c = false} (reverse (numbered 0 (parameters f.type))) parameters-there) nothing refl)

    body-fits : checks.all_fit locals false false (sequenced_body file.classes file.statics f) ≡ true
    body-fits =
        Fine.fit
        (body-works.code (inside file.classes file.statics f)
        (record { plain_result = negated (is_class (result f.type)) forms.0; here = refl; breaks = refl; continues = refl; returns = parameters-there })
        (length (parameters f.type) + length f.locals) (stand-added (parameters f.type) f.locals more)) (finished (declared f.body) (flowed_off f)) ends-fit

    pub added-complete : completes more ≡ true
    added-complete = body-works.complete

    pub function-fits : checks.function_fits (sequenced_file file) (sequenced_function file.classes file.statics f) ≡ true
    function-fits =
        let one = both (is_function f.type && role_fits file.classes (class_of_role f.role) && completes own) (result_fits file.classes (result f.type)) fitting.0 in
        let two = both (is_function f.type && role_fits file.classes (class_of_role f.role)) (completes own) one.0 in
        let all_complete : completes locals ≡ true =
        ap completes (sym same-locals) ∙ list_all-append (is_complete file.classes) own more ∙ all_of (completes own) (completes more) two.1 body-works.complete in
        all_of (is_function f.type && role_fits file.classes (class_of_role f.role) && completes locals && result_fits file.classes (result f.type))
        (checks.body_fits locals file.classes f.role (sequenced_body file.classes file.statics f))
        (all_of (is_function f.type && role_fits file.classes (class_of_role f.role) && completes locals) (result_fits file.classes (result f.type))
        (all_of (is_function f.type && role_fits file.classes (class_of_role f.role)) (completes locals) two.0 all_complete) one.1)
        (plain-body locals file.classes f.role (sequenced_body file.classes file.statics f) plain_role body-fits)

  -- what is built of a function
  good-parts : (f : Function) → is_built_function f ≡ true → (is_plain_role f.role ≡ true) × (is_body f ≡ true)
  good-parts f ok =
      let start : Bool = not (bytes_eq f.name (codes "__main")) || is_none (parameters f.type) in
      let two = both (is_plain_role f.role) (is_chain f.type && (start && is_body f)) ok in
      let three = both (is_chain f.type) (start && is_body f) two.1 in
      (two.0, (both start (is_body f) three.1).1)

  functions-fit : (fs : List Function) → list_all is_built_function fs ≡ true → list_all (valid.function_fits file) fs ≡ true
      → list_all (checks.function_fits (sequenced_file file)) (map (sequenced_function file.classes file.statics) fs) ≡ true
  functions-fit [] ok is = refl
  functions-fit (f ∷ fs) ok is =
      let built = both (is_built_function f) (list_all is_built_function fs) ok in
      let parts = both (valid.function_fits file f) (list_all (valid.function_fits file) fs) is in
      let good = good-parts f built.0 in
      all_of (checks.function_fits (sequenced_file file) (sequenced_function file.classes file.statics f)) _
      (function-fits f good.0 good.1 parts.0) (functions-fit fs built.1 parts.1)

  abbrev function_nodes : List Function → List Core
  function_nodes fs = flat_map (λ (f : Function). nodes f.body) fs

  functions-complete : (fs : List Function) → list_all is_built_function fs ≡ true → list_all (valid.function_fits file) fs ≡ true → completes (added (function_nodes fs)) ≡ true
  functions-complete [] ok is = refl
  functions-complete (f ∷ fs) ok is =
      let built = both (is_built_function f) (list_all is_built_function fs) ok in
      let parts = both (valid.function_fits file f) (list_all (valid.function_fits file) fs) is in
      let good = good-parts f built.0 in
      ap completes (flat_map-append makes (nodes f.body) (function_nodes fs))
      ∙ list_all-append (is_complete file.classes) (added (nodes f.body)) (added (function_nodes fs))
      ∙ all_of (completes (added (nodes f.body))) (completes (added (function_nodes fs))) (added-complete f good.0 good.1 parts.0) (functions-complete fs built.1 parts.1)

  same-names : (fs : List Function) → map (λ (f : PlainFunction). f.name) (map (sequenced_function file.classes file.statics) fs) ≡ map (λ (f : Function). f.name) fs
  same-names [] = refl
  same-names (f ∷ fs) = ap (λ l. f.name ∷ l) (same-names fs)

  same-objects : (xs : List Static) → map (λ (x : PlainStatic). x.name) (map (sequenced_static file.classes file.statics) xs) ≡ map (λ (x : Static). x.name) xs
  same-objects [] = refl
  same-objects (x ∷ xs) = ap (λ l. x.name ∷ l) (same-objects xs)

  -- Static objects: what sets one is valid, and adds no local.
  module _ (x : Static) (built : is_built_static file.statics x ≡ true) (is : valid.static_fits file x ≡ true) where
    abbrev T : SourceType
    T = type_of_static file.statics x.name

    abbrev outer : Scope
    outer = record { classes = file.classes; statics = file.statics; locals = []; this = None }

    abbrev alone : Body
    alone = record { scope = outer; parameters = 0; result = void; is_main = false }

    adds_none : added (nodes x.start) ≡ []
    adds_none = start-adds T x.start (constant-start file.statics x built)

    abbrev starting : Bool
    starting = (is_some x.owner && is_nothing x.start) || (typing outer x.start).start x.type

    there : (is_complete file.classes x.type ≡ true) × (starting ≡ true)
    there = both (is_complete file.classes x.type) starting (both (is_complete file.classes x.type && starting) (valid.owner_fits file x.owner) is).0

    -- the initialiser of one that has some
    start-typed : is_nothing x.start ≡ false → (typing outer x.start).start x.type ≡ true
    start-typed there_is =
        either-true (is_some x.owner && is_nothing x.start) ((typing outer x.start).start x.type) there.1
        (λ none. never (sym there_is ∙ (both (is_some x.owner) (is_nothing x.start) none).1)) (λ ok. ok)

    reached-fit : (b : Bool) (rest : Plains) → checks.all_fit [] false false rest ≡ true → checks.all_fit [] false false (reached b T x.name rest) ≡ true
    reached-fit true rest ok = ok
    reached-fit false rest ok = ok

    set-fits : (b : Bool) → is_nothing x.start ≡ b
        → checks.all_fit [] false false (if b then nothing else initialised file.classes T x.name x.start 0 nothing) ≡ true
    set-fits true e = refl
    set-fits false e =
        let set = something-constant T x.start (constant-start file.statics x built) e in
        let none_kept : Kept outer [] = record { kept = λ i t at. absurd (cc) } in
        let sound =
        by-set T x.start set (λ bound. bound-sound alone [] none_kept x.type x.start bound (start-typed e))
        (λ other constant. element-sound alone [] none_kept T x.type x.start (constant-element T x.start constant) (start-typed e)) in
        reached-fit (binds x.start) _
        (Fine.fit (Sound.code sound false false (outside file.classes file.statics) T 0 0 (subst (Stand [] 0) (sym adds_none) tt)) (plain.more (plain.act (plain.finish_static x.name)) nothing) refl)

    pub static-fits : checks.static_fits (sequenced_file file) (sequenced_static file.classes file.statics x) ≡ true
    static-fits =
        ap (λ (ls : List SourceType). is_complete file.classes x.type && completes ls && checks.all_fit ls false false (sequenced_start file.classes file.statics x)) adds_none
        ∙ all_of (is_complete file.classes x.type && true) (checks.all_fit [] false false (sequenced_start file.classes file.statics x))
        (all_of (is_complete file.classes x.type) true there.0 refl)
        (ap (checks.all_fit [] false false) (start-is file.classes file.statics x (constant-object file.statics x built)) ∙ set-fits (is_nothing x.start) refl)

  statics-fit : (xs : List Static) → list_all (is_own file.statics) xs ≡ true → list_all (valid.static_fits file) xs ≡ true
      → list_all (checks.static_fits (sequenced_file file)) (map (sequenced_static file.classes file.statics) xs) ≡ true
  statics-fit [] ok is = refl
  statics-fit (x ∷ xs) ok is =
      let own = both (is_own file.statics x) (list_all (is_own file.statics) xs) ok in
      let parts = both (valid.static_fits file x) (list_all (valid.static_fits file) xs) is in
      all_of (checks.static_fits (sequenced_file file) (sequenced_static file.classes file.statics x)) _
      (static-fits x (both (is_built_static file.statics x) (not (has_mark x.name)) own.0).0 parts.0) (statics-fit xs own.1 parts.1)

  -- the objects that are made for calls are of complete types
  pub file-complete : valid.valid_file file ≡ true → is_built_file file ≡ true → completes (added (function_nodes file.functions)) ≡ true
  file-complete is built =
      let classes_good : Bool = valid.classes_fit [] file.classes && list_all (λ (c : Class). valid.overriders_exist file.classes c.code) file.classes in
      let names : List Name = map (λ (f : Function). f.name) file.functions ++ map (λ (x : Static). x.name) file.statics in
      let functions_good : Bool = list_all (valid.function_fits file) file.functions in
      let one = both (classes_good && all_differ names && functions_good) (list_all (valid.static_fits file) file.statics) is in
      let some = both (is_none file.classes) (list_all (is_own file.statics) file.statics && list_all is_built_function file.functions) built in
      functions-complete file.functions (both (list_all (is_own file.statics) file.statics) (list_all is_built_function file.functions) some.1).1 (both (classes_good && all_differ names) functions_good one.0).1

  pub file-fits : valid.valid_file file ≡ true → is_built_file file ≡ true → checks.valid_file (sequenced_file file) ≡ true
  file-fits is built =
      let classes_good : Bool = valid.classes_fit [] file.classes && list_all (λ (c : Class). valid.overriders_exist file.classes c.code) file.classes in
      let names : List Name = map (λ (f : Function). f.name) file.functions ++ map (λ (x : Static). x.name) file.statics in
      let names_now : List Name =
      map (λ (f : PlainFunction). f.name) (map (sequenced_function file.classes file.statics) file.functions)
      ++ map (λ (x : PlainStatic). x.name) (map (sequenced_static file.classes file.statics) file.statics) in
      let functions_good : Bool = list_all (valid.function_fits file) file.functions in
      let one = both (classes_good && all_differ names && functions_good) (list_all (valid.static_fits file) file.statics) is in
      let two = both (classes_good && all_differ names) functions_good one.0 in
      let three = both classes_good (all_differ names) two.0 in
      let same : names_now ≡ names =
      ap (λ l. l ++ map (λ (x : PlainStatic). x.name) (map (sequenced_static file.classes file.statics) file.statics)) (same-names file.functions)
      ∙ ap (λ l. map (λ (f : Function). f.name) file.functions ++ l) (same-objects file.statics) in
      let some = both (is_none file.classes) (list_all (is_own file.statics) file.statics && list_all is_built_function file.functions) built in
      let more = both (list_all (is_own file.statics) file.statics) (list_all is_built_function file.functions) some.1 in
      let functions_now : Bool = list_all (checks.function_fits (sequenced_file file)) (map (sequenced_function file.classes file.statics) file.functions) in
      all_of (classes_good && all_differ names_now && functions_now) (list_all (checks.static_fits (sequenced_file file)) (map (sequenced_static file.classes file.statics) file.statics))
      (all_of (classes_good && all_differ names_now) functions_now (all_of classes_good (all_differ names_now) three.0 (ap all_differ same ∙ three.1)) (functions-fit file.functions more.1 two.1))
      (statics-fit file.statics more.0 one.1)
