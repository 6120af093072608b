-- Files: in what sequencing makes of a valid file of built functions each register is set before it is used, and holds there what is taken.
use Rattle.std.proofs.Common.{◌≡◌, ◌+◌, Bool, true, false, ◌&&◌, ◌||◌, not, if◌then◌else◌, List, [], ◌∷◌, ◌++◌, map, length, reverse, refl, ap, ◌∙◌, subst}
use Rattle.std.specs.Prelude.{Some, slice_get, is_some, bytes_eq, codes}
use Rattle.std.specs.List.{list_all}
use Rattle.cf_base.proofs.Tests.{both, all_of}
use Rattle.cf_core.specs.Types.{Name, SourceType, parameters, result, is_class}
use Rattle.cf_core.specs.Classes.{Class}
use Rattle.cf_core.specs.Core.{Role, plain_function, Function, Static, CoreFile, Core}
use Rattle.cf_core.specs.Nodes.{nodes}
use Rattle.cf_core.specs.Typing.{is_function}
use Rattle.cf_core.specs.Valid as valid
use Rattle.cf_core.specs.Valid.{Body, is_complete, all_differ, role_fits, class_of_role, result_fits, body_of, fits}
use Rattle.cf_plain.specs.Plain.{Plains, nothing}
use Rattle.cf_plain_kept.specs.Kept.{nothing_set, function_kept, functions_kept}
use Rattle.cf_sequence.specs.Built.{is_built_file, is_built_function, is_body, is_plain_role, is_chain, is_none, is_statement, arms_fit}
use Rattle.cf_sequence.specs.Made.{added, declared, numbered}
use Rattle.cf_sequence.specs.Expressions.{finished}
use Rattle.cf_sequence.specs.Sequenced.{inside, flowed_off, sequenced_function, sequenced_file}
use Rattle.cf_sequence.proofs.Calling.{never}
use Rattle.cf_sequence.proofs.OwnNames.{is_own}
use Rattle.cf_sequence_kept.proofs.Values.{runs}
use Rattle.cf_sequence_kept.proofs.Statements.{runs-statement, runs-finished}
use Rattle.cf_sequence_valid.proofs.Stands.{Stand, stand-added, still-there}
use Rattle.cf_sequence_valid.proofs.Values as locals_of

negated : (b : Bool) → not b ≡ true → b ≡ false
negated true e = never e
negated false e = refl

plain-statement : (body : Body) (role : Role) (e : Core) → is_plain_role role ≡ true → valid.body_fits body role e ≡ true → fits body false false e ≡ true
plain-statement body plain_function e ok is = is
plain-statement body role e ok is = never ok

together : (xs ys zs : List SourceType) → (xs ++ ys) ++ zs ≡ xs ++ (ys ++ zs)
together [] ys zs = refl
together (x ∷ xs) ys zs = ap (λ l. x ∷ l) (together xs ys zs)

module _ (file : CoreFile) where
  function-keeps : (f : Function) → is_plain_role f.role ≡ true → is_body f ≡ true → valid.function_fits file f ≡ true
      → function_kept (sequenced_function file.classes file.statics f) ≡ true
  function-keeps f plain_role built is =
      let own : List SourceType = parameters f.type ++ f.locals in
      let more : List SourceType = added (nodes f.body) in
      let locals : List SourceType = parameters f.type ++ (f.locals ++ more) in
      let head : Bool = is_function f.type && role_fits file.classes (class_of_role f.role) && list_all (is_complete file.classes) own && result_fits file.classes (result f.type) in
      let fitting = both head (valid.body_fits (body_of file f) f.role f.body) is in
      let parts = both (not (is_class (result f.type))) (is_statement (length (parameters f.type)) f.body && arms_fit (length (parameters f.type) + length f.locals) f.body) built in
      let forms : (not (is_class (result f.type)) ≡ true) × (is_statement (length (parameters f.type)) f.body ≡ true) = (parts.0, (both (is_statement (length (parameters f.type)) f.body) (arms_fit (length (parameters f.type) + length f.locals) f.body) parts.1).0) in
      let keeps : locals_of.Kept (Body.scope (body_of file f)) locals =
      record { kept = λ i t e. subst (λ l. slice_get l i ≡ Some t) (together (parameters f.type) f.locals more) (still-there own more i t e) } in
      let scalar = negated (is_class (result f.type)) forms.0 in
      let stand : Stand locals (length (parameters f.type) + length f.locals) (added (nodes f.body)) = stand-added (parameters f.type) f.locals more in
      let flowed : Plains = finished (reverse (numbered 0 (parameters f.type))) nothing in
      let p = runs-statement (body_of file f) locals keeps f.body (length (parameters f.type)) false false forms.1 (plain-statement (body_of file f) f.role f.body plain_role fitting.1)
      (inside file.classes file.statics f) scalar (length (parameters f.type) + length f.locals) nothing_set stand in
      let q = runs-finished (body_of file f) locals keeps (declared f.body) p.now in
      let r = runs-finished (body_of file f) locals keeps (reverse (numbered 0 (parameters f.type))) q.now in
      ap is_some
      (p.goes (finished (declared f.body) (flowed_off f)) ∙ q.goes (flowed_off f)
      ∙ ap (λ b. runs locals (result f.type) (if b then nothing else flowed) q.now) scalar ∙ r.goes nothing)

  good-parts : (f : Function) → is_built_function f ≡ true → (is_plain_role f.role ≡ true) × (is_body f ≡ true)
  good-parts f ok =
      let start : Bool = not (bytes_eq f.name (codes "__main")) || is_none (parameters f.type) in
      let two = both (is_plain_role f.role) (is_chain f.type && (start && is_body f)) ok in
      let three = both (is_chain f.type) (start && is_body f) two.1 in
      (two.0, (both start (is_body f) three.1).1)

  all-keep : (fs : List Function) → list_all is_built_function fs ≡ true → list_all (valid.function_fits file) fs ≡ true
      → list_all function_kept (map (sequenced_function file.classes file.statics) fs) ≡ true
  all-keep [] ok is = refl
  all-keep (f ∷ fs) ok is =
      let built = both (is_built_function f) (list_all is_built_function fs) ok in
      let parts = both (valid.function_fits file f) (list_all (valid.function_fits file) fs) is in
      let good = good-parts f built.0 in
      all_of (function_kept (sequenced_function file.classes file.statics f)) _ (function-keeps f good.0 good.1 parts.0) (all-keep fs built.1 parts.1)

  pub file-keeps : valid.valid_file file ≡ true → is_built_file file ≡ true → functions_kept (sequenced_file file) ≡ true
  file-keeps is built =
      let classes_good : Bool = valid.classes_fit [] file.classes && list_all (λ (c : Class). valid.overriders_exist file.classes c.code) file.classes in
      let names : List Name = map (λ (f : Function). f.name) file.functions ++ map (λ (x : Static). x.name) file.statics in
      let functions_good : Bool = list_all (valid.function_fits file) file.functions in
      let one = both (classes_good && all_differ names && functions_good) (list_all (valid.static_fits file) file.statics) is in
      let some = both (is_none file.classes) (list_all (is_own file.statics) file.statics && list_all is_built_function file.functions) built in
      all-keep file.functions (both (list_all (is_own file.statics) file.statics) (list_all is_built_function file.functions) some.1).1 (both (classes_good && all_differ names) functions_good one.0).1
