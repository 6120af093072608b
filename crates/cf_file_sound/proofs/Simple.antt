-- Expressions and statements of built forms whose nodes are sound in their file are simple in a program that has, by other names, what the file has.
use Rattle.std.proofs.Common.{◌≡◌, ℕ, zero, suc, Bool, true, false, ◌&&◌, ◌||◌, not, nat_le, nat_lt, List, [], ◌∷◌, ◌++◌, length, ap, refl, sym, ◌∙◌}
use Rattle.std.specs.Prelude.{slice_get}
use Rattle.std.specs.List.{list_all}
use Rattle.std.proofs.lemmas.List.Folds.{list_all-append}
use Rattle.cf_base.proofs.Tests.{both, all_of}
use Rattle.cf_core.specs.Types.{Name, SourceType, void, integer, enumeration, class, pointer, reference, array, takes, gives, data_member, function_member, const, result, plain, element, is_class, same_but_const}
use Rattle.cf_core.specs.Classes.{Class}
use Rattle.cf_core.specs.Core as core
use Rattle.cf_core.specs.Core.{Core, Cores, MaybeCore, Static, CoreFile, no_temporary, local_temporary, none, absent, given}
use Rattle.cf_core.specs.Places.{is_reference}
use Rattle.cf_core.specs.Nodes.{nodes, nodes_all, nodes_maybe}
use Rattle.cf_core.specs.Calls.{Program}
use Rattle.cf_core.specs.Joined.{renamed, renamed_all, renamed_maybe}
use Rattle.cf_core.specs.Typing.{Scope, Typing, is_function, is_integer, same_type}
use Rattle.cf_core.specs.Typed.{typing, binds}
use Rattle.cf_core.specs.Valid.{Body, is_complete, is_label, labels_differ, passes_none, fits, fits_maybe, all_fit, labelled_fit, condition_fits, expression_fits}
use Rattle.cf_core.specs.Typing as typed
use Rattle.cf_core_sound.specs.Forms.{points}
use Rattle.cf_core_sound.specs.Proper.{most, is_proper}
use Rattle.cf_core_sound.specs.Simple.{is_whole, is_called_type, leads_to_void, leads_to_function, has_object, function_fits, keeps_functions, is_simple, are_simple}
use Rattle.cf_core_sound.specs.Simple as simply
use Rattle.cf_core_sound.specs.Statements.{has_none, is_object, is_simple_start, is_simple_maybe, is_simple_initial, are_simple_initials, is_simple_statement, is_simple_inner, are_simple_statements, are_simple_cases}
use Rattle.cf_sequence.specs.Built as built
use Rattle.cf_sequence.specs.Built.{is_value, are_values, are_arguments, is_start, is_filling, is_row, is_list, are_elements, is_element, is_held, next_local, is_statement, is_statement_or, are_cases, are_statements}
use Rattle.cf_file_sound.specs.Files.{alone, is_sound_node}
use Rattle.cf_file_sound.proofs.Formed.{same-form}
use Rattle.cf_file_sound.proofs.Typed.{never, among}
use Rattle.cf_file_sound.proofs.Fitting.{same-label}

-- ---- types

-- an object of a type that is complete is no function
pub complete-object : (classes : List Class) (t : SourceType) → is_complete classes t ≡ true → not (is_function t) ≡ true
complete-object classes (takes p t) ok = never ok
complete-object classes (gives t c) ok = never ok
complete-object classes t ok = refl

same-object : (classes : List Class) (t u : SourceType) → is_complete classes t ≡ true → same_but_const t u ≡ true → not (is_function u) ≡ true
same-object classes (const t) u ok same = same-object classes t u ok same
same-object classes (takes p t) u ok same = never ok
same-object classes (gives t c) u ok same = never ok
same-object classes void (takes q u) ok same = never same
same-object classes (integer k) (takes q u) ok same = never same
same-object classes (enumeration e) (takes q u) ok same = never same
same-object classes (class d) (takes q u) ok same = never same
same-object classes (pointer t) (takes q u) ok same = never same
same-object classes (reference t) (takes q u) ok same = never same
same-object classes (array t n) (takes q u) ok same = never same
same-object classes (data_member d t) (takes q u) ok same = never same
same-object classes (function_member d t) (takes q u) ok same = never same
same-object classes void (gives u c) ok same = never same
same-object classes (integer k) (gives u c) ok same = never same
same-object classes (enumeration e) (gives u c) ok same = never same
same-object classes (class d) (gives u c) ok same = never same
same-object classes (pointer t) (gives u c) ok same = never same
same-object classes (reference t) (gives u c) ok same = never same
same-object classes (array t n) (gives u c) ok same = never same
same-object classes (data_member d t) (gives u c) ok same = never same
same-object classes (function_member d t) (gives u c) ok same = never same
same-object classes t u ok same = refl

local-object : (classes : List Class) (locals : List SourceType) (i : ℕ) (u : SourceType) → list_all (is_complete classes) locals ≡ true
    → same_type (slice_get locals i) u ≡ true → not (is_function u) ≡ true
local-object classes [] i u ok same = never same
local-object classes (t ∷ locals) zero u ok same = same-object classes t u (both (is_complete classes t) (list_all (is_complete classes) locals) ok).0 same
local-object classes (t ∷ locals) (suc i) u ok same = local-object classes locals i u (both (is_complete classes t) (list_all (is_complete classes) locals) ok).1 same

once : (b : Bool) → b || false ≡ true → b ≡ true
once true e = refl
once false e = e

twice : (b : Bool) → (b || false) || false ≡ true → b ≡ true
twice b e = once b (once (b || false) e)

-- a label, or what is a statement that fits
by-label : (l s t u : Bool) → l || s ≡ true → l || t ≡ true → (s ≡ true → t ≡ true → u ≡ true) → l || u ≡ true
by-label true s t u p q so = refl
by-label false s t u p q so = so p q

module _ (file : CoreFile) (r : Name → Name) (P : Program) (objects : List Static)
    (has : (name : Name) → has_object (alone file) name ≡ true → has_object P (r name) ≡ true)
    (serves : (name : Name) (t : SourceType) → function_fits (alone file) name t ≡ true → function_fits P (r name) t ≡ true) where
  module _ (scope : Scope) where
    abbrev there : Scope
    there = among scope objects

    abbrev are_sound : List Core → Bool
    are_sound es = list_all (is_sound_node file scope) es

    apart : (xs ys : List Core) → are_sound (xs ++ ys) ≡ true → (are_sound xs ≡ true) × (are_sound ys ≡ true)
    apart xs ys ok = both (are_sound xs) (are_sound ys) (sym (list_all-append (is_sound_node file scope) xs ys) ∙ ok)

    keeps : (t : SourceType) (e : Core) → keeps_functions (alone file) scope t e ≡ true → keeps_functions P there t (renamed r e) ≡ true
    keeps t e kept = ap (λ x. not (leads_to_void (plain t) && leads_to_function (points x))) (same-form r scope.locals e) ∙ kept

    called : (t : SourceType) → not (is_class (result t)) ≡ true → built.is_chain t ≡ true → is_proper t ≡ true → is_called_type t ≡ true
    called t scalar chain proper = all_of (not (is_class (result t))) (simply.is_chain t && is_proper t) scalar (all_of (simply.is_chain t) (is_proper t) chain proper)

    abbrev Simply : Core → Type 0
    Simply e = is_value e ≡ true → are_sound (nodes e) ≡ true → is_simple P there (renamed r e) ≡ true

    two : (a b : Core) → Simply a → Simply b → is_value a && is_value b ≡ true → are_sound (nodes a ++ nodes b) ≡ true
        → is_simple P there (renamed r a) && is_simple P there (renamed r b) ≡ true
    two a b first second ok good =
        let p = both (is_value a) (is_value b) ok in
        let g = apart (nodes a) (nodes b) good in all_of (is_simple P there (renamed r a)) (is_simple P there (renamed r b)) (first p.0 g.0) (second p.1 g.1)

    mutual
      pub simple : (e : Core) → Simply e
      simple (core.number z) ok good = refl
      simple (core.local i) ok good = refl
      simple (core.text j bytes) ok good = (both (nat_le (length bytes) most) true good).0
      simple (core.static_object name t) ok good =
          let p = both (is_proper t) (has_object (alone file) name) (both (is_proper t && has_object (alone file) name) true good).0 in
          all_of (is_proper t) (has_object P (r name)) p.0 (has name p.1)
      simple (core.function name t) ok good =
          let p = both (is_proper t) (function_fits (alone file) name t) (both (is_proper t && function_fits (alone file) name t) true good).0 in
          all_of (is_proper t) (function_fits P (r name) t) p.0 (serves name t p.1)
      simple (core.read e) ok good = simple e ok good
      simple (core.address e) ok good = simple e ok good
      simple (core.dereference e) ok good = simple e ok good
      simple (core.decay e) ok good = simple e ok good
      simple (core.unary op k e) ok good = simple e ok good
      simple (core.logical_not e) ok good = simple e ok good
      simple (core.step is_postfix change e) ok good = simple e ok good
      simple (core.bind no_temporary e) ok good = simple e ok good
      simple (core.from_void t e) ok good =
          let p = both (is_whole t && not (is_function t)) (are_sound (nodes e)) good in
          let q = both (is_whole t) (not (is_function t)) p.0 in
          all_of (is_whole t) (not (is_function t) && is_simple P there (renamed r e)) q.0
          (all_of (not (is_function t)) (is_simple P there (renamed r e)) q.1 (simple e ok p.1))
      simple (core.convert t e) ok good =
          let p = both (is_whole t && keeps_functions (alone file) scope t e) (are_sound (nodes e)) good in
          let q = both (is_whole t) (keeps_functions (alone file) scope t e) p.0 in
          all_of (is_whole t) (keeps_functions P there t (renamed r e) && is_simple P there (renamed r e)) q.0
          (all_of (keeps_functions P there t (renamed r e)) (is_simple P there (renamed r e)) (keeps t e q.1) (simple e ok p.1))
      simple (core.temporary t e) ok good =
          let p = both (not (is_reference t)) (is_value e) ok in
          let q = both (is_proper t) (are_sound (nodes e)) good in
          all_of (is_whole t) (is_simple P there (renamed r e)) (all_of (is_proper t) (not (is_reference t)) q.0 p.0) (simple e p.1 q.1)
      simple (core.index a b) ok good = two a b (simple a) (simple b) ok good
      simple (core.pointer_operate op a b) ok good = two a b (simple a) (simple b) ok good
      simple (core.operate op k a b) ok good = two a b (simple a) (simple b) ok good
      simple (core.logical_and a b) ok good = two a b (simple a) (simple b) ok good
      simple (core.logical_or a b) ok good = two a b (simple a) (simple b) ok good
      simple (core.store a b) ok good = two a b (simple a) (simple b) ok good
      simple (core.update a change b) ok good = two a b (simple a) (simple b) ok good
      simple (core.conditional c a b) ok good =
          let p = both (is_value c) (is_value a && is_value b) ok in
          let q = both (is_value a) (is_value b) p.1 in
          let g = apart (nodes c ++ nodes a) (nodes b) good in
          let h = apart (nodes c) (nodes a) g.0 in
          all_of (is_simple P there (renamed r c)) (is_simple P there (renamed r a) && is_simple P there (renamed r b)) (simple c p.0 h.0)
          (all_of (is_simple P there (renamed r a)) (is_simple P there (renamed r b)) (simple a q.0 h.1) (simple b q.1 g.1))
      simple (core.comma es) ok good = simples es ok good
      simple (core.call name t absent args) ok good =
          let p = both (not (is_class (result t))) (built.is_chain t && are_arguments args) ok in
          let q = both (built.is_chain t) (are_arguments args) p.1 in
          let g = both (is_proper t && function_fits (alone file) name t) (are_sound (nodes_all args)) good in
          let h = both (is_proper t) (function_fits (alone file) name t) g.0 in
          let given_well = simply.are_arguments P there (renamed_all r args) in
          all_of (is_called_type t) (function_fits P (r name) t && given_well) (called t p.0 q.0 h.0)
          (all_of (function_fits P (r name) t) given_well (serves name t h.1) (arguments args q.1 g.1))
      simple (core.pointer_call absent e t args) ok good =
          let p = both (not (is_class (result t))) (built.is_chain t && (is_value e && are_arguments args)) ok in
          let q = both (built.is_chain t) (is_value e && are_arguments args) p.1 in
          let u = both (is_value e) (are_arguments args) q.1 in
          let g = both (is_proper t) (are_sound (nodes e ++ nodes_all args)) good in
          let h = apart (nodes e) (nodes_all args) g.1 in
          let given_well = simply.are_arguments P there (renamed_all r args) in
          all_of (is_called_type t) (is_simple P there (renamed r e) && given_well) (called t p.0 q.0 g.0)
          (all_of (is_simple P there (renamed r e)) given_well (simple e u.0 h.0) (arguments args u.1 h.1))
      simple e ok good = never ok

      simples : (es : Cores) → are_values es ≡ true → are_sound (nodes_all es) ≡ true → are_simple P there (renamed_all r es) ≡ true
      simples none ok good = never ok
      simples (core.more e none) ok good = simple e ok (apart (nodes e) [] good).0
      simples (core.more e (core.more f es)) ok good =
          let p = both (is_value e) (are_values (core.more f es)) ok in
          let g = apart (nodes e) (nodes_all (core.more f es)) good in
          all_of (is_simple P there (renamed r e)) (are_simple P there (renamed_all r (core.more f es))) (simple e p.0 g.0) (simples (core.more f es) p.1 g.1)

      arguments : (es : Cores) → are_arguments es ≡ true → are_sound (nodes_all es) ≡ true → simply.are_arguments P there (renamed_all r es) ≡ true
      arguments none ok good = refl
      arguments (core.more e es) ok good =
          let p = both (is_value e) (are_arguments es) ok in
          let g = apart (nodes e) (nodes_all es) good in
          all_of (is_simple P there (renamed r e)) (simply.are_arguments P there (renamed_all r es)) (simple e p.0 g.0) (arguments es p.1 g.1)

    -- ---- initialisers

    held-type : (i : ℕ) (u : SourceType) (x : Typing) (t : SourceType) → binds scope (local_temporary i u) x t ≡ true → same_type (slice_get scope.locals i) u ≡ true
    held-type i u x (reference t) ok =
        let p = both (same_but_const u t && same_type (slice_get scope.locals i) u) (x.start u) ok in (both (same_but_const u t) (same_type (slice_get scope.locals i) u) p.0).1
    held-type i u x (const t) ok = held-type i u x t ok
    held-type i u x t ok = never ok

    filling : (e : Core) → is_filling e ≡ true → is_simple_initial P there (renamed r e) ≡ true
    filling core.zeros ok = refl
    filling (core.string bytes) ok = refl
    filling e ok = never ok

    mutual
      -- what begins an object or an element of a type, where no class is there
      element_start : has_none scope.classes ≡ true → (t : SourceType) (e : Core) → is_element t e ≡ true → are_sound (nodes e) ≡ true → is_simple_initial P there (renamed r e) ≡ true
      element_start bare t core.zeros ok good = refl
      element_start bare t core.blank ok good = refl
      element_start bare t (core.string bytes) ok good = refl
      element_start bare t (core.each e) ok good = never ok
      element_start bare t (core.bind (local_temporary j u) e) ok good = never ok
      element_start bare t (core.list es rest) ok good =
          let p = both (is_row t) (are_elements (element (plain t)) es && is_filling rest) ok in
          let q = both (are_elements (element (plain t)) es) (is_filling rest) p.1 in
          let g = apart (nodes_all es) (nodes rest) good in
          let each = are_simple_initials P there (renamed_all r es) in
          let left = is_simple_initial P there (renamed r rest) in
          all_of (has_none scope.classes) (each && left) bare (all_of each left (element_starts bare (element (plain t)) es q.0 g.0) (filling rest q.1))
      element_start bare t e ok good = simple e (once (is_value e) ok) good

      element_starts : has_none scope.classes ≡ true → (t : SourceType) (es : Cores) → are_elements t es ≡ true → are_sound (nodes_all es) ≡ true
          → are_simple_initials P there (renamed_all r es) ≡ true
      element_starts bare t none ok good = refl
      element_starts bare t (core.more e es) ok good =
          let p = both (is_element t e) (are_elements t es) ok in
          let g = apart (nodes e) (nodes_all es) good in
          all_of (is_simple_initial P there (renamed r e)) (are_simple_initials P there (renamed_all r es)) (element_start bare t e p.0 g.0) (element_starts bare t es p.1 g.1)

    pub initial : has_none scope.classes ≡ true → (i : ℕ) (t u : SourceType) (e : Core) → is_element t e || is_held i e ≡ true → are_sound (nodes e) ≡ true
        → list_all (is_complete scope.classes) scope.locals ≡ true → (typing scope e).start u ≡ true → is_simple_initial P there (renamed r e) ≡ true
    initial bare i t u core.zeros ok good whole is = refl
    initial bare i t u core.blank ok good whole is = refl
    initial bare i t u (core.string bytes) ok good whole is = refl
    initial bare i t u (core.each e) ok good whole is = never ok
    initial bare i t u (core.list es rest) ok good whole is = element_start bare t (core.list es rest) (once (is_list t (core.list es rest)) ok) good
    initial bare i t u (core.bind (local_temporary j v) e) ok good whole is =
        let p = both (not (is_reference v)) (is_value e) (both (nat_lt i j) (not (is_reference v) && is_value e) ok).1 in
        let g = both (is_proper v) (are_sound (nodes e)) good in
        let object = local-object scope.classes scope.locals j v whole (held-type j v (typing scope e) u is) in
        all_of (is_whole v) (not (is_function v) && is_simple P there (renamed r e)) (all_of (is_proper v) (not (is_reference v)) g.0 p.0)
        (all_of (not (is_function v)) (is_simple P there (renamed r e)) object (simple e p.1 g.1))
    initial bare i t u e ok good whole is = simple e (twice (is_value e) ok) good

    start : (e : Core) → is_start e ≡ true → are_sound (nodes e) ≡ true → is_simple_start P there (renamed r e) ≡ true
    start core.blank ok good = refl
    start e ok good = simple e ok good

    maybe : (e : MaybeCore) → built.is_condition e ≡ true → are_sound (nodes_maybe e) ≡ true → is_simple_maybe P there (renamed_maybe r e) ≡ true
    maybe absent ok good = refl
    maybe (given e) ok good = simple e ok good

  -- ---- statements

  module _ (f : Body) (bare : has_none f.scope.classes ≡ true) (whole : list_all (is_complete f.scope.classes) f.scope.locals ≡ true) where
    abbrev by_other_names : Scope
    by_other_names = among f.scope objects

    abbrev good_nodes : List Core → Bool
    good_nodes es = list_all (is_sound_node file f.scope) es

    abbrev is_fine : Core → Bool
    is_fine s = is_simple_statement P by_other_names (renamed r s)

    mutual
      pub statement : (m : ℕ) (b c : Bool) (s : Core) → is_statement m s ≡ true → good_nodes (nodes s) ≡ true → fits f b c s ≡ true → is_fine s ≡ true
      statement m b c (core.full e) ok good fit = start f.scope e ok good
      statement m b c (core.block es) ok good fit = statements m b c es ok good fit
      statement m b c (core.sequence es) ok good fit = statements m b c es ok good fit
      statement m b c (core.declare i t e) ok good fit =
          let p = both (nat_le m i) (is_element t e || is_held i e) ok in
          let g = both (is_proper t) (good_nodes (nodes e)) good in
          let n = both (nat_le f.parameters i && same_type (slice_get f.scope.locals i) t && is_complete f.scope.classes t) ((typing f.scope e).start t) fit in
          let complete = (both (nat_le f.parameters i && same_type (slice_get f.scope.locals i) t) (is_complete f.scope.classes t) n.0).1 in
          all_of (is_object t) (is_simple_initial P by_other_names (renamed r e)) (all_of (is_proper t) (not (is_function t)) g.0 (complete-object f.scope.classes t complete))
          (initial f.scope bare i t t e p.1 g.1 whole n.1)
      statement m b c (core.branch x s o) ok good fit =
          let p = both (is_value x) (is_statement m s && is_statement_or (next_local m s) o) ok in
          let q = both (is_statement m s) (is_statement_or (next_local m s) o) p.1 in
          let g = apart f.scope (nodes x ++ nodes s) (nodes_maybe o) good in
          let h = apart f.scope (nodes x) (nodes s) g.0 in
          let n = both (typed.is_condition (typing f.scope x) && fits f b c s) (fits_maybe f b c o) fit in
          let inner = is_simple_inner P by_other_names (renamed_maybe r o) in
          all_of (is_simple P by_other_names (renamed r x)) (is_fine s && inner) (simple f.scope x p.0 h.0)
          (all_of (is_fine s) inner (statement m b c s q.0 h.1 (both (typed.is_condition (typing f.scope x)) (fits f b c s) n.0).1) (or-statement (next_local m s) b c o q.1 g.1 n.1))
      statement m b c (core.loop how x e s) ok good fit =
          let p = both (built.is_condition x) (built.is_condition e && is_statement m s) ok in
          let q = both (built.is_condition e) (is_statement m s) p.1 in
          let g = apart f.scope (nodes_maybe x ++ nodes_maybe e) (nodes s) good in
          let h = apart f.scope (nodes_maybe x) (nodes_maybe e) g.0 in
          let n = both (condition_fits f x && expression_fits f e) (fits f true true s) fit in
          let test = is_simple_maybe P by_other_names (renamed_maybe r x) in
          let step = is_simple_maybe P by_other_names (renamed_maybe r e) in
          all_of test (step && is_fine s) (maybe f.scope x p.0 h.0) (all_of step (is_fine s) (maybe f.scope e q.0 h.1) (statement m true true s q.1 g.1 n.1))
      statement m b c (core.switch e es) ok good fit =
          let p = both (is_value e) (are_cases m es) ok in
          let g = apart f.scope (nodes e) (nodes_all es) good in
          let n = both (is_integer (typing f.scope e) && labels_differ es && passes_none es) (labelled_fit f true c es) fit in
          all_of (is_simple P by_other_names (renamed r e)) (are_simple_cases P by_other_names (renamed_all r es)) (simple f.scope e p.0 g.0) (cases m true c es p.1 g.1 n.1)
      statement m b c core.leave ok good fit = refl
      statement m b c core.continue ok good fit = refl
      statement m b c (core.give absent) ok good fit = refl
      statement m b c (core.give (given e)) ok good fit = simple f.scope e ok good
      statement m b c s ok good fit = never ok

      or-statement : (m : ℕ) (b c : Bool) (s : MaybeCore) → is_statement_or m s ≡ true → good_nodes (nodes_maybe s) ≡ true → fits_maybe f b c s ≡ true
          → is_simple_inner P by_other_names (renamed_maybe r s) ≡ true
      or-statement m b c absent ok good fit = refl
      or-statement m b c (given s) ok good fit = statement m b c s ok good fit

      statements : (m : ℕ) (b c : Bool) (es : Cores) → are_statements m es ≡ true → good_nodes (nodes_all es) ≡ true → all_fit f b c es ≡ true
          → are_simple_statements P by_other_names (renamed_all r es) ≡ true
      statements m b c none ok good fit = refl
      statements m b c (core.more s es) ok good fit =
          let p = both (is_statement m s) (are_statements (next_local m s) es) ok in
          let g = apart f.scope (nodes s) (nodes_all es) good in
          let n = both (fits f b c s) (all_fit f b c es) fit in
          all_of (is_fine s) (are_simple_statements P by_other_names (renamed_all r es)) (statement m b c s p.0 g.0 n.0) (statements (next_local m s) b c es p.1 g.1 n.1)

      cases : (m : ℕ) (b c : Bool) (es : Cores) → are_cases m es ≡ true → good_nodes (nodes_all es) ≡ true → labelled_fit f b c es ≡ true
          → are_simple_cases P by_other_names (renamed_all r es) ≡ true
      cases m b c none ok good fit = refl
      cases m b c (core.more s es) ok good fit =
          let p = both (is_label s || is_statement m s) (are_cases (next_local m s) es) ok in
          let g = apart f.scope (nodes s) (nodes_all es) good in
          let n = both (is_label s || fits f b c s) (labelled_fit f b c es) fit in
          all_of (is_label (renamed r s) || is_fine s) (are_simple_cases P by_other_names (renamed_all r es))
          (ap (λ l. l || is_fine s) (same-label r s) ∙ by-label (is_label s) (is_statement m s) (fits f b c s) (is_fine s) p.0 n.0 (λ here fit. statement m b c s here g.0 fit))
          (cases (next_local m s) b c es p.1 g.1 n.1)
