-- Statements that fit lead on.
use Rattle.std.proofs.Common.{◌≡◌, ℕ, ◌≤◌, nat_lt, true, false, ◌&&◌, if◌then◌else◌, List, [], ◌∷◌, codes, bytes_eq, refl, sym, subst}
use Rattle.std.specs.Prelude.{Option, Some, None}
use Rattle.std.specs.List.{list_all}
use Rattle.cf_base.proofs.Tests.{both}
use Rattle.cf_core.specs.Types.{Name, SourceType, result as result_type}
use Rattle.cf_core.specs.Calls.{function_named, is_library}
use Rattle.cf_core.specs.Objects.{static_number}
use Rattle.cf_lower_layout.specs.Sorts.{sort_of}
use Rattle.cf_plain.specs.Plain as plain
use Rattle.cf_plain.specs.Plain.{Register, Action, Plain, act, set, give}
use Rattle.cf_plain_frames.specs.Simple.{functions_simple}
use Rattle.cf_plain_kept.specs.Kept as told
use Rattle.cf_lower.specs.Kept.{Keeping, after}
use Rattle.cf_lower_kept.specs.Opened.{Opened, Where, falls, Ways, only_if, differ, has_its_value, action_opens, opened_by, set_in, set_by, opens}
use Rattle.cf_lower_kept.specs.Told.{AllTold}
use Rattle.cf_lower_turns.specs.Around.{Around}
use Rattle.cf_lower_turns.specs.Scene.{Scene}
use Rattle.cf_lower_actions.specs.Leaf.{is_leaf}
use Rattle.cf_lower_calls.specs.Arguments.Passing.{are_passed}
use Rattle.cf_lower_calls.specs.Returns.Called.{FunctionsAlike}
use Rattle.cf_lower_bounds.specs.Points.{Point, point_at}
use Rattle.cf_lower_bounds.specs.Bounds.{LeafRunsTo}
use Rattle.cf_lower_calls.specs.Invoked.LowerActions.{Fits}
use Rattle.cf_lower_calls.specs.Invoked.Invoking.{programs_of, StartStatic}
use Rattle.cf_lower_calls.proofs.InvokedLaws.LowerPoints.{leads-on}
use Rattle.cf_lower_needed.specs.Leading.{point_of, is_right, LeavesLead}
use Rattle.cf_lower_needed.proofs.Places.{only-if}
use Rattle.cf_lower_actions.specs.Leaf.{view_of}
use Rattle.cf_lower_place.specs.Calls.{has_local, is_code_for, library_fits, call_fits, put_fits, exit_fits, get_fits, pointer_fits}
use Rattle.cf_lower_tested.specs.Fits.{called_well, has_result, reached_well, reach_of, fits}
use Rattle.cf_lower_tested.specs.Tested.{Joined, TypesAgree}
use Rattle.cf_lower_tested.proofs.Calls.{call-leads, pointed-leads}

module _ (z : Scene) (fit : Fits z) (none : z.program.classes ≡ []) (simple : functions_simple z.functions ≡ true)
    (joined : Joined (programs_of z)) (typed : TypesAgree (programs_of z)) (helper : z.helper ≡ false)
    (statics : (name : Name) (o : ℕ) → static_number z.program name ≡ Some o → StartStatic z name o) (n : ℕ)
    (alike : (k : ℕ) → k ≤ n → FunctionsAlike (programs_of z) k) where
  module _ (around : Around Point) (g : told.Keeping) (h : Keeping) (w : Ways) (xs : List Opened) (tells : AllTold z.inside.locals g h) where
    -- the statement leads to what is open behind it
    abbrev Leads : Plain → Where → Type 0
    Leads s o = LeafRunsTo z n around (point_at h xs) s (point_of (after z.inside.locals s h) o)

    act-leads : (a : Action) → is_leaf z h (act a) ≡ true → is_right (only_if (action_opens g a xs) (falls (opened_by g None a xs))) ≡ true
        → Leads (act a) (only_if (action_opens g a xs) (falls (opened_by g None a xs)))
    act-leads a e right =
        let tested = only-if (action_opens g a xs) (falls (opened_by g None a xs)) right in
        subst (λ b. Leads (act a) (only_if b (falls (opened_by g None a xs)))) (sym tested) (leads-on z fit around g h xs tells (act a) e tested n)

    set-leads : (r : Register) (a : Action) → is_leaf z h (set r a) ≡ true
        → is_right (only_if (action_opens g a xs) (falls (set_by g r a xs))) ≡ true
        → Leads (set r a) (only_if (action_opens g a xs) (falls (set_by g r a xs)))
    set-leads r a e right =
        let tested = only-if (action_opens g a xs) (falls (set_by g r a xs)) right in
        subst (λ b. Leads (set r a) (only_if b (falls (set_by g r a xs)))) (sym tested)
        (leads-on z fit around g h xs tells (set r a) e tested n)

    give-leads : (r : Option Register) (ys : List Opened) → xs ≡ ys → is_leaf z h (give r) ≡ true → is_right (opens z.inside.locals.types z.inside.result (give r) g w ys) ≡ true
        → LeafRunsTo z n around (point_at h ys) (give r) (point_of h (opens z.inside.locals.types z.inside.result (give r) g w ys))
    give-leads r [] same e right = leads-on z fit around g h [] tells (give r) e refl n
    give-leads r (y ∷ ys) same e right = absurd (let k = right in cc)

    called-leads : (r : Register) (name : Name) (t : SourceType) (is : List ℕ) → call_fits (view_of z) (reach_of z) r name t is ≡ true
        → is_right (opens z.inside.locals.types z.inside.result (set r (plain.call name t None is None)) g w xs) ≡ true
        → Leads (set r (plain.call name t None is None)) (opens z.inside.locals.types z.inside.result (set r (plain.call name t None is None)) g w xs)
    called-leads r name t is e right =
        let a = plain.call name t None is None in
        let tested = only-if (action_opens g a xs) (falls (opened_by g (Some r) a (set_in r xs))) right in
        let args = both (differ is) (list_all (has_its_value xs) is) tested in
        let rest = (if is_library name then library_fits z.body.own.locals (bytes_eq name (codes "putchar")) (bytes_eq name (codes "exit")) t is
        else are_passed z.body.own.locals is && called_well z (function_named z.program name) t is) in
        let one = both (nat_lt r z.body.own.bound) (has_local (has_result z) (sort_of (result_type t)) && rest) e in
        let two = both (has_local (has_result z) (sort_of (result_type t))) rest one.1 in
        subst (λ b. Leads (set r a) (only_if b (falls (opened_by g (Some r) a (set_in r xs))))) (sym tested)
        (call-leads z fit none simple joined typed statics n alike around h xs r t is one.0 two.0 args.1 name two.1)

    pointed-to-leads : (r q : Register) (t : SourceType) (is : List ℕ) → pointer_fits (view_of z) (reach_of z) h r q t is ≡ true
        → is_right (opens z.inside.locals.types z.inside.result (set r (plain.pointer_call None q t is None)) g w xs) ≡ true
        → Leads (set r (plain.pointer_call None q t is None)) (opens z.inside.locals.types z.inside.result (set r (plain.pointer_call None q t is None)) g w xs)
    pointed-to-leads r q t is e right =
        let a = plain.pointer_call None q t is None in
        let tested = only-if (action_opens g a xs) (falls (opened_by g (Some r) a (set_in r xs))) right in
        let args = both (differ is) (list_all (has_its_value xs) is) tested in
        let well = list_all (reached_well z t is) z.program.functions in
        let passes = are_passed z.body.own.locals is in
        let put = put_fits z.body.own.locals (z.signature (codes "putchar")) t is in
        let ends = exit_fits z.body.own.locals (z.signature (codes "exit")) t is in
        let get = get_fits z.body.own.locals (z.signature (codes "getchar")) t is in
        let one = both (nat_lt r z.body.own.bound)
        (has_local (has_result z) (sort_of (result_type t)) && (is_code_for t (h q) && (get && (put && (ends && (passes && well)))))) e in
        let two = both (has_local (has_result z) (sort_of (result_type t))) (is_code_for t (h q) && (get && (put && (ends && (passes && well))))) one.1 in
        let three = both (is_code_for t (h q)) (get && (put && (ends && (passes && well)))) two.1 in
        let four = both get (put && (ends && (passes && well))) three.1 in
        let five = both put (ends && (passes && well)) four.1 in
        let six = both ends (passes && well) five.1 in
        let seven = both passes well six.1 in
        subst (λ b. Leads (set r a) (only_if b (falls (opened_by g (Some r) a (set_in r xs))))) (sym tested)
        (pointed-leads z fit none simple joined typed statics n alike around h xs r t is one.0 two.0 args.1 q three.0 four.0 five.0 six.0 seven.0 seven.1 helper)

  pub leaves-lead : LeavesLead z n (fits z)
  leaves-lead around g h w xs tells (set r (plain.call name t None is None)) e right = called-leads around g h w xs tells r name t is e right
  leaves-lead around g h w xs tells (set r (plain.pointer_call None q t is None)) e right = pointed-to-leads around g h w xs tells r q t is e right
  leaves-lead around g h w xs tells (act a) e right = act-leads around g h w xs tells a e right
  leaves-lead around g h w xs tells (set r a) e right = set-leads around g h w xs tells r a e right
  leaves-lead around g h w xs tells (give r) e right = give-leads around g h w xs tells r xs refl e right
  leaves-lead around g h w xs tells s e right = absurd (let k = e in cc)
