-- Functions that are in place by name pass the tests wherever they are entered.
use Rattle.std.proofs.Common.{◌≡◌, ℕ, nat_lt, Bool, true, false, ◌&&◌, ◌||◌, not, if◌then◌else◌, List, [], ◌∷◌, codes, bytes_eq, refl, sym, subst}
use Rattle.std.specs.Prelude.{Option, Some, None, is_some}
use Rattle.std.specs.List.{flat_map, list_all}
use Rattle.cf_base.proofs.Tests.{both, all_of}
use Rattle.cf_core.specs.Classes.{Class}
use Rattle.cf_core.specs.Types.{Name, SourceType, without_const, type_eq, same_but_const, parameters, result as result_type}
use Rattle.cf_core.specs.Core.{Function}
use Rattle.cf_core.specs.Calls.{function_named, is_library}
use Rattle.cf_lower_layout.specs.Sorts.{sort_of}
use Rattle.cf_plain.specs.Plain as plain
use Rattle.cf_plain.specs.Plain.{Register, Action, Plain, act, set, give, PlainFunction}
use Rattle.cf_plain.specs.Named.{actions, all_actions}
use Rattle.cc_whole.specs.declared.types.CType.{CType}
use Rattle.cc_whole_memory.specs.declared.value.Value.{Value}
use Rattle.cc_whole_memory.specs.Blocks.{Memory}
use Rattle.cf_lower.specs.Kept.{Keeping, Locals, nothing_kept}
use Rattle.cf_lower.specs.Functions.{result_at, all_bound, locals_of}
use Rattle.cf_lower_relate.specs.Map.{Map}
use Rattle.cf_lower_calls.specs.Born.Laid.{place_of_type, result_types}
use Rattle.cf_lower_steps.specs.Lowering.{is_function}
use Rattle.cf_lower_turns.specs.Scene.{Scene}
use Rattle.cf_lower_kept.specs.Opened.{function_opens}
use Rattle.cf_lower_kept.specs.Ready.{function_ready}
use Rattle.cf_lower_place.specs.Calls as place
use Rattle.cf_lower_place.specs.Calls.{is_code_for, are_passed, types_passed, same_signature, has_local, library_fits, put_fits, exit_fits, get_fits, call_fits, pointer_fits}
use Rattle.cf_lower_place.specs.InPlace.{all_in_place}
use Rattle.cf_lower_place.specs.Named as named
use Rattle.cf_lower_place.specs.Named.{library_type, is_signature, may_be_named, takes_locals, function_in_place}
use Rattle.cf_lower_actions.specs.Leaf.{is_text, names_function, view_of}
use Rattle.cf_lower_calls.specs.Returns.Called.{Programs}
use Rattle.cf_lower_calls.specs.Entered.Lowered.{Fitting, entered_scene}
use Rattle.cf_lower_tested.specs.Fits as tested
use Rattle.cf_lower_tested.specs.Fits.{called_well, reached_well, has_result}
use Rattle.cf_lower_tested.specs.Tested.{Tested}
use Rattle.cf_lower_tested.proofs.Calls.{found-passes, given-that}
use Rattle.cf_lower_tested.specs.Named.{ActionThere, ActionsThere, NamesTyped, NamesThere}
use Rattle.cf_lower_tested.proofs.More.{Every, every-both, MoreAt, leaf-more, all-more}
use Rattle.cf_lower_tested.proofs.Results.{ResultThere, some-mapped, results-there}
use Rattle.cf_lower_tested.proofs.Signatures.{takes-there, signature-same}

-- where the first holds the second does
implied : (a b : Bool) → (a ≡ true → b ≡ true) → not a || b ≡ true
implied true b f = f refl
implied false b f = refl

module _ (B : Programs) (fitting : Fitting B) (typed : NamesTyped B) (f : PlainFunction) (E : Map) (first : Memory) (cs : List Value) (depth : ℕ) where
  abbrev z : Scene
  z = entered_scene B f E first cs depth

  abbrev locals : Locals
  locals = locals_of f

  -- ---- functions of the program

  well-called : (t : SourceType) (is : List ℕ) (g : Function) → is_signature g.type ≡ true → takes_locals locals t is ≡ true → called_well z (Some g) t is ≡ true
  well-called t is g shaped e =
      implied (same_but_const g.type t) (types_passed locals is (parameters g.type) && same_but_const (result_type g.type) (result_type t))
      (λ same.
      let two = takes-there locals t g.type is shaped e same in
      all_of (types_passed locals is (parameters g.type)) (same_but_const (result_type g.type) (result_type t)) two.0 two.1)

  well-reached : (t : SourceType) (is : List ℕ) (g : Function) → is_signature g.type ≡ true → takes_locals locals t is ≡ true → reached_well z t is g ≡ true
  well-reached t is g shaped e =
      all_of (called_well z (Some g) t is) (not (same_but_const g.type t) || same_signature t g.type) (well-called t is g shaped e)
      (implied (same_but_const g.type t) (same_signature t g.type)
      (λ same. signature-same t g.type (both (is_signature t) (types_passed locals is (parameters t)) e).0 shaped same))

  all-reached : (t : SourceType) (is : List ℕ) (gs : List Function) → list_all (λ (g : Function). is_signature g.type) gs ≡ true → takes_locals locals t is ≡ true
      → list_all (reached_well z t is) gs ≡ true
  all-reached t is [] shaped e = refl
  all-reached t is (g ∷ gs) shaped e =
      let two = both (is_signature g.type) (list_all (λ (i : Function). is_signature i.type) gs) shaped in
      all_of (reached_well z t is g) (list_all (reached_well z t is) gs) (well-reached t is g two.0 e) (all-reached t is gs two.1 e)

  named-called : (name : Name) (t : SourceType) (is : List ℕ) → is_library name ≡ false → is_function B.program name ≡ true → takes_locals locals t is ≡ true
      → called_well z (function_named B.program name) t is ≡ true
  named-called name t is fresh there e =
      by (function_named B.program name) refl (subst (λ b. b || is_some (function_named B.program name) ≡ true) fresh there)
    where
      by : (o : Option Function) → function_named B.program name ≡ o → is_some o ≡ true → called_well z o t is ≡ true
      by None found k = absurd (let i = k in cc)
      by (Some g) found k = well-called t is g (found-passes (λ (i : Function). is_signature i.type) B.program.functions name g found typed.functions) e

  -- ---- names of functions

  names-more : (name : Name) (t : SourceType) → is_function B.program name ≡ true → may_be_named name t ≡ true → names_function z name t ≡ true
  names-more name t there e =
      all_of (is_function B.program name) (not (is_library name) || type_eq (without_const (B.signature name)) (without_const t)) there
      (implied (is_library name) (type_eq (without_const (B.signature name)) (without_const t))
      (λ lib. subst (λ u. type_eq (without_const u) (without_const t) ≡ true) (sym (typed.library name lib))
      (given-that (is_library name) (type_eq (without_const (library_type name)) (without_const t)) e lib)))

  -- ---- statements

  abbrev There : Action → Type 0
  There a = ActionThere B f.name a × ResultThere (has_result z) a

  more-at : (a : Action) → ActionThere B f.name a
      → MoreAt (named.view_of B.program.classes f) (λ j bytes. is_text (B.texts f.name j) bytes) (λ name t. names_function z name t) a
  more-at (plain.text j bytes) h = h
  more-at (plain.function name t) h = λ e. names-more name t h e
  more-at a h = tt

  all-more-at : (os : List Action) → Every There os
      → Every (MoreAt (named.view_of B.program.classes f) (λ j bytes. is_text (B.texts f.name j) bytes) (λ name t. names_function z name t)) os
  all-more-at [] h = tt
  all-more-at (a ∷ os) h = (more-at a h.0.0, all-more-at os h.1)

  call-more : (q : Register) (name : Name) (t : SourceType) (is : List ℕ) → is_function B.program name ≡ true → has_local (has_result z) (sort_of (result_type t)) ≡ true
      → call_fits (named.view_of B.program.classes f) (named.reach_of f) q name t is ≡ true → call_fits (view_of z) (tested.reach_of z) q name t is ≡ true
  call-more q name t is there result e =
      let local = has_local (λ (u : CType). true) (sort_of (result_type t)) in
      let library = library_fits locals (bytes_eq name (codes "putchar")) (bytes_eq name (codes "exit")) t is in
      let first = (if is_library name then library else are_passed locals is && takes_locals locals t is) in
      let second = (if is_library name then library else are_passed locals is && called_well z (function_named B.program name) t is) in
      let one = both (nat_lt q (all_bound f.body)) (local && first) e in
      all_of (nat_lt q (all_bound f.body)) (has_local (has_result z) (sort_of (result_type t)) && second) one.0
      (all_of (has_local (has_result z) (sort_of (result_type t))) second result (by (is_library name) refl (both local first one.1).1))
    where
      by : (b : Bool) → is_library name ≡ b
          → (if b then library_fits locals (bytes_eq name (codes "putchar")) (bytes_eq name (codes "exit")) t is else are_passed locals is && takes_locals locals t is) ≡ true
          → (if b then library_fits locals (bytes_eq name (codes "putchar")) (bytes_eq name (codes "exit")) t is
          else are_passed locals is && called_well z (function_named B.program name) t is) ≡ true
      by true i k = k
      by false i k =
          let two = both (are_passed locals is) (takes_locals locals t is) k in
          all_of (are_passed locals is) (called_well z (function_named B.program name) t is) two.0 (named-called name t is i there two.1)

  -- what is so of a type of the library's is so of it in the program
  typed-there : (P : SourceType → Bool) (name : Name) → is_library name ≡ true → P (library_type name) ≡ true → P (B.signature name) ≡ true
  typed-there P name lib e = subst (λ u. P u ≡ true) (sym (typed.library name lib)) e

  pointer-more : (h : Keeping) (q p : Register) (t : SourceType) (is : List ℕ) → has_local (has_result z) (sort_of (result_type t)) ≡ true
      → pointer_fits (named.view_of B.program.classes f) (named.reach_of f) h q p t is ≡ true → pointer_fits (view_of z) (tested.reach_of z) h q p t is ≡ true
  pointer-more h q p t is result e =
      let below = nat_lt q (all_bound f.body) in
      let local = has_local (λ (u : CType). true) (sort_of (result_type t)) in
      let here = has_local (has_result z) (sort_of (result_type t)) in
      let code = is_code_for t (h p) in
      let passed = are_passed locals is in
      let takes = takes_locals locals t is in
      let get = (λ (u : SourceType). get_fits locals u t is) in
      let put = (λ (u : SourceType). put_fits locals u t is) in
      let ends = (λ (u : SourceType). exit_fits locals u t is) in
      let gn = codes "getchar" in
      let pn = codes "putchar" in
      let en = codes "exit" in
      let reach = list_all (reached_well z t is) B.program.functions in
      let one = both below (local && (code && (get (library_type gn) && (put (library_type pn) && (ends (library_type en) && (passed && takes)))))) e in
      let two = both local (code && (get (library_type gn) && (put (library_type pn) && (ends (library_type en) && (passed && takes))))) one.1 in
      let three = both code (get (library_type gn) && (put (library_type pn) && (ends (library_type en) && (passed && takes)))) two.1 in
      let four = both (get (library_type gn)) (put (library_type pn) && (ends (library_type en) && (passed && takes))) three.1 in
      let five = both (put (library_type pn)) (ends (library_type en) && (passed && takes)) four.1 in
      let six = both (ends (library_type en)) (passed && takes) five.1 in
      let seven = both passed takes six.1 in
      all_of below (here && (code && (get (B.signature gn) && (put (B.signature pn) && (ends (B.signature en) && (passed && reach)))))) one.0
      (all_of here (code && (get (B.signature gn) && (put (B.signature pn) && (ends (B.signature en) && (passed && reach))))) result
      (all_of code (get (B.signature gn) && (put (B.signature pn) && (ends (B.signature en) && (passed && reach)))) three.0
      (all_of (get (B.signature gn)) (put (B.signature pn) && (ends (B.signature en) && (passed && reach))) (typed-there get gn refl four.0)
      (all_of (put (B.signature pn)) (ends (B.signature en) && (passed && reach)) (typed-there put pn refl five.0)
      (all_of (ends (B.signature en)) (passed && reach) (typed-there ends en refl six.0)
      (all_of passed reach seven.0 (all-reached t is B.program.functions typed.functions seven.1)))))))

  fits-more : (h : Keeping) (s : Plain) → Every There (actions s) → place.fits (named.view_of B.program.classes f) (named.reach_of f) h s ≡ true → tested.fits z h s ≡ true
  fits-more h (set q (plain.call name t None is None)) m e = call-more q name t is m.0.0 m.0.1 e
  fits-more h (set q (plain.pointer_call None p t is None)) m e = pointer-more h q p t is m.0.1 e
  fits-more h s m e =
      leaf-more (named.view_of B.program.classes f) (λ j bytes. is_text (B.texts f.name j) bytes) (λ name t. names_function z name t) h s (all-more-at (actions s) m) e

  -- ---- a function

  every-there : (os : List Action) → ActionsThere B f.name os → Every (ActionThere B f.name) os
  every-there [] h = tt
  every-there (a ∷ os) h = (h.0, every-there os h.1)

  every-results : Every (ResultThere (has_result z)) (all_actions f.body)
  every-results =
      results-there (flat_map result_at (all_actions f.body)) (has_result z) (λ t e. some-mapped _ (place_of_type t (result_types f)) e) (all_actions f.body) (λ t e. e)

  pub place-there : ActionsThere B f.name (all_actions f.body) → function_in_place B.program.classes f ≡ true
      → all_in_place locals (tested.fits z) false false f.body nothing_kept ≡ true
  place-there there e =
      let v = named.view_of B.program.classes f in
      let two = both (is_signature f.type) (all_in_place locals (place.fits v (named.reach_of f)) false false f.body nothing_kept) e in
      all-more locals (place.fits v (named.reach_of f)) (tested.fits z) There fits-more false false f.body nothing_kept
      (every-both (ActionThere B f.name) (ResultThere (has_result z)) (all_actions f.body) (every-there (all_actions f.body) there) every-results) two.1

pub named-tested : (B : Programs) → Fitting B → NamesTyped B → (f : PlainFunction) → NamesThere B f → Tested B f
named-tested B fitting typed f x =
    let two = both (function_ready f) (function_opens f && function_in_place [] f) x.passed in
    let three = both (function_opens f) (function_in_place [] f) two.1 in
    record {
      ready = two.0;
      opened = three.0;
      place = λ E first cs depth.
          place-there B fitting typed f E first cs depth x.there (subst (λ (classes : List Class). function_in_place classes f ≡ true) (sym fitting.none) three.1);
    }
