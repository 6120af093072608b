-- Functions that pass the tests have what they need wherever they are entered.
use Rattle.std.proofs.Common.{◌≡◌, ℕ, suc, ◌≤◌, true, ◌&&◌, List, [], ◌∷◌, refl, sym, ◌∙◌, ap, subst, arith}
use Rattle.std.specs.Prelude.{map, Option, Some, None}
use Rattle.cf_core.specs.Classes.{Class}
use Rattle.cf_core.specs.Types.{Name, SourceType, parameters}
use Rattle.cf_core.specs.Core.{Function}
use Rattle.cf_core.specs.Run.{State}
use Rattle.cf_core.specs.Objects.{static_number}
use Rattle.cf_plain.specs.Plain.{PlainFunction}
use Rattle.cf_plain.specs.Running.{plain_named, header}
use Rattle.cc_whole.specs.Plain as c_tree
use Rattle.cc_whole.specs.declared.types.CType.{CType}
use Rattle.cc_whole.specs.declared.unit.CParameter.{CParameter}
use Rattle.cc_whole_memory.specs.declared.value.Value.{Value}
use Rattle.cc_whole_memory.specs.Blocks.{Memory}
use Rattle.cf_lower.specs.Kept.{nothing_kept, after_all}
use Rattle.cc_whole_mean.specs.Callee.{own, same_result, same_types, has_type}
use Rattle.cf_lower_layout.specs.Sorts.{Sort, sort_of}
use Rattle.cf_lower.specs.Functions.{all_nesting, locals_of, lowered_parameters}
use Rattle.cf_lower.specs.Statements.{c_types, signature}
use Rattle.cf_lower.specs.Written.{if_scalar, c_type, local_name}
use Rattle.cf_lower_kept.specs.Opened.{parameters_open}
use Rattle.cf_lower_relate.specs.Map.{Map}
use Rattle.cf_lower_turns.specs.Scene.{Scene}
use Rattle.cf_lower_calls.specs.Invoked.LowerActions.{Fits}
use Rattle.cf_lower_calls.specs.Returns.Called.{Programs, Entry, FunctionsAlike}
use Rattle.cf_lower_calls.specs.Invoked.Invoking.{StartStatic}
use Rattle.cf_lower_calls.specs.Entered.Linked.{linked_function}
use Rattle.cf_lower_calls.specs.Entered.Lowered.{Fitting, IsLowered, entered_scene, HasNeeds, AllLowered, AllHaveNeeds}
use Rattle.cf_lower_calls.proofs.EnteredLaws.Fitting.{scene-fits, programs-alike}
use Rattle.cf_lower_needed.proofs.Live.{function-needed}
use Rattle.cf_lower_place.specs.Calls.{same_signature}
use Rattle.cf_lower_tested.specs.Fits.{fits}
use Rattle.cf_lower_tested.specs.Tested.{Joined, TypesAgree, Tested, AllTested}
use Rattle.cf_lower_tested.proofs.Leaves.{leaves-lead}

some-plain : {a b : PlainFunction} → Some a ≡ Some b → a ≡ b
some-plain e = cc

itself : (n : ℕ) → n ≤ n
itself n = omega arith

-- ---- the C of a function has its type

parameter-types : (i : ℕ) (ts : List SourceType) → map (λ (x : CParameter). x.ty) (lowered_parameters i ts) ≡ c_types ts
parameter-types i [] = refl
parameter-types i (t ∷ ts) = by (parameter-types (suc i) ts) (sort_of t)
  where
    by : map (λ (x : CParameter). x.ty) (lowered_parameters (suc i) ts) ≡ c_types ts → (o : Option Sort)
        → map (λ (x : CParameter). x.ty)
        (if_scalar o (lowered_parameters (suc i) ts) (λ s. record { ty = c_type s; name = local_name i } ∷ lowered_parameters (suc i) ts))
        ≡ if_scalar o (c_types ts) (λ s. c_type s ∷ c_types ts)
    by rest None = rest
    by rest (Some s) = ap (λ (l : List CType). c_type s ∷ l) rest

lowered-typed : (classes : List Class) (p : PlainFunction) (t : SourceType) → same_signature t p.type ≡ true
    → has_type (signature t).result (signature t).parameters (own (linked_function classes p)) ≡ true
lowered-typed classes p t e =
    ap (λ (l : List CType). same_result (signature t).result (signature p.type).result && same_types (signature t).parameters l) (parameter-types 0 (parameters p.type)) ∙ e

types-agree : (B : Programs) → AllLowered B → TypesAgree B
types-agree B lowered f g pair t e =
    let x = lowered f g pair in
    subst (λ (k : c_tree.Function). has_type (signature t).result (signature t).parameters (own k) ≡ true) (sym x.made)
    (lowered-typed B.program.classes x.plain t (ap (λ (k : Function). same_signature t k.type) (sym x.is) ∙ e))

-- ---- what statements need

module _ (B : Programs) (fitting : Fitting B) (lowered : AllLowered B) (joined : Joined B) (n : ℕ) (alike : (k : ℕ) → k ≤ n → FunctionsAlike B k) where
  module _ (f : Function) (g : c_tree.Function) (x : IsLowered B f g) (tested : Tested B x.plain) (E : Map) (s : State) (first : Memory) (os : List ℕ) (cs : List Value)
      (depth : ℕ) (entry : Entry B (header x.plain) E s first os cs) where
    abbrev p : PlainFunction
    p = x.plain

    abbrev z : Scene
    z = entered_scene B p E first cs depth

    fits-there : Fits z
    fits-there = scene-fits B fitting n f g x E s first os cs depth entry

    statics : (name : Name) (o : ℕ) → static_number B.program name ≡ Some o → StartStatic z name o
    statics name o e =
        let there = entry.statics name o e in
        let seen = fits-there.statics name o e in
        record { shape = there.shape; named = there.named; known = there.known; type = there.type; visible = seen.visible; base = there.base }

    needs : HasNeeds B n p E first cs depth
    needs = record {
      last = after_all (locals_of p) p.body nothing_kept;
      needs = function-needed z n (fits z) (leaves-lead z fits-there fitting.none fitting.simple joined (types-agree B lowered) refl statics n alike) p.body
          (parameters_open 0 (parameters p.type)) (itself (all_nesting p.body)) tested.ready (tested.place E first cs depth) tested.opened;
    }

  -- a lowered function is the one of its name
  with-needs : (p : PlainFunction) (g : c_tree.Function) (x : IsLowered B (header p) g) → plain_named B.functions p.name ≡ Some p → Tested B p → (E : Map) (s : State)
      (first : Memory) (os : List ℕ) (cs : List Value) (depth : ℕ) → Entry B (header p) E s first os cs → HasNeeds B n p E first cs depth
  with-needs p g x found tested E s first os cs depth entry =
      let same : x.plain ≡ p = some-plain (sym x.found ∙ found) in
      subst (λ (q : PlainFunction). HasNeeds B n q E first cs depth) same
      (needs (header p) g x (subst (λ (q : PlainFunction). Tested B q) (sym same) tested) E s first os cs depth
      (subst (λ (q : PlainFunction). Entry B (header q) E s first os cs) (sym same) entry))

module _ (B : Programs) (fitting : Fitting B) (lowered : AllLowered B) (joined : Joined B) (tested : AllTested B) where
  pub all-have-needs : AllHaveNeeds B
  all-have-needs n alike f found E s first os cs depth entry =
      let there = joined.plain f found in
      with-needs B fitting lowered joined n alike f there.callee (lowered (header f) there.callee there.pair) found (tested f found) E s first os cs depth entry

  pub tested-alike : (n : ℕ) → FunctionsAlike B n
  tested-alike n = programs-alike B fitting lowered all-have-needs n
