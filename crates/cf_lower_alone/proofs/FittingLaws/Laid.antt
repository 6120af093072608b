-- The C locals and parameters of a lowered function have names of their own, by the function's name in the program too.
use Rattle.std.proofs.Common.{◌≡◌, ◌≤◌, ◌^◌, nat_le, true, false, not, ◌&&◌, List, [], ◌∷◌, length, refl, ap, ◌∙◌, inl, inr}
use Rattle.std.specs.Prelude.{bytes_eq, is_some}
use Rattle.std.specs.List.{list_all}
use Rattle.cf_base.proofs.Tests.{all_of}
use Rattle.cf_core.specs.Types.{SourceType, parameters}
use Rattle.cf_lower_layout.specs.Sorts.{sort_of}
use Rattle.cf_plain.specs.Plain.{PlainFunction, PlainStatic}
use Rattle.cf_plain.specs.Named.{all_actions}
use Rattle.cc_whole.specs.declared.statement.CLocal.{CLocal}
use Rattle.cc_whole.specs.declared.unit.CParameter.{CParameter}
use Rattle.cc_whole.specs.Uses.{local_names, parameter_names}
use Rattle.cc_whole_locals.specs.Names.{is_local, is_parameter, locals_differ, parameters_differ}
use Rattle.cf_lower.specs.Kept.{Locals}
use Rattle.cf_lower.specs.Functions.{lowered_parameters, locals_of, all_bound, all_nesting}
use Rattle.cf_lower_calls.specs.Born.Laid.{names_apart, is_laid_out}
use Rattle.cf_lower_program.specs.Passed.{behind_parameters}
use Rattle.cf_lower_program.specs.Lowerable.{Lowerable}
use Rattle.cc_whole_sections.specs.Sections.{In, Every}
use Rattle.cf_lower_valid.proofs.Differ.{Distinct}
use Rattle.cf_lower_valid.proofs.Inner.{mapped-in}
use Rattle.cf_lower_valid.proofs.Once.{any-none, either-way}
use Rattle.cf_lower_valid.proofs.Spans.{locals-distinct, parameters-distinct, parameters-apart}
use Rattle.cf_lower_valid.proofs.Tests.{file_of, all-in, function-told, callable-few, callable-scalars}
use Rattle.cf_lower_alone.proofs.AloneLaws.Functions.{c_locals, there, locals-same, same-locals}

local-tests : (xs : List CLocal) → Distinct (local_names xs) → locals_differ xs ≡ true
local-tests [] d = refl
local-tests (x ∷ xs) d =
    all_of (not (is_local x.name xs)) (locals_differ xs)
    (ap not (any-none (λ (y : CLocal). bytes_eq x.name y.name) xs (λ y k. d.0 y.name (mapped-in (λ (y : CLocal). y.name) y xs k)))) (local-tests xs d.1)

parameter-tests : (ps : List CParameter) → Distinct (parameter_names ps) → parameters_differ ps ≡ true
parameter-tests [] d = refl
parameter-tests (p ∷ ps) d =
    all_of (not (is_parameter p.name ps)) (parameters_differ ps)
    (ap not (any-none (λ (y : CParameter). bytes_eq p.name y.name) ps (λ y k. d.0 y.name (mapped-in (λ (y : CParameter). y.name) y ps k)))) (parameter-tests ps d.1)

apart-tests : (ps : List CParameter) (xs : List CLocal) → Every (λ y. Every (λ z. bytes_eq z y ≡ false) (local_names xs)) (parameter_names ps) → names_apart ps xs ≡ true
apart-tests [] xs h = refl
apart-tests (p ∷ ps) xs h =
    all_of (not (is_local p.name xs)) (names_apart ps xs)
    (ap not
    (any-none (λ (x : CLocal). bytes_eq p.name x.name) xs
    (λ x k. either-way x.name p.name (h p.name (inl refl) x.name (mapped-in (λ (x : CLocal). x.name) x xs k)))))
    (apart-tests ps xs (λ y k. h y (inr k)))

module _ (fs : List PlainFunction) (xs : List PlainStatic) (low : Lowerable (file_of fs xs)) (f : PlainFunction) (h : In f fs) where
  abbrev g : PlainFunction
  g = there fs xs low f h

  abbrev ps : List SourceType
  ps = parameters f.type

  pub is-laid : is_laid_out [] g ≡ true
  is-laid =
      let t = function-told fs xs low f h in
      let few : length ps ≤ 2 ^ 64 = callable-few f.type t.callable in
      let scalars = list_all (λ t. is_some (sort_of t)) ps in
      let arguments = list_all (λ i. nat_le (length ps) i) (locals_of g).arguments in
      let locals = locals_differ (c_locals g) in
      let given = parameters_differ (lowered_parameters 0 ps) in
      let apart = names_apart (lowered_parameters 0 ps) (c_locals g) in
      all_of scalars (arguments && (locals && (given && apart))) (callable-scalars f.type t.callable)
      (all_of arguments (locals && (given && apart)) (ap (λ (l : Locals). list_all (λ i. nat_le (length ps) i) l.arguments) (same-locals fs xs low f h)
      ∙ all-in behind_parameters fs low.arguments f h)
      (all_of locals (given && apart)
      (ap locals_differ (locals-same fs xs low f h)
      ∙ local-tests (c_locals f) (locals-distinct (length ps) f.locals (all_bound f.body) (all_nesting f.body) (all_actions f.body) t.few t.registers t.flags))
      (all_of given apart (parameter-tests (lowered_parameters 0 ps) (parameters-distinct ps few))
      (ap (names_apart (lowered_parameters 0 ps)) (locals-same fs xs low f h)
      ∙ apart-tests (lowered_parameters 0 ps) (c_locals f)
      (parameters-apart ps f.locals (all_bound f.body) (all_nesting f.body) (all_actions f.body) t.few t.registers t.flags)))))
