-- What is known of the parts of functions and static objects.
use Rattle.std.proofs.Common.{◌≡◌, ℕ, ◌<◌, true, List, [], ◌∷◌, length, All, arith}
use Rattle.std.specs.Prelude.{◌&&◌}
use Rattle.std.specs.List.{list_all}
use Rattle.std.proofs.lemmas.Bool.{and_parts, ltb-true}
use Rattle.std.proofs.lemmas.List.Elements.{All-cons}
use Rattle.cf_core.specs.FromTypes.{Tables}
use Rattle.cf_core.specs.Numbers.{has_type, role_known, are_known, function_known, static_known}
use Rattle.cf_core.specs.declared.unit.CoreFn.{CoreFn}
use Rattle.cf_core.specs.declared.unit.CoreStatic.{CoreStatic}

module _ (tables : Tables) where
  type_below : (t : ℕ) → has_type tables t ≡ true → t < length tables.types.types
  type_below t h = ltb-true t (length tables.types.types) h

  all_below : (ts : List ℕ) → list_all (has_type tables) ts ≡ true → All (λ t. t < length tables.types.types) ts
  all_below [] h = λ k d lt. absurd (omega arith)
  all_below (t ∷ ts) h =
      let p = and_parts (has_type tables t) (list_all (has_type tables) ts) h in
      All-cons (λ t. t < length tables.types.types) t ts (type_below t p.0) (all_below ts p.1)

  -- the parts of a function, the last first
  first : (f : CoreFn) → function_known tables f ≡ true
      → ((role_known tables f.role && has_type tables f.result && list_all (has_type tables) f.params && list_all (has_type tables) f.locals) ≡ true) × (are_known tables f.body ≡ true)
  first f h =
      and_parts (role_known tables f.role && has_type tables f.result && list_all (has_type tables) f.params && list_all (has_type tables) f.locals) (are_known tables f.body) h

  second : (f : CoreFn) → function_known tables f ≡ true
      → ((role_known tables f.role && has_type tables f.result && list_all (has_type tables) f.params) ≡ true) × (list_all (has_type tables) f.locals ≡ true)
  second f h = and_parts (role_known tables f.role && has_type tables f.result && list_all (has_type tables) f.params) (list_all (has_type tables) f.locals) (first f h).0

  third : (f : CoreFn) → function_known tables f ≡ true → ((role_known tables f.role && has_type tables f.result) ≡ true) × (list_all (has_type tables) f.params ≡ true)
  third f h = and_parts (role_known tables f.role && has_type tables f.result) (list_all (has_type tables) f.params) (second f h).0

  pub body_known : (f : CoreFn) → function_known tables f ≡ true → are_known tables f.body ≡ true
  body_known f h = (first f h).1

  pub locals_known : (f : CoreFn) → function_known tables f ≡ true → All (λ t. t < length tables.types.types) f.locals
  locals_known f h = all_below f.locals (second f h).1

  pub params_known : (f : CoreFn) → function_known tables f ≡ true → All (λ t. t < length tables.types.types) f.params
  params_known f h = all_below f.params (third f h).1

  pub result_known : (f : CoreFn) → function_known tables f ≡ true → f.result < length tables.types.types
  result_known f h = type_below f.result (and_parts (role_known tables f.role) (has_type tables f.result) (third f h).0).1

  pub object_known : (x : CoreStatic) → static_known tables x ≡ true → x.ty < length tables.types.types
  object_known x h = type_below x.ty (and_parts (has_type tables x.ty) (are_known tables x.start) h).0

  pub start_known : (x : CoreStatic) → static_known tables x ≡ true → are_known tables x.start ≡ true
  start_known x h = (and_parts (has_type tables x.ty) (are_known tables x.start) h).1
