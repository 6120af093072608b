-- The type that the code finds, or the fault, is that of the definition.
use Rattle.std.proofs.Common.{◌≡◌, ℕ, ◌+◌, List, Option, Some, None, Ok, Err, refl, ap, ◌∙◌, arith}
use Rattle.cc_whole.specs.declared.types.CType.{CType}
use Rattle.cc_whole.specs.declared.types.CType.TheVariants as ty
use Rattle.cc_whole.specs.declared.types.CConstant.{CConstant}
use Rattle.cc_whole.specs.Plain.{Place, named, pointed, Expression, constant, load, unary, cast, address, binary}
use Rattle.cc_whole.specs.Numbers.{constant_type, fits_constant}
use Rattle.cc_whole.specs.Types.{is_integer, is_pointer, binary_type, may_stand_left, prefix_type, value_type, stored_type}
use Rattle.cc_whole.specs.Landmarks.{type_marks, marks, place_marks}
use Rattle.cc_whole.specs.Fault.{moved}
use Rattle.cc_whole.specs.Known.{Meant, function, object, Named, lookup, is_main}
use Rattle.cc_whole.specs.Typed.{is_zero, may_cast, typed_constant, typed_name, typed_address, fitted, typed, typed_place, target_name, typed_target}
use Rattle.cc_whole_valid.specs.declared.stop.Stop.TheVariants as stop
use Rattle.cc_whole_valid.specs.Walk.{and_then, past}
use Rattle.cc_whole_valid.specs.Typing.{past_one, constant_at, name_at, addressed, prefixed, cast_to, pointed_at, fitted_at, type_from, type_at, stored_by, target_of_name, target_from}
use Rattle.cc_whole_valid.proofs.WalkLaws.{told, told_past, told_then, told_back, told_where, told_unless}

pub told_one : (t : CType) (at : ℕ) → past_one t at ≡ told at 1 (Ok t)
unfolding past_one
told_one t at = ap (λ r. and_then r (λ u at. Ok (t, at))) (told_past 1 at)

pub here : (at : ℕ) → at ≡ at + 0
here at = omega arith

told_constant : (c : CConstant) (at : ℕ) → constant_at c at ≡ told at 1 (typed_constant c)
unfolding constant_at
told_constant c at = told_where (fits_constant c) 11 0 at 1 at (Ok (constant_type c)) (past_one (constant_type c) at) (here at) (told_one (constant_type c) at)

told_name : (name : List ℕ) (m : Option Meant) (at : ℕ) → name_at name m at ≡ told at 1 (typed_name name m)
unfolding name_at
told_name name None at = ap (λ k. Err (stop.Broken 1 k)) (here at)
told_name name (Some (function p)) at =
    told_unless (is_main name) 10 0 at 1 at (Ok ty.FunctionPointer) (past_one ty.FunctionPointer at) (here at) (told_one ty.FunctionPointer at)
told_name name (Some (object t)) at = told_one (value_type t) at

-- the address of a name, behind `(char *)&`
told_address : (m : Option Meant) (at : ℕ) → and_then (past 1 at) (λ u. addressed m) ≡ told at 2 (typed_address m)
unfolding addressed
told_address None at = ap (λ r. and_then r (λ u. addressed None)) (told_past 1 at)
told_address (Some (function p)) at = ap (λ r. and_then r (λ u. addressed (Some (function p)))) (told_past 1 at)
told_address (Some (object t)) at =
    ap (λ r. and_then r (λ u. addressed (Some (object t)))) (told_past 1 at)
    ∙ (told_one ty.Pointer (at + 1) ∙ ap (λ k. Ok (ty.Pointer, k)) (let h : (at + 1) + 1 ≡ at + 2 = omega arith in h))

pub told_fitted : (at place behind l : ℕ) (t : Option CType) → behind ≡ at + place → fitted_at behind t (at + l) ≡ told at l (fitted place t)
told_fitted at place behind l None e = ap (λ k. Err (stop.Broken 3 k)) e
told_fitted at place behind l (Some t) e = refl

mutual
  pub told_type : (e : Expression) (k : List Named) (at : ℕ) → type_from e k at ≡ told at (marks e) (typed e k)
  told_type (constant c) k at = told_constant c at
  told_type (load p) k at = told_place p k at
  told_type (unary o e) k at =
      told_then at (marks e) (marks e) (typed e k) _ (type_from e k at) (prefixed at o) (told_type e k at)
      (λ t. told_where (is_integer t) 3 0 at (marks e) at (Ok (prefix_type o t)) _ (here at) refl)
  told_type (cast t e) k at =
      ap (λ r. and_then r (λ u at. and_then (type_from e k at) (cast_to at t (is_zero e)))) (told_past (type_marks t) at)
      ∙ told_then at (type_marks t + marks e) (type_marks t + marks e) (moved (type_marks t) (typed e k)) _ (type_from e k (at + type_marks t)) (cast_to (at + type_marks t) t (is_zero e))
      (told_type e k (at + type_marks t) ∙ told_back at (type_marks t) (marks e) (typed e k))
      (λ s. told_where (may_cast t s (is_zero e)) 3 (type_marks t) at (type_marks t + marks e) (at + type_marks t) (Ok t) _ refl refl)
  told_type (address name) k at = told_address (lookup k name) at
  told_type (binary o a b) k at =
      told_then at (marks a) (marks a + marks b) (typed a k) _ (type_from a k at) _ (told_type a k at)
      (λ s. told_where (may_stand_left o s) 3 0 at (marks a + marks b) at _ _ (here at)
      (told_then at (marks a + marks b) (marks a + marks b) (moved (marks a) (typed b k)) _ (type_from b k (at + marks a)) _
      (told_type b k (at + marks a) ∙ told_back at (marks a) (marks b) (typed b k))
      (λ t. told_fitted at (marks a) (at + marks a) (marks a + marks b) (binary_type o s (is_zero a) t (is_zero b)) refl)))

  pub told_place : (p : Place) (k : List Named) (at : ℕ) → type_at p k at ≡ told at (place_marks p) (typed_place p k)
  told_place (named name) k at = told_name name (lookup k name) at
  told_place (pointed t e) k at =
      ap (λ r. and_then r (λ u at. and_then (type_from e k at) (pointed_at at t))) (told_past (type_marks t) at)
      ∙ told_then at (type_marks t + marks e) (type_marks t + marks e) (moved (type_marks t) (typed e k)) _ (type_from e k (at + type_marks t)) (pointed_at (at + type_marks t) t)
      (told_type e k (at + type_marks t) ∙ told_back at (type_marks t) (marks e) (typed e k))
      (λ s. told_where (is_pointer s) 3 (type_marks t) at (type_marks t + marks e) (at + type_marks t) (Ok t) _ refl refl)

told_stored : (t : Option CType) (at : ℕ) → stored_by t at ≡ told at 1 (fitted 0 t)
unfolding stored_by
told_stored None at = ap (λ k. Err (stop.Broken 3 k)) (here at)
told_stored (Some t) at = told_one t at

told_target_name : (m : Option Meant) (at : ℕ) → target_of_name m at ≡ told at 1 (target_name m)
unfolding target_of_name
told_target_name None at = ap (λ k. Err (stop.Broken 1 k)) (here at)
told_target_name (Some (function p)) at = ap (λ k. Err (stop.Broken 3 k)) (here at)
told_target_name (Some (object t)) at = told_stored (stored_type t) at

pub told_target : (p : Place) (k : List Named) (at : ℕ) → target_from p k at ≡ told at (place_marks p) (typed_target p k)
told_target (named name) k at = told_target_name (lookup k name) at
told_target (pointed t e) k at = told_place (pointed t e) k at
