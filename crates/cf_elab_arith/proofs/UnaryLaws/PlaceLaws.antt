-- The places that pointers lead to, and pointers to places.
use Rattle.std.proofs.Common.{◌≡◌, ℕ, Bool, true, false, Option, None, Some, refl, ap, ◌∙◌}
use Rattle.cf_core.specs.declared.node.Core.TheVariants as node
use Rattle.cf_elab.specs.Answer.{Answer, Made, Refused, onward, need}
use Rattle.cf_elab.specs.Env.{Env}
use Rattle.cf_elab.specs.Operand.{Value, Sort, object_pointer, function_pointer, sort_of, computed, place_of}
use Rattle.cf_elab.specs.Unary as unary
use Rattle.cf_elab_env.specs.Shut as made
use Rattle.cf_elab_env.proofs.Growth.{grown_laws}
use Rattle.cf_elab_arith.specs.Arith.Sorts.{target_at, target_of}
use Rattle.cf_elab_arith.specs.Unary.Shut as shut
use Rattle.cf_elab_arith.proofs.UnaryLaws.PointerLaws.{unnumbered}

module _ (at : ℕ) (p : Value) (env : Env) where
  abbrev to : ℕ → Answer Value
  to t = Made (place_of at (node.Dereference at p.node) t p.is_fixed) env

  pub dereferenced : (t : ℕ) → target_at env.types p.type ≡ Some t → shut.dereferenced at p env ≡ Made (place_of at (node.Dereference at p.node) t p.is_fixed) env
  unfolding shut.dereferenced target_at
  dereferenced t e = by (sort_of env.types p.type) e
    where
      by : (s : Sort) → target_of s ≡ Some t → unary.dereferenced at p s env ≡ Made (place_of at (node.Dereference at p.node) t p.is_fixed) env
      by (object_pointer u) e = let same : u ≡ t = cc in ap to same
      by (function_pointer u) e = let same : u ≡ t = cc in ap to same
      by other e = cc

  pub no_target : target_at env.types p.type ≡ None → shut.dereferenced at p env ≡ Refused 18 at
  unfolding shut.dereferenced target_at
  no_target e = by (sort_of env.types p.type) e
    where
      by : (s : Sort) → target_of s ≡ None → unary.dereferenced at p s env ≡ Refused 18 at
      by (object_pointer u) e = cc
      by (function_pointer u) e = cc
      by other e = refl

module _ (at : ℕ) (v : Value) (env : Env) where
  abbrev pointer : ℕ → Env → Answer Value
  pointer t next = Made (record (computed at (node.Address at v.node) t) { is_fixed = v.is_fixed }) next

  abbrev by_place : Bool → Answer Value
  by_place b = onward (need b 12 at env) (λ _ env. onward (made.pointer_to v.type env) pointer)

  pub address : (t : ℕ) (next : Env) → v.is_lvalue ≡ true → made.pointer_to v.type env ≡ Made t next
      → shut.address_of at v env ≡ Made (record (computed at (node.Address at v.node) t) { is_fixed = v.is_fixed }) next
  unfolding shut.address_of made.pointer_to
  address t next place h = ap by_place place ∙ ap (λ a. onward a pointer) h

  pub no_address : v.is_lvalue ≡ false → shut.address_of at v env ≡ Refused 12 at
  unfolding shut.address_of made.pointer_to
  no_address place = ap by_place place

pub ruleset dereferenced_laws = (dereferenced, no_target, unnumbered)

pub ruleset address_laws = (address, no_address, unnumbered, grown_laws)
