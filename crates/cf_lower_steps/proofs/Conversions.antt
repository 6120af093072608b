-- Conversions to integer types.
use Rattle.std.proofs.Common.{◌≡◌, ℕ, Bool, refl, sym, ap, subst}
use Rattle.std.specs.Prelude.{ℤ, Some, Result}
use Rattle.cf_base.specs.declared.kind.Kind.{Kind}
use Rattle.cf_base.specs.declared.kind.Kind.TheVariants.{Int}
use Rattle.cf_base.specs.Integers.{convert}
use Rattle.cf_base.specs.World.{World, Went}
use Rattle.cf_core.specs.Types.{Name, SourceType, integer, enumeration, pointer, reference, takes, gives as gives_type, const, without_const}
use Rattle.cf_core.specs.Store as source
use Rattle.cf_core.specs.Run.{State, Gives}
use Rattle.cf_core.specs.Scalars.{converted_value}
use Rattle.cf_core.specs.Calls.{Program}
use Rattle.cf_core.specs.Calls as core
use Rattle.cf_lower_layout.specs.Sorts.{number, sort_to, sort_of, c_kind}
use Rattle.cf_plain.specs.Plain.{Register}
use Rattle.cf_plain.specs.Acts.{Registers}
use Rattle.cc_whole_memory.specs.declared.value.Value.{Value}
use Rattle.cc_whole_memory.specs.Blocks.{Memory}
use Rattle.cc_whole_mean.specs.Scope.{Scope}
use Rattle.cc_whole_mean.specs.Values.{value_of}
use Rattle.cf_lower_relate.specs.Map.{Map}
use Rattle.cf_lower.specs.Kept.{integer_of, Keeping, of_kind}
use Rattle.cf_lower.specs.Expressions.{integer_in, at_kind, as_bits}
use Rattle.cf_lower_steps.specs.Steps.{HasValue, InRegisters, Step}
use Rattle.cf_lower_steps.proofs.Operators.{kind-value, bits-value, number-in, integer-kept, of-kind}
use Rattle.cf_lower_steps.proofs.Results.{convert-fits}
use Rattle.cf_lower_steps.proofs.Values.{K}

pub pointer-sort : (t : SourceType) (k : Kind) → Some (sort_to t) ≡ Some (number k) → ⊥
pointer-sort (takes p t) k e = absurd (cc)
pointer-sort (gives_type t b) k e = absurd (cc)
pointer-sort t k e = absurd (cc)

pub some-number : (j k : Kind) → Some (number j) ≡ Some (number k) → j ≡ k
some-number j k e = cc

-- a number converted to a type of this kind
converted-number : (t : SourceType) (k : Kind) (z : ℤ) (s : State) (w : World) → sort_of t ≡ Some (number k)
    → converted_value t (source.Number z) s w ≡ Went (Gives (source.Number (convert k z)) s) w
converted-number (integer j) k z s w e = ap (λ i. Went (Gives (source.Number (convert i z)) s) w) (some-number j k e)
converted-number (enumeration n) k z s w e = ap (λ i. Went (Gives (source.Number (convert i z)) s) w) (some-number Int k e)
converted-number (const t) k z s w e = converted-number t k z s w e
converted-number (pointer t) k z s w e = absurd (pointer-sort (without_const t) k e)
converted-number (reference t) k z s w e = absurd (pointer-sort (without_const t) k e)
converted-number t k z s w e = absurd (cc)

module _ (P : Program) (function : Name → ℕ) (signature : Name → SourceType) (F : Map)
    (again : core.Again) (s : State) (m : Memory) (w : World) (scope : Scope) (kept : Keeping) (g : Registers)
    (regs : InRegisters (K P function signature F) F kept g scope m) (t : SourceType) (k : Kind) (e : sort_of t ≡ Some (number k))
    (r : Register) (f : Kind → Bool) (kr : kept r ≡ integer_of f) where
  abbrev found : Result Value ℕ
  found = value_of (as_bits (at_kind k (integer_in r))) scope m

  -- a register's number converted to a type of the kind
  pub convert-step : (z : ℤ) → HasValue (K P function signature F) F (integer_of f) (source.Number z) (value_of (integer_in r) scope m)
      → Step (K P function signature F) F (converted_value t (source.Number z) s w) s w (of_kind k) found
  convert-step z h =
      subst (λ ran. Step (K P function signature F) F ran s w (of_kind k) found) (sym (converted-number t k z s w e))
      (record {
        by = (
          refl,
          refl,
          integer-kept P function signature F (of_kind k) (convert k z) found (of-kind k (convert k z) (convert-fits k z))
              (bits-value scope m (at_kind k (integer_in r)) (c_kind k) (convert k z)
              (kind-value scope m (integer_in r) k z (number-in P function signature F f (value_of (integer_in r) scope m) z h))),
        );
      })
