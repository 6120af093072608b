-- Actions that move a pointer.
use Rattle.std.proofs.Common.{◌≡◌, ℕ, zero, suc, Bool, true, false, refl}
use Rattle.std.specs.Prelude.{ℤ, pos, negsuc, Result}
use Rattle.cf_base.specs.declared.kind.Kind.{Kind}
use Rattle.cf_base.specs.declared.kind.Kind.TheVariants.{Int}
use Rattle.cf_base.specs.declared.arith.Arith.TheVariants as op
use Rattle.cf_base.specs.World.{World}
use Rattle.cf_core.specs.declared.operators.PointerOperator.TheVariants as pointer
use Rattle.cf_core.specs.Types.{Name, SourceType, void}
use Rattle.cf_core.specs.Core.{moved}
use Rattle.cf_core.specs.Pointers.{sum_of, moved_back}
use Rattle.cf_core.specs.Scalars.{indexed, changed_value}
use Rattle.cf_core.specs.Size.{size}
use Rattle.cf_core.specs.Store as source
use Rattle.cf_core.specs.Run.{State}
use Rattle.cf_core.specs.Calls.{Program}
use Rattle.cf_core.specs.Calls as core
use Rattle.cf_lower_layout.specs.Sorts.{number, address}
use Rattle.cf_plain.specs.Plain as plain
use Rattle.cf_plain.specs.Plain.{Register}
use Rattle.cf_plain.specs.Acts.{Registers, acts}
use Rattle.cc_whole_memory.specs.declared.value.Value.{Value}
use Rattle.cc_whole_memory.specs.Blocks.{Memory}
use Rattle.cc_whole_mean.specs.Scope.{Scope}
use Rattle.cc_whole_mean.specs.Values.{value_of}
use Rattle.cf_lower_relate.specs.Map.{Map}
use Rattle.cf_lower_relate.specs.Relation.{Rel}
use Rattle.cf_lower.specs.Kept.{integer_of, holds, Keeping}
use Rattle.cf_lower.specs.Expressions.{moved_by, address_in, integer_in}
use Rattle.cf_lower_steps.specs.Steps.{HasValue, InRegisters, Step}
use Rattle.cf_lower_steps.proofs.Values.{K}
use Rattle.cf_lower_pointers.proofs.Moved.{added, taken}
use Rattle.cf_lower_pointers.proofs.Operands.{two-step}

module _ (P : Program) (function : Name → ℕ) (signature : Name → SourceType) (F : Map) (again : core.Again) (s : State) (m : Memory)
    (rel : Rel (K P function signature F) F s m) (w : World) (scope : Scope) (kept : Keeping) (g : Registers) (regs : InRegisters (K P function signature F) F kept g scope m)
    (t : SourceType) (no_void : t ≡ void → ⊥) (f : Kind → Bool) where
  module _ (r q : Register) (kr : kept r ≡ holds (address t)) (kq : kept q ≡ integer_of f) where
    abbrev forward : Result Value ℕ
    forward = value_of (moved_by op.Add (address_in r) (size P.classes t) (integer_in q)) scope m

    abbrev backward : Result Value ℕ
    backward = value_of (moved_by op.Subtract (address_in r) (size P.classes t) (integer_in q)) scope m

    abbrev AtRight : source.Value → Type 0
    AtRight u = HasValue (K P function signature F) F (integer_of f) u (value_of (integer_in q) scope m)

    abbrev AtLeft : source.Value → Type 0
    AtLeft v = HasValue (K P function signature F) F (holds (address t)) v (value_of (address_in r) scope m)

    pub sum-step : Step (K P function signature F) F (acts again P g (plain.pointer_operate pointer.Add r q) s w) s w (holds (address t)) forward
    sum-step = two-step P function signature F s m w scope kept g regs (holds (address t)) forward r q (holds (address t)) (integer_of f) (address t) (number Int)
        (sum_of P.classes) kr refl kq refl of-values
      where
        of-values : (v u : source.Value) → AtLeft v → AtRight u → Step (K P function signature F) F (sum_of P.classes v u s w) s w (holds (address t)) forward
        of-values (source.At p) (source.Number z) hv hu = added P function signature F s m rel w scope t no_void p z f (address_in r) (integer_in q) hv hu
        of-values source.Null (source.Number z) hv hu = record { by = refl }
        of-values (source.At p) u hv hu = absurd hu.same
        of-values source.Null u hv hu = absurd hu.same
        of-values v u hv hu = absurd hv.same

    pub index-step : Step (K P function signature F) F (acts again P g (plain.index r q) s w) s w (holds (address t)) forward
    index-step = two-step P function signature F s m w scope kept g regs (holds (address t)) forward r q (holds (address t)) (integer_of f) (address t) (number Int)
        (indexed P.classes) kr refl kq refl of-values
      where
        of-values : (v u : source.Value) → AtLeft v → AtRight u → Step (K P function signature F) F (indexed P.classes v u s w) s w (holds (address t)) forward
        of-values (source.At p) (source.Number z) hv hu = added P function signature F s m rel w scope t no_void p z f (address_in r) (integer_in q) hv hu
        of-values source.Null (source.Number z) hv hu = record { by = refl }
        of-values (source.At p) u hv hu = absurd hu.same
        of-values source.Null u hv hu = absurd hu.same
        of-values v u hv hu = absurd hv.same

    pub back-step : Step (K P function signature F) F (acts again P g (plain.pointer_operate pointer.Subtract r q) s w) s w (holds (address t)) backward
    back-step = two-step P function signature F s m w scope kept g regs (holds (address t)) backward r q (holds (address t)) (integer_of f) (address t) (number Int)
        (moved_back P.classes) kr refl kq refl of-values
      where
        of-values : (v u : source.Value) → AtLeft v → AtRight u → Step (K P function signature F) F (moved_back P.classes v u s w) s w (holds (address t)) backward
        of-values (source.At p) (source.Number z) hv hu = taken P function signature F s m rel w scope t no_void p z f (address_in r) (integer_in q) hv hu
        of-values source.Null (source.Number z) hv hu = record { by = refl }
        of-values (source.At p) u hv hu = absurd hu.same
        of-values source.Null u hv hu = absurd hu.same
        of-values v u hv hu = absurd hv.same

    pub changed-forward : Step (K P function signature F) F (acts again P g (plain.changed (moved false) r q) s w) s w (holds (address t)) forward
    changed-forward = two-step P function signature F s m w scope kept g regs (holds (address t)) forward r q (holds (address t)) (integer_of f) (address t) (number Int)
        (changed_value P.classes (moved false)) kr refl kq refl of-values
      where
        of-values : (v u : source.Value) → AtLeft v → AtRight u
            → Step (K P function signature F) F (changed_value P.classes (moved false) v u s w) s w (holds (address t)) forward
        of-values (source.At p) (source.Number z) hv hu = added P function signature F s m rel w scope t no_void p z f (address_in r) (integer_in q) hv hu
        of-values source.Null (source.Number z) hv hu = record { by = refl }
        of-values (source.At p) u hv hu = absurd hu.same
        of-values source.Null u hv hu = absurd hu.same
        of-values v u hv hu = absurd hv.same

    pub changed-back : Step (K P function signature F) F (acts again P g (plain.changed (moved true) r q) s w) s w (holds (address t)) backward
    changed-back = two-step P function signature F s m w scope kept g regs (holds (address t)) backward r q (holds (address t)) (integer_of f) (address t) (number Int)
        (changed_value P.classes (moved true)) kr refl kq refl of-values
      where
        of-values : (v u : source.Value) → AtLeft v → AtRight u
            → Step (K P function signature F) F (changed_value P.classes (moved true) v u s w) s w (holds (address t)) backward
        of-values (source.At p) (source.Number (pos zero)) hv hu =
            taken P function signature F s m rel w scope t no_void p (pos zero) f (address_in r) (integer_in q) hv hu
        of-values (source.At p) (source.Number (pos (suc n))) hv hu =
            taken P function signature F s m rel w scope t no_void p (pos (suc n)) f (address_in r) (integer_in q) hv hu
        of-values (source.At p) (source.Number (negsuc n)) hv hu =
            taken P function signature F s m rel w scope t no_void p (negsuc n) f (address_in r) (integer_in q) hv hu
        of-values source.Null (source.Number (pos zero)) hv hu = record { by = refl }
        of-values source.Null (source.Number (pos (suc n))) hv hu = record { by = refl }
        of-values source.Null (source.Number (negsuc n)) hv hu = record { by = refl }
        of-values (source.At p) u hv hu = absurd hu.same
        of-values source.Null u hv hu = absurd hu.same
        of-values v u hv hu = absurd hv.same

  -- the integer first
  module _ (r q : Register) (kr : kept r ≡ integer_of f) (kq : kept q ≡ holds (address t)) where
    abbrev turned : Result Value ℕ
    turned = value_of (moved_by op.Add (address_in q) (size P.classes t) (integer_in r)) scope m

    abbrev Integer : source.Value → Type 0
    Integer v = HasValue (K P function signature F) F (integer_of f) v (value_of (integer_in r) scope m)

    abbrev Pointer : source.Value → Type 0
    Pointer u = HasValue (K P function signature F) F (holds (address t)) u (value_of (address_in q) scope m)

    pub sum-turned : Step (K P function signature F) F (acts again P g (plain.pointer_operate pointer.Add r q) s w) s w (holds (address t)) turned
    sum-turned = two-step P function signature F s m w scope kept g regs (holds (address t)) turned r q (integer_of f) (holds (address t)) (number Int) (address t)
        (sum_of P.classes) kr refl kq refl of-values
      where
        of-values : (v u : source.Value) → Integer v → Pointer u → Step (K P function signature F) F (sum_of P.classes v u s w) s w (holds (address t)) turned
        of-values (source.Number z) (source.At p) hv hu = added P function signature F s m rel w scope t no_void p z f (address_in q) (integer_in r) hu hv
        of-values (source.Number z) source.Null hv hu = record { by = refl }
        of-values (source.Number z) u hv hu = absurd hu.same
        of-values v u hv hu = absurd hv.same

    pub index-turned : Step (K P function signature F) F (acts again P g (plain.index r q) s w) s w (holds (address t)) turned
    index-turned = two-step P function signature F s m w scope kept g regs (holds (address t)) turned r q (integer_of f) (holds (address t)) (number Int) (address t)
        (indexed P.classes) kr refl kq refl of-values
      where
        of-values : (v u : source.Value) → Integer v → Pointer u → Step (K P function signature F) F (indexed P.classes v u s w) s w (holds (address t)) turned
        of-values (source.Number z) (source.At p) hv hu = added P function signature F s m rel w scope t no_void p z f (address_in q) (integer_in r) hu hv
        of-values (source.Number z) source.Null hv hu = record { by = refl }
        of-values (source.Number z) u hv hu = absurd hu.same
        of-values v u hv hu = absurd hv.same
