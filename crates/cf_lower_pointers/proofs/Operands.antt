-- The operands of an action, as its C expression has them.
use Rattle.std.proofs.Common.{◌≡◌, ℕ, Bool, true, refl, sym, subst}
use Rattle.std.specs.Prelude.{Some, Result}
use Rattle.cf_base.specs.World.{World}
use Rattle.cf_core.specs.Types.{Name, SourceType}
use Rattle.cf_core.specs.Store as source
use Rattle.cf_core.specs.Run.{State, Act, ◌>>=◌}
use Rattle.cf_core.specs.Calls.{Program}
use Rattle.cf_lower_layout.specs.Sorts.{Sort}
use Rattle.cf_plain.specs.Plain.{Register}
use Rattle.cf_plain.specs.Acts.{Registers, used_in}
use Rattle.cc_whole_memory.specs.declared.value.Value.{Value}
use Rattle.cc_whole_memory.specs.Blocks.{Memory}
use Rattle.cc_whole_mean.specs.Scope.{Scope}
use Rattle.cc_whole_mean.specs.Values.{value_of}
use Rattle.cf_lower_relate.specs.Map.{Map}
use Rattle.cf_lower.specs.Kept.{Kept, Keeping, local_kept}
use Rattle.cf_lower.specs.Expressions.{local_value}
use Rattle.cf_lower_steps.specs.Steps.{HasValue, KeptAs, GivenAs, InRegisters, Step}
use Rattle.cf_lower_steps.proofs.Holding.{usable, usable-has}
use Rattle.cf_lower_steps.proofs.Values.{K, step-used}

module _ (P : Program) (function : Name → ℕ) (signature : Name → SourceType) (F : Map) (s : State) (m : Memory) (w : World) (scope : Scope)
    (kept : Keeping) (g : Registers) (regs : InRegisters (K P function signature F) F kept g scope m) where
  -- a value that can be used stands in the C local of its register
  pub value-held : (r : Register) (x : Kept) (a : Sort) (v : source.Value) → kept r ≡ x → local_kept x ≡ Some a → g r ≡ Some v → usable v ≡ true
      → HasValue (K P function signature F) F x v (value_of (local_value (Some a) r) scope m)
  value-held r x a v k l e u =
      usable-has (K P function signature F) F x a v (value_of (local_value (Some a) r) scope m) l u
      (subst (λ b. KeptAs (K P function signature F) F x v (value_of (local_value b r) scope m)) l
      (subst (λ y. KeptAs (K P function signature F) F y v (value_of (local_value (local_kept y) r) scope m)) k (regs r v e)))

  module _ (z : Kept) (found : Result Value ℕ) where
    pub one-step : (r : Register) (x : Kept) (a : Sort) (go : source.Value → Act source.Value) → kept r ≡ x → local_kept x ≡ Some a
        → ((v : source.Value) → HasValue (K P function signature F) F x v (value_of (local_value (Some a) r) scope m)
        → Step (K P function signature F) F (go v s w) s w z found)
        → Step (K P function signature F) F ((used_in g r >>= go) s w) s w z found
    one-step r x a go k l next =
        step-used P function signature F s w z found g r go (λ v is u. next v (value-held r x a v k l is u))

    pub two-step : (r q : Register) (x y : Kept) (a b : Sort) (go : source.Value → source.Value → Act source.Value)
        → kept r ≡ x → local_kept x ≡ Some a → kept q ≡ y → local_kept y ≡ Some b
        → ((v u : source.Value) → HasValue (K P function signature F) F x v (value_of (local_value (Some a) r) scope m)
        → HasValue (K P function signature F) F y u (value_of (local_value (Some b) q) scope m) → Step (K P function signature F) F (go v u s w) s w z found)
        → Step (K P function signature F) F ((used_in g r >>= (λ v. used_in g q >>= (λ u. go v u))) s w) s w z found
    two-step r q x y a b go kr lr kq lq next =
        one-step r x a (λ v. used_in g q >>= (λ u. go v u)) kr lr (λ v hv. one-step q y b (go v) kq lq (λ u hu. next v u hv hu))
