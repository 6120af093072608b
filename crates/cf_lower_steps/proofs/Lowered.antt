-- Plain statements and the C statements that they are lowered to.
use Rattle.std.proofs.Common.{◌≡◌, ℕ, ◌<◌, Bool, [], ◌∷◌, refl, sym, ◌∙◌, ap, subst}
use Rattle.std.specs.Prelude.{Some}
use Rattle.cf_base.specs.declared.kind.Kind.{Kind}
use Rattle.cf_base.specs.declared.kind.Kind.TheVariants.{Int}
use Rattle.cf_base.specs.declared.arith.Arith.{Arith}
use Rattle.cf_base.specs.declared.arith.Arith.TheVariants as op
use Rattle.cf_base.specs.Promotion.{promoted}
use Rattle.cf_base.specs.World.{World}
use Rattle.cf_core.specs.Types.{Name, SourceType}
use Rattle.cf_core.specs.Run.{State}
use Rattle.cf_core.specs.Calls.{Program}
use Rattle.cf_lower_layout.specs.Sorts.{Sort, number, address, code, sort_of}
use Rattle.cf_plain.specs.Plain as plain
use Rattle.cf_plain.specs.Plain.{Register, act, set}
use Rattle.cf_plain.specs.Acts.{Registers}
use Rattle.cf_plain.specs.Running as running
use Rattle.cf_plain.specs.Running.{does, calls}
use Rattle.cc_whole.specs.Plain.{pointed}
use Rattle.cc_whole_mean.specs.Scope.{Scope}
use Rattle.cc_whole_mean.specs.Flow as c
use Rattle.cc_whole_mean.specs.Mean as mean
use Rattle.cf_lower_relate.specs.Map.{Map}
use Rattle.cf_lower.specs.Kept.{Kept, integer_of, holds, Keeping, keep, local_kept, of_sort, read_kept, result_kept}
use Rattle.cf_lower.specs.Expressions.{read_value, loaded_or, loaded, address_in, integer_in, local_value, as_stored, as_bits, operated}
use Rattle.cf_lower.specs.Statements.{Inside, lowered, put_in, stored_in, stored as stored_at, put}
use Rattle.cf_lower.specs.Written.{c_type}
use Rattle.cf_lower_steps.specs.Own.{Own}
use Rattle.cf_lower_steps.specs.Lowering.{Takes}
use Rattle.cf_lower_steps.specs.Flows.{Between, Simulates, Ways, Ends}
use Rattle.cf_lower_steps.proofs.Between.{stores-there}
use Rattle.cf_lower_steps.proofs.Operators.{operate-step}
use Rattle.cf_lower_steps.proofs.Statements.{runs, sets-register}
use Rattle.cf_lower_steps.proofs.Stores.{store-step}
use Rattle.cf_lower_steps.proofs.Values.{K, read-step}

-- the C local of what a scalar's value is kept as
abbrev pub register_sort : Sort → Sort
register_sort (number k) = number Int
register_sort s = s

sort-local : (u : Sort) → local_kept (of_sort (Some u)) ≡ Some (register_sort u)
sort-local (number k) = refl
sort-local (address t) = refl
sort-local (code t) = refl

result-local : (o : Arith) (k : Kind) → local_kept (result_kept o k) ≡ Some (number Int)
result-local op.Multiply k = refl
result-local op.Divide k = refl
result-local op.Remainder k = refl
result-local op.Add k = refl
result-local op.Subtract k = refl
result-local op.ShiftLeft k = refl
result-local op.ShiftRight k = refl
result-local op.Less k = refl
result-local op.Greater k = refl
result-local op.LessEqual k = refl
result-local op.GreaterEqual k = refl
result-local op.Equal k = refl
result-local op.NotEqual k = refl
result-local op.And k = refl
result-local op.Xor k = refl
result-local op.Or k = refl

module _ (P : Program) (function : Name → ℕ) (signature : Name → SourceType) (own : Own) (scope : Scope) (F : Map) (kept : Keeping) (g : Registers)
    (s : State) (t : c.State) (w : World) (b : Between (K P function signature F) own scope F kept g s t.memory)
    (below : (q : Register) (u : Sort) → local_kept (kept q) ≡ Some u → q < own.bound)
    (again : running.Again) (go helps : mean.Again) (p : mean.Program) (helper : Bool) (depth : ℕ) (x : Inside) (ways : Ways) where
  -- `set r (read q)`
  pub read-lowered : (r q : Register) (y : SourceType) (u : Sort) → r < own.bound → kept q ≡ holds (address y) → sort_of y ≡ Some u
      → Simulates (Ends (K P function signature F) own scope F (keep kept r (of_sort (Some u))) ways) (does again P (set r (plain.read q)) g s w)
      (runs go helps p helper scope depth (lowered (set r (plain.read q)) x kept) t w)
  read-lowered r q y u lt kq e =
      subst (λ ss. Simulates (Ends (K P function signature F) own scope F (keep kept r (of_sort (Some u))) ways) (does again P (set r (plain.read q)) g s w)
      (runs go helps p helper scope depth ss t w))
      (sym (ap (λ z. put_in x (local_kept (read_kept z)) r (read_value z q)) kq
      ∙ ap (λ z. put_in x (local_kept (of_sort z)) r (loaded_or z q)) e
      ∙ ap (λ z. put_in x z r (loaded u (address_in q))) (sort-local u)))
      (sets-register go helps p helper scope depth (K P function signature F) own F kept g s t w b below (of_sort (Some u)) (register_sort u) r lt (sort-local u)
      (loaded u (address_in q)) refl ways _
      (read-step P function signature F (calls again) s t.memory b.rel w scope kept g b.registers q y u kq e))

  -- `set r (operate o k q v)`
  pub operate-lowered : (r q v : Register) (o : Arith) (k : Kind) (f h : Kind → Bool) → r < own.bound → promoted k ≡ k → kept q ≡ integer_of f → kept v ≡ integer_of h
      → Simulates (Ends (K P function signature F) own scope F (keep kept r (result_kept o k)) ways) (does again P (set r (plain.operate o k q v)) g s w)
      (runs go helps p helper scope depth (lowered (set r (plain.operate o k q v)) x kept) t w)
  operate-lowered r q v o k f h lt pk kq kv =
      subst (λ ss. Simulates (Ends (K P function signature F) own scope F (keep kept r (result_kept o k)) ways) (does again P (set r (plain.operate o k q v)) g s w)
      (runs go helps p helper scope depth ss t w))
      (sym (ap (λ z. put_in x z r (as_bits (operated o k (integer_in q) (integer_in v)))) (result-local o k)))
      (sets-register go helps p helper scope depth (K P function signature F) own F kept g s t w b below (result_kept o k) (number Int) r lt (result-local o k)
      (as_bits (operated o k (integer_in q) (integer_in v))) refl ways _
      (operate-step P function signature F (calls again) s t.memory w scope kept g b.registers o k q v f h pk kq kv))

  -- `store r q`
  pub store-lowered : (r q : Register) (y : SourceType) (u : Sort) (z : Kept) (a : Sort) → kept r ≡ holds (address y) → sort_of y ≡ Some u → kept q ≡ z
      → local_kept z ≡ Some a → Takes u z
      → Simulates (Ends (K P function signature F) own scope F kept ways) (does again P (act (plain.store r q)) g s w)
      (runs go helps p helper scope depth (lowered (act (plain.store r q)) x kept) t w)
  store-lowered r q y u z a kr e kq lz takes =
      subst (λ ss. Simulates (Ends (K P function signature F) own scope F kept ways) (does again P (act (plain.store r q)) g s w) (runs go helps p helper scope depth ss t w))
      (sym (ap (λ k. stored_in k r (local_value (local_kept (kept q)) q)) kr
      ∙ ap (λ i. stored_at i r (local_value (local_kept (kept q)) q)) e
      ∙ ap (λ k. put u (address_in r) (local_value (local_kept k) q) ∷ []) kq
      ∙ ap (λ l. put u (address_in r) (local_value l q) ∷ []) lz))
      (stores-there (K P function signature F) own scope F go helps p helper depth kept g s t w b below ways (pointed (c_type u) (address_in r)) (as_stored u (local_value (Some a) q)) _
      (store-step P function signature F (calls again) s t.memory b.rel w scope kept g b.registers r q y u z a kr e kq lz takes))
