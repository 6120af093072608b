-- What plain statements tell of what an action gives, lowering tells too.
use Rattle.std.proofs.Common.{◌≡◌, Bool, true, false, ◌&&◌, if◌then◌else◌, refl, sym, ap}
use Rattle.std.specs.Prelude.{ℕ, List, Option, Some, None, slice_get}
use Rattle.cf_base.specs.Integers.{fits}
use Rattle.cf_core.specs.Types.{SourceType, same_but_const, result as result_type}
use Rattle.cf_core.specs.Core.{arithmetic, moved}
use Rattle.cf_lower_layout.specs.Sorts.{Sort}
use Rattle.cf_plain.specs.Plain.{Action, number, text, local, static_object, function, read, dereference, decay, index, convert, from_void, operate, unary, truth, logical_not, pointer_operate, changed, store, declare, first, zeros, bytes, finish, call, pointer_call, Register}
use Rattle.cf_plain_kept.specs.Kept as plain
use Rattle.cf_lower.specs.Kept as lower
use Rattle.cf_lower.specs.Kept.{integer_of, holds, unknown, Keeping, Locals}
use Rattle.cf_lower_kept.specs.Ready.{action_ready}
use Rattle.cf_lower_kept.specs.Told.{ToldIf, AllTold}
use Rattle.cf_lower_kept.proofs.Operands.{value-told, read-told, named-told, local-told, pointed-told, decayed-told, moved-told, back-told, pointers-told, converted-told, from_void-told, tested-told, operated-told, kind-told, stored-told, begun-told, filled-told, declared-told, code-sort}

module _ (locals : Locals) (result : SourceType) (g : plain.Keeping) (h : Keeping) (told : AllTold locals g h) where
  called-told : (r : Register) (t : SourceType) (is : List ℕ) (o : Option plain.Kept) → ToldIf locals (plain.pointed_call t o) (lower.kept_by locals h (pointer_call None r t is None))
  called-told r t is (Some (plain.a_place u)) = by (same_but_const u t)
    where
      by : (b : Bool) → ToldIf locals (plain.given b (plain.value_of (result_type t))) (lower.kept_by locals h (pointer_call None r t is None))
      by true = value-told locals (result_type t)
      by false = tt
  called-told r t is o = tt

  pub action-told : (a : Action) → action_ready locals.types result g a ≡ true → ToldIf locals (plain.kept_by locals.types result g a) (lower.kept_by locals h a)
  action-told (number z) e = record {
    kinds = λ k. fits k z;
    is = ap (λ b. if b then integer_of (λ k. fits k z) else unknown) e;
    has = λ k q. q;
  }
  action-told (text j b) e = refl
  action-told (local i) e = local-told locals (slice_get locals.types i) e
  action-told (static_object name t) e = named-told locals t e
  action-told (function name t) e = ap (λ (s : Sort). holds s) (sym (code-sort t e))
  action-told (read r) e = read-told locals (g r) (h r) (told r)
  action-told (dereference r) e = pointed-told locals (g r) (h r) (told r)
  action-told (decay r) e = decayed-told locals (g r) (h r) (told r) e
  action-told (index r q) e = moved-told locals (g r) (g q) (h r) (h q) (told r) (told q) e
  action-told (convert t r) e = converted-told locals t (g r)
  action-told (from_void t r) e = from_void-told locals t (g r) e
  action-told (operate op k r q) e = operated-told locals op k (g r) (g q)
  action-told (unary op k r) e = kind-told locals (plain.has_kind k (g r)) k
  action-told (truth r) e = tested-told locals (g r)
  action-told (logical_not r) e = tested-told locals (g r)
  action-told (pointer_operate op r q) e = pointers-told locals op (g r) (g q) (h r) (h q) (told r) (told q) e
  action-told (changed (arithmetic op k to) r q) e = kind-told locals (plain.integer_in (g r) && plain.right_has op k (g q)) to
  action-told (changed (moved back) r q) e = back-told locals (g r) (g q) (h r) (told r)
  action-told (store r q) e = stored-told locals (g r) (g q) unknown
  action-told (declare i t) e = declared-told locals i t e
  action-told (first r q) e = begun-told locals (g r) (g q) unknown
  action-told (zeros r) e = filled-told locals (g r) unknown
  action-told (bytes r b) e = filled-told locals (g r) unknown
  action-told (finish t i) e = tt
  action-told (call name t None is None) e = value-told locals (result_type t)
  action-told (pointer_call None r t is None) e = called-told r t is (g r)
  action-told a e = tt
