-- One of two expressions (5.16).
use Rattle.std.proofs.Common.{◌≡◌, ◌&&◌, ◌⊎◌, inl, inr, if◌then◌else◌, Some, None, refl, sym, ap, ◌∙◌}
use Rattle.cf_core.specs.Types.{SourceType}
use Rattle.cf_core.specs.Places.{is_scalar}
use Rattle.cf_core.specs.Typing.{Typing, either}
use Rattle.cf_core.specs.Typing as typing
use Rattle.cf_core_typed.specs.Same.{Same}
use Rattle.cf_core_typed.specs.Meets.{IsPlace, Typed, Untyped, IsValue, wide}
use Rattle.cf_core_typed.proofs.Same.{and-both, same-told, same-scalar}

both-told : (a b : SourceType) → Same a b → typing.both (Some a) (Some b) ≡ Some a
both-told a b e = ap (λ c. if c then Some a else None) (same-told a b e)

-- places of one type are a place
pub either-place : (x y : Typing) (t : SourceType) → IsPlace x t → IsPlace y t → IsPlace (either x y) t
either-place x y t p q = record {
  type = p.type;
  here = ap (λ o. typing.both o y.place) p.here ∙ ap (λ o. typing.both (Some p.type) o) q.here ∙ both-told p.type q.type (p.same ∙ sym q.same);
  same = p.same;
  normal = p.normal;
}

-- values of one type are one
pub either-value : (x y : Typing) (t : SourceType) → IsValue x t → IsValue y t → IsValue (either x y) t
either-value x y t v w = record {
  value = λ u e. and-both (x.value u) (y.value u) (v.value u e) (w.value u e);
  start = λ s u e. and-both (is_scalar u && x.value u) (y.value u) (and-both (is_scalar u) (x.value u) (sym (same-scalar t u e) ∙ s) (v.value u e)) (w.value u e);
  form = by v.form w.form;
}
  where
    by : Typed x t ⊎ Untyped x t → Typed y t ⊎ Untyped y t → Typed (either x y) t ⊎ Untyped (either x y) t
    by (inl p) (inl q) =
        let told : (either x y).type ≡ Some p.type = rw (p.here, q.here, same-told p.type q.type (p.same ∙ sym q.same)) refl in
        inl (record { type = p.type; here = told; same = p.same; bare = p.bare; normal = p.normal })
    by (inl p) (inr q) =
        let told : (either x y).type ≡ Some p.type = rw (p.here, q.untold, w.value p.type (sym p.same)) refl in
        inl (record { type = p.type; here = told; same = p.same; bare = p.bare; normal = p.normal })
    by (inr p) (inl q) =
        let told : (either x y).type ≡ Some q.type = rw (p.untold, q.here, v.value q.type (sym q.same)) refl in
        inl (record { type = q.type; here = told; same = q.same; bare = q.bare; normal = q.normal })
    by (inr p) (inr q) =
        let told : (either x y).type ≡ None = rw (p.untold, q.untold) refl in
        inr (record { untold = told; integral = p.integral; wide = and-both (x.value (wide t)) (y.value (wide t)) p.wide q.wide })
