-- Values of a map are values of each later one.
use Rattle.std.proofs.Common.{◌≡◌, ℕ, ◌+◌, ◌<◌, true, false, ◌⊎◌, refl, sym, ◌∙◌, ap, subst, arith}
use Rattle.cf_core.specs.Types.{SourceType, void, without_const}
use Rattle.cf_core.specs.Places.{Place, type_at}
use Rattle.cf_core.specs.Store as source
use Rattle.cf_lower_layout.specs.Layout.{offset, points}
use Rattle.cc_whole_memory.specs.declared.value.Pointer.TheVariants as pointer
use Rattle.cc_whole_memory.specs.declared.value.Value.{Value}
use Rattle.cf_lower_layout.specs.Sorts.{Sort, number, address, code}
use Rattle.cf_lower_relate.specs.Map.{Fixed, Map, Grows, is_hidden, is_shown, pointer_to, PointsTo, Is}

pub grows-same : (F : Map) → Grows F F
grows-same F = record {
  count = omega arith;
  type = λ o lt. refl;
  visible = λ o lt h. h;
  shown = λ o lt h k. k;
  block = λ o lt h k. refl;
  base = λ o lt h k. refl;
}

pub grows-through : (F G H : Map) → Grows F G → Grows G H → Grows F H
grows-through F G H g h = record {
  count = let a = g.count in let b = h.count in omega (arith, a, b);
  type = λ o lt. h.type o (on o lt) ∙ g.type o lt;
  visible = λ o lt e. h.visible o (on o lt) (g.visible o lt e);
  shown = λ o lt e k. g.shown o lt e (there o lt e k);
  block = λ o lt e k. h.block o (on o lt) (g.visible o lt e) k ∙ g.block o lt e (there o lt e k);
  base = λ o lt e k. h.base o (on o lt) (g.visible o lt e) k ∙ g.base o lt e (there o lt e k);
}
  where
    on : (o : ℕ) → o < F.count → o < G.count
    on o lt = let a = g.count in omega (arith, a, lt)

    there : (o : ℕ) → o < F.count → is_hidden (F.stage o) ≡ false → is_shown (H.stage o) ≡ true → is_shown (G.stage o) ≡ true
    there o lt e k = h.shown o (on o lt) (g.visible o lt e) k

module _ (K : Fixed) (F G : Map) (g : Grows F G) where
  pointer-grows : (p : Place) → p.object < F.count → is_hidden (F.stage p.object) ≡ false → is_shown (G.stage p.object) ≡ true → pointer_to K F p ≡ pointer_to K G p
  pointer-grows p lt h k =
      ap (λ b. pointer.At b (F.base p.object + offset K.classes (F.type p.object) p.route)) (sym (g.block p.object lt h k))
      ∙ ap (λ n. pointer.At (G.block p.object) (n + offset K.classes (F.type p.object) p.route)) (sym (g.base p.object lt h k))
      ∙ ap (λ u. pointer.At (G.block p.object) (G.base p.object + offset K.classes u p.route)) (sym (g.type p.object lt))

  pub points-grows : (t : SourceType) (p : Place) (c : Value) → PointsTo K F t p c → PointsTo K G t p c
  points-grows t p c h = record {
    known = let a = g.count in let b = h.known in omega (arith, a, b);
    visible = g.visible p.object h.known h.visible;
    inside = ap (λ u. points K.classes u p.route) (g.type p.object h.known) ∙ h.inside;
    type = subst (λ u. (t ≡ void) ⊎ (without_const (type_at K.classes u p.route) ≡ t)) (sym (g.type p.object h.known)) h.type;
    pointer = h.pointer;
    some = h.some;
    is = h.is;
    there = λ k. h.there (g.shown p.object h.known h.visible k) ∙ pointer-grows p h.known h.visible k;
  }

  pub is-grows : (t : Sort) (v : source.Value) (c : Value) → Is K F t v c → Is K G t v c
  is-grows (number k) (source.Number z) c h = h
  is-grows (address t) source.Null c h = h
  is-grows (address t) (source.At p) c h = points-grows t p c h
  is-grows (code t) source.Null c h = h
  is-grows (code t) (source.Code f) c h = h
  is-grows t v c h = absurd h
