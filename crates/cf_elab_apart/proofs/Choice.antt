-- Conditional expressions (5.16).
use Rattle.std.proofs.Common.{◌≡◌, ℕ, ◌==◌, Bool, true, false, ◌&&◌, if◌then◌else◌, List, ℤ, Option, Some, None, is_some, refl, sym, ap, subst, ◌∙◌, true≢false}
use Rattle.cf_base.specs.declared.kind.Kind.{Kind}
use Rattle.cf_base.specs.Promotion.{usual}
use Rattle.cf_types.specs.declared.ty.Ty.TheVariants as ty
use Rattle.cf_convert.specs.Converts.{steps}
use Rattle.cf_convert.specs.declared.conv.ConvStep.{ConvStep}
use Rattle.cf_core.specs.Types.{SourceType, integer}
use Rattle.cf_elab.specs.Answer.{Made, Elab, onward, need}
use Rattle.cf_elab.specs.Cast.{takes_null}
use Rattle.cf_elab.specs.Choice as row
use Rattle.cf_elab.specs.ClassOperand as class_operand
use Rattle.cf_elab.specs.Env.{Env}
use Rattle.cf_elab.specs.Fit.{to_kind, converted, truth}
use Rattle.cf_elab.specs.Made.{of_kind}
use Rattle.cf_elab.specs.Members.{class_number}
use Rattle.cf_elab.specs.Operand.{Value, Sort, void_sort, sort_of, arithmetic, val, defs, plain}
use Rattle.cf_elab_valid.specs.Answers.{Fine}
use Rattle.cf_elab_valid.specs.Scene.{Scene, IsScene, tree, Steps, Classless, Holds, Fits}
use Rattle.cf_elab_valid.proofs.FitRows.{needed}
use Rattle.cf_elab_valid.proofs.Arithmetic.{tested-when}
use Rattle.cf_elab_valid.proofs.Making.{IsType, of_kind-fine}
use Rattle.cf_elab_valid.proofs.Plain.{decayed_tree}
use Rattle.cf_elab_valid.proofs.Unary.{classless-number, no-reference-type}
use Rattle.cf_elab_valid.proofs.Ways.{steps-through, within-before, When}
use Rattle.cf_elab_apart.specs.Apart.{Apart}
use Rattle.cf_elab_apart.proofs.Alike.{alike-Conditional}
use Rattle.cf_elab_apart.proofs.Answers.{Tells, tells-behind, tells-still}
use Rattle.cf_elab_apart.proofs.Fit.{Both, both-when, PlainBoth, plain-both, converted-both}
use Rattle.cf_elab_apart.proofs.Operators.{TestedBoth, to_kind-both, truth-both}
use Rattle.cf_elab_apart.proofs.Settled.{place-apart, number-apart}

-- one of three numbers is known where all are
record AllKnown (c a b : Option ℤ) : Type 0 where
  pub condition : is_some c ≡ true
  pub first : is_some a ≡ true
  pub second : is_some b ≡ true

all-known : (c a b : Option ℤ) → is_some (row.chosen c a b) ≡ true → AllKnown c a b
all-known (Some c) (Some a) (Some b) h = record { condition = refl; first = refl; second = refl }
all-known None a b h = absurd (true≢false (sym h))
all-known (Some c) None b h = absurd (true≢false (sym h))
all-known (Some c) (Some a) None h = absurd (true≢false (sym h))

module _ (s : Scene) (scene : IsScene s) where
  -- a plain value that is apart, of whatever type
  pub record Rests (v : Value) (e : Env) : Type 0 where
    pub fits : Fits s e v
    pub no_place : v.is_lvalue ≡ false
    pub apart : Apart s v

  one_of-apart : (at : ℕ) (c a b : Value) (t : ℕ) → (c.is_lvalue ≡ false) × Apart s c → (a.is_lvalue ≡ false) × Apart s a → (b.is_lvalue ≡ false) × Apart s b → Apart s (row.one_of at c a b t)
  one_of-apart at c a b t pc pa pb =
      number-apart s (row.one_of at c a b t) refl
      (λ z. let k = all-known c.number a.number b.number z in alike-Conditional s at c.node a.node b.node (pc.1.number pc.0 k.condition) (pa.1.number pa.0 k.first) (pb.1.number pb.0 k.second))

  tested : (c : Value) (e : Env) → TestedBoth s scene c e → (c.is_lvalue ≡ false) × Apart s c
  tested c e p = (p.0.plain.no_place, p.1)

  module _ (at : ℕ) (c x y : Value) (e : Env) (cl : Classless e) (h : When s e (Holds s e)) (pc : When s e (TestedBoth s scene c e)) (px : When s e (Rests x e)) (py : When s e (Rests y e)) where
    bx : When s e (Both s x e)
    bx w = ((px w).fits, (px w).apart)

    by : When s e (Both s y e)
    by w = ((py w).fits, (py w).apart)

    arithmetic-tells : (k l : Kind) → Tells s (Apart s) (row.both_arithmetic at c x y k l e)
    arithmetic-tells k l =
        tells-behind s (PlainBoth s (integer (usual k l))) (Apart s) e (to_kind (usual k l) x e) _ (to_kind-both s scene (usual k l) x e cl h bx)
        (λ a e1 g1 c1 h1 pa. tells-behind s (PlainBoth s (integer (usual k l))) (Apart s) e1 (to_kind (usual k l) y e1) _ (to_kind-both s scene (usual k l) y e1 c1 h1 (both-when s e e1 y g1 by))
        (λ b e2 g2 c2 h2 pb. tells-behind s (IsType (ty.Int (usual k l))) (Apart s) e2 (of_kind (usual k l) e2) (λ t f. Made (row.one_of at c a b t) f) (of_kind-fine s (usual k l) e2 c2 h2)
        (λ t e3 g3 c3 h3 is w. let w2 = within-before e2 e3 s g3 w in
        let w1 = within-before e1 e2 s g2 w2 in
        one_of-apart at c a b t (tested c e (pc (within-before e e1 s g1 w1))) ((pa w1).0.no_place, (pa w1).1) ((pb w2).0.no_place, (pb w2).1))))

    one_type-tells : (a b : Option (List ConvStep)) → steps e.types (defs e) (val x) y.type ≡ a → steps e.types (defs e) (val y) x.type ≡ b → Tells s (Apart s) (row.one_type at c x y a b e)
    one_type-tells (Some ss) b is js =
        tells-behind s (PlainBoth s (tree s y.type)) (Apart s) e (converted at y.type ss x e) _
        (converted-both s scene e x cl h bx at y.type (λ w. (py w).fits.inside) (λ u r w. no-reference-type s scene e w y (py w).fits u r) ss is)
        (λ a e1 g d held p w. let early = within-before e e1 s g w in
        one_of-apart at c a y y.type (tested c e (pc early)) ((p w).0.no_place, (p w).1) ((py early).no_place, (py early).apart))
    one_type-tells None (Some ss) is js =
        tells-behind s (PlainBoth s (tree s x.type)) (Apart s) e (converted at x.type ss y e) _
        (converted-both s scene e y cl h by at x.type (λ w. (px w).fits.inside) (λ u r w. no-reference-type s scene e w x (px w).fits u r) ss js)
        (λ b e1 g d held p w. let early = within-before e e1 s g w in
        one_of-apart at c x b x.type (tested c e (pc early)) ((px early).no_place, (px early).apart) ((p w).0.no_place, (p w).1))
    one_type-tells None None is js = tt

    alternatives-tells : (k l : Sort) (a b : Option Kind) → Tells s (Apart s) (row.alternatives at c x y k l a b e)
    alternatives-tells k l a b = go k l a b
      where
        asked : (m : Bool) → Tells s (Apart s) (onward (need m 18 at e) (λ _ f. row.one_type at c x y (steps e.types (defs e) (val x) y.type) (steps e.types (defs e) (val y) x.type) f))
        asked m = tells-still s (Apart s) e (need m 18 at e) _ (needed e m 18 at) (one_type-tells (steps e.types (defs e) (val x) y.type) (steps e.types (defs e) (val y) x.type) refl refl)

        other : (k l : Sort) → Tells s (Apart s) (onward (need (elim (takes_null k) [ true ↦ true | false ↦ takes_null l ]) 18 at e) (λ _ f. row.one_type at c x y (steps e.types (defs e) (val x) y.type) (steps e.types (defs e) (val y) x.type) f))
        other k l = asked (elim (takes_null k) [ true ↦ true | false ↦ takes_null l ])

        go : (k l : Sort) (a b : Option Kind) → Tells s (Apart s) (row.alternatives at c x y k l a b e)
        go k l (Some m) (Some n) = arithmetic-tells m n
        go k l (Some m) None = other k l
        go void_sort void_sort None None = λ w. one_of-apart at c x y x.type (tested c e (pc w)) ((px w).no_place, (px w).apart) ((py w).no_place, (py w).apart)
        go void_sort void_sort None (Some n) = other void_sort void_sort
        go k l None None = other k l
        go k l None (Some n) = other k l

  -- ---- the row

  rests-when : (a b : Env) (t : SourceType) (v : Value) → Steps a b → When s a (PlainBoth s t v a) → When s b (Rests v b)
  rests-when a b t v g p w =
      let early = p (within-before a b s g w) in
      let later = both-when s a b v g (λ q. ((p q).0.fits, (p q).1)) w in record { fits = later.0; no_place = early.0.no_place; apart = later.1 }

  class_truth-both : (rule at : ℕ) (v : Value) (e : Env) → Classless e → When s e (Holds s e) → When s e (Both s v e) → Fine s (TestedBoth s scene) e (class_operand.truth rule at v e)
  class_truth-both rule at v e c h b =
      subst (λ o. Fine s (TestedBoth s scene) e (onward (class_operand.scalar_of_class rule at v o e) (truth rule at))) (sym (classless-number e c v.type)) (truth-both s scene rule at v e c h b)

  same_none : (a b : Option ℕ) → a ≡ None → row.same_class a b ≡ None
  same_none a b h = ap (λ o. row.same_class o b) h

  pub conditional-tells : (at : ℕ) (condition x y : Value) (e : Env) → Classless e → When s e (Holds s e) → When s e (Both s condition e) → When s e (Both s x e) → When s e (Both s y e) → Tells s (Apart s) (row.conditional at condition x y e)
  conditional-tells at condition x y e cl h bc bx by =
      tells-behind s (TestedBoth s scene) (Apart s) e (class_operand.truth 13 at condition e) _ (class_truth-both 13 at condition e cl h bc)
      (λ c e1 g1 c1 h1 pc. rw (same_none (class_number (sort_of e1.types x.type)) (class_number (sort_of e1.types y.type)) (classless-number e1 c1 x.type))
      (go c e1 c1 h1 pc (both-when s e e1 x g1 bx) (both-when s e e1 y g1 by) (x.is_lvalue && y.is_lvalue && (x.type == y.type))))
    where
      go : (c : Value) (e1 : Env) → Classless e1 → When s e1 (Holds s e1) → When s e1 (TestedBoth s scene c e1) → When s e1 (Both s x e1) → When s e1 (Both s y e1) → (m : Bool)
          → (let run : Elab Value = if m then (λ f. Made (row.one_place at c x y) f)
          else (λ f. onward (plain x f) (λ a k. onward (plain y k) (λ b n. row.alternatives at c a b (sort_of n.types a.type) (sort_of n.types b.type) (arithmetic (sort_of n.types a.type)) (arithmetic (sort_of n.types b.type)) n))) in Tells s (Apart s) (run e1))
      go c e1 c1 h1 pc bx by true = λ w. place-apart s (row.one_place at c x y) refl refl
      go c e1 c1 h1 pc bx by false =
          tells-behind s (PlainBoth s (decayed_tree s x.type (sort_of e1.types x.type))) (Apart s) e1 (plain x e1) _ (plain-both s scene e1 x c1 h1 bx)
          (λ a e2 g2 c2 h2 pa. tells-behind s (PlainBoth s (decayed_tree s y.type (sort_of e2.types y.type))) (Apart s) e2 (plain y e2) _ (plain-both s scene e2 y c2 h2 (both-when s e1 e2 y g2 by))
          (λ b e3 g3 c3 h3 pb. alternatives-tells at c a b e3 c3 h3 (later c e1 e3 (steps-through e1 e2 e3 g2 g3) pc)
          (rests-when e2 e3 (decayed_tree s x.type (sort_of e1.types x.type)) a g3 pa) (λ w. record { fits = (pb w).0.fits; no_place = (pb w).0.no_place; apart = (pb w).1 })
          (sort_of e3.types a.type) (sort_of e3.types b.type) (arithmetic (sort_of e3.types a.type)) (arithmetic (sort_of e3.types b.type))))
        where
          later : (c : Value) (a b : Env) → Steps a b → When s a (TestedBoth s scene c a) → When s b (TestedBoth s scene c b)
          later c a b g p w = let early = p (within-before a b s g w) in (tested-when s a b c g (λ q. (p q).0) w, early.1)
