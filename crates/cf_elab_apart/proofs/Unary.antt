-- Unary operators and subscripts (5.2.1, 5.3).
use Rattle.std.proofs.Common.{◌≡◌, ℕ, Bool, true, false, ◌&&◌, pos, [], ◌∷◌, Option, Some, None, is_some, refl, sym, subst, ◌∙◌}
use Rattle.cf_base.specs.declared.kind.Kind.{Kind}
use Rattle.cf_base.specs.declared.kind.Kind.TheVariants as kind
use Rattle.cf_types.specs.declared.ty.Ty.TheVariants as ty
use Rattle.cf_syntax.specs.declared.operator.PrefixOp.{PrefixOp}
use Rattle.cf_syntax.specs.declared.operator.PrefixOp.TheVariants as prefix
use Rattle.cf_syntax.specs.declared.operator.StepOp.{StepOp}
use Rattle.cf_core.specs.declared.node.Core.TheVariants as node
use Rattle.cf_core.specs.Types.{SourceType, integer}
use Rattle.cf_core_typed.proofs.Same.{and-left, and-right}
use Rattle.cf_elab.specs.Answer.{Answer, Made, Refused, Passed, Elab, onward, need}
use Rattle.cf_elab.specs.Arithmetic.{negated, complemented, negation}
use Rattle.cf_elab.specs.ClassOperand.{scalar, by_operator}
use Rattle.cf_elab.specs.ClassOperators as operators
use Rattle.cf_elab.specs.ClassOperators.{prefix_number, step_number}
use Rattle.cf_elab.specs.Complete.{complete}
use Rattle.cf_elab.specs.Env.{Env}
use Rattle.cf_elab.specs.Fit.{to_kind}
use Rattle.cf_elab.specs.Made.{pointer_to, int}
use Rattle.cf_elab.specs.Operand.{Value, Sort, object_pointer, void_pointer, function_pointer, sort_of, arithmetic, computed, constant, place_of, plain}
use Rattle.cf_elab.specs.Unary as row
use Rattle.cf_elab_valid.specs.Answers.{Fine}
use Rattle.cf_elab_valid.specs.Scene.{Scene, IsScene, Steps, Classless, Holds}
use Rattle.cf_elab_valid.proofs.FitRows.{needed}
use Rattle.cf_elab_valid.proofs.Making.{IsType, of_kind-fine, pointer_to-fine}
use Rattle.cf_elab_valid.proofs.Operands.{no-function, scalar-is}
use Rattle.cf_elab_valid.proofs.Plain.{decayed_tree}
use Rattle.cf_elab_valid.proofs.Ways.{within-before, When}
use Rattle.cf_elab_apart.specs.Apart.{Alike, Apart}
use Rattle.cf_elab_apart.proofs.Alike.{alike-Address, alike-Dereference, alike-Index}
use Rattle.cf_elab_apart.proofs.Answers.{Tells, tells-fine, tells-behind, tells-still}
use Rattle.cf_elab_apart.proofs.Bare.{step-bare, bare-tells}
use Rattle.cf_elab_apart.proofs.Fit.{Both, placed-both, both-when, PlainBoth, plain-both}
use Rattle.cf_elab_apart.proofs.Operators.{Aparts, to_kind-both, negated-apart, complemented-apart, negation-apart}
use Rattle.cf_elab_apart.proofs.Settled.{fixed-apart}

-- a plain value as an operand that is apart
pub plain-operand : (s : Scene) (a b : Env) (t : SourceType) (v : Value) → Steps a b → When s a (PlainBoth s t v a) → When s b (Both s v b)
plain-operand s a b t v g p = both-when s a b v g (λ w. ((p w).0.fits, (p w).1))

module _ (s : Scene) (scene : IsScene s) where
  -- what is made of a value that is read first
  on_plain-tells : (v : Value) (go : Value → Sort → Elab Value) (e : Env) → Classless e → When s e (Holds s e) → When s e (Both s v e)
      → ((x : Value) (e1 : Env) → Classless e1 → When s e1 (Holds s e1) → When s e1 (Both s x e1) → Tells s (Apart s) (go x (sort_of e1.types x.type) e1)) → Tells s (Apart s) (row.on_plain v go e)
  on_plain-tells v go e c h b next =
      tells-behind s (PlainBoth s (decayed_tree s v.type (sort_of e.types v.type))) (Apart s) e (plain v e) _ (plain-both s scene e v c h b)
      (λ x e1 g d held p. next x e1 d held (λ w. ((p w).0.fits, (p w).1)))

  dereferenced-tells : (at : ℕ) (x : Value) (e : Env) → When s e (Both s x e) → (k : Sort) → Tells s (Apart s) (row.dereferenced at x k e)
  dereferenced-tells at x e b (object_pointer t) = λ w. fixed-apart s (place_of at (node.Dereference at x.node) t x.is_fixed) refl (λ q. alike-Dereference s at x.node ((b w).1.fixed q))
  dereferenced-tells at x e b (function_pointer t) = λ w. fixed-apart s (place_of at (node.Dereference at x.node) t x.is_fixed) refl (λ q. alike-Dereference s at x.node ((b w).1.fixed q))
  dereferenced-tells at x e b k = tt

  address_of-tells : (at : ℕ) (v : Value) (e : Env) → Classless e → When s e (Holds s e) → When s e (Both s v e) → Tells s (Apart s) (row.address_of at v e)
  address_of-tells at v e c h b =
      tells-still s (Apart s) e (need v.is_lvalue 12 at e) (λ f. onward (pointer_to v.type f) (λ t g. Made (value_of t) g)) (needed e v.is_lvalue 12 at)
      (tells-behind s (IsType (ty.Ptr v.type)) (Apart s) e (pointer_to v.type e) (λ t g. Made (value_of t) g) (pointer_to-fine s v.type e c h)
      (λ t e1 g d held is w. fixed-apart s (value_of t) refl (λ q. alike-Address s at v.node ((b (within-before e e1 s g w)).1.fixed q))))
    where
      value_of : ℕ → Value
      value_of t = record (computed at (node.Address at v.node) t) { is_fixed = v.is_fixed }

  promoted-tells : (at : ℕ) (x : Value) (e : Env) → Classless e → When s e (Holds s e) → When s e (Both s x e) → (k : Sort) (o : Option Kind) → Tells s (Apart s) (row.promoted_or_pointer at x k o e)
  promoted-tells at x e c h b k (Some l) = by (to_kind l x e) (to_kind-both s scene l x e c h b)
    where
      by : (r : Answer Value) → Fine s (PlainBoth s (integer l)) e r → Tells s (Apart s) r
      by (Made y f) g = λ w. (g.made w).1
      by (Refused rule place) g = tt
      by (Passed bound most) g = tt
  promoted-tells at x e c h b (object_pointer t) None = λ w. (b w).1
  promoted-tells at x e c h b void_pointer None = λ w. (b w).1
  promoted-tells at x e c h b (function_pointer t) None = λ w. (b w).1
  promoted-tells at x e c h b k None = tt

  of_integer-tells : (at : ℕ) (make : ℕ → Kind → Value → Elab Value) (x : Value) (e : Env) (o : Option Kind) → ((k : Kind) → Fine s (Aparts s scene) e (make at k x e)) → Tells s (Apart s) (row.of_integer at make x o e)
  of_integer-tells at make x e None f = tt
  of_integer-tells at make x e (Some k) f = tells-fine s (Apart s) e (make at k x e) (f k)

  prefixed-tells : (at : ℕ) (o : PrefixOp) (v : Value) (e : Env) → Classless e → When s e (Holds s e) → When s e (Both s v e) → Tells s (Apart s) (row.prefixed at o v e)
  prefixed-tells at prefix.Dereference v e c h b = on_plain-tells v (row.dereferenced at) e c h b (λ x e1 d held p. dereferenced-tells at x e1 p (sort_of e1.types x.type))
  prefixed-tells at prefix.AddressOf v e c h b = address_of-tells at v e c h b
  prefixed-tells at prefix.Plus v e c h b =
      on_plain-tells v (λ x k. row.promoted_or_pointer at (record x { at = at }) k (arithmetic k)) e c h b
      (λ x e1 d held p. promoted-tells at (record x { at = at }) e1 d held (λ w. placed-both s x at e1 (p w)) (sort_of e1.types x.type) (arithmetic (sort_of e1.types x.type)))
  prefixed-tells at prefix.Minus v e c h b =
      on_plain-tells v (λ x k. row.of_integer at negated x (arithmetic k)) e c h b (λ x e1 d held p. of_integer-tells at negated x e1 (arithmetic (sort_of e1.types x.type)) (λ k. negated-apart s scene at k x e1 d held p))
  prefixed-tells at prefix.Complement v e c h b =
      on_plain-tells v (λ x k. row.of_integer at complemented x (arithmetic k)) e c h b
      (λ x e1 d held p. of_integer-tells at complemented x e1 (arithmetic (sort_of e1.types x.type)) (λ k. complemented-apart s scene at k x e1 d held p))
  prefixed-tells at prefix.Not v e c h b = tells-fine s (Apart s) e (negation at v e) (negation-apart s scene at v e c h b)

  pub by-scalar : (rule at : ℕ) (v : Value) (go : Value → Elab Value) (e : Env) → Classless e → Tells s (Apart s) (go v e) → Tells s (Apart s) (onward (scalar rule at v e) go)
  by-scalar rule at v go e c f = subst (λ r. Tells s (Apart s) (onward r go)) (sym (scalar-is rule at v e c)) f

  pub prefix_operator-tells : (at : ℕ) (o : PrefixOp) (v : Value) (e : Env) → Classless e → When s e (Holds s e) → When s e (Both s v e) → Tells s (Apart s) (operators.prefix_operator at o v e)
  prefix_operator-tells at o v e c h b = subst (Tells s (Apart s)) (sym (no-function at (prefix_number o) v [] true (operators.prefix_of_scalar at o v) e c)) (by o)
    where
      by : (o : PrefixOp) → Tells s (Apart s) (operators.prefix_of_scalar at o v e)
      by prefix.AddressOf = prefixed-tells at prefix.AddressOf v e c h b
      by prefix.Dereference = by-scalar 18 at v (row.prefixed at prefix.Dereference) e c (prefixed-tells at prefix.Dereference v e c h b)
      by prefix.Plus = by-scalar 18 at v (row.prefixed at prefix.Plus) e c (prefixed-tells at prefix.Plus v e c h b)
      by prefix.Minus = by-scalar 18 at v (row.prefixed at prefix.Minus) e c (prefixed-tells at prefix.Minus v e c h b)
      by prefix.Complement = by-scalar 18 at v (row.prefixed at prefix.Complement) e c (prefixed-tells at prefix.Complement v e c h b)
      by prefix.Not = by-scalar 18 at v (row.prefixed at prefix.Not) e c (prefixed-tells at prefix.Not v e c h b)

  pub step_operator-tells : (at : ℕ) (o : StepOp) (postfix : Bool) (v : Value) (e : Env) → Classless e → When s e (Holds s e) → Tells s (Apart s) (operators.step_operator at o postfix v e)
  step_operator-tells at o false v e c h = bare-tells s _ (step-bare at o false v [] e c)
  step_operator-tells at o true v e c h =
      tells-behind s (IsType (ty.Int kind.Int)) (Apart s) e (int e) (λ t g. by_operator at (step_number o) v (constant at (pos 0) t ∷ []) true (row.increment at o true v) g) (of_kind-fine s kind.Int e c h) (λ t e1 g c1 h1 is. bare-tells s _ (step-bare at o true v (constant at (pos 0) t ∷ []) e1 c1))

  -- ---- subscripts

  element_of-tells : (at t : ℕ) (b : Bool) (x y : Value) (e : Env) → When s e (b ≡ true → Alike s (node.Index at x.node y.node)) → Tells s (Apart s) (row.element_of at t b x y e)
  element_of-tells at t b x y e a =
      tells-still s (Apart s) e (need (complete e t) 30 at e) (λ f. Made (place_of at (node.Index at x.node y.node) t b) f) (needed e (complete e t) 30 at)
      (λ w. fixed-apart s (place_of at (node.Index at x.node y.node) t b) refl (λ q. a w q))

  indexed-tells : (at : ℕ) (x y : Value) (e : Env) → Classless e → When s e (Holds s e) → When s e (Both s x e) → When s e (Both s y e) → (k l : Sort) (a b : Option Kind) → Tells s (Apart s) (row.indexed at x y k l a b e)
  indexed-tells at x y e c h bx by (object_pointer t) l None (Some k) =
      tells-behind s (PlainBoth s (integer k)) (Apart s) e (to_kind k y e) _ (to_kind-both s scene k y e c h by)
      (λ i e1 g d held p. element_of-tells at t (x.is_fixed && is_some i.number) x i e1
      (λ w q. alike-Index s at x.node i.node ((bx (within-before e e1 s g w)).1.fixed (and-left x.is_fixed (is_some i.number) q)) ((p w).1.number (p w).0.no_place (and-right x.is_fixed (is_some i.number) q))))
  indexed-tells at x y e c h bx by k (object_pointer t) (Some l) None =
      tells-behind s (PlainBoth s (integer l)) (Apart s) e (to_kind l x e) _ (to_kind-both s scene l x e c h bx)
      (λ i e1 g d held p. element_of-tells at t (y.is_fixed && is_some i.number) i y e1
      (λ w q. alike-Index s at i.node y.node ((p w).1.number (p w).0.no_place (and-right y.is_fixed (is_some i.number) q)) ((by (within-before e e1 s g w)).1.fixed (and-left y.is_fixed (is_some i.number) q))))
  indexed-tells at x y e c h bx by k l a b = tt

  subscript-tells : (at : ℕ) (x y : Value) (e : Env) → Classless e → When s e (Holds s e) → When s e (Both s x e) → When s e (Both s y e) → Tells s (Apart s) (row.subscript at x y e)
  subscript-tells at x y e c h bx by =
      tells-behind s (PlainBoth s (decayed_tree s x.type (sort_of e.types x.type))) (Apart s) e (plain x e) _ (plain-both s scene e x c h bx)
      (λ a e1 g1 c1 h1 p. tells-behind s (PlainBoth s (decayed_tree s y.type (sort_of e1.types y.type))) (Apart s) e1 (plain y e1) _ (plain-both s scene e1 y c1 h1 (both-when s e e1 y g1 by))
      (λ b e2 g2 c2 h2 q. indexed-tells at a b e2 c2 h2 (plain-operand s e1 e2 (decayed_tree s x.type (sort_of e.types x.type)) a g2 p) (λ w. ((q w).0.fits, (q w).1))
      (sort_of e2.types a.type) (sort_of e2.types b.type) (arithmetic (sort_of e2.types a.type)) (arithmetic (sort_of e2.types b.type))))

  pub index_operator-tells : (at : ℕ) (x y : Value) (e : Env) → Classless e → When s e (Holds s e) → When s e (Both s x e) → When s e (Both s y e) → Tells s (Apart s) (operators.index_operator at x y e)
  index_operator-tells at x y e c h bx by =
      subst (Tells s (Apart s)) (sym (no-function at 26 x (y ∷ []) false (operators.index_scalars at x y) e c))
      (by-scalar 18 at x (λ a k. onward (scalar 18 at y k) (λ b. row.subscript at a b)) e c (by-scalar 18 at y (λ b. row.subscript at x b) e c (subscript-tells at x y e c h bx by)))
