-- A declarator with parameters of its own makes a function type (8.2.5).
use Rattle.std.proofs.Common.{◌≡◌, ℕ, Bool, true, false, not, ◌&&◌, ◌||◌, if◌then◌else◌, List, Option, Some, None, refl, sym, ap, subst, ◌∙◌, true≢false}
use Rattle.cf_types.specs.declared.ty.Ty.TheVariants as ty
use Rattle.cf_elab.specs.Answer.{Elab, onward, need, each, gives}
use Rattle.cf_elab.specs.Env.{Env}
use Rattle.cf_elab.specs.Made.{intern, intern_fun, pointer_to, reference_to, array_of, const_if, function_type}
use Rattle.cf_elab.specs.Operand.{sort_of, is_array, is_function, is_void, is_reference}
use Rattle.cf_elab.specs.Shape.{Parameter, Shape, inner, pointing, referring, to_member, taking, holding, is_inner, function_of, Position, Shaped, whole, unbounded, fine_bound, count_of, parameter_type, typed}
use Rattle.cf_elab_valid.specs.Answers.{Fine}
use Rattle.cf_elab_valid.specs.Scene.{Scene, IsScene, Inside, Classless, Holds}
use Rattle.cf_elab_valid.proofs.ConstOf.{IsAlike, const_if-fine}
use Rattle.cf_elab_valid.proofs.FitRows.{needed, still-fine}
use Rattle.cf_elab_valid.proofs.Making.{IsType, intern-fine, pointer_to-fine}
use Rattle.cf_elab_valid.proofs.Named.{IsThere}
use Rattle.cf_elab_valid.proofs.Options.{none_some}
use Rattle.cf_elab_valid.proofs.Shapes.{FunThere, intern_fun-fine, there-fine, function_type-fine, IsPlainShape, ShapeThere, shape-later, Any, parameter_types-fine}
use Rattle.cf_elab_valid.proofs.Ways.{fine-as, made-fine, onward-fine, steps-through, within-before, When}
use Rattle.cf_elab_valid_files.proofs.DeclarationsLaws.Functions.{IsFun}

-- a whole type, which is a function's
abbrev pub FunShaped : Shaped → Env → Type 0
FunShaped (whole t) e = IsFun e t
FunShaped (unbounded t) e = ⊥

only-inner : (x : Shape) → is_inner x ≡ true → x ≡ inner
only-inner inner h = refl
only-inner (pointing at b x) h = absurd (true≢false (sym h))
only-inner (referring at x) h = absurd (true≢false (sym h))
only-inner (to_member at k b x) h = absurd (true≢false (sym h))
only-inner (taking at ps b x) h = absurd (true≢false (sym h))
only-inner (holding at b x) h = absurd (true≢false (sym h))

module _ (s : Scene) (scene : IsScene s) where
  pub made-function : (r : ℕ) (ps : List ℕ) (b : Bool) (e : Env) → Classless e → When s e (Holds s e) → Fine s (λ t f. IsFun f t) e (function_type r ps b e)
  made-function r ps b e c h =
      onward-fine s FunThere (λ t f. IsFun f t) e (intern_fun (record { result = r; params = ps; is_const = b }) e) (λ f. intern (ty.Fun f)) (intern_fun-fine s (record { result = r; params = ps; is_const = b }) e c h)
      (λ f e1 g c1 h1 there. fine-as s (IsType (ty.Fun f)) (λ t f. IsFun f t) e1 (intern (ty.Fun f) e1) (λ t k is. record { fun = f; here = is.here }) (intern-fine s (ty.Fun f) e1 refl there c1 h1))

  pub function-shaped : (position : Position) (x : Shape) (ps : List Parameter) (t : ℕ) (e : Env) → function_of x ≡ Some ps → IsPlainShape x → Classless e → When s e (Holds s e) → When s e (ShapeThere x e) → When s e (Inside e t) → Fine s FunShaped e (typed position x t e)
  function-shaped position inner ps t e is plain c h f i = absurd (none_some ps is)
  function-shaped position (pointing at b x) ps t e is plain c h f i =
      still-fine s FunShaped e (need (not (is_reference (sort_of e.types t))) 26 at e) _ (needed e (not (is_reference (sort_of e.types t))) 26 at)
      (onward-fine s IsThere FunShaped e (pointer_to t e) _ (there-fine s (ty.Ptr t) e (pointer_to-fine s t e c h))
      (λ p e1 g1 c1 h1 ip. onward-fine s IsThere FunShaped e1 (const_if b p e1) (λ q. typed position x q) (fine-as s (IsAlike s p) IsThere e1 (const_if b p e1) (λ u k q. q.inside) (const_if-fine s scene b p e1 c1 h1 ip))
      (λ q e2 g2 c2 h2 iq. function-shaped position x ps q e2 is plain c2 h2 (λ w. shape-later e e2 x (steps-through e e1 e2 g1 g2) (f (within-before e e2 s (steps-through e e1 e2 g1 g2) w))) iq)))
  function-shaped position (referring at x) ps t e is plain c h f i =
      still-fine s FunShaped e (need (not (is_reference (sort_of e.types t) || is_void (sort_of e.types t))) 26 at e) _ (needed e (not (is_reference (sort_of e.types t) || is_void (sort_of e.types t))) 26 at)
      (onward-fine s IsThere FunShaped e (reference_to t e) (λ r. typed position x r) (there-fine s (ty.Ref t) e (intern-fine s (ty.Ref t) e refl (λ w. tt) c h))
      (λ r e1 g1 c1 h1 ir. function-shaped position x ps r e1 is plain c1 h1 (λ w. shape-later e e1 x g1 (f (within-before e e1 s g1 w))) ir))
  function-shaped position (to_member at k b x) ps t e is plain c h f i = absurd plain
  function-shaped position (taking at qs b x) ps t e is plain c h f i =
      still-fine s FunShaped e (need (not (is_array (sort_of e.types t) || is_function (sort_of e.types t))) 26 at e) _ (needed e (not (is_array (sort_of e.types t) || is_function (sort_of e.types t))) 26 at)
      (still-fine s FunShaped e (need (not b || (is_inner x && position.const_function)) 26 at e) _ (needed e (not b || (is_inner x && position.const_function)) 26 at)
      (onward-fine s (Any s scene) FunShaped e (each (λ (p : Parameter). parameter_type p.type) qs e) _ (parameter_types-fine s scene qs e c h (λ w. (f w).0))
      (λ us e1 g1 c1 h1 a. by (λ u e2 q c2 h2 f2 i2. function-shaped position x ps u e2 q plain.1 c2 h2 f2 i2) (is_inner x) refl is us e1 c1 h1 (λ w. shape-later e e1 x g1 (f (within-before e e1 s g1 w)).1))))
    where
      by : ((u : ℕ) (e2 : Env) → function_of x ≡ Some ps → Classless e2 → When s e2 (Holds s e2) → When s e2 (ShapeThere x e2) → When s e2 (Inside e2 u) → Fine s FunShaped e2 (typed position x u e2)) → (k : Bool) → is_inner x ≡ k → (if k then Some qs else function_of x) ≡ Some ps → (us : List ℕ) (e1 : Env) → Classless e1 → When s e1 (Holds s e1) → When s e1 (ShapeThere x e1) → Fine s FunShaped e1 (onward (function_type t us b e1) (λ u. typed position x u))
      by rest true own q us e1 c1 h1 there =
          subst (λ y. Fine s FunShaped e1 (onward (function_type t us b e1) (λ u. typed position y u))) (sym (only-inner x own))
          (onward-fine s (λ u f. IsFun f u) FunShaped e1 (function_type t us b e1) (λ u. typed position inner u) (made-function t us b e1 c1 h1) (λ u e2 g2 c2 h2 iu. made-fine s FunShaped e2 (whole u) c2 h2 iu))
      by rest false own q us e1 c1 h1 there =
          onward-fine s IsThere FunShaped e1 (function_type t us b e1) (λ u. typed position x u) (function_type-fine s t us b e1 c1 h1)
          (λ u e2 g2 c2 h2 iu. rest u e2 q c2 h2 (λ w. shape-later e1 e2 x g2 (there (within-before e1 e2 s g2 w))) iu)
  function-shaped position (holding at (Some b) x) ps t e is plain c h f i =
      still-fine s FunShaped e (need (not (is_reference (sort_of e.types t) || is_void (sort_of e.types t) || is_function (sort_of e.types t))) 26 at e) _
      (needed e (not (is_reference (sort_of e.types t) || is_void (sort_of e.types t) || is_function (sort_of e.types t))) 26 at)
      (still-fine s FunShaped e (need (fine_bound b.number) 26 at e) _ (needed e (fine_bound b.number) 26 at)
      (onward-fine s IsThere FunShaped e (array_of t (count_of b.number) e) (λ u. typed position x u) (there-fine s (ty.Array t (count_of b.number)) e (intern-fine s (ty.Array t (count_of b.number)) e refl (λ w. tt) c h))
      (λ u e1 g1 c1 h1 iu. function-shaped position x ps u e1 is plain c1 h1 (λ w. shape-later e e1 x g1 (f (within-before e e1 s g1 w))) iu)))
  function-shaped position (holding at None x) ps t e is plain c h f i =
      still-fine s FunShaped e (need (not (is_reference (sort_of e.types t) || is_void (sort_of e.types t) || is_function (sort_of e.types t))) 26 at e) _
      (needed e (not (is_reference (sort_of e.types t) || is_void (sort_of e.types t) || is_function (sort_of e.types t))) 26 at) (by x is)
    where
      by : (x : Shape) → function_of x ≡ Some ps → Fine s FunShaped e (onward (need (is_inner x && position.unbounded) 26 at e) (λ _. gives (unbounded t)))
      by inner q = absurd (none_some ps q)
      by (pointing p k y) q = tt
      by (referring p y) q = tt
      by (to_member p k m y) q = tt
      by (taking p rs k y) q = tt
      by (holding p k y) q = tt
