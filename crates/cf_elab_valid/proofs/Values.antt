-- Values by their nodes: what a row makes of the parts that it has.
use Rattle.std.proofs.Common.{◌≡◌, ℕ, ◌<◌, nat_lt, arith, Bool, true, false, not, ◌||◌, length, ℤ, Option, refl, sym, ap, subst, ◌∙◌, true≢false}
use Rattle.std.proofs.lemmas.Bool.Decides.{nat_tests}
use Rattle.cf_types.specs.declared.ty.Ty.{Ty}
use Rattle.cf_core.specs.declared.node.Core.{Core as Node}
use Rattle.cf_core.specs.FromTypes.{type_step}
use Rattle.cf_core.specs.Numbers.{are_known, has_type}
use Rattle.cf_core.specs.Places.{is_reference}
use Rattle.cf_core.specs.Types.{SourceType, is_void}
use Rattle.cf_core_typed.specs.Same.{Same}
use Rattle.cf_core_typed.specs.Meets.{IsPlace, IsValue}
use Rattle.cf_core_typed.proofs.Same.{same-operand}
use Rattle.cf_core_typed.proofs.Values.{value-same}
use Rattle.cf_elab.specs.Env.{Env}
use Rattle.cf_elab.specs.Operand.{Value}
use Rattle.cf_elab_valid.specs.Scene.{Scene, IsScene, tree, typed, Within, Steps, Inside, HoldsKnown, Fits, IsPlain, Meets, is_allowed}
use Rattle.cf_elab_valid.proofs.Making.{IsType}
use Rattle.cf_elab_valid.proofs.Numbers.{holds-same}
use Rattle.cf_elab_valid.proofs.Trees.{tree-at}
use Rattle.cf_elab_valid.proofs.Ways.{begins-get, fits-later, inside-end, within-before, When}

pub plain-later : (s : Scene) (t : SourceType) (a b : Env) (v : Value) → Steps a b → IsPlain s t v a → IsPlain s t v b
plain-later s t a b v g p = record { fits = fits-later s a b v g p.fits; no_place = p.no_place; same = p.same }

pub plain-when : (s : Scene) (t : SourceType) (a b : Env) (v : Value) → Steps a b → When s a (IsPlain s t v a) → When s b (IsPlain s t v b)
plain-when s t a b v g p = λ w. plain-later s t a b v g (p (within-before a b s g w))

-- what a plain value's node is
pub plain-value : (s : Scene) (t : SourceType) (v : Value) (e : Env) → IsPlain s t v e → IsValue (typed s v.node) t
plain-value s t v e p = value-same (typed s v.node) (tree s v.type) t p.same (subst (λ b. Meets b (typed s v.node) (tree s v.type)) p.no_place p.fits.meets)

-- and its number
pub plain-number : (s : Scene) (t : SourceType) (v : Value) (e : Env) → IsPlain s t v e → HoldsKnown v.number t
plain-number s t v e p = holds-same v.number (tree s v.type) t p.same p.fits.number

allowed_same : (t u : SourceType) → Same t u → is_allowed false t ≡ is_allowed false u
allowed_same t u e = same-operand t u e

-- a value that is no place, of a type with this tree
pub value-plain : (s : Scene) (e : Env) (t : SourceType) (at n : ℕ) (x : Node) (z : Option ℤ) (b : Bool) → Inside e n → Same (tree s n) t → are_known s.tables x ≡ true
    → is_allowed false t ≡ true → IsValue (typed s x) t → HoldsKnown z t → IsPlain s t (record { at = at; node = x; type = n; is_lvalue = false; number = z; is_fixed = b }) e
value-plain s e t at n x z b inside same known allowed value number = record {
  fits = record {
    inside = inside;
    numbers = known;
    allowed = allowed_same (tree s n) t same ∙ allowed;
    meets = value-same (typed s x) t (tree s n) (sym same) value;
    number = holds-same z t (tree s n) (sym same) number;
  };
  no_place = refl;
  same = same;
}

-- a place of this type
pub place-fits : (s : Scene) (e : Env) (at n : ℕ) (x : Node) (z : Option ℤ) (b : Bool) → Inside e n → are_known s.tables x ≡ true → is_void (tree s n) ≡ false → is_reference (tree s n) ≡ false → IsPlace (typed s x) (tree s n) → HoldsKnown z (tree s n)
    → Fits s e (record { at = at; node = x; type = n; is_lvalue = true; number = z; is_fixed = b })
place-fits s e at n x z b inside known no_void no_reference place number = record { inside = inside; numbers = known; allowed = ap (λ c. not (c || is_reference (tree s n))) no_void ∙ ap not no_reference; meets = place; number = number }

-- the tree of a type that is there
pub type-tree : (s : Scene) → IsScene s → (e : Env) (v : Ty) (t : ℕ) → Within e s → IsType v t e → tree s t ≡ type_step s.tables (tree s) v
type-tree s scene e v t w is = tree-at s.tables scene.table t v (begins-get e.types.types s.tables.types.types t v w.types is.here)

pub lt-told : (n m : ℕ) → n < m → nat_lt n m ≡ true
lt-told n m h = grind (arith, nat_tests, h)

pub has_type-is : (s : Scene) (e : Env) (t : ℕ) → Within e s → Inside e t → has_type s.tables t ≡ true
has_type-is s e t w i = lt-told t (length s.tables.types.types) (inside-end e s t w i)

pub place-no-void : (b : Bool) (u : SourceType) → b ≡ true → is_allowed b u ≡ true → is_void u ≡ false
place-no-void true u h a = by (is_void u) a
  where
    by : (c : Bool) → not (c || is_reference u) ≡ true → c ≡ false
    by true a = absurd (true≢false (sym a))
    by false a = refl
place-no-void false u h a = absurd (true≢false (sym h))

pub place-no-reference : (b : Bool) (u : SourceType) → b ≡ true → is_allowed b u ≡ true → is_reference u ≡ false
place-no-reference true u h a = by (is_void u) (is_reference u) a
  where
    by : (c d : Bool) → not (c || d) ≡ true → d ≡ false
    by true d a = absurd (true≢false (sym a))
    by false true a = absurd (true≢false (sym a))
    by false false a = refl
place-no-reference false u h a = absurd (true≢false (sym h))
