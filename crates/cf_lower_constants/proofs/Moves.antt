-- Known places that move.
use Rattle.std.proofs.Common.{◌≡◌, ℕ, suc, ◌+◌, ◌-◌, ◌*◌, arith, List, Option, Some, None, refl, sym, ap, ◌∙◌}
use Rattle.std.proofs.Math.Nat.{mul-one}
use Rattle.std.proofs.lemmas.Int.{ints}
use Rattle.std.specs.Prelude.{ℤ, pos, negsuc, neg_ℤ, ◌≤ℤ◌, ◌<ℤ◌, unsigned_abs}
use Rattle.cf_base.specs.declared.kind.Kind.TheVariants.{Char}
use Rattle.cf_core.specs.Types.{Name, SourceType, void, integer, enumeration, class, pointer, reference, array, takes, gives, data_member, function_member, const, plain, without_const, element}
use Rattle.cf_core.specs.Classes.{Class}
use Rattle.cf_core.specs.FromTypes.{Tables, type_of}
use Rattle.cf_core.specs.Size.{size}
use Rattle.cf_core.specs.declared.operators.PointerOperator.TheVariants as pointer
use Rattle.cf_lower.specs.Constants.{Known, unknown, at, decayed, further, moved, sum, pointer_known}
use Rattle.cf_lower_types.proofs.SizeLaws.{size_by_bare}
use Rattle.cf_lower_types.specs.declared.place.PlaceType.{PlaceType}
use Rattle.cf_lower_types.specs.Bare.{bare, classes_of, type_in}
use Rattle.cf_lower_constants.specs.declared.known.Target.{Target}
use Rattle.cf_lower_constants.specs.declared.known.Fact.{Fact}
use Rattle.cf_lower_constants.specs.declared.known.Fact.TheVariants as fact
use Rattle.cf_lower_constants.specs.declared.known.Known.{Known as CodeKnown}
use Rattle.cf_lower_constants.specs.Knowing.{target_in, fact_in, known_in, fact_number, reached}

-- ---- types without const

plain_bare : (t : SourceType) → plain (without_const t) ≡ without_const t
plain_bare void = refl
plain_bare (integer k) = refl
plain_bare (enumeration e) = refl
plain_bare (class c) = refl
plain_bare (pointer t) = refl
plain_bare (reference t) = refl
plain_bare (array t n) = refl
plain_bare (takes p t) = refl
plain_bare (gives t c) = refl
plain_bare (data_member c t) = refl
plain_bare (function_member c t) = refl
plain_bare (const t) = plain_bare t

-- the elements of one of the unit's types, without const
pub bare_item : (tables : Tables) (t : ℕ) (k : Target) (p : PlaceType) → target_in tables k ≡ type_in tables p → type_in tables p ≡ element (bare tables t)
    → target_in tables k ≡ element (plain (bare tables t))
bare_item tables t k p is item = is ∙ item ∙ sym (ap element (plain_bare (type_of tables t)))

-- ---- the bytes of an element

pub size_of_bare : (tables : Tables) (t n : ℕ) → n ≡ size (classes_of tables) (type_of tables t) → n ≡ size (classes_of tables) (bare tables t)
size_of_bare tables t n is = is ∙ sym (size_by_bare (classes_of tables) (type_of tables t))

pub size_of_characters : (classes : List Class) (n : ℕ) → n ≡ size classes (array (integer Char) n)
size_of_characters classes n = sym (mul-one n)

-- ---- numbers of elements

pub further_on : (a bytes w : ℕ) (z : ℤ) → pos 0 ≤ℤ z → w ≡ a + unsigned_abs z * bytes → w ≡ reached a bytes z
further_on a bytes w (pos k) le e = e
further_on a bytes w (negsuc k) le e = absurd (omega (arith, ints, le))

pub further_back : (a bytes w : ℕ) (z : ℤ) → z <ℤ pos 0 → w ≡ a - unsigned_abs z * bytes → w ≡ reached a bytes z
further_back a bytes w (pos k) lt e = absurd (omega (arith, ints, lt))
further_back a bytes w (negsuc k) lt e = e ∙ ap (λ m. a - m * bytes) (let next : suc k ≡ k + 1 = omega arith in next)

place_reached : (n : Name) (t : SourceType) (o bytes : ℕ) (z : ℤ) → at n (reached o bytes z) t ≡ further n t o bytes z
place_reached n t o bytes (pos k) = refl
place_reached n t o bytes (negsuc k) = refl

pub moved_place : (tables : Tables) (f : Fact) (t : Target) (o w : ℕ) (z : ℤ) (n : Name) → f ≡ fact.Place o
    → w ≡ reached o (size (classes_of tables) (target_in tables t)) z
    → fact_in tables (fact.Place w) t n ≡ moved (classes_of tables) (fact_in tables f t n) z
moved_place tables f t o w z n is there =
    ap (λ v. at n v (target_in tables t)) there ∙ place_reached n (target_in tables t) o (size (classes_of tables) (target_in tables t)) z
    ∙ sym (ap (λ g. moved (classes_of tables) (fact_in tables g t n) z) is)

-- ---- an array

pub decayed_is : (tables : Tables) (f : Fact) (t u : Target) (n : Name) → target_in tables u ≡ element (plain (target_in tables t)) → fact_in tables f u n ≡ decayed (fact_in tables f t n)
decayed_is tables fact.Nothing t u n e = refl
decayed_is tables (fact.Number z) t u n e = refl
decayed_is tables fact.Null t u n e = refl
decayed_is tables (fact.Place o) t u n e = ap (at n o) e
decayed_is tables fact.Function t u n e = refl

-- ---- sums

same_number : (z w : ℤ) → Some z ≡ Some w → z ≡ w
same_number z w e = cc

module _ (tables : Tables) (classes : List Class) (a b : CodeKnown) where
  pub sum_first : (o : Option ℤ) (z : ℤ) (there : Known) → o ≡ fact_number a.fact → o ≡ Some z → there ≡ moved classes (known_in tables b) z
      → there ≡ sum classes (known_in tables a) (known_in tables b)
  sum_first o z there is some made = made ∙ by a.fact (sym some ∙ is)
    where
      by : (f : Fact) → Some z ≡ fact_number f → moved classes (known_in tables b) z ≡ sum classes (fact_in tables f a.target a.name) (known_in tables b)
      by (fact.Number w) e = ap (moved classes (known_in tables b)) (same_number z w e)
      by fact.Nothing e = cc
      by fact.Null e = cc
      by (fact.Place m) e = cc
      by fact.Function e = cc

  module _ (o : Option ℤ) (is : o ≡ fact_number a.fact) (none : o ≡ None) where
    pub sum_second : (p : Option ℤ) (z : ℤ) (there : Known) → p ≡ fact_number b.fact → p ≡ Some z → there ≡ moved classes (known_in tables a) z
        → there ≡ sum classes (known_in tables a) (known_in tables b)
    sum_second p z there number some made = made ∙ by a.fact b.fact (sym none ∙ is) (sym some ∙ number)
      where
        by : (f g : Fact) → None ≡ fact_number f → Some z ≡ fact_number g
            → moved classes (fact_in tables f a.target a.name) z ≡ sum classes (fact_in tables f a.target a.name) (fact_in tables g b.target b.name)
        by (fact.Number w) g d e = cc
        by fact.Nothing (fact.Number w) d e = ap (moved classes (fact_in tables fact.Nothing a.target a.name)) (same_number z w e)
        by fact.Null (fact.Number w) d e = ap (moved classes (fact_in tables fact.Null a.target a.name)) (same_number z w e)
        by (fact.Place m) (fact.Number w) d e = ap (moved classes (fact_in tables (fact.Place m) a.target a.name)) (same_number z w e)
        by fact.Function (fact.Number w) d e = ap (moved classes (fact_in tables fact.Function a.target a.name)) (same_number z w e)
        by f fact.Nothing d e = cc
        by f fact.Null d e = cc
        by f (fact.Place k) d e = cc
        by f fact.Function d e = cc

    pub no_sum : (p : Option ℤ) → p ≡ fact_number b.fact → p ≡ None → unknown ≡ sum classes (known_in tables a) (known_in tables b)
    no_sum p number nothing = by a.fact b.fact (sym none ∙ is) (sym nothing ∙ number)
      where
        by : (f g : Fact) → None ≡ fact_number f → None ≡ fact_number g → unknown ≡ sum classes (fact_in tables f a.target a.name) (fact_in tables g b.target b.name)
        by (fact.Number w) g d e = cc
        by f (fact.Number w) d e = cc
        by fact.Nothing fact.Nothing d e = refl
        by fact.Nothing fact.Null d e = refl
        by fact.Nothing (fact.Place k) d e = refl
        by fact.Nothing fact.Function d e = refl
        by fact.Null fact.Nothing d e = refl
        by fact.Null fact.Null d e = refl
        by fact.Null (fact.Place k) d e = refl
        by fact.Null fact.Function d e = refl
        by (fact.Place m) fact.Nothing d e = refl
        by (fact.Place m) fact.Null d e = refl
        by (fact.Place m) (fact.Place k) d e = refl
        by (fact.Place m) fact.Function d e = refl
        by fact.Function fact.Nothing d e = refl
        by fact.Function fact.Null d e = refl
        by fact.Function (fact.Place k) d e = refl
        by fact.Function fact.Function d e = refl

  module _ (p : Option ℤ) (number : p ≡ fact_number b.fact) where
    pub less_number : (z w : ℤ) (there : Known) → p ≡ Some z → w ≡ neg_ℤ z → there ≡ moved classes (known_in tables a) w
        → there ≡ pointer_known classes pointer.Subtract (known_in tables a) (known_in tables b)
    less_number z w there some back made = made ∙ ap (moved classes (known_in tables a)) back ∙ by b.fact (sym some ∙ number)
      where
        by : (g : Fact) → Some z ≡ fact_number g
            → moved classes (known_in tables a) (neg_ℤ z) ≡ pointer_known classes pointer.Subtract (known_in tables a) (fact_in tables g b.target b.name)
        by (fact.Number w) e = ap (λ y. moved classes (known_in tables a) (neg_ℤ y)) (same_number z w e)
        by fact.Nothing e = cc
        by fact.Null e = cc
        by (fact.Place k) e = cc
        by fact.Function e = cc

    pub no_less : p ≡ None → unknown ≡ pointer_known classes pointer.Subtract (known_in tables a) (known_in tables b)
    no_less nothing = by b.fact (sym nothing ∙ number)
      where
        by : (g : Fact) → None ≡ fact_number g → unknown ≡ pointer_known classes pointer.Subtract (known_in tables a) (fact_in tables g b.target b.name)
        by (fact.Number w) e = cc
        by fact.Nothing e = refl
        by fact.Null e = refl
        by (fact.Place k) e = refl
        by fact.Function e = refl
