-- What actions give, by what their operands hold.
use Rattle.std.proofs.Common.{◌≡◌, Option, Some, None, refl, sym, ap, ◌∙◌}
use Rattle.std.specs.Option.{option_map}
use Rattle.cf_core.specs.FromTypes.{Tables}
use Rattle.cf_core.specs.Types.{SourceType, void, integer, enumeration, class, pointer, reference, array, takes, gives, data_member, function_member, const, element, without_const}
use Rattle.cf_lower_layout.specs.Sorts.{Sort, number, address, code, sort_of, sort_to}
use Rattle.cf_lower.specs.Kept.{Kept, unknown, integer_of, holds, argument, of_sort, place_of, referred, read_kept, decayed_kept, pointer_of}
use Rattle.cf_lower_types.specs.declared.place.PlaceType.{PlaceType}
use Rattle.cf_lower_types.specs.declared.scalar.Scalar.{Scalar}
use Rattle.cf_lower_types.specs.Bare.{sort_in, type_in}
use Rattle.cf_lower_held.specs.declared.held.Held.{Held}
use Rattle.cf_lower_held.specs.Holds.{erased, kept_in, holding_one, place_type}
use Rattle.cf_lower_held.proofs.Erased.{erased_kept}

-- what a register holds has no kinds
pub held_erased : (tables : Tables) (h g : Held) → h ≡ g → kept_in tables h ≡ erased (kept_in tables g)
held_erased tables h g e = ap (kept_in tables) e ∙ sym (erased_kept tables g)

-- ---- the place that a name stands for

pointer_sort : (t : SourceType) → holding_one (sort_to t) ≡ holds (sort_to t)
pointer_sort void = refl
pointer_sort (integer k) = refl
pointer_sort (enumeration e) = refl
pointer_sort (class c) = refl
pointer_sort (pointer t) = refl
pointer_sort (reference t) = refl
pointer_sort (array t n) = refl
pointer_sort (takes p t) = refl
pointer_sort (gives t c) = refl
pointer_sort (data_member c t) = refl
pointer_sort (function_member c t) = refl
pointer_sort (const t) = refl

pub named_place : (t : SourceType) (s : Sort) (h : Kept) → h ≡ holding_one s → s ≡ sort_to (without_const (referred t)) → h ≡ erased (place_of t)
named_place t s h made is = made ∙ ap holding_one is ∙ pointer_sort (without_const (referred t))

pub named_same : (t u : SourceType) (h : Kept) → h ≡ erased (place_of u) → u ≡ t → h ≡ erased (place_of t)
named_same t u h is same = is ∙ ap (λ w. erased (place_of w)) same

-- where there is no local
pub void_place : (t : SourceType) → void ≡ t → holds (address void) ≡ erased (place_of t)
void_place t none = ap (λ w. holds (sort_to (without_const (referred w)))) none

-- ---- of an address, and of what is none

some_same : (a b : SourceType) → Some a ≡ Some b → a ≡ b
some_same a b e = cc

is_address : (k : Kept) (t : SourceType) → Some t ≡ place_type k → k ≡ holds (address t)
is_address unknown t e = cc
is_address (integer_of f) t e = cc
is_address (holds (number l)) t e = cc
is_address (holds (address u)) t e = ap (λ w. holds (address w)) (sym (some_same t u e))
is_address (holds (code u)) t e = cc
is_address (argument i u) t e = cc

no_read : (k : Kept) → None ≡ place_type k → read_kept k ≡ unknown
no_read unknown e = refl
no_read (integer_of f) e = refl
no_read (holds (number l)) e = refl
no_read (holds (address u)) e = cc
no_read (holds (code u)) e = refl
no_read (argument i u) e = refl

no_decay : (k : Kept) → None ≡ place_type k → decayed_kept k ≡ k
no_decay unknown e = refl
no_decay (integer_of f) e = refl
no_decay (holds (number l)) e = refl
no_decay (holds (address u)) e = cc
no_decay (holds (code u)) e = refl
no_decay (argument i u) e = refl

no_pointer : (k j : Kept) → None ≡ place_type k → pointer_of k j ≡ j
no_pointer unknown j e = refl
no_pointer (integer_of f) j e = refl
no_pointer (holds (number l)) j e = refl
no_pointer (holds (address u)) j e = cc
no_pointer (holds (code u)) j e = refl
no_pointer (argument i u) j e = refl

module _ (tables : Tables) (h : Held) (o : Option PlaceType) (is : option_map (type_in tables) o ≡ place_type (kept_in tables h)) where
  the_address : (p : PlaceType) → o ≡ Some p → kept_in tables h ≡ holds (address (type_in tables p))
  the_address p some = is_address (kept_in tables h) (type_in tables p) (sym (ap (option_map (type_in tables)) some) ∙ is)

  no_address : o ≡ None → None ≡ place_type (kept_in tables h)
  no_address none = sym (ap (option_map (type_in tables)) none) ∙ is

  pub read_place : (p : PlaceType) (s : Option Scalar) (k : Kept) → o ≡ Some p → k ≡ erased (of_sort (option_map (sort_in tables) s))
      → option_map (sort_in tables) s ≡ sort_of (type_in tables p) → k ≡ erased (read_kept (kept_in tables h))
  read_place p s k some made scalar = made ∙ ap (λ q. erased (of_sort q)) scalar ∙ sym (ap (λ x. erased (read_kept x)) (the_address p some))

  pub read_nothing : o ≡ None → unknown ≡ erased (read_kept (kept_in tables h))
  read_nothing none = sym (ap erased (no_read (kept_in tables h) (no_address none)))

  pub decayed_place : (p q : PlaceType) (k : Kept) → o ≡ Some p → k ≡ holds (address (type_in tables q)) → type_in tables q ≡ element (type_in tables p)
      → k ≡ erased (decayed_kept (kept_in tables h))
  decayed_place p q k some made first = made ∙ ap (λ t. holds (address t)) first ∙ sym (ap (λ x. erased (decayed_kept x)) (the_address p some))

  pub decayed_other : o ≡ None → kept_in tables h ≡ erased (decayed_kept (kept_in tables h))
  decayed_other none = sym (ap erased (no_decay (kept_in tables h) (no_address none)) ∙ erased_kept tables h)

  pub pointer_first : (p : PlaceType) (j : Kept) → o ≡ Some p → kept_in tables h ≡ erased (pointer_of (kept_in tables h) j)
  pointer_first p j some = the_address p some ∙ sym (ap (λ x. erased (pointer_of x j)) (the_address p some))

  pub pointer_second : (b : Held) → o ≡ None → kept_in tables b ≡ erased (pointer_of (kept_in tables h) (kept_in tables b))
  pointer_second b none = sym (ap erased (no_pointer (kept_in tables h) (kept_in tables b) (no_address none)) ∙ erased_kept tables b)
