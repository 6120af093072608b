-- Known numbers: what rows make of numbers that fit is one of the type again.
use Rattle.std.proofs.Common.{◌≡◌, Bool, true, false, not, if◌then◌else◌, List, ℕ, ℤ, pos, ◌-ℤ◌, Option, Some, None, refl, sym, subst, ◌∙◌, true≢false}
use Rattle.std.specs.Option.{option_map}
use Rattle.cf_base.specs.declared.kind.Kind.{Kind}
use Rattle.cf_base.specs.declared.kind.Kind.TheVariants as kind
use Rattle.cf_base.specs.declared.arith.Arith.{Arith}
use Rattle.cf_base.specs.Integers.{fits, int_op, ranged, convert}
use Rattle.cf_core.specs.Types.{SourceType, integer, enumeration, const}
use Rattle.cf_core.specs.Typing.{holds_number}
use Rattle.cf_core_typed.specs.Same.{Same, is_operand}
use Rattle.cf_core_typed.proofs.Values.{same-holds}
use Rattle.cf_elab.specs.Arithmetic as row
use Rattle.cf_elab.specs.Arithmetic.{result_kind, is_nonzero, truth_number, two_numbers}
use Rattle.cf_elab.specs.Choice.{chosen}
use Rattle.cf_elab.specs.Operand.{known_number}
use Rattle.cf_elab_numbers.specs.Numbers.{NumberOf, negative, complement}
use Rattle.cf_elab_numbers.proofs.Known.{known_is, operated_fits, negative_fits, converted_fits}
use Rattle.cf_elab_valid.specs.Scene.{HoldsKnown}

pub holds-same : (z : Option ℤ) (t u : SourceType) → Same t u → HoldsKnown z t → HoldsKnown z u
holds-same None t u e h = tt
holds-same (Some z) t u e h = sym (same-holds z t u e) ∙ h

pub number-operand : (z : ℤ) (t : SourceType) → holds_number z t ≡ true → is_operand t ≡ true
number-operand z (integer k) h = refl
number-operand z (enumeration n) h = refl
number-operand z (const t) h = number-operand z t h
number-operand z t h = absurd (true≢false (sym h))

-- of what is no operand no number is known
pub no-number : (z : Option ℤ) (t u : SourceType) → is_operand t ≡ false → HoldsKnown z t → HoldsKnown z u
no-number None t u n h = tt
no-number (Some z) t u n h = absurd (true≢false (sym (number-operand z t h) ∙ n))

number-holds : (k : Kind) (z : Option ℤ) → NumberOf k z → HoldsKnown z (integer k)
number-holds k None h = tt
number-holds k (Some z) h = h

pub convert-holds : (k : Kind) (z : Option ℤ) (u : SourceType) → Same u (integer k) → HoldsKnown (option_map (convert k) z) u
convert-holds k None u e = tt
convert-holds k (Some z) u e = holds-same (Some (convert k z)) (integer k) u (sym e) (converted_fits k z)

pub enumerator-holds : (n : List ℕ) (z : Option ℤ) (u : SourceType) → Same u (enumeration n) → HoldsKnown (option_map (convert kind.Int) z) u
enumerator-holds n None u e = tt
enumerator-holds n (Some z) u e = holds-same (Some (convert kind.Int z)) (enumeration n) u (sym e) (converted_fits kind.Int z)

pub operated-holds : (op : Arith) (k : Kind) (a b : Option ℤ) → HoldsKnown a (integer k) → HoldsKnown (two_numbers (λ z w. known_number (Some z) (int_op op k z w)) a b) (integer (result_kind op k))
operated-holds op k None b h = tt
operated-holds op k (Some z) None h = tt
operated-holds op k (Some z) (Some w) h =
    number-holds (result_kind op k) (known_number (Some z) (int_op op k z w)) (subst (NumberOf (result_kind op k)) (sym (known_is z (int_op op k z w))) (operated_fits op k z w h))

pub negative-holds : (k : Kind) (z : Option ℤ) → HoldsKnown (negative k z) (integer k)
negative-holds k None = tt
negative-holds k (Some z) =
    number-holds k (known_number (Some z) (ranged k (pos 0 -ℤ z))) (subst (NumberOf k) (sym (known_is z (ranged k (pos 0 -ℤ z)))) (negative_fits k z))

pub complement-holds : (k : Kind) (z : Option ℤ) → HoldsKnown (complement k z) (integer k)
complement-holds k None = tt
complement-holds k (Some z) = converted_fits k ((pos 0 -ℤ z) -ℤ pos 1)

truth-holds : (b : Bool) → fits kind.Int (truth_number b) ≡ true
truth-holds true = refl
truth-holds false = refl

pub inverted-holds : (z : Option ℤ) → HoldsKnown (row.inverted z) (integer kind.Int)
inverted-holds None = tt
inverted-holds (Some z) = truth-holds (not (is_nonzero z))

pub joined-holds : (join : Bool → Bool → Bool) (a b : Option ℤ) → HoldsKnown (two_numbers (λ z w. Some (truth_number (join (is_nonzero z) (is_nonzero w)))) a b) (integer kind.Int)
joined-holds join None b = tt
joined-holds join (Some z) None = tt
joined-holds join (Some z) (Some w) = truth-holds (join (is_nonzero z) (is_nonzero w))

pub chosen-holds : (c a b : Option ℤ) (t : SourceType) → HoldsKnown a t → HoldsKnown b t → HoldsKnown (chosen c a b) t
chosen-holds None a b t h k = tt
chosen-holds (Some c) None b t h k = tt
chosen-holds (Some c) (Some a) None t h k = tt
chosen-holds (Some c) (Some a) (Some b) t h k = by (is_nonzero c)
  where
    by : (x : Bool) → HoldsKnown (if x then Some a else Some b) t
    by true = h
    by false = k
