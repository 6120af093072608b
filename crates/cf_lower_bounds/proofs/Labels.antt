-- A label is met in both by the same numbers.
use Rattle.std.proofs.Common.{◌≡◌, ℕ, Bool, true, false, ◌&&◌, ◌||◌, ◌==◌, nat_le, if◌then◌else◌, List, [], ◌∷◌, refl, sym, ◌∙◌, ap, arith}
use Rattle.std.specs.Prelude.{ℤ, pos, negsuc, int_le}
use Rattle.std.proofs.lemmas.Bool.Decides.{nat_tests}
use Rattle.cf_base.specs.declared.kind.Kind.{Kind}
use Rattle.cf_base.specs.declared.kind.Kind.TheVariants.{Int}
use Rattle.cf_base.specs.Integers.{fits, convert, bits_of, value_of_bits}
use Rattle.cf_base.proofs.Tests.{both}
use Rattle.cc_whole.specs.Plain.{Statement, SwitchItems}
use Rattle.cc_whole_mean.specs.Mean.{has_label}
use Rattle.cf_lower.specs.Kept.{Keeping, after}
use Rattle.cf_lower.specs.Statements.{Inside, stated_all, items, lowered}
use Rattle.cf_plain.specs.Plain.{Plains, case_label, default_label, nothing, more}
use Rattle.cf_plain.specs.Running.{has_case}
use Rattle.cf_lower_relate.proofs.Bits.{convert-int}
use Rattle.cf_lower_relate.proofs.Words.{convert-same}
use Rattle.cf_lower_place.specs.InPlace.{labels_fit}

-- ---- numbers

pub number-same : (y z : ℤ) → int_le y z && int_le z y ≡ true → y ≡ z
number-same (pos m) (pos n) e = ap pos (let h = both (nat_le m n) (nat_le n m) e in let a = h.0 in let b = h.1 in let q : m ≡ n = grind (arith, nat_tests, a, b) in q)
number-same (pos m) (negsuc n) e = absurd (cc)
number-same (negsuc m) (pos n) e = absurd (cc)
number-same (negsuc m) (negsuc n) e = ap negsuc (let h = both (nat_le n m) (nat_le m n) e in let a = h.0 in let b = h.1 in let q : m ≡ n = grind (arith, nat_tests, a, b) in q)

pub number-itself : (z : ℤ) → int_le z z && int_le z z ≡ true
number-itself (pos n) = let h : nat_le n n ≡ true = grind (arith, nat_tests) in ap (λ b. b && nat_le n n) h ∙ h
number-itself (negsuc n) = let h : nat_le n n ≡ true = grind (arith, nat_tests) in ap (λ b. b && nat_le n n) h ∙ h

bits-itself : (i : ℕ) → i == i ≡ true
bits-itself i = grind (arith, nat_tests)

bits-same : (i j : ℕ) → i == j ≡ true → i ≡ j
bits-same i j e = grind (arith, nat_tests, e)

true-false : {b : Bool} → b ≡ true → b ≡ false → ⊥
true-false h k = absurd (cc)

module _ (k : Kind) (y z : ℤ) (fy : fits k y ≡ true) (fz : fits k z ≡ true) where
  by-bits : bits_of 32 (convert Int y) ≡ bits_of 32 (convert Int z) → y ≡ z
  by-bits e =
      let ints : convert Int y ≡ convert Int z = sym (convert-int Int y) ∙ ap (value_of_bits true 32) e ∙ convert-int Int z in
      sym (convert-same k y fy) ∙ sym (convert-int k y) ∙ ap (convert k) ints ∙ convert-int k z ∙ convert-same k z fz

  pub same-label : bits_of 32 (convert Int y) == bits_of 32 (convert Int z) ≡ (int_le y z && int_le z y)
  same-label = by_number (int_le y z && int_le z y) refl
    where
      from_bits : (b : Bool) → bits_of 32 (convert Int y) == bits_of 32 (convert Int z) ≡ b → int_le y z && int_le z y ≡ false → b ≡ false
      from_bits true e ne =
          let same : y ≡ z = by-bits (bits-same (bits_of 32 (convert Int y)) (bits_of 32 (convert Int z)) e) in
          absurd (true-false (ap (λ x. int_le x z && int_le z x) same ∙ number-itself z) ne)
      from_bits false e ne = refl

      by_number : (b : Bool) → int_le y z && int_le z y ≡ b → bits_of 32 (convert Int y) == bits_of 32 (convert Int z) ≡ b
      by_number true e =
          ap (λ x. bits_of 32 (convert Int x) == bits_of 32 (convert Int z)) (number-same y z e) ∙ bits-itself (bits_of 32 (convert Int z))
      by_number false e = from_bits (bits_of 32 (convert Int y) == bits_of 32 (convert Int z)) refl e

-- ---- whether there is a label of this number

pub label-behind : (bits : ℕ) (ss : List Statement) (rest : SwitchItems) → has_label bits (stated_all ss rest) ≡ has_label bits rest
label-behind bits [] rest = refl
label-behind bits (s ∷ ss) rest = label-behind bits ss rest

either : (a b x y : Bool) → a ≡ b → x ≡ y → (if a then true else x) ≡ (b || y)
either true b x y e h = ap (λ c. c || y) e
either false b x y e h = h ∙ ap (λ c. c || y) e

pub has-label : (k : Kind) (z : ℤ) → fits k z ≡ true → (ss : Plains) (x : Inside) (g h : Keeping) → labels_fit k ss ≡ true
    → has_label (bits_of 32 (convert Int z)) (items ss x g h) ≡ has_case z ss
has-label k z f nothing x g h e = refl
has-label k z f (more (case_label y) ss) x g h e =
    let two = both (fits k y) (labels_fit k ss) e in
    either (bits_of 32 (convert Int y) == bits_of 32 (convert Int z)) (int_le y z && int_le z y) _ _ (same-label k y z two.0 f) (has-label k z f ss x g g two.1)
has-label k z f (more default_label ss) x g h e = has-label k z f ss x g g e
has-label k z f (more s ss) x g h e =
    label-behind (bits_of 32 (convert Int z)) (lowered s x h) (items ss x g (after x.locals s h)) ∙ has-label k z f ss x g (after x.locals s h) e
