-- Labels that differ, of one kind, differ in the C too.
use Rattle.std.proofs.Common.{◌≡◌, ℕ, Bool, true, false, not, ◌&&◌, ◌||◌, ◌==◌, nat_le, if◌then◌else◌, List, [], ◌∷◌, refl, sym, ◌∙◌, ap, subst, arith}
use Rattle.std.specs.Prelude.{ℤ, pos, negsuc, int_le}
use Rattle.std.specs.List.{list_all}
use Rattle.std.proofs.lemmas.Bool.Decides.{nat_tests}
use Rattle.cf_base.specs.declared.kind.Kind.{Kind}
use Rattle.cf_base.specs.declared.kind.Kind.TheVariants.{Int}
use Rattle.cf_base.specs.Integers.{fits, convert, bits_of, value_of_bits}
use Rattle.cf_base.proofs.Tests.{both}
use Rattle.cf_core.specs.Types.{SourceType}
use Rattle.cf_plain.specs.Plain.{Plain, Plains, act, set, branch, loop, switch, case_label, default_label, leave, continue, give, parts, nothing, more}
use Rattle.cf_plain.specs.Running.{has_case}
use Rattle.cf_plain.specs.Valid.{has_default}
use Rattle.cc_whole.specs.Statements as c
use Rattle.cc_whole.specs.Statements.{Labels}
use Rattle.cf_lower_relate.proofs.Bits.{convert-int}
use Rattle.cf_lower_relate.proofs.Words.{convert-same}
use Rattle.cf_lower_program.specs.Labels.{labels}

-- ---- numbers

number-itself : (z : ℤ) → int_le z z && int_le z z ≡ true
number-itself (pos n) = let h : nat_le n n ≡ true = grind (arith, nat_tests) in ap (λ b. b && nat_le n n) h ∙ h
number-itself (negsuc n) = let h : nat_le n n ≡ true = grind (arith, nat_tests) in ap (λ b. b && nat_le n n) h ∙ h

same-bits : (i j : ℕ) → i == j ≡ true → i ≡ j
same-bits i j e = grind (arith, nat_tests, e)

true-false : {b : Bool} → b ≡ true → b ≡ false → ⊥
true-false h k = absurd (cc)

-- a label, as the C compares it
abbrev pub label : ℤ → ℕ
label z = bits_of 32 (convert Int z)

by-bits : (k : Kind) (y z : ℤ) → fits k y ≡ true → fits k z ≡ true → label y ≡ label z → y ≡ z
by-bits k y z fy fz e =
    let ints : convert Int y ≡ convert Int z = sym (convert-int Int y) ∙ ap (value_of_bits true 32) e ∙ convert-int Int z in
    sym (convert-same k y fy) ∙ sym (convert-int k y) ∙ ap (convert k) ints ∙ convert-int k z ∙ convert-same k z fz

apart : (k : Kind) (y z : ℤ) → fits k y ≡ true → fits k z ≡ true → (int_le y z && int_le z y) ≡ false → (label y == label z) ≡ false
apart k y z fy fz ne = by (label y == label z) refl
  where
    by : (b : Bool) → (label y == label z) ≡ b → b ≡ false
    by true e =
        let same : y ≡ z = by-bits k y z fy fz (same-bits (label y) (label z) e) in
        absurd (true-false (ap (λ x. int_le x z && int_le z x) same ∙ number-itself z) ne)
    by false e = refl

-- ---- labels that are still to come are none of those before

abbrev pub Fresh : Plains → Labels → Type 0
Fresh nothing ls = Unit {0}
Fresh (more (case_label z) ss) ls = (c.has_case ls.cases (label z) ≡ false) × Fresh ss ls
Fresh (more default_label ss) ls = (ls.has_default ≡ false) × Fresh ss ls
Fresh (more s ss) ls = Fresh ss ls

pub all-fresh : (ss : Plains) → Fresh ss c.no_labels
all-fresh nothing = tt
all-fresh (more (case_label z) ss) = (refl, all-fresh ss)
all-fresh (more default_label ss) = (refl, all-fresh ss)
all-fresh (more s ss) = all-fresh ss

neither : (a b : Bool) → (a || b) ≡ false → (a ≡ false) × (b ≡ false)
neither true b e = absurd (cc)
neither false b e = (refl, e)

no-two : (a b : Bool) → a ≡ false → b ≡ false → (a || b) ≡ false
no-two true b e f = absurd (cc)
no-two false b e f = f

pub with-case : (k : Kind) (z : ℤ) (ls : Labels) (ss : Plains) → fits k z ≡ true → list_all (fits k) (labels ss) ≡ true → has_case z ss ≡ false → Fresh ss ls
    → Fresh ss (record ls { cases = label z ∷ ls.cases })
with-case k z ls nothing fz all none h = tt
with-case k z ls (more (case_label y) ss) fz all none h =
    let two = both (fits k y) (list_all (fits k) (labels ss)) all in
    let isnt = neither (int_le y z && int_le z y) (has_case z ss) none in (
      no-two (label z == label y) (c.has_case ls.cases (label y)) (apart k z y fz two.0 (turned (int_le y z) (int_le z y) isnt.0)) h.0,
      with-case k z ls ss fz two.1 isnt.1 h.1,
    )
  where
    turned : (a b : Bool) → (a && b) ≡ false → (b && a) ≡ false
    turned true true e = e
    turned true false e = refl
    turned false true e = refl
    turned false false e = refl
with-case k z ls (more default_label ss) fz all none h = (h.0, with-case k z ls ss fz all none h.1)
with-case k z ls (more (act a) ss) fz all none h = with-case k z ls ss fz all none h
with-case k z ls (more (set r a) ss) fz all none h = with-case k z ls ss fz all none h
with-case k z ls (more (branch r ts us) ss) fz all none h = with-case k z ls ss fz all none h
with-case k z ls (more (loop ts us) ss) fz all none h = with-case k z ls ss fz all none h
with-case k z ls (more (switch r ts) ss) fz all none h = with-case k z ls ss fz all none h
with-case k z ls (more leave ss) fz all none h = with-case k z ls ss fz all none h
with-case k z ls (more continue ss) fz all none h = with-case k z ls ss fz all none h
with-case k z ls (more (give r) ss) fz all none h = with-case k z ls ss fz all none h
with-case k z ls (more (parts ps) ss) fz all none h = with-case k z ls ss fz all none h

pub with-default : (locals : List SourceType) (ls : Labels) (ss : Plains) → has_default locals ss ≡ false → Fresh ss ls → Fresh ss (record ls { has_default = true })
with-default locals ls nothing none h = tt
with-default locals ls (more (case_label y) ss) none h = (h.0, with-default locals ls ss none h.1)
with-default locals ls (more default_label ss) none h = absurd (cc)
with-default locals ls (more (act a) ss) none h = with-default locals ls ss none h
with-default locals ls (more (set r a) ss) none h = with-default locals ls ss none h
with-default locals ls (more (branch r ts us) ss) none h = with-default locals ls ss none h
with-default locals ls (more (loop ts us) ss) none h = with-default locals ls ss none h
with-default locals ls (more (switch r ts) ss) none h = with-default locals ls ss none h
with-default locals ls (more leave ss) none h = with-default locals ls ss none h
with-default locals ls (more continue ss) none h = with-default locals ls ss none h
with-default locals ls (more (give r) ss) none h = with-default locals ls ss none h
with-default locals ls (more (parts ps) ss) none h = with-default locals ls ss none h
