-- What a register holds that holds this or that, by what both are.
use Rattle.std.proofs.Common.{◌≡◌, ℕ, Bool, true, false, ◌==◌, ◌&&◌, if◌then◌else◌, Option, Some, None, refl, sym, ap, ◌∙◌, arith}
use Rattle.std.proofs.lemmas.Bool.Decides.{nat_tests}
use Rattle.cf_core.specs.FromTypes.{Tables}
use Rattle.cf_core.specs.Types.{SourceType, type_eq, without_const}
use Rattle.cf_plain_kept.specs.Kept.{Kept, an_integer, an_object}
use Rattle.cf_lowerable_types.specs.declared.kinds.Kinds.{Kinds}
use Rattle.cf_lowerable_types.specs.Kinds.{has_kind, both_kinds}
use Rattle.cf_lowerable_ready.specs.declared.content.Content.{Content}
use Rattle.cf_lowerable_ready.specs.declared.content.Content.TheVariants as content
use Rattle.cf_lowerable_ready.specs.Contents.{in_both, known}

pub none_both : (k : Option Kept) → None ≡ in_both None k
none_both None = refl
none_both (Some x) = refl

pub numbers_met : (tables : Tables) (a b m : Kinds) (c : Content) → c ≡ content.Number b → has_kind m ≡ both_kinds (has_kind a) (has_kind b)
    → known tables (content.Number m) ≡ in_both (Some (an_integer (has_kind a))) (known tables c)
numbers_met tables a b m c is e = ap (λ f. Some (an_integer f)) e ∙ sym (ap (λ d. in_both (Some (an_integer (has_kind a))) (known tables d)) is)

-- ---- one of two, by a test

pub chosen_same : (x : Option Kept) (b c : Bool) → c ≡ b → c ≡ true → x ≡ (if b then x else None)
chosen_same x true c e t = refl
chosen_same x false c e t = cc

pub chosen_other : (x : Option Kept) (b c : Bool) → c ≡ b → c ≡ false → None ≡ (if b then x else None)
chosen_other x true c e t = cc
chosen_other x false c e t = refl

-- ---- objects

module _ (i j : ℕ) (t u : SourceType) where
  same_index : i ≡ j → (i == j) ≡ true
  same_index e = grind (arith, nat_tests)

  other_index : (i ≡ j → ⊥) → (i == j) ≡ false
  other_index e = grind (arith, nat_tests)

  pub objects_same : (c : Bool) → i ≡ j → c ≡ type_eq (without_const t) (without_const u) → c ≡ true → Some (an_object i t) ≡ in_both (Some (an_object i t)) (Some (an_object j u))
  objects_same c e is so = chosen_same (Some (an_object i t)) ((i == j) && type_eq (without_const t) (without_const u)) c (is ∙ ap (λ b. b && type_eq (without_const t) (without_const u)) (sym (same_index e))) so

  pub objects_differ : (c : Bool) → i ≡ j → c ≡ type_eq (without_const t) (without_const u) → c ≡ false → None ≡ in_both (Some (an_object i t)) (Some (an_object j u))
  objects_differ c e is not_so = chosen_other (Some (an_object i t)) ((i == j) && type_eq (without_const t) (without_const u)) c (is ∙ ap (λ b. b && type_eq (without_const t) (without_const u)) (sym (same_index e))) not_so

  pub other_object : (i ≡ j → ⊥) → None ≡ in_both (Some (an_object i t)) (Some (an_object j u))
  other_object e = chosen_other (Some (an_object i t)) ((i == j) && type_eq (without_const t) (without_const u)) false (ap (λ b. b && type_eq (without_const t) (without_const u)) (sym (other_index e))) refl
