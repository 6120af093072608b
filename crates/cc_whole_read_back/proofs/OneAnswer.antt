-- Two answers of one text are equal.
use Rattle.std.proofs.Common.{◌≡◌, ℕ, Bool, true, false, List, Result, Ok, Err, refl, ap, sym, ◌∙◌}
use Rattle.std.proofs.lemmas.Bool.{and_parts, true≢false}
use Rattle.cf_base.specs.declared.limit.Limit.{Limit}
use Rattle.cc_whole.specs.declared.unit.CUnit.{CUnit}
use Rattle.cc_whole.specs.Fault.{Checks, broken}
use Rattle.cc_whole.specs.Plain.{items_of}
use Rattle.cc_whole.specs.Spellable.{spellable_items, spellable_version}
use Rattle.cc_whole.specs.Text.{Text}
use Rattle.cc_whole.specs.Valid.{first_fault}
use Rattle.cc_whole.specs.ValidUnit.{keeps, valid_unit}
use Rattle.cc_whole_read.specs.declared.error.ReadErr.{ReadErr}
use Rattle.cc_whole_read.specs.declared.error.ReadErr.TheVariants as error
use Rattle.cc_whole_read.specs.Read.{IsNotC, HasValid, IsInvalid, IsRead}
use Rattle.cc_whole_read.proofs.ReadBack.{one_unit, is_c}
use Rattle.cc_whole_read.proofs.OneAnswer.{one_refusal}
use Rattle.cc_whole_read_back.specs.Memory.{is_memory}
use Rattle.cc_whole_read_back.proofs.Limits.{not_both, one_limit, no_place}
use Rattle.cc_whole_read_back.proofs.Faults.{one_rule, one_at}

module _ (text : List ℕ) where
  kept : (c : Checks) (rule number : ℕ) → keeps c ≡ true → c ≡ broken rule number → ⊥
  kept c rule number k e = let lost : false ≡ true = ap keeps (sym e) ∙ k in true≢false (sym lost)

  valid_breaks : (u : CUnit) (rule at : ℕ) → HasValid text u → IsInvalid text rule at → ⊥
  valid_breaks u rule at v r =
      let rules = (and_parts (spellable_version u.version) _ v.valid).1 in
      kept (first_fault (items_of u.items)) rule r.fault.number (and_parts (spellable_items (items_of u.items)) (keeps (first_fault (items_of u.items))) rules).1
      (ap (λ (x : CUnit). first_fault (items_of x.items)) (one_unit text u r.fault.unit v.is r.fault.is) ∙ r.fault.fault)

  same_invalid : (r q m n : ℕ) → IsInvalid text r m → IsInvalid text q n → ◌≡◌ {A = Result CUnit ReadErr} (Err (error.Invalid r m)) (Err (error.Invalid q n))
  same_invalid r q m n a b =
      let flat = a.within.flat in
      ap (λ (x : ℕ). Err (error.Invalid x m)) (one_rule text r q m n a.fault b.fault)
      ∙ ap (λ (x : ℕ). Err (error.Invalid q x)) (one_at text flat.tokens flat.has r q m n a.fault b.fault)

  -- an answer that is no want of memory
  pub one_answer : (a b : Result CUnit ReadErr) → IsRead text a → IsRead text b → is_memory a ≡ false → is_memory b ≡ false → a ≡ b
  one_answer (Ok u) (Ok v) r s e f = ap (λ (x : CUnit). Ok x) (one_unit text u v r.is s.is)
  one_answer (Ok u) (Err (error.NotC at)) r s e f = absurd (is_c text u r.is at s)
  one_answer (Ok u) (Err (error.Invalid rule at)) r s e f = absurd (valid_breaks u rule at r s)
  one_answer (Ok u) (Err (error.Limit l)) r s e f = absurd (not_both text l s r.within)
  one_answer (Ok u) (Err error.Memory) r s e f = absurd (true≢false f)
  one_answer (Err (error.NotC at)) (Ok v) r s e f = absurd (is_c text v s.is at r)
  one_answer (Err (error.NotC at)) (Err (error.NotC other)) r s e f = ap (λ (x : ℕ). Err (error.NotC x)) (one_refusal text at other r s)
  one_answer (Err (error.NotC at)) (Err (error.Invalid rule other)) r s e f = absurd (is_c text s.fault.unit s.fault.is at r)
  one_answer (Err (error.NotC at)) (Err (error.Limit l)) r s e f = absurd (no_place text at l r s)
  one_answer (Err (error.NotC at)) (Err error.Memory) r s e f = absurd (true≢false f)
  one_answer (Err (error.Invalid rule at)) (Ok v) r s e f = absurd (valid_breaks v rule at s r)
  one_answer (Err (error.Invalid rule at)) (Err (error.NotC other)) r s e f = absurd (is_c text r.fault.unit r.fault.is other s)
  one_answer (Err (error.Invalid rule at)) (Err (error.Invalid rule_2 at_2)) r s e f = same_invalid rule rule_2 at at_2 r s
  one_answer (Err (error.Invalid rule at)) (Err (error.Limit l)) r s e f = absurd (not_both text l s r.within)
  one_answer (Err (error.Invalid rule at)) (Err error.Memory) r s e f = absurd (true≢false f)
  one_answer (Err (error.Limit l)) (Ok v) r s e f = absurd (not_both text l r s.within)
  one_answer (Err (error.Limit l)) (Err (error.NotC at)) r s e f = absurd (no_place text at l s r)
  one_answer (Err (error.Limit l)) (Err (error.Invalid rule at)) r s e f = absurd (not_both text l r s.within)
  one_answer (Err (error.Limit l)) (Err (error.Limit m)) r s e f = ap (λ (x : Limit). Err (error.Limit x)) (one_limit text l m r s)
  one_answer (Err (error.Limit l)) (Err error.Memory) r s e f = absurd (true≢false f)
  one_answer (Err error.Memory) b r s e f = absurd (true≢false e)
