-- Operators on integers in registers.
use Rattle.std.proofs.Common.{◌≡◌, ℕ, nat_lt, Bool, true, false, ◌&&◌, ◌||◌, if◌then◌else◌, refl, sym, ◌∙◌, ap, subst, arith}
use Rattle.std.specs.Prelude.{ℤ, pos, negsuc, Some, Result, Ok, Err, int_lt, int_le}
use Rattle.std.proofs.lemmas.Bool.Decides.{nat_tests}
use Rattle.cf_base.specs.declared.kind.Kind.{Kind}
use Rattle.cf_base.specs.declared.kind.Kind.TheVariants.{Char, SChar, UChar, Short, UShort, Int, UInt, Long, ULong}
use Rattle.cf_base.specs.declared.arith.Arith.{Arith}
use Rattle.cf_base.specs.declared.arith.Arith.TheVariants as op
use Rattle.cf_base.specs.Integers.{fits, convert, int_op, truth, shifted, left_by, right_by, shift_count}
use Rattle.cf_base.specs.Promotion.{promoted}
use Rattle.cf_base.specs.World.{World}
use Rattle.cf_base.proofs.Tests.{both}
use Rattle.cf_types.specs.Operators.{is_shift}
use Rattle.cf_core.specs.Types.{Name, SourceType}
use Rattle.cf_core.specs.Store as source
use Rattle.cf_core.specs.Run.{State, ◌>>=◌, gives, ok_or_act}
use Rattle.cf_core.specs.Scalars as scalars
use Rattle.cf_core.specs.Calls.{Program}
use Rattle.cf_core.specs.Calls as core
use Rattle.cf_lower_layout.specs.Sorts.{number, c_kind}
use Rattle.cf_plain.specs.Plain as plain
use Rattle.cf_plain.specs.Plain.{Register}
use Rattle.cf_plain.specs.Acts.{Registers, used_in, acts}
use Rattle.cc_whole.specs.declared.types.CType.TheVariants as ty
use Rattle.cc_whole.specs.Plain.{Expression, binary}
use Rattle.cc_whole_memory.specs.declared.value.Value.{Value}
use Rattle.cc_whole_memory.specs.declared.value.Value.TheVariants as value
use Rattle.cc_whole_memory.specs.Blocks.{Memory, on_ok}
use Rattle.cc_whole_mean.specs.Scope.{Scope}
use Rattle.cc_whole_mean.specs.Types.{scalar_of}
use Rattle.cc_whole_mean.specs.Values.{value_of, fitted, result_kind, number as number_of, of_numbers, applied}
use Rattle.cf_lower_relate.specs.Map.{Map, is_word}
use Rattle.cf_lower_relate.proofs.Bits.{convert-int, fits-word}
use Rattle.cf_lower_relate.proofs.Words.{convert-same, convert-c}
use Rattle.cf_lower.specs.Kept.{Kept, integer_of, Keeping, within, of_kind, a_truth, result_kept, local_kept}
use Rattle.cf_lower.specs.Written.{c_integer}
use Rattle.cf_lower.specs.Expressions.{integer_in, at_kind, as_bits, operated, local_value}
use Rattle.cf_lower_steps.specs.Steps.{HasValue, KeptAs, GivenAs, InRegisters, Step}
use Rattle.cf_lower_steps.proofs.Narrower.{within-fits, zero-any, one-any}
use Rattle.cf_lower_steps.proofs.Results.{result-fits}
use Rattle.cf_lower_steps.proofs.Values.{K, stored-scalar, step-used, step-valid}
use Rattle.cf_lower_steps.proofs.Holding.{usable, usable-has}

-- ---- the C's operators at a promoted kind

-- on two operands of the kind
numbers-c : (o : Arith) (k : Kind) (x y : ℤ) → promoted k ≡ k → is_shift o ≡ false
    → of_numbers o (c_kind k) x (c_kind k) y ≡ number_of (result_kind o (c_kind k)) (int_op o k (convert k x) (convert k y))
numbers-c o Char x y p h = absurd (cc)
numbers-c o SChar x y p h = absurd (cc)
numbers-c o UChar x y p h = absurd (cc)
numbers-c o Short x y p h = absurd (cc)
numbers-c o UShort x y p h = absurd (cc)
numbers-c op.Multiply Int x y p h = refl
numbers-c op.Multiply UInt x y p h = refl
numbers-c op.Multiply Long x y p h = refl
numbers-c op.Multiply ULong x y p h = refl
numbers-c op.Divide Int x y p h = refl
numbers-c op.Divide UInt x y p h = refl
numbers-c op.Divide Long x y p h = refl
numbers-c op.Divide ULong x y p h = refl
numbers-c op.Remainder Int x y p h = refl
numbers-c op.Remainder UInt x y p h = refl
numbers-c op.Remainder Long x y p h = refl
numbers-c op.Remainder ULong x y p h = refl
numbers-c op.Add Int x y p h = refl
numbers-c op.Add UInt x y p h = refl
numbers-c op.Add Long x y p h = refl
numbers-c op.Add ULong x y p h = refl
numbers-c op.Subtract Int x y p h = refl
numbers-c op.Subtract UInt x y p h = refl
numbers-c op.Subtract Long x y p h = refl
numbers-c op.Subtract ULong x y p h = refl
numbers-c op.ShiftLeft Int x y p h = absurd (cc)
numbers-c op.ShiftLeft UInt x y p h = absurd (cc)
numbers-c op.ShiftLeft Long x y p h = absurd (cc)
numbers-c op.ShiftLeft ULong x y p h = absurd (cc)
numbers-c op.ShiftRight Int x y p h = absurd (cc)
numbers-c op.ShiftRight UInt x y p h = absurd (cc)
numbers-c op.ShiftRight Long x y p h = absurd (cc)
numbers-c op.ShiftRight ULong x y p h = absurd (cc)
numbers-c op.Less Int x y p h = refl
numbers-c op.Less UInt x y p h = refl
numbers-c op.Less Long x y p h = refl
numbers-c op.Less ULong x y p h = refl
numbers-c op.Greater Int x y p h = refl
numbers-c op.Greater UInt x y p h = refl
numbers-c op.Greater Long x y p h = refl
numbers-c op.Greater ULong x y p h = refl
numbers-c op.LessEqual Int x y p h = refl
numbers-c op.LessEqual UInt x y p h = refl
numbers-c op.LessEqual Long x y p h = refl
numbers-c op.LessEqual ULong x y p h = refl
numbers-c op.GreaterEqual Int x y p h = refl
numbers-c op.GreaterEqual UInt x y p h = refl
numbers-c op.GreaterEqual Long x y p h = refl
numbers-c op.GreaterEqual ULong x y p h = refl
numbers-c op.Equal Int x y p h = refl
numbers-c op.Equal UInt x y p h = refl
numbers-c op.Equal Long x y p h = refl
numbers-c op.Equal ULong x y p h = refl
numbers-c op.NotEqual Int x y p h = refl
numbers-c op.NotEqual UInt x y p h = refl
numbers-c op.NotEqual Long x y p h = refl
numbers-c op.NotEqual ULong x y p h = refl
numbers-c op.And Int x y p h = refl
numbers-c op.And UInt x y p h = refl
numbers-c op.And Long x y p h = refl
numbers-c op.And ULong x y p h = refl
numbers-c op.Xor Int x y p h = refl
numbers-c op.Xor UInt x y p h = refl
numbers-c op.Xor Long x y p h = refl
numbers-c op.Xor ULong x y p h = refl
numbers-c op.Or Int x y p h = refl
numbers-c op.Or UInt x y p h = refl
numbers-c op.Or Long x y p h = refl
numbers-c op.Or ULong x y p h = refl

-- a shift's count is of any kind
shift-c : (o : Arith) (k : Kind) (x y : ℤ) → promoted k ≡ k → is_shift o ≡ true
    → of_numbers o (c_kind k) x Int y ≡ number_of (result_kind o (c_kind k)) (int_op o k (convert k x) y)
shift-c o Char x y p h = absurd (cc)
shift-c o SChar x y p h = absurd (cc)
shift-c o UChar x y p h = absurd (cc)
shift-c o Short x y p h = absurd (cc)
shift-c o UShort x y p h = absurd (cc)
shift-c op.Multiply Int x y p h = absurd (cc)
shift-c op.Multiply UInt x y p h = absurd (cc)
shift-c op.Multiply Long x y p h = absurd (cc)
shift-c op.Multiply ULong x y p h = absurd (cc)
shift-c op.Divide Int x y p h = absurd (cc)
shift-c op.Divide UInt x y p h = absurd (cc)
shift-c op.Divide Long x y p h = absurd (cc)
shift-c op.Divide ULong x y p h = absurd (cc)
shift-c op.Remainder Int x y p h = absurd (cc)
shift-c op.Remainder UInt x y p h = absurd (cc)
shift-c op.Remainder Long x y p h = absurd (cc)
shift-c op.Remainder ULong x y p h = absurd (cc)
shift-c op.Add Int x y p h = absurd (cc)
shift-c op.Add UInt x y p h = absurd (cc)
shift-c op.Add Long x y p h = absurd (cc)
shift-c op.Add ULong x y p h = absurd (cc)
shift-c op.Subtract Int x y p h = absurd (cc)
shift-c op.Subtract UInt x y p h = absurd (cc)
shift-c op.Subtract Long x y p h = absurd (cc)
shift-c op.Subtract ULong x y p h = absurd (cc)
shift-c op.ShiftLeft Int x y p h = refl
shift-c op.ShiftLeft UInt x y p h = refl
shift-c op.ShiftLeft Long x y p h = refl
shift-c op.ShiftLeft ULong x y p h = refl
shift-c op.ShiftRight Int x y p h = refl
shift-c op.ShiftRight UInt x y p h = refl
shift-c op.ShiftRight Long x y p h = refl
shift-c op.ShiftRight ULong x y p h = refl
shift-c op.Less Int x y p h = absurd (cc)
shift-c op.Less UInt x y p h = absurd (cc)
shift-c op.Less Long x y p h = absurd (cc)
shift-c op.Less ULong x y p h = absurd (cc)
shift-c op.Greater Int x y p h = absurd (cc)
shift-c op.Greater UInt x y p h = absurd (cc)
shift-c op.Greater Long x y p h = absurd (cc)
shift-c op.Greater ULong x y p h = absurd (cc)
shift-c op.LessEqual Int x y p h = absurd (cc)
shift-c op.LessEqual UInt x y p h = absurd (cc)
shift-c op.LessEqual Long x y p h = absurd (cc)
shift-c op.LessEqual ULong x y p h = absurd (cc)
shift-c op.GreaterEqual Int x y p h = absurd (cc)
shift-c op.GreaterEqual UInt x y p h = absurd (cc)
shift-c op.GreaterEqual Long x y p h = absurd (cc)
shift-c op.GreaterEqual ULong x y p h = absurd (cc)
shift-c op.Equal Int x y p h = absurd (cc)
shift-c op.Equal UInt x y p h = absurd (cc)
shift-c op.Equal Long x y p h = absurd (cc)
shift-c op.Equal ULong x y p h = absurd (cc)
shift-c op.NotEqual Int x y p h = absurd (cc)
shift-c op.NotEqual UInt x y p h = absurd (cc)
shift-c op.NotEqual Long x y p h = absurd (cc)
shift-c op.NotEqual ULong x y p h = absurd (cc)
shift-c op.And Int x y p h = absurd (cc)
shift-c op.And UInt x y p h = absurd (cc)
shift-c op.And Long x y p h = absurd (cc)
shift-c op.And ULong x y p h = absurd (cc)
shift-c op.Xor Int x y p h = absurd (cc)
shift-c op.Xor UInt x y p h = absurd (cc)
shift-c op.Xor Long x y p h = absurd (cc)
shift-c op.Xor ULong x y p h = absurd (cc)
shift-c op.Or Int x y p h = absurd (cc)
shift-c op.Or UInt x y p h = absurd (cc)
shift-c op.Or Long x y p h = absurd (cc)
shift-c op.Or ULong x y p h = absurd (cc)

-- the count of a shift that is defined is an int
counted : (f : ℕ → ℤ) (y z : ℤ) → shifted f 32 y ≡ Ok z → convert Int y ≡ y
counted f (pos n) z e = by_test (nat_lt n 32) refl e
  where
    by_test : (b : Bool) → nat_lt n 32 ≡ b → (if b then Ok (f n) else Err shift_count) ≡ Ok z → convert Int (pos n) ≡ pos n
    by_test true t e = convert-same Int (pos n) (let h : nat_lt n 2147483648 ≡ true = grind (arith, nat_tests, t) in h)
    by_test false t e = absurd (cc)
counted f (negsuc n) z e = absurd (cc)

count-int : (o : Arith) (k : Kind) (x y z : ℤ) → promoted k ≡ k → is_shift o ≡ true → int_op o k x y ≡ Ok z → convert Int y ≡ y
count-int o Char x y z p h e = absurd (cc)
count-int o SChar x y z p h e = absurd (cc)
count-int o UChar x y z p h e = absurd (cc)
count-int o Short x y z p h e = absurd (cc)
count-int o UShort x y z p h e = absurd (cc)
count-int op.Multiply Int x y z p h e = absurd (cc)
count-int op.Multiply UInt x y z p h e = absurd (cc)
count-int op.Multiply Long x y z p h e = absurd (cc)
count-int op.Multiply ULong x y z p h e = absurd (cc)
count-int op.Divide Int x y z p h e = absurd (cc)
count-int op.Divide UInt x y z p h e = absurd (cc)
count-int op.Divide Long x y z p h e = absurd (cc)
count-int op.Divide ULong x y z p h e = absurd (cc)
count-int op.Remainder Int x y z p h e = absurd (cc)
count-int op.Remainder UInt x y z p h e = absurd (cc)
count-int op.Remainder Long x y z p h e = absurd (cc)
count-int op.Remainder ULong x y z p h e = absurd (cc)
count-int op.Add Int x y z p h e = absurd (cc)
count-int op.Add UInt x y z p h e = absurd (cc)
count-int op.Add Long x y z p h e = absurd (cc)
count-int op.Add ULong x y z p h e = absurd (cc)
count-int op.Subtract Int x y z p h e = absurd (cc)
count-int op.Subtract UInt x y z p h e = absurd (cc)
count-int op.Subtract Long x y z p h e = absurd (cc)
count-int op.Subtract ULong x y z p h e = absurd (cc)
count-int op.ShiftLeft Int x y z p h e = counted (left_by Int x) y z e
count-int op.ShiftLeft UInt x y z p h e = counted (left_by UInt x) y z e
count-int op.ShiftLeft Long x y z p h e = counted (left_by Long x) y z e
count-int op.ShiftLeft ULong x y z p h e = counted (left_by ULong x) y z e
count-int op.ShiftRight Int x y z p h e = counted (right_by x) y z e
count-int op.ShiftRight UInt x y z p h e = counted (right_by x) y z e
count-int op.ShiftRight Long x y z p h e = counted (right_by x) y z e
count-int op.ShiftRight ULong x y z p h e = counted (right_by x) y z e
count-int op.Less Int x y z p h e = absurd (cc)
count-int op.Less UInt x y z p h e = absurd (cc)
count-int op.Less Long x y z p h e = absurd (cc)
count-int op.Less ULong x y z p h e = absurd (cc)
count-int op.Greater Int x y z p h e = absurd (cc)
count-int op.Greater UInt x y z p h e = absurd (cc)
count-int op.Greater Long x y z p h e = absurd (cc)
count-int op.Greater ULong x y z p h e = absurd (cc)
count-int op.LessEqual Int x y z p h e = absurd (cc)
count-int op.LessEqual UInt x y z p h e = absurd (cc)
count-int op.LessEqual Long x y z p h e = absurd (cc)
count-int op.LessEqual ULong x y z p h e = absurd (cc)
count-int op.GreaterEqual Int x y z p h e = absurd (cc)
count-int op.GreaterEqual UInt x y z p h e = absurd (cc)
count-int op.GreaterEqual Long x y z p h e = absurd (cc)
count-int op.GreaterEqual ULong x y z p h e = absurd (cc)
count-int op.Equal Int x y z p h e = absurd (cc)
count-int op.Equal UInt x y z p h e = absurd (cc)
count-int op.Equal Long x y z p h e = absurd (cc)
count-int op.Equal ULong x y z p h e = absurd (cc)
count-int op.NotEqual Int x y z p h e = absurd (cc)
count-int op.NotEqual UInt x y z p h e = absurd (cc)
count-int op.NotEqual Long x y z p h e = absurd (cc)
count-int op.NotEqual ULong x y z p h e = absurd (cc)
count-int op.And Int x y z p h e = absurd (cc)
count-int op.And UInt x y z p h e = absurd (cc)
count-int op.And Long x y z p h e = absurd (cc)
count-int op.And ULong x y z p h e = absurd (cc)
count-int op.Xor Int x y z p h e = absurd (cc)
count-int op.Xor UInt x y z p h e = absurd (cc)
count-int op.Xor Long x y z p h e = absurd (cc)
count-int op.Xor ULong x y z p h e = absurd (cc)
count-int op.Or Int x y z p h e = absurd (cc)
count-int op.Or UInt x y z p h e = absurd (cc)
count-int op.Or Long x y z p h e = absurd (cc)
count-int op.Or ULong x y z p h e = absurd (cc)

-- ---- expressions

module _ (scope : Scope) (m : Memory) where
  -- an integer register's bits, at a kind
  pub kind-value : (e : Expression) (k : Kind) (x : ℤ) → value_of e scope m ≡ Ok (value.Number Int (convert Int x))
      → value_of (at_kind k e) scope m ≡ Ok (value.Number (c_kind k) (convert k x))
  kind-value e k x h =
      ap (λ a. on_ok a (λ v. fitted (scalar_of (c_integer k)) v)) h
      ∙ ap (λ t. fitted t (value.Number Int (convert Int x))) (stored-scalar (number k))
      ∙ ap (λ z. Ok (value.Number (c_kind k) z)) (convert-c k (convert Int x) ∙ convert-int k x)

  -- both operands at the kind
  pub operated-value : (o : Arith) (k : Kind) (e f : Expression) (x y z : ℤ) → promoted k ≡ k
      → value_of (at_kind k e) scope m ≡ Ok (value.Number (c_kind k) x) → value_of f scope m ≡ Ok (value.Number Int (convert Int y))
      → fits k x ≡ true → (is_shift o || fits k y) ≡ true → int_op o k x y ≡ Ok z
      → value_of (operated o k e f) scope m ≡ Ok (value.Number (result_kind o (c_kind k)) z)
  operated-value o k e f x y z p he hf fx fy r = by_test (is_shift o) refl fy
    where
      by_test : (b : Bool) → is_shift o ≡ b → (b || fits k y) ≡ true
          → value_of (elim b [ true ↦ binary o (at_kind k e) f | false ↦ binary o (at_kind k e) (at_kind k f) ]) scope m ≡ Ok (value.Number (result_kind o (c_kind k)) z)
      by_test true t fy =
          ap (λ a. on_ok a (λ v. on_ok (value_of f scope m) (λ u. applied o v u m))) he
          ∙ ap (λ a. on_ok a (λ u. applied o (value.Number (c_kind k) x) u m)) hf
          ∙ shift-c o k x (convert Int y) p t
          ∙ ap (λ q. number_of (result_kind o (c_kind k)) (int_op o k q (convert Int y))) (convert-same k x fx)
          ∙ ap (λ q. number_of (result_kind o (c_kind k)) (int_op o k x q)) (count-int o k x y z p t r)
          ∙ ap (number_of (result_kind o (c_kind k))) r
      by_test false t fy =
          ap (λ a. on_ok a (λ v. on_ok (value_of (at_kind k f) scope m) (λ u. applied o v u m))) he
          ∙ ap (λ a. on_ok a (λ u. applied o (value.Number (c_kind k) x) u m)) (kind-value f k y hf ∙ ap (λ q. Ok (value.Number (c_kind k) q)) (convert-same k y fy))
          ∙ numbers-c o k x y p t
          ∙ ap (λ q. number_of (result_kind o (c_kind k)) (int_op o k q (convert k y))) (convert-same k x fx)
          ∙ ap (λ q. number_of (result_kind o (c_kind k)) (int_op o k x q)) (convert-same k y fy)
          ∙ ap (number_of (result_kind o (c_kind k))) r

  -- and its bits as an int
  pub bits-value : (e : Expression) (k : Kind) (z : ℤ) → value_of e scope m ≡ Ok (value.Number k z) → value_of (as_bits e) scope m ≡ Ok (value.Number Int (convert Int z))
  bits-value e k z h = ap (λ a. on_ok a (λ v. fitted (scalar_of ty.Int) v)) h

-- ---- results

truth-any : (b : Bool) (z : ℤ) → truth b ≡ Ok z → (k : Kind) → fits k z ≡ true
truth-any true z e k = subst (λ y. fits k y ≡ true) (let h : pos 1 ≡ z = cc in h) (one-any k)
truth-any false z e k = subst (λ y. fits k y ≡ true) (let h : pos 0 ≡ z = cc in h) (zero-any k)

-- a number of these kinds
pub record Fits (x : Kept) (z : ℤ) : Type 0 where
  pub kinds : Kind → Bool
  pub is : x ≡ integer_of kinds
  pub word : is_word z ≡ true
  pub fits : (k : Kind) → kinds k ≡ true → fits k z ≡ true

of-truth : (b : Bool) (z : ℤ) → truth b ≡ Ok z → Fits a_truth z
of-truth b z e = record { kinds = λ k. true; is = refl; word = fits-word Int z (truth-any b z e Int); fits = λ k t. truth-any b z e k }

pub of-kind : (k : Kind) (z : ℤ) → fits k z ≡ true → Fits (of_kind k) z
of-kind k z f = record { kinds = within k; is = refl; word = fits-word k z f; fits = λ j t. within-fits k j z t f }

-- what an operator gives
pub result-kept : (o : Arith) (k : Kind) (x y z : ℤ) → fits k x ≡ true → int_op o k x y ≡ Ok z → Fits (result_kept o k) z
result-kept op.Less k x y z f e = of-truth (int_lt x y) z e
result-kept op.Greater k x y z f e = of-truth (int_lt y x) z e
result-kept op.LessEqual k x y z f e = of-truth (int_le x y) z e
result-kept op.GreaterEqual k x y z f e = of-truth (int_le y x) z e
result-kept op.Equal k x y z f e = of-truth (int_le x y && int_le y x) z e
result-kept op.NotEqual k x y z f e = of-truth (int_lt x y || int_lt y x) z e
result-kept op.Multiply k x y z f e = of-kind k z (result-fits op.Multiply k x y z f e)
result-kept op.Divide k x y z f e = of-kind k z (result-fits op.Divide k x y z f e)
result-kept op.Remainder k x y z f e = of-kind k z (result-fits op.Remainder k x y z f e)
result-kept op.Add k x y z f e = of-kind k z (result-fits op.Add k x y z f e)
result-kept op.Subtract k x y z f e = of-kind k z (result-fits op.Subtract k x y z f e)
result-kept op.ShiftLeft k x y z f e = of-kind k z (result-fits op.ShiftLeft k x y z f e)
result-kept op.ShiftRight k x y z f e = of-kind k z (result-fits op.ShiftRight k x y z f e)
result-kept op.And k x y z f e = of-kind k z (result-fits op.And k x y z f e)
result-kept op.Xor k x y z f e = of-kind k z (result-fits op.Xor k x y z f e)
result-kept op.Or k x y z f e = of-kind k z (result-fits op.Or k x y z f e)

-- ---- actions

module _ (P : Program) (function : Name → ℕ) (signature : Name → SourceType) (F : Map) where
  -- what a register that holds a number has
  pub number-in : (kinds : Kind → Bool) (found : Result Value ℕ) (z : ℤ) → HasValue (K P function signature F) F (integer_of kinds) (source.Number z) found
      → found ≡ Ok (value.Number Int (convert Int z))
  number-in kinds found z h = h.is ∙ ap (λ (v : Value). Ok v) h.same.is

  -- a number whose bits an expression has
  pub integer-kept : (x : Kept) (z : ℤ) (found : Result Value ℕ) → Fits x z → found ≡ Ok (value.Number Int (convert Int z))
      → GivenAs (K P function signature F) F x (source.Number z) found
  integer-kept x z found f e =
      subst (λ y. GivenAs (K P function signature F) F y (source.Number z) found) (sym f.is)
      (record { value = value.Number Int (convert Int z); is = e; same = record { is = refl; word = f.word; fits = f.fits } })

  pub step-result : (s : State) (w : World) (x : Kept) (found : Result Value ℕ) (r : Result ℤ ℕ)
      → ((z : ℤ) → r ≡ Ok z → GivenAs (K P function signature F) F x (source.Number z) found)
      → Step (K P function signature F) F ((ok_or_act r >>= (λ z. gives (source.Number z))) s w) s w x found
  step-result s w x found (Ok z) h = record { by = (refl, refl, h z refl) }
  step-result s w x found (Err n) h = record { by = refl }

  module _ (again : core.Again) (s : State) (m : Memory) (w : World) (scope : Scope) (kept : Keeping) (g : Registers)
      (regs : InRegisters (K P function signature F) F kept g scope m) where
    in-register : (r : Register) (f : Kind → Bool) (v : source.Value) → kept r ≡ integer_of f → g r ≡ Some v → usable v ≡ true
        → HasValue (K P function signature F) F (integer_of f) v (value_of (integer_in r) scope m)
    in-register r f v k e u =
        usable-has (K P function signature F) F (integer_of f) (number Int) v (value_of (integer_in r) scope m) refl u
        (subst (λ y. KeptAs (K P function signature F) F y v (value_of (local_value (local_kept y) r) scope m)) k (regs r v e))

    -- an operator, on registers that hold numbers of the kind
    pub operate-step : (o : Arith) (k : Kind) (r q : Register) (f h : Kind → Bool) → promoted k ≡ k → kept r ≡ integer_of f → kept q ≡ integer_of h
        → Step (K P function signature F) F (acts again P g (plain.operate o k r q) s w) s w (result_kept o k)
        (value_of (as_bits (operated o k (integer_in r) (integer_in q))) scope m)
    operate-step o k r q f h p kr kq =
        step-used P function signature F s w _ _ g r (λ x. used_in g q >>= (λ y. scalars.operated o k x y)) (λ x isx ux.
        step-used P function signature F s w _ _ g q (λ y. scalars.operated o k x y) (λ y isy uy.
        of-values x y (in-register r f x kr isx ux) (in-register q h y kq isy uy)))
      where
        of-values : (x y : source.Value) → HasValue (K P function signature F) F (integer_of f) x (value_of (integer_in r) scope m)
            → HasValue (K P function signature F) F (integer_of h) y (value_of (integer_in q) scope m)
            → Step (K P function signature F) F (scalars.operated o k x y s w) s w (result_kept o k) (value_of (as_bits (operated o k (integer_in r) (integer_in q))) scope m)
        of-values (source.Number x) (source.Number y) hx hy =
            step-valid P function signature F s w _ _ (fits k x && (is_shift o || fits k y)) _ (λ t.
            let parts = both (fits k x) (is_shift o || fits k y) t in
            step-result s w _ _ (int_op o k x y) (λ z e.
            integer-kept (result_kept o k) z _ (result-kept o k x y z parts.0 e)
            (bits-value scope m (operated o k (integer_in r) (integer_in q)) (result_kind o (c_kind k)) z
            (operated-value scope m o k (integer_in r) (integer_in q) x y z p
            (kind-value scope m (integer_in r) k x (number-in f (value_of (integer_in r) scope m) x hx) ∙ ap (λ v. Ok (value.Number (c_kind k) v)) (convert-same k x parts.0))
            (number-in h (value_of (integer_in q) scope m) y hy) parts.0 parts.1 e))))
        of-values (source.Number x) v hx hy = absurd hy.same
        of-values v y hx hy = absurd hx.same
