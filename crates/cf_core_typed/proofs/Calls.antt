-- Calls and what they give (5.2.2), and expressions in order (5.18).
use Rattle.std.proofs.Common.{◌≡◌, Bool, true, false, ◌&&◌, ◌||◌, refl, sym, ap, true≢false}
use Rattle.cf_core.specs.Types.{Name, SourceType, void, integer, enumeration, class, pointer, reference, array, takes, gives, data_member, function_member, const, parameters, result}
use Rattle.cf_core.specs.Core.{Core, Cores, none, more, absent, call, pointer_call, comma}
use Rattle.cf_core.specs.Typing.{Scope, Typing, is_function, of_result, is_expression, same_type}
use Rattle.cf_core.specs.Typed.{fit, typing, typings, last_typing}
use Rattle.cf_core_typed.specs.Same.{is_bare, takes_const, is_normal}
use Rattle.cf_core_typed.specs.Meets.{IsPlace, IsValue}
use Rattle.cf_core_typed.proofs.Same.{and-both, and-right}
use Rattle.cf_core_typed.proofs.Values.{allow, of_value-is, of_place-is, value-same}

-- what a function of this result gives: a place, or a value
pub result-place : (t : SourceType) → is_normal t ≡ true → IsPlace (of_result (reference t)) t
result-place t n = of_place-is t n

-- neither a class nor a reference
abbrev pub is_plain_result : SourceType → Bool
is_plain_result (reference t) = false
is_plain_result (class c) = false
is_plain_result (const t) = is_plain_result t
is_plain_result t = true

const_bare : (t : SourceType) → is_normal (const t) ≡ true → is_bare t ≡ true
const_bare (const t) h = absurd (true≢false (sym h))
const_bare void h = refl
const_bare (integer k) h = refl
const_bare (enumeration e) h = refl
const_bare (class c) h = refl
const_bare (pointer t) h = refl
const_bare (reference t) h = refl
const_bare (array t n) h = refl
const_bare (takes p t) h = refl
const_bare (gives t c) h = refl
const_bare (data_member c t) h = refl
const_bare (function_member c t) h = refl

pub result-value : (t : SourceType) → is_normal t ≡ true → is_plain_result t ≡ true → IsValue (of_result t) t
result-value (reference t) n h = absurd (true≢false (sym h))
result-value (class c) n h = absurd (true≢false (sym h))
result-value (const t) n h = value-same (of_result t) t (const t) refl (result-value t (and-right (takes_const t) (is_normal t) n) h)
result-value void n h = of_value-is void refl n
result-value (integer k) n h = of_value-is (integer k) refl n
result-value (enumeration e) n h = of_value-is (enumeration e) refl n
result-value (pointer t) n h = of_value-is (pointer t) refl n
result-value (array t m) n h = of_value-is (array t m) refl n
result-value (takes p t) n h = of_value-is (takes p t) refl n
result-value (gives t c) n h = of_value-is (gives t c) refl n
result-value (data_member c t) n h = of_value-is (data_member c t) refl n
result-value (function_member c t) n h = of_value-is (function_member c t) refl n

-- ---- a call of a function that is no member

module _ (scope : Scope) (P : Typing → Type 0) where
  pub call-is : (name : Name) (t : SourceType) (es : Cores) → is_function t ≡ true → fit scope (parameters t) (typings scope es) ≡ true
      → P (of_result (result t)) → P (typing scope (call name t absent es))
  call-is name t es f a p =
      allow P (is_function t && true && fit scope (parameters t) (typings scope es)) (of_result (result t))
      (and-both (is_function t && true) (fit scope (parameters t) (typings scope es)) (and-both (is_function t) true f refl) a) p

  pub pointer_call-is : (t : SourceType) (e : Core) (es : Cores) → IsValue (typing scope e) (pointer t) → fit scope (parameters t) (typings scope es) ≡ true
      → P (of_result (result t)) → P (typing scope (pointer_call absent e t es))
  pointer_call-is t e es v a p =
      allow P (((typing scope e).value (pointer t) || same_type (typing scope e).place t) && fit scope (parameters t) (typings scope es)) (of_result (result t))
      (and-both _ _ (ap (λ b. b || same_type (typing scope e).place t) (v.value (pointer t) refl)) a) p

  -- ---- expressions in order

  pub comma-one : (e : Core) → P (typing scope e) → P (typing scope (comma (more e none)))
  comma-one e p = p

  pub comma-more : (e f : Core) (rest : Cores) → is_expression (typing scope e) ≡ true → P (last_typing scope (more f rest)) → P (last_typing scope (more e (more f rest)))
  comma-more e f rest h p = allow P (is_expression (typing scope e)) (last_typing scope (more f rest)) h p
