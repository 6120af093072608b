-- Each type once, where it stands last.
use Rattle.std.proofs.Common.{◌≡◌, ℕ, ◌==◌, Bool, true, false, ◌||◌, if◌then◌else◌, List, [], ◌∷◌, ◌++◌, map, refl, sym, ap, ◌∙◌, arith, append_assoc, append-nil}
use Rattle.std.proofs.lemmas.Bool.Decides.{nat_tests}
use Rattle.cc_whole.specs.declared.types.CType.{CType}
use Rattle.cc_whole.specs.declared.statement.CLocal.{CLocal}
use Rattle.cf_lower.specs.Functions.{each_once}
use Rattle.cf_lower.specs.Written.{type_number}
use Rattle.cf_lower_fn.specs.Parts.{occurs, once, for_result}

same_number : (a b c : ℕ) → (a == b) ≡ true → (c == a) ≡ (c == b)
same_number a b c e = grind (arith, nat_tests)

-- what has the number of a type that occurs does too
same_occurs : (t u : CType) (us : List CType) → (type_number u == type_number t) ≡ true → occurs u us ≡ occurs t us
same_occurs t u [] e = refl
same_occurs t u (w ∷ ws) e =
    ap (λ b. b || occurs u ws) (same_number (type_number u) (type_number t) (type_number w) e) ∙ ap (λ b. (type_number w == type_number t) || b) (same_occurs t u ws e)

-- behind a type that occurs later
behind : (t u : CType) (us : List CType) (b : Bool) → (type_number u == type_number t) ≡ b → occurs u (each_once us) ≡ true → occurs t (each_once us) ≡ occurs t us
    → occurs t (each_once us) ≡ (b || occurs t us)
behind t u us true e is once = sym (same_occurs t u (each_once us) e) ∙ is
behind t u us false e is once = once

first_once : (t u : CType) (us : List CType) (b : Bool) → occurs u (each_once us) ≡ b → occurs t (each_once us) ≡ occurs t us
    → occurs t (if b then each_once us else u ∷ each_once us) ≡ occurs t (u ∷ us)
first_once t u us true e once = behind t u us (type_number u == type_number t) refl e once
first_once t u us false e once = ap (λ b. (type_number u == type_number t) || b) once

-- a type stands in a list where it stands in it once
occurs_once : (t : CType) (ts : List CType) → occurs t (each_once ts) ≡ occurs t ts
occurs_once t [] = refl
occurs_once t (u ∷ us) = first_once t u us (occurs u (each_once us)) refl (occurs_once t us)

-- ---- by whether a type stands behind

once_by : (t : CType) (ts : List CType) (b : Bool) → b ≡ occurs t ts → each_once (t ∷ ts) ≡ (if b then each_once ts else t ∷ each_once ts)
once_by t ts b e = ap (λ c. if c then each_once ts else t ∷ each_once ts) (occurs_once t ts ∙ sym e)

first_result : (t : CType) (ts : List CType) → once t ts ++ map for_result (each_once ts) ≡ map for_result (each_once (t ∷ ts))
first_result t ts = by (occurs t ts) refl
  where
    by : (b : Bool) → b ≡ occurs t ts → (if b then [] else for_result t ∷ []) ++ map for_result (each_once ts) ≡ map for_result (each_once (t ∷ ts))
    by true e = sym (ap (map for_result) (once_by t ts true e))
    by false e = sym (ap (map for_result) (once_by t ts false e))

pub rest_more : (rest others : List CType) (t : CType) (made more whole : List CLocal) → rest ≡ t ∷ others → made ++ map for_result (each_once rest) ≡ whole
    → more ≡ made ++ once t others → more ++ map for_result (each_once others) ≡ whole
rest_more rest others t made more whole is so_far pushed =
    ap (λ l. l ++ map for_result (each_once others)) pushed ∙ append_assoc made (once t others) (map for_result (each_once others))
    ∙ ap (λ l. made ++ l) (first_result t others) ∙ sym (ap (λ l. made ++ map for_result (each_once l)) is) ∙ so_far

pub rest_none : (rest : List CType) (made whole : List CLocal) → rest ≡ [] → made ++ map for_result (each_once rest) ≡ whole → made ≡ whole
rest_none rest made whole is so_far = sym (append-nil made) ∙ sym (ap (λ l. made ++ map for_result (each_once l)) is) ∙ so_far
