-- Bytes that end in 0.
use Rattle.std.proofs.Common.{◌≡◌, ◌∙◌, ℕ, suc, ◌<◌, ◌^◌, true, false, ◌&&◌, List, [], ◌∷◌, get_or, Fits, w8, refl, ap, arith}
use Rattle.std.specs.Prelude.{nat_lt}
use Rattle.std.proofs.Math.Facts.{Fits-lt-pow}
use Rattle.std.proofs.lemmas.Bool.Decides.{nat_tests}
use Rattle.cf_lower_program.specs.Starts.{is_text}
use Rattle.cf_lowerable_core.specs.Looks.{ends_in_zero}

is-byte : (b : ℕ) → Fits w8 b → true ≡ nat_lt b 256
is-byte b h = let small : b < 2 ^ 8 = Fits-lt-pow h in grind (arith, nat_tests, small)

pub text_ends : (bytes : List ℕ) → ((i : ℕ) → Fits w8 (get_or bytes i 0)) → ends_in_zero false bytes ≡ is_text bytes
text_ends [] small = refl
text_ends (b ∷ []) small = refl
text_ends (b ∷ c ∷ rest) small =
    text_ends (c ∷ rest) (λ k. small (suc k)) ∙ ap (λ t. t && is_text (c ∷ rest)) (is-byte b (small 0))
