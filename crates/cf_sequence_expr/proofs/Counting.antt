-- The step of the loop that counts numbers.
use Rattle.std.proofs.Common.{◌≡◌, ℕ, suc, ◌+◌, ◌-◌, ◌<◌, List, [], ◌∷◌, ◌++◌, ap, sym, ◌∙◌, append_assoc, arith}
use Rattle.cf_sequence_expr.specs.Parameters.{counted}

left : (n k : ℕ) → k < n → n - k ≡ suc (n - (k + 1))
left n k within = omega arith

pub one_number : (xs ys whole : List ℕ) (at after n k : ℕ) → k < n → ys ≡ xs ++ (at ∷ []) → after ≡ at + 1
    → xs ++ counted at (n - k) ≡ whole → ys ++ counted after (n - (k + 1)) ≡ whole
one_number xs ys whole at after n k within p step q =
    let next : after ≡ suc at = omega (arith, step) in
    ap (λ a. ys ++ counted a (n - (k + 1))) next ∙ ap (λ zs. zs ++ counted (suc at) (n - (k + 1))) p
    ∙ append_assoc xs (at ∷ []) (counted (suc at) (n - (k + 1))) ∙ ap (λ m. xs ++ counted at m) (sym (left n k within)) ∙ q
