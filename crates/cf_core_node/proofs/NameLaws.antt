-- Names in the first file of a program.
use Rattle.std.proofs.Common.{◌≡◌, ◌∙◌, ℕ, List, [], ◌∷◌, ◌++◌, append_assoc, ap, sym, lit<}
use Rattle.std.specs.Prelude.{codes}
use Rattle.std.proofs.lemmas.Fmt.{decimal_digit}
use Rattle.cf_core.specs.Joined.{in_file}

pub in_first : (name : List ℕ) → name ++ codes "__u1" ≡ in_file 1 name
in_first name =
    sym (append_assoc name (codes "__u") (49 ∷ [])) ∙ ap (λ (d : List ℕ). name ++ codes "__u" ++ d) (sym (decimal_digit 1 (lit< tt)))
