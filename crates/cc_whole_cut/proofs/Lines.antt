-- A line that ends behind spaces.
use Rattle.std.proofs.Common.{◌≡◌, ℕ, suc, ◌+◌, Bool, true, false, cond, ◌&&◌, ◌||◌, ◌==◌, List, [], ◌∷◌, drop, refl, sym, arith}
use Rattle.std.proofs.lemmas.Bool.{eqb-true}
use Rattle.std.specs.List.{prefix_len}
use Rattle.cc_whole_tokens.specs.Token.{begins, ends_line}
use Rattle.cc_whole_cut.specs.Front.{line_ends, is_space}

or_no : (x : Bool) → (x || false) ≡ x
or_no true = refl
or_no false = refl

line_by : (b : ℕ) (bs : List ℕ) (x : Bool) → (b == 32) ≡ x → line_ends bs ≡ ends_line bs
    → begins (λ b. b == 10) (drop (cond x (1 + prefix_len is_space bs) 0) (b ∷ bs)) ≡ (b == 10 || (x && ends_line bs))
line_by b bs true e h =
    let s : 1 + prefix_len is_space bs ≡ suc (prefix_len is_space bs) = omega arith in
    let space : b ≡ 32 = eqb-true b 32 e in
    rw (s, space) h
line_by b bs false e h = sym (or_no (b == 10))

pub line_is : (bs : List ℕ) → line_ends bs ≡ ends_line bs
line_is [] = refl
line_is (b ∷ bs) = line_by b bs (b == 32) refl (line_is bs)
