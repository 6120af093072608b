-- Tests one after the other.
use Rattle.std.proofs.Common.{◌≡◌, ◌∙◌, Bool, true, false, ◌&&◌, ap, sym}

-- the first fails
pub first_fails : (a p : Bool) → a ≡ p → (q : Bool) → a ≡ false → false ≡ (p && q)
first_fails a p is q fails = ap (λ b. b && q) (sym fails ∙ is)

-- the first passes, and the second tells
pub past : (a p : Bool) → a ≡ p → (b q : Bool) → a ≡ true → b ≡ q → b ≡ (p && q)
past a p is b q passes told = told ∙ ap (λ c. c && q) (sym passes ∙ is)
