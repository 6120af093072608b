-- Three tests, one after the other.
use Rattle.std.proofs.Common.{◌≡◌, ◌∙◌, Bool, true, false, ◌&&◌, refl, ap, sym}

pub second_fails : (a b c : Bool) → b ≡ false → false ≡ (a && (b && c))
second_fails true b c e = ap (λ d. d && c) (sym e)
second_fails false b c e = refl

pub last_tells : (a b c r : Bool) → a ≡ true → b ≡ true → r ≡ c → r ≡ (a && (b && c))
last_tells a b c r first second e = e ∙ ap (λ d. d && c) (sym second) ∙ ap (λ d. d && (b && c)) (sym first)
