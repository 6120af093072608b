-- A name among names, whichever of the two stands first in the test.
use Rattle.std.proofs.Common.{◌≡◌, ◌∙◌, ℕ, Bool, true, false, ◌||◌, List, [], ◌∷◌, refl, ap, sym}
use Rattle.std.specs.Prelude.{bytes_eq}
use Rattle.std.specs.List.{list_any}
use Rattle.cf_base.proofs.Tests.{bytes_same, same_bytes, bytes_differ}
use Rattle.cc_whole.specs.Known.{is_in}
use Rattle.cc_whole_linker.proofs.DifferLaws.{no-truth}

either_way : (x y : List ℕ) → bytes_eq x y ≡ bytes_eq y x
either_way x y = by (bytes_eq x y) refl
  where
    by : (b : Bool) → bytes_eq x y ≡ b → b ≡ bytes_eq y x
    by true e = sym (bytes_same y x (sym (same_bytes x y e)))
    by false e = sym (bytes_differ y x (λ s. no-truth (sym e ∙ bytes_same x y (sym s))))

pub is-in : (names : List (List ℕ)) (name : List ℕ) → list_any (bytes_eq name) names ≡ is_in names name
is-in [] name = refl
is-in (x ∷ names) name = ap (λ b. b || list_any (bytes_eq name) names) (either_way name x) ∙ ap (λ b. bytes_eq x name || b) (is-in names name)
