-- Names that are hidden inside others.
use Rattle.std.proofs.Common.{◌≡◌, ℕ, Bool, true, false, ◌||◌, cond, List, [], ◌∷◌, ◌++◌, refl, ap, sym, ◌∙◌}
use Rattle.std.specs.Prelude.{bytes_eq}
use Rattle.cc_whole.specs.Known.{is_in}
use Rattle.cc_whole_link.specs.Placed.{static_renaming}
use Rattle.cc_whole_link.specs.Rename.{hiding}
use Rattle.cc_whole_rename.specs.Renamed.{renaming}

in-both : (xs ys : List (List ℕ)) (name : List ℕ) → is_in (xs ++ ys) name ≡ (is_in xs name || is_in ys name)
in-both [] ys name = refl
in-both (x ∷ xs) ys name = ap (λ b. bytes_eq x name || b) (in-both xs ys name) ∙ by (bytes_eq x name)
  where
    by : (b : Bool) → (b || (is_in xs name || is_in ys name)) ≡ ((b || is_in xs name) || is_in ys name)
    by true = refl
    by false = refl

-- hidden in the inner ones, or else in the outer ones
pub hides_more : (unit : ℕ) (statics xs ys : List (List ℕ)) → hiding xs (renaming unit statics ys) ≡ renaming unit statics (xs ++ ys)
hides_more unit statics xs ys = λ j name. at name j
  where
    by : (a b : Bool) (name other : List ℕ) → cond a name (cond b name other) ≡ cond (a || b) name other
    by true b name other = refl
    by false b name other = refl

    at : (name : List ℕ) → hiding xs (renaming unit statics ys) name ≡ renaming unit statics (xs ++ ys) name
    at name = by (is_in xs name) (is_in ys name) name (static_renaming unit statics name) ∙ sym (ap (λ b. cond b name (static_renaming unit statics name)) (in-both xs ys name))
