-- What an item breaks, from what was found of each rule.
use Rattle.std.proofs.Common.{◌≡◌, ◌↔◌, ◌∙◌, ℕ, Bool, true, false, ◌&&◌, ◌||◌, IsTrue, not, if◌then◌else◌, List, [], ◌∷◌, Option, Some, None, refl, ap}
use Rattle.std.specs.Prelude.{bytes_eq, find}
use Rattle.std.specs.List.{list_any}
use Rattle.cc_whole.specs.Known.{is_in, is_library}
use Rattle.cc_whole_link.specs.Link.{undefined_use, second_definition, Differs, other_type, Breaks, undefined, twice, shared, typed, kept}
use Rattle.cc_whole_link.specs.Placed.{Placed, its_name, defines_it, defines_named}
use Rattle.cc_whole_linker.specs.Rules.{defined_names, is_undefined, first_of}
use Rattle.cc_whole_linker.proofs.DifferLaws.{no-truth}

defined_is : (all : List Placed) (name : List ℕ) → is_in (defined_names all) name ≡ list_any (defines_named name) all
defined_is [] name = refl
defined_is (p ∷ rest) name = by (defines_it p) ∙ ap (λ b. defines_named name p || b) (defined_is rest name)
  where
    by : (b : Bool) → is_in (if b then (its_name p ∷ defined_names rest) else defined_names rest) name ≡ ((b && bytes_eq (its_name p) name) || is_in (defined_names rest) name)
    by true = refl
    by false = refl

-- a name that is defined nowhere, by the list of defined names
pub undefined_is : (all : List Placed) (i : Placed) → find (is_undefined (defined_names all)) i.uses ≡ undefined_use all i
undefined_is all i = ap (λ p. find p i.uses) (λ j name. not (is_library name) && not (defined_is all name j))

pub breaks : (all before : List Placed) (i : Placed) (u s : Option (List ℕ)) (d t : Bool) → undefined_use all i ≡ u → second_definition before i ≡ s
    → IsTrue d ↔ Differs before i → list_any (other_type i) before ≡ t → Breaks all before i (first_of (its_name i) u s d t)
breaks all before i (Some name) s d t e f g h = undefined name e
breaks all before i None (Some name) d t e f g h = twice name e f
breaks all before i None None true t e f g h = shared e f (g.0 refl)
breaks all before i None None false true e f g h = typed e f (λ x. no-truth (g.1 x)) h
breaks all before i None None false false e f g h = kept e f (λ x. no-truth (g.1 x)) h
