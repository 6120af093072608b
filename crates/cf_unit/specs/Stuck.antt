-- Where, in the braces of a phrase that is not spelled, an element has no spelling (17).
--
-- The tokens from some place up to a `{` begin a phrase; the elements behind that brace are read one after another, and the
-- first that has no spelling gives the place: a place inside its own braces where there is one, and else its first token.
use Rattle.std.specs.Prelude.{◌≡◌, ℕ, Bool, true, false, ◌⊎◌, List}
use Rattle.cf_tokens.specs.declared.token.Token.{Token}
use Rattle.cf_syntax.specs.NamesData.{Names}
use Rattle.cf_syntax.specs.Words.{place}
use Rattle.cf_unit.specs.Rule.{left_out, late, Rule, empty, exactly, expression, declarator, parameters, then, by, rather, unless, often, until, closed, twice, Begins, Taking, Element, AsOften, spells}

-- the place, and the names that are known there
pub record Spot : Type 0 where
  pub at : ℕ
  pub names : Names

abbrev pub Spotted : Type 1
Spotted = List Token → Spot → Type 0

abbrev pub Nowhere : Spotted → List Token → Type 0
Nowhere S ts = (p : Spot) → S ts p → ⊥

-- a place inside the element that begins there, or else its first token
abbrev pub Fails : Spotted → Names → Spotted
Fails S names ts p = S ts p ⊎ (Nowhere S ts × (p ≡ record { at = place ts; names = names }))

-- the same where the elements don't end
abbrev pub Unended : (List Token → Bool) → Spotted → Names → Spotted
Unended ends S names ts p = (ends ts ≡ false) × Fails S names ts p

abbrev pub Stuck : {A : Type 0} → Rule A → Spotted
Stuck (empty x) ts p = ⊥
Stuck (exactly f) ts p = ⊥
Stuck (expression form names) ts p = ⊥
Stuck (declarator names) ts p = ⊥
Stuck (parameters names) ts p = ⊥
Stuck (then {A = A} g h) ts p = Stuck g ts p ⊎ (Nowhere (Stuck g) ts × ((a : A) × (mid : List Token) × spells g ts a mid × Stuck (h a) mid p))
Stuck (by test g h) ts p = ((test ts ≡ true) × Stuck g ts p) ⊎ ((test ts ≡ false) × Stuck h ts p)
Stuck (rather g h) ts p = (Begins (spells (rather g h)) ts → ⊥) × (Stuck g ts p ⊎ (Nowhere (Stuck g) ts × Stuck h ts p))
Stuck (unless g h) ts p = (Begins (spells g) ts → ⊥) × Stuck h ts p
-- where no further one is there
Stuck (often {A = A} step a) ts p = (b : A) × (mid : List Token) × AsOften (λ c. Taking (spells (step c))) a ts b mid × Stuck (step b) mid p
Stuck (until {A = A} ends names step a) ts p = (b : A) × (mid : List Token) × AsOften (λ c. Element ends (spells (step c))) a ts b mid
    × Unended ends (Stuck (step b)) (names b) mid p
Stuck (closed g) ts p = ⊥
-- bodies before a member that has no spelling are read with the names that are known there
Stuck (twice {A = A} names step) ts p =
    ((a : A) × (mid : List Token) × spells (step left_out) ts a mid × Stuck (step (late (names a))) ts p)
    ⊎ ((Begins (spells (step left_out)) ts → ⊥) × ((q : Spot) × Stuck (step left_out) ts q × Stuck (step (late q.names)) ts p))
