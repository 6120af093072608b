-- A file that is read is spelled, and one that is not read is stuck at a place.
use Rattle.std.proofs.Common.{◌≡◌, ℕ, suc, true, false, ◌⊎◌, inl, inr, List, [], ◌∷◌, length, Option, Some, None, refl, subst, sym, rules}
use Rattle.std.specs.Prelude.{IsSome}
use Rattle.cf_tokens.specs.declared.token.Token.{Token}
use Rattle.cf_syntax.specs.Names.{no_names}
use Rattle.cf_syntax.proofs.Good.{some-is-not-none, some-value}
use Rattle.cf_unit.specs.declared.file.Item.{Item}
use Rattle.cf_unit.specs.declared.file.Unit.{Unit as File}
use Rattle.cf_unit.specs.Rule.{spells}
use Rattle.cf_unit.specs.Read.{reading, stuck_at}
use Rattle.cf_unit.specs.Stuck.{Spot, Stuck}
use Rattle.cf_unit.specs.Known.{Known, in_block}
use Rattle.cf_unit.specs.Statements.{names_behind}
use Rattle.cf_unit.specs.Files.{at_end, by_tree, file, inner, next_item, SpellsFile}
use Rattle.cf_unit.specs.Nesting.{passes, unmatched}
use Rattle.cf_unit.specs.Answers.{IsUnit, accepted, refused, misspelled, spelled}
use Rattle.cf_unit.proofs.Exact.{exact}
use Rattle.cf_unit.proofs.Spots.{tells}
use Rattle.cf_unit.proofs.Whole.{some-way}
use Rattle.cf_parse_unit.specs.Whole.{Finds}
use Rattle.cf_stuck.specs.Place.{place_of, refused_at}

nothing-left : (rest : List Token) → at_end rest ≡ true → rest ≡ []
nothing-left [] e = refl
nothing-left (t ∷ ts) e = absurd (clash e)
  where
    clash : false ≡ true → ⊥
    clash q = cc

-- a file that is read is accepted
pub accepted-read : (ts : List Token) (f : File) → passes ts ≡ false → unmatched ts ≡ None → Finds (reading (file (length ts)) ts) f.items → IsUnit ts (accepted f)
accepted-read ts f n u found =
    let s = (exact (file (length ts))).sound ts (f.items, found.known) found.rest found.found in
    spelled f n u (found.known, subst (λ r. spells (file (length ts)) ts (f.items, found.known) r) (nothing-left found.rest s.1) s)

-- one that is stuck is refused there
pub refused-there : (ts : List Token) (p : Spot) → passes ts ≡ false → unmatched ts ≡ None → stuck_at (file (length ts)) ts ≡ Some p → IsUnit ts (refused p.at)
refused-there ts p n u e = misspelled p n u ((tells (file (length ts))).sound ts p e)

-- one that is not read is stuck
pub stuck-somewhere : (ts : List Token) → reading (file (length ts)) ts ≡ None → (p : Spot) × (stuck_at (file (length ts)) ts ≡ Some p)
stuck-somewhere ts none = by-way (some-way at_end names_behind (next_item (inner by_tree (suc (length ts)))) ([], in_block no_names) ts)
  where
    by-way : ((x : List Item × Known) × (rest : List Token) × spells (file (length ts)) ts x rest) ⊎ ((p : Spot) × Stuck (file (length ts)) ts p)
        → (p : Spot) × (stuck_at (file (length ts)) ts ≡ Some p)
    by-way (inl (x, rest, s)) = some-is-not-none (reading (file (length ts)) ts) (x, rest) none ((exact (file (length ts))).complete ts x rest s)
    by-way (inr (p, s)) = (p, (tells (file (length ts))).complete ts p s)

none-placed : {P : Type 0} (at : ℕ) → place_of None ≡ Some at → P
none-placed at e = some-is-not-none (place_of None) at refl e

-- the place that is told is that where it is refused
pub refused-at : (ts : List Token) (at : ℕ) → passes ts ≡ false → unmatched ts ≡ None → refused_at ts ≡ Some at → IsUnit ts (refused at)
refused-at ts at n u e = by-spot (stuck_at (file (length ts)) ts) refl e
  where
    by-spot : (o : Option Spot) → stuck_at (file (length ts)) ts ≡ o → place_of o ≡ Some at → IsUnit ts (refused at)
    by-spot None is h = none-placed at h
    by-spot (Some p) is h = subst (λ a. IsUnit ts (refused a)) (some-value p.at at h) (refused-there ts p n u is)

-- a file that is not read has a place
pub some-place : (ts : List Token) → reading (file (length ts)) ts ≡ None → IsSome (refused_at ts)
some-place ts none = let s = stuck-somewhere ts none in subst (λ o. IsSome (place_of o)) (sym s.1) (search rules)
