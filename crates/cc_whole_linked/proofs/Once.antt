-- Units make at most one program or refusal.
use Rattle.std.proofs.Common.{◌≡◌, Bool, true, false, List, Option, Some, None, Result, Err, refl, ap, sym, ◌∙◌}
use Rattle.std.specs.List.{list_any}
use Rattle.cc_whole.specs.declared.unit.CUnit.{CUnit}
use Rattle.cc_whole.specs.declared.unit.CProgram.{CProgram}
use Rattle.cc_whole_link.specs.Placed.{Placed, placed_units}
use Rattle.cc_whole_link.specs.Link as link
use Rattle.cc_whole_linked.specs.Limited.{LinkAnswer, limited, LinksWithin}
use Rattle.cc_whole_link.specs.Link.{Refusal, refusal, other_version, undefined_use, second_definition, Differs, other_type, Breaks, FirstBroken, Links}

same-some : {A : Type 0} (o : Option A) (a b : A) → o ≡ Some a → o ≡ Some b → a ≡ b
same-some o a b e h = let is : Some a ≡ Some b = sym e ∙ h in cc

never-both : {A : Type 0} (o : Option A) (a : A) → o ≡ Some a → o ≡ None → ⊥
never-both o a e h = let is : Some a ≡ None = sym e ∙ h in cc

true-or_false : (b : Bool) → b ≡ true → b ≡ false → ⊥
true-or_false b e h = let is : true ≡ false = sym e ∙ h in cc

module _ (all before_it : List Placed) (i : Placed) where
  breaks-once : {r s : Option Refusal} → Breaks all before_it i r → Breaks all before_it i s → r ≡ s
  breaks-once (link.Breaks.undefined name e) (link.Breaks.undefined other h) = ap (λ n. Some (refusal 1 n)) (same-some (undefined_use all i) name other e h)
  breaks-once (link.Breaks.undefined name e) (link.Breaks.twice other h k) = absurd (never-both (undefined_use all i) name e h)
  breaks-once (link.Breaks.undefined name e) (link.Breaks.shared h k d) = absurd (never-both (undefined_use all i) name e h)
  breaks-once (link.Breaks.undefined name e) (link.Breaks.typed h k d t) = absurd (never-both (undefined_use all i) name e h)
  breaks-once (link.Breaks.undefined name e) (link.Breaks.kept h k d t) = absurd (never-both (undefined_use all i) name e h)
  breaks-once (link.Breaks.twice name e f) (link.Breaks.undefined other h) = absurd (never-both (undefined_use all i) other h e)
  breaks-once (link.Breaks.twice name e f) (link.Breaks.twice other h k) = ap (λ n. Some (refusal 2 n)) (same-some (second_definition before_it i) name other f k)
  breaks-once (link.Breaks.twice name e f) (link.Breaks.shared h k d) = absurd (never-both (second_definition before_it i) name f k)
  breaks-once (link.Breaks.twice name e f) (link.Breaks.typed h k d t) = absurd (never-both (second_definition before_it i) name f k)
  breaks-once (link.Breaks.twice name e f) (link.Breaks.kept h k d t) = absurd (never-both (second_definition before_it i) name f k)
  breaks-once (link.Breaks.shared e f d) (link.Breaks.undefined other h) = absurd (never-both (undefined_use all i) other h e)
  breaks-once (link.Breaks.shared e f d) (link.Breaks.twice other h k) = absurd (never-both (second_definition before_it i) other k f)
  breaks-once (link.Breaks.shared e f d) (link.Breaks.shared h k c) = refl
  breaks-once (link.Breaks.shared e f d) (link.Breaks.typed h k none t) = absurd (none d)
  breaks-once (link.Breaks.shared e f d) (link.Breaks.kept h k none t) = absurd (none d)
  breaks-once (link.Breaks.typed e f none t) (link.Breaks.undefined other h) = absurd (never-both (undefined_use all i) other h e)
  breaks-once (link.Breaks.typed e f none t) (link.Breaks.twice other h k) = absurd (never-both (second_definition before_it i) other k f)
  breaks-once (link.Breaks.typed e f none t) (link.Breaks.shared h k d) = absurd (none d)
  breaks-once (link.Breaks.typed e f none t) (link.Breaks.typed h k n u) = refl
  breaks-once (link.Breaks.typed e f none t) (link.Breaks.kept h k n u) = absurd (true-or_false (list_any (other_type i) before_it) t u)
  breaks-once (link.Breaks.kept e f none t) (link.Breaks.undefined other h) = absurd (never-both (undefined_use all i) other h e)
  breaks-once (link.Breaks.kept e f none t) (link.Breaks.twice other h k) = absurd (never-both (second_definition before_it i) other k f)
  breaks-once (link.Breaks.kept e f none t) (link.Breaks.shared h k d) = absurd (none d)
  breaks-once (link.Breaks.kept e f none t) (link.Breaks.typed h k n u) = absurd (true-or_false (list_any (other_type i) before_it) u t)
  breaks-once (link.Breaks.kept e f none t) (link.Breaks.kept h k n u) = refl

first-once : (all : List Placed) {before_it items : List Placed} {r s : Option Refusal} → FirstBroken all before_it items r → FirstBroken all before_it items s → r ≡ s
first-once all (link.FirstBroken.none before_it) (link.FirstBroken.none same) = refl
first-once all (link.FirstBroken.here before_it i rest r b) (link.FirstBroken.here same j others s c) = breaks-once all before_it i b c
first-once all (link.FirstBroken.here before_it i rest r b) (link.FirstBroken.later same j others s c d) =
    let bad : Some r ≡ None = breaks-once all before_it i b c in absurd (cc)
first-once all (link.FirstBroken.later before_it i rest r b f) (link.FirstBroken.here same j others s c) =
    let bad : None ≡ Some s = breaks-once all before_it i b c in absurd (cc)
first-once all (link.FirstBroken.later before_it i rest r b f) (link.FirstBroken.later same j others s c d) = first-once all f d

pub links-once : (units : List CUnit) (r s : Result CProgram Refusal) → Links units r → Links units s → r ≡ s
links-once units r s (link.Links.version name e) (link.Links.version other h) = ap (λ n. Err (refusal 6 n)) (same-some (other_version units) name other e h)
links-once units r s (link.Links.version name e) (link.Links.broken b h f) = absurd (never-both (other_version units) name e h)
links-once units r s (link.Links.version name e) (link.Links.linked h f) = absurd (never-both (other_version units) name e h)
links-once units r s (link.Links.broken b e f) (link.Links.version other h) = absurd (never-both (other_version units) other h e)
links-once units r s (link.Links.broken b e f) (link.Links.broken c h g) =
    let same : Some b ≡ Some c = first-once (placed_units 1 units) f g in ap Err (let is : b ≡ c = cc in is)
links-once units r s (link.Links.broken b e f) (link.Links.linked h g) = let bad : Some b ≡ None = first-once (placed_units 1 units) f g in absurd (cc)
links-once units r s (link.Links.linked e f) (link.Links.version other h) = absurd (never-both (other_version units) other h e)
links-once units r s (link.Links.linked e f) (link.Links.broken c h g) = let bad : None ≡ Some c = first-once (placed_units 1 units) f g in absurd (cc)
links-once units r s (link.Links.linked e f) (link.Links.linked h g) = refl

pub limited-once : (units : List CUnit) (a b : LinkAnswer) → LinksWithin units a → LinksWithin units b → a ≡ b
limited-once units a b w v = w.answers ∙ ap limited (links-once units w.made v.made w.links v.links) ∙ sym v.answers
