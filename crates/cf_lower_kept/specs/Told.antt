-- When lowering tells of a register what the plain definition tells of it.
use Rattle.std.specs.Prelude.{◌≡◌, ℕ, Bool, true, false, ◌&&◌, Option, Some, None, slice_get, ◌⊎◌}
use Rattle.cf_base.specs.declared.kind.Kind.{Kind}
use Rattle.cf_core.specs.Types.{SourceType, without_const}
use Rattle.cf_lower_layout.specs.Sorts.{sort_to}
use Rattle.cf_plain.specs.Plain.{Register, Plain, Plains, branch, parts, nothing, more}
use Rattle.cf_plain_kept.specs.Kept as plain
use Rattle.cf_lower.specs.Kept.{Kept, unknown, integer_of, holds, Keeping, Locals, declared_kept, both_kept}

-- a number that each of these kinds has, and maybe others
pub record IsInteger (f : Kind → Bool) (y : Kept) : Type 0 where
  pub kinds : Kind → Bool
  pub is : y ≡ integer_of kinds
  pub has : (k : Kind) → f k ≡ true → kinds k ≡ true

-- the object of a local of this number, which is of this very type
pub record IsObject (locals : Locals) (i : ℕ) (t : SourceType) (y : Kept) : Type 0 where
  pub there : slice_get locals.types i ≡ Some t
  pub is : y ≡ declared_kept locals i t

module _ (locals : Locals) where
  -- of a value that nothing can use, or of a pointer to a member, nothing is asked
  abbrev pub Told : plain.Kept → Kept → Type 0
  Told plain.no_value y = Unit {0}
  Told (plain.an_integer f) y = IsInteger f y
  Told (plain.a_place t) y = y ≡ holds (sort_to (without_const t))
  Told (plain.a_member t) y = Unit {0}
  Told (plain.an_object i t) y = IsObject locals i t y

  -- what is told, if it is
  abbrev pub ToldIf : Option plain.Kept → Kept → Type 0
  ToldIf None y = Unit {0}
  ToldIf (Some x) y = Told x y

  -- of every register
  abbrev pub AllTold : plain.Keeping → Keeping → Type 0
  AllTold g h = (r : Register) → ToldIf (g r) (h r)

  -- behind statements that fall through
  abbrev pub AllToldIf : Option plain.Keeping → Keeping → Type 0
  AllToldIf None h = Unit {0}
  AllToldIf (Some g) h = AllTold g h

-- what is kept joins itself: it is no number told as what a pointer is
abbrev pub Joins : Kept → Type 0
Joins x = both_kept x x ≡ x

abbrev pub AllJoin : Keeping → Type 0
AllJoin g = (r : Register) → Joins (g r)

-- of each register the second tells what the first does, or nothing
abbrev pub TellsLess : Keeping → Keeping → Type 0
TellsLess g h = (r : Register) → (h r ≡ unknown) ⊎ (g r ≡ h r)

-- whether no parts of a constructor are built
abbrev mutual
  pub builds_none : Plain → Bool
  builds_none (branch r ss ts) = none_builds ss && none_builds ts
  builds_none (parts ps) = false
  builds_none s = true

  pub none_builds : Plains → Bool
  none_builds nothing = true
  none_builds (more s ss) = builds_none s && none_builds ss
