-- Which of two conversions of one value is better (13.2).
use Rattle.std.specs.Prelude.{ℕ, Bool, true, false, not, ◌&&◌, nat_lt, if◌then◌else◌, List, [], ◌∷◌, Option, None, Some}
use Rattle.std.specs.Option.{option_map_or}
use Rattle.cf_types.specs.declared.ty.Ty.{Ty}
use Rattle.cf_types.specs.declared.ty.Ty.TheVariants as ty
use Rattle.cf_types.specs.Table.{Table}
use Rattle.cf_classes.specs.declared.class.ClassDef.{ClassDef}
use Rattle.cf_classes.specs.TypeTree.{of_type}
use Rattle.cf_convert.specs.declared.conv.ConvStep.{ConvStep}
use Rattle.cf_convert.specs.declared.conv.ConvStep.TheVariants.{ToVoid, ToBase, ToMember}
use Rattle.cf_convert.specs.Converts.{rank, adds_const, base_path}

-- whether b is a base of c
abbrev pub is_base_of : List (ℕ × ClassDef) → ℕ → ℕ → Bool
is_base_of defs b c = option_map_or (λ p. true) (base_path defs c b) false

-- the class that a type is, points or refers to, or has pointers to members of
abbrev class_step : (ℕ → Option ℕ) → Ty → Option ℕ
class_step rec (ty.Class c) = Some c
class_step rec (ty.Ptr t) = rec t
class_step rec (ty.Ref t) = rec t
class_step rec (ty.MemData c t) = Some c
class_step rec (ty.MemFun c f) = Some c
class_step rec (ty.Const t) = rec t
class_step rec other = None

abbrev pub class_reached : Table → ℕ → Option ℕ
class_reached types t = of_type None class_step types t

-- what a conversion goes to, where that counts: a base, `void*`, or a pointer to a member of a derived class
pub data Aim : Type 0 where
  Other : Aim
  Base : Option ℕ → Aim
  Void : Aim
  Derived : Option ℕ → Aim

-- of the conversion by these steps to a type
abbrev pub aim : Table → ℕ → List ConvStep → Aim
aim types to [] = Other
aim types to (ToBase p ∷ ss) = Base (class_reached types to)
aim types to (ToVoid ∷ ss) = Void
aim types to (ToMember p ∷ ss) = Derived (class_reached types to)
aim types to (s ∷ ss) = aim types to ss

-- the base that is derived from the other is nearer, and any base is nearer than `void*`; for pointers to members, the class that is a base of the other
abbrev pub is_nearer : List (ℕ × ClassDef) → Aim → Aim → Bool
is_nearer defs (Base (Some b)) (Base (Some d)) = is_base_of defs d b
is_nearer defs (Base b) Void = true
is_nearer defs (Derived (Some b)) (Derived (Some d)) = is_base_of defs b d
is_nearer defs a b = false

-- whether the conversion by the steps x to t is better than that by y to u: a lower rank; then less const; then the nearer class
abbrev pub is_better : Table → List (ℕ × ClassDef) → ℕ → List ConvStep → ℕ → List ConvStep → Bool
is_better types defs t x u y =
    if nat_lt (rank x) (rank y) then true
    else (if nat_lt (rank y) (rank x) then false
    else (if not (adds_const x) && adds_const y then true
    else (if adds_const x && not (adds_const y) then false else is_nearer defs (aim types t x) (aim types u y))))
