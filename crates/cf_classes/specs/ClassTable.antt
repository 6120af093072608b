-- The classes and enumerations of a file.
use Rattle.std.specs.Prelude.{ℕ, true, false, ◌==◌, nat_eq, List, [], ◌∷◌, reverse, Option}
use Rattle.std.specs.Map.{lookup}
use Rattle.std.specs.Option.{option_map_or}
use Rattle.cf_classes.specs.declared.label.Label.{Label}
use Rattle.cf_classes.specs.declared.class.ClassDef.{ClassDef}
use Rattle.cf_classes.specs.declared.class.BaseDef.{BaseDef}
use Rattle.cf_classes.specs.declared.class.MemberDef.{MemberDef}

-- what classes and enumerations are called, in order of declaration; and each defined class with its definition, in order of definition
pub record ClassTable : Type 0 where
  pub labels : List Label
  pub enums : List Label
  pub defined : List (ℕ × ClassDef)

-- The definitions on classes go by the defined classes, latest first: a class's bases, and the classes of its data members, come later in this list.
abbrev pub latest_first : ClassTable → List (ℕ × ClassDef)
latest_first classes = reverse classes.defined

-- what each class has, made from its definition and from what the classes defined before it have
abbrev pub made : {A : Type 0} → A → ((ℕ → A) → ClassDef → A) → List (ℕ × ClassDef) → ℕ → A
made none make [] c = none
made {A} none make (d ∷ older) c = elim (c == d.0) as (λ _. A) [ true ↦ make (made none make older) d.1 | false ↦ made none make older c ]

-- the definition of a class
abbrev pub definition : List (ℕ × ClassDef) → ℕ → Option ClassDef
definition defs c = lookup (nat_eq c) defs

abbrev pub bases_of : List (ℕ × ClassDef) → ℕ → List BaseDef
bases_of defs c = option_map_or (λ def. def.bases) (definition defs c) []

abbrev pub members_of : List (ℕ × ClassDef) → ℕ → List MemberDef
members_of defs c = option_map_or (λ def. def.members) (definition defs c) []
