-- Virtual tables: the function that each slot holds, and how far its object is from the place that owns the table (10.2).
use Rattle.std.specs.Prelude.{ℕ, Bool, true, false, ◌==◌, ◌&&◌, List, [], ◌∷◌, ◌++◌, map, filter, Option, None, Some, slice_get, ℤ, pos, ◌-ℤ◌}
use Rattle.std.specs.List.{find, flat_map}
use Rattle.std.specs.Option.{option_map_or}
use Rattle.cf_types.specs.Table.{Table}
use Rattle.cf_classes.specs.declared.path.Step.{Step}
use Rattle.cf_classes.specs.declared.path.Step.TheVariants.{Base}
use Rattle.cf_classes.specs.declared.class.ClassDef.{ClassDef}
use Rattle.cf_classes.specs.declared.class.BaseDef.{BaseDef}
use Rattle.cf_classes.specs.declared.class.MemberRef.{MemberRef}
use Rattle.cf_classes.specs.ClassTable.{members_of}
use Rattle.cf_classes.specs.Subobject.{paths, class_at, same_path, join}
use Rattle.cf_classes.specs.Lookup.{places_from}
use Rattle.cf_classes.specs.Signature.{introduces, inherited_virtuals}
use Rattle.cf_classes.specs.Layout.{offset}
use Rattle.cf_classes.specs.Overrider.{Override, One, Many, over, has_table, owns_table, primary_base, signature_at}

-- the primary base by its number and its class
abbrev primary_in : List BaseDef → Option ℕ → Option (ℕ × ℕ)
primary_in bases None = None
primary_in bases (Some i) = option_map_or (λ (b : BaseDef). Some (i, b.class)) (slice_get bases i) None

-- the virtual functions that a class introduces, by their places
abbrev introduced_places : Table → List (ℕ × ClassDef) → ℕ → List MemberRef
introduced_places types defs c = map (λ i. record { class = c; index = i }) (places_from (introduces types (inherited_virtuals types defs c)) 0 (members_of defs c))

abbrev after_primary : (ℕ → List MemberRef) → Option (ℕ × ℕ) → List MemberRef → List MemberRef
after_primary rec None own = own
after_primary rec (Some b) own = rec b.1 ++ own

-- the slots of a class: those of its primary base, and then what it introduces
abbrev pub slots : Table → List (ℕ × ClassDef) → ℕ → List MemberRef
slots types [] c = []
slots types (d ∷ older) c =
    elim (c == d.0) as (λ _. List MemberRef) [
      | true ↦ after_primary (slots types older) (primary_in d.1.bases (primary_base types (d ∷ older) c)) (introduced_places types (d ∷ older) c)
      | false ↦ slots types older c
    ]

abbrev to_primary : (ℕ → List Step) → Option (ℕ × ℕ) → List Step
to_primary rec None = []
to_primary rec (Some b) = Base b.0 ∷ rec b.1

-- the chain of primary bases from a class to the one that has the table pointer of its own
abbrev pub primary_chain : Table → List (ℕ × ClassDef) → ℕ → List Step
primary_chain types [] c = []
primary_chain types (d ∷ older) c =
    elim (c == d.0) as (λ _. List Step) [
      | true ↦ to_primary (primary_chain types older) (primary_in d.1.bases (primary_base types (d ∷ older) c))
      | false ↦ primary_chain types older c
    ]

-- whether the chain from the subobject at s of an object of class q leads to the one at r
abbrev leads_to : Table → List (ℕ × ClassDef) → ℕ → List Step → List Step → Bool
leads_to types defs q r s = let c = class_at defs q s in has_table types defs c && same_path (join s (primary_chain types defs c)) r

-- the slots of the table at r: those of the outermost class inside q whose chain leads to r
abbrev pub slots_at : Table → List (ℕ × ClassDef) → ℕ → List Step → List MemberRef
slots_at types defs q r = option_map_or (λ s. slots types defs (class_at defs q s)) (find (leads_to types defs q r) (paths defs q)) []

-- what a slot holds: a function, and how far its object is from the place of the table
pub record Slot : Type 0 where
  pub member : MemberRef
  pub delta : ℤ

abbrev slot_of : Table → List (ℕ × ClassDef) → ℕ → List Step → List Step → Override → Option Slot
slot_of types defs c q r (One s m) = Some (record { member = m; delta = pos (offset types defs c (join q s)) -ℤ pos (offset types defs c (join q r)) })
slot_of types defs c q r Many = None

-- the slot of a function in the table at r, while the part at q of an object of class c is the active one
abbrev pub slot : Table → List (ℕ × ClassDef) → ℕ → List Step → List Step → MemberRef → Option Slot
slot types defs c q r root = slot_of types defs c q r (over types defs (class_at defs c q) r (signature_at types defs root))

-- the table at a place, while a part is active
pub record VirtualTable : Type 0 where
  pub active : List Step
  pub place : List Step
  pub slots : List (Option Slot)

abbrev table_at : Table → List (ℕ × ClassDef) → ℕ → List Step → List Step → VirtualTable
table_at types defs c q r = record { active = q; place = join q r; slots = map (slot types defs c q r) (slots_at types defs (class_at defs c q) r) }

-- the tables of a class: for each of its subobjects as the active part, one for each place in it that has a table pointer of its own
abbrev pub tables : Table → List (ℕ × ClassDef) → ℕ → List VirtualTable
tables types defs c =
    flat_map
    (λ q.
    let part = class_at defs c q in map (table_at types defs c q) (filter (λ r. owns_table types defs (class_at defs part r)) (paths defs part)))
    (paths defs c)
