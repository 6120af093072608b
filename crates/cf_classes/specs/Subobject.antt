-- The subobjects of a class, by their paths (10).
use Rattle.std.specs.Prelude.{ℕ, ◌+◌, Bool, true, false, not, ◌==◌, ◌&&◌, if◌then◌else◌, List, [], ◌∷◌, ◌++◌, map, filter, slice_get}
use Rattle.std.specs.List.{flat_map, list_any}
use Rattle.std.specs.Option.{option_map_or}
use Rattle.cf_classes.specs.declared.path.Step.{Step}
use Rattle.cf_classes.specs.declared.path.Step.TheVariants.{Base, VBase}
use Rattle.cf_classes.specs.declared.class.ClassDef.{ClassDef}
use Rattle.cf_classes.specs.declared.class.BaseDef.{BaseDef}
use Rattle.cf_classes.specs.ClassTable.{made, bases_of}

-- a path and then another one: all routes to a virtual base are one path
abbrev pub join : List Step → List Step → List Step
join p [] = p
join p (Base i ∷ r) = p ++ (Base i ∷ r)
join p (VBase v ∷ r) = VBase v ∷ r

-- through the direct bases that are not virtual, from this number on
abbrev through : (ℕ → List (List Step)) → ℕ → List BaseDef → List (List Step)
through rec i [] = []
through rec i (b ∷ bs) = (if b.is_virtual then [] else map (λ r. Base i ∷ r) (rec b.class)) ++ through rec (i + 1) bs

-- the paths without a virtual base: of the class, then of each base in order
abbrev pub nonvirtual_paths : List (ℕ × ClassDef) → ℕ → List (List Step)
nonvirtual_paths defs c = made ([] ∷ []) (λ rec def. [] ∷ through rec 0 def.bases) defs c

-- each item once, where it stands first
abbrev pub distinct : List ℕ → List ℕ
distinct [] = []
distinct (x ∷ xs) = x ∷ filter (λ y. not (y == x)) (distinct xs)

-- the virtual bases, depth first and left to right, each after its own
abbrev pub virtual_bases : List (ℕ × ClassDef) → ℕ → List ℕ
virtual_bases defs c =
    made [] (λ rec def. distinct (flat_map (λ b. rec b.class ++ (if b.is_virtual then b.class ∷ [] else [])) def.bases)) defs c

-- the paths of a class in order: those without a virtual base, then those of each virtual base
abbrev pub paths : List (ℕ × ClassDef) → ℕ → List (List Step)
paths defs c = nonvirtual_paths defs c ++ flat_map (λ v. map (λ r. VBase v ∷ r) (nonvirtual_paths defs v)) (virtual_bases defs c)

-- the class of the subobject at a path
abbrev pub class_at : List (ℕ × ClassDef) → ℕ → List Step → ℕ
class_at defs c [] = c
class_at defs c (Base i ∷ p) = class_at defs (option_map_or (λ b. b.class) (slice_get (bases_of defs c) i) c) p
class_at defs c (VBase v ∷ p) = class_at defs v p

abbrev pub same_step : Step → Step → Bool
same_step (Base i) (Base j) = i == j
same_step (VBase v) (VBase w) = v == w
same_step s t = false

abbrev pub same_path : List Step → List Step → Bool
same_path [] [] = true
same_path (s ∷ p) (t ∷ q) = same_step s t && same_path p q
same_path p q = false

-- whether the subobject at p is part of the one at q, or is it
abbrev pub lies_in : List (ℕ × ClassDef) → ℕ → List Step → List Step → Bool
lies_in defs c p q = list_any (λ r. same_path p (join q r)) (paths defs (class_at defs c q))
