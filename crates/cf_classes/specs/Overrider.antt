-- The final overrider of a virtual function, and the table pointers that lead to it (10.2).
use Rattle.std.specs.Prelude.{ℕ, ◌+◌, Bool, true, false, not, ◌==◌, ◌&&◌, ◌||◌, nat_le, if◌then◌else◌, List, [], ◌∷◌, ◌++◌, length, map, filter, Option, None, Some, slice_get}
use Rattle.std.specs.List.{list_any, list_all}
use Rattle.std.specs.Option.{option_map_or}
use Rattle.cf_types.specs.Table.{Table}
use Rattle.cf_classes.specs.declared.path.Step.{Step}
use Rattle.cf_classes.specs.declared.class.ClassDef.{ClassDef}
use Rattle.cf_classes.specs.declared.class.BaseDef.{BaseDef}
use Rattle.cf_classes.specs.declared.class.MemberRef.{MemberRef}
use Rattle.cf_classes.specs.ClassTable.{members_of, bases_of}
use Rattle.cf_classes.specs.Subobject.{paths, class_at, same_path, lies_in}
use Rattle.cf_classes.specs.Lookup.{places_from}
use Rattle.cf_classes.specs.Signature.{Signature, signature, destructor_signature, may_override, same_signature, declared_virtuals, introduced}
use Rattle.cf_classes.specs.Special.{Made, Generated, specials}

-- whether a class has a table pointer, its own or a nonvirtual base's
abbrev pub has_table : Table → List (ℕ × ClassDef) → ℕ → Bool
has_table types [] c = false
has_table types (d ∷ older) c =
    elim (c == d.0) as (λ _. Bool) [
      | true ↦ nat_le 1 (length (introduced types (d ∷ older) c)) || list_any (λ b. not b.is_virtual && has_table types older b.class) d.1.bases
      | false ↦ has_table types older c
    ]

-- it is the class's own where no direct nonvirtual base has one
abbrev pub owns_table : Table → List (ℕ × ClassDef) → ℕ → Bool
owns_table types defs c =
    nat_le 1 (length (introduced types defs c)) && not (list_any (λ b. not b.is_virtual && has_table types defs b.class) (bases_of defs c))

-- the first direct nonvirtual base that has a table pointer
abbrev primary_from : Table → List (ℕ × ClassDef) → ℕ → List BaseDef → Option ℕ
primary_from types defs i [] = None
primary_from types defs i (b ∷ bs) = if not b.is_virtual && has_table types defs b.class then Some i else primary_from types defs (i + 1) bs

abbrev pub primary_base : Table → List (ℕ × ClassDef) → ℕ → Option ℕ
primary_base types defs c = primary_from types defs 0 (bases_of defs c)

-- the overrider, by its path and its place in its class; or there is no single one
pub data Override : Type 0 where
  One : List Step → MemberRef → Override
  Many : Override

abbrev is_generated : Made → Bool
is_generated Generated = true
is_generated other = false

-- the place of a class's own function of this signature: a needed generated destructor stands after the last member
abbrev pub overriding_in : Table → List (ℕ × ClassDef) → Signature → ℕ → List ℕ
overriding_in types defs f c =
    let members = members_of defs c in
    places_from (λ m. may_override m && same_signature f (signature types m)) 0 members
    ++ (if same_signature f destructor_signature && is_generated (specials types defs c).destructor then length members ∷ [] else [])

abbrev nonempty : List ℕ → Bool
nonempty [] = false
nonempty (x ∷ xs) = true

-- the paths whose class declares the function and in which p lies
abbrev candidates : Table → List (ℕ × ClassDef) → ℕ → List Step → Signature → List (List Step)
candidates types defs c p f = filter (λ s. lies_in defs c p s && nonempty (overriding_in types defs f (class_at defs c s))) (paths defs c)

abbrev final : List (ℕ × ClassDef) → ℕ → List (List Step) → List (List Step)
final defs c ps = filter (λ s. not (list_any (λ t. lies_in defs c s t && not (same_path s t)) ps)) ps

abbrev at_place : List Step → ℕ → List ℕ → Override
at_place s c [] = Many
at_place s c (i ∷ is) = One s (record { class = c; index = i })

abbrev single : Table → List (ℕ × ClassDef) → ℕ → Signature → List (List Step) → Override
single types defs c f (s ∷ []) = at_place s (class_at defs c s) (overriding_in types defs f (class_at defs c s))
single types defs c f other = Many

-- the overrider of a virtual function of this signature, of the subobject at p of an object of class c
abbrev pub over : Table → List (ℕ × ClassDef) → ℕ → List Step → Signature → Override
over types defs c p f = single types defs c f (final defs c (candidates types defs c p f))

-- the signature of a member function, by its place; the place after the last member is that of the generated destructor
abbrev pub signature_at : Table → List (ℕ × ClassDef) → MemberRef → Signature
signature_at types defs root = option_map_or (signature types) (slice_get (members_of defs root.class) root.index) destructor_signature

abbrev same_override : Override → Override → Bool
same_override (One p m) (One q n) = same_path p q && (m.class == n.class) && (m.index == n.index)
same_override x y = false

abbrev agreed : List Override → Override
agreed [] = Many
agreed (x ∷ xs) = if list_all (same_override x) xs then x else Many

-- the overrider of a virtual function of a class, where it is the same for each subobject of that class
abbrev pub overrider : Table → List (ℕ × ClassDef) → ℕ → MemberRef → Override
overrider types defs c root =
    agreed (map (λ p. over types defs c p (signature_at types defs root)) (filter (λ p. class_at defs c p == root.class) (paths defs c)))

abbrev is_pure : List (ℕ × ClassDef) → Override → Bool
is_pure defs (One p m) = option_map_or (λ def. def.is_pure) (slice_get (members_of defs m.class) m.index) false
is_pure defs Many = false

abbrev is_many : Override → Bool
is_many (One p m) = false
is_many Many = true

-- whether the overrider of some virtual function of some subobject passes a test
abbrev some_overrider : Table → List (ℕ × ClassDef) → (Override → Bool) → ℕ → Bool
some_overrider types defs test c =
    list_any (λ p. list_any (λ f. test (over types defs c p (signature types f))) (declared_virtuals types defs (class_at defs c p))) (paths defs c)

-- a class is abstract if an overrider is pure (10.3)
abbrev pub is_abstract : Table → List (ℕ × ClassDef) → ℕ → Bool
is_abstract types defs c = some_overrider types defs (is_pure defs) c

-- and each virtual function of each subobject has a single overrider (10.2)
abbrev pub has_overriders : Table → List (ℕ × ClassDef) → ℕ → Bool
has_overriders types defs c = not (some_overrider types defs is_many c)
