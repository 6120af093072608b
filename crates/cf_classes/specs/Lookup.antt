-- Lookup of a member's name: a name in a class dominates the same name in its bases (10.1.1).
use Rattle.std.specs.Prelude.{ℕ, ◌+◌, Bool, true, false, not, ◌==◌, ◌&&◌, nat_eq, if◌then◌else◌, List, [], ◌∷◌, ◌++◌, map, filter}
use Rattle.std.specs.Cmp.Lexicographic.{pointwise}
use Rattle.std.specs.List.{list_any, list_all}
use Rattle.cf_classes.specs.declared.path.Step.{Step}
use Rattle.cf_classes.specs.declared.class.ClassDef.{ClassDef}
use Rattle.cf_classes.specs.declared.class.MemberDef.{MemberDef}
use Rattle.cf_classes.specs.declared.class.MemberRef.{MemberRef}
use Rattle.cf_classes.specs.declared.class.What.{What}
use Rattle.cf_classes.specs.declared.class.What.TheVariants as what
use Rattle.cf_classes.specs.ClassTable.{members_of}
use Rattle.cf_classes.specs.Subobject.{paths, class_at, same_path, lies_in}

-- one entity, with the members of this name at its path; none; or an ambiguity
pub data Look : Type 0 where
  One : List Step → List MemberRef → Look
  Nothing : Look
  Many : Look

abbrev pub same_name : List ℕ → List ℕ → Bool
same_name a b = pointwise nat_eq a b

-- the members that pass a test, from this number on
abbrev pub places_from : (MemberDef → Bool) → ℕ → List MemberDef → List ℕ
places_from test i [] = []
places_from test i (m ∷ ms) = (if test m then i ∷ [] else []) ++ places_from test (i + 1) ms

-- the members of this name that a class itself declares
abbrev pub named : List (ℕ × ClassDef) → List ℕ → ℕ → List MemberRef
named defs name c = map (λ i. record { class = c; index = i }) (places_from (λ m. same_name m.name name) 0 (members_of defs c))

abbrev pub declares : List (ℕ × ClassDef) → List ℕ → ℕ → Bool
declares defs name c = list_any (λ m. same_name m.name name) (members_of defs c)

-- the paths where the name is declared, and of those the ones that lie in no other
abbrev declaring : List (ℕ × ClassDef) → ℕ → List ℕ → List (List Step)
declaring defs c name = filter (λ p. declares defs name (class_at defs c p)) (paths defs c)

abbrev pub undominated : List (ℕ × ClassDef) → ℕ → List (List Step) → List (List Step)
undominated defs c ps = filter (λ p. not (list_any (λ q. lies_in defs c p q && not (same_path p q)) ps)) ps

-- a static member, a type or an enumerator is one entity, however many paths lead to it
abbrev is_shared_kind : What → Bool → Bool
is_shared_kind (what.Nested c) static = true
is_shared_kind (what.Enumerator v) static = true
is_shared_kind what.Alias static = true
is_shared_kind other static = static

abbrev is_one_shared : List MemberDef → Bool
is_one_shared (m ∷ []) = is_shared_kind m.what m.is_static
is_one_shared other = false

abbrev looked : List (ℕ × ClassDef) → ℕ → List ℕ → List (List Step) → Look
looked defs c name [] = Nothing
looked defs c name (p ∷ []) = One p (named defs name (class_at defs c p))
looked defs c name (p ∷ q ∷ rest) =
    let shared = is_one_shared (filter (λ m. same_name m.name name) (members_of defs (class_at defs c p))) in
    let alike = list_all (λ r. class_at defs c r == class_at defs c p) (q ∷ rest) in
    if shared && alike then One p (named defs name (class_at defs c p)) else Many

abbrev pub found : List (ℕ × ClassDef) → ℕ → List ℕ → Look
found defs c name = looked defs c name (undominated defs c (declaring defs c name))
