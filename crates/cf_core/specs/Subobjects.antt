-- The subobjects of a class and their paths (10), and the final overrider of a virtual function (10.2).
use Rattle.std.specs.Prelude.{ℕ, zero, suc, Bool, true, false, ◌&&◌, not, ◌==◌, if◌then◌else◌, List, [], ◌∷◌, ◌++◌, Option, Some, None, bytes_eq, map, filter, find, length, is_some}
use Rattle.std.specs.List.{flat_map, list_any}
use Rattle.cf_core.specs.Types.{Name}
use Rattle.cf_core.specs.Classes.{Base, Class, MemberFunction, bases_of, declared}

-- one step from a class to a subobject: to the direct nonvirtual base of this number, or to this virtual base
pub data Step : Type 0 where
  base : ℕ → Step
  virtual : Name → Step

-- From a class to a subobject, the first step first. A step to a virtual base stands first and at most once.
abbrev pub Path : Type 0
Path = List Step

abbrev pub step_eq : Step → Step → Bool
step_eq (base i) (base j) = i == j
step_eq (virtual c) (virtual d) = bytes_eq c d
step_eq s t = false

abbrev pub path_eq : Path → Path → Bool
path_eq [] [] = true
path_eq (s ∷ p) (t ∷ q) = step_eq s t && path_eq p q
path_eq p q = false

-- The path p, and then r. All routes to a virtual base are one path: r alone where it begins with one.
abbrev pub joined : Path → Path → Path
joined p [] = p
joined p (base i ∷ r) = p ++ base i ∷ r
joined p (virtual c ∷ r) = virtual c ∷ r

-- a subobject of a class: its path and its own class
pub record Subobject : Type 0 where
  pub path : Path
  pub class : Name

abbrev pub after : Step → Subobject → Subobject
after s x = record x { path = s ∷ x.path }

-- what each nonvirtual base has, behind the step to it
abbrev pub of_bases : (Name → List Subobject) → List Base → ℕ → List Subobject
of_bases parts [] i = []
of_bases parts (b ∷ rest) i = (if b.is_virtual then [] else map (after (base i)) (parts b.class)) ++ of_bases parts rest (suc i)

-- The class, and then for each nonvirtual base its own. The count bounds the steps: bases are defined before their class, so as
-- many as there are classes are enough.
abbrev pub parts_within : ℕ → List Class → Name → List Subobject
parts_within zero classes c = []
parts_within (suc n) classes c = record { path = []; class = c } ∷ of_bases (parts_within n classes) (bases_of classes c) 0

abbrev pub parts : List Class → Name → List Subobject
parts classes c = parts_within (length classes) classes c

-- a virtual base joins those found so far, unless it is there
abbrev pub with_base : Base → List Name → List Name
with_base b found = if b.is_virtual && not (list_any (bytes_eq b.class) found) then found ++ b.class ∷ [] else found

abbrev pub with_bases : (Name → List Name → List Name) → List Base → List Name → List Name
with_bases inner [] found = found
with_bases inner (b ∷ rest) found = with_bases inner rest (with_base b (inner b.class found))

abbrev pub virtual_within : ℕ → List Class → Name → List Name → List Name
virtual_within zero classes c found = found
virtual_within (suc n) classes c found = with_bases (virtual_within n classes) (bases_of classes c) found

-- the virtual bases of a class, depth first and left to right, those of a virtual base before it (12.6.2)
abbrev pub virtual_bases : List Class → Name → List Name
virtual_bases classes c = virtual_within (length classes) classes c []

-- every subobject: the class, the parts of its nonvirtual bases, then its virtual bases with their parts
abbrev pub subobjects : List Class → Name → List Subobject
subobjects classes c =
    parts classes c ++ flat_map (λ v. map (after (virtual v)) (parts classes v)) (virtual_bases classes c)

-- the class at a path
abbrev pub class_at : List Class → Name → Path → Option Name
class_at classes c path = class_of_found (find (λ (x : Subobject). path_eq x.path path) (subobjects classes c))
  where
    class_of_found : Option Subobject → Option Name
    class_of_found None = None
    class_of_found (Some x) = Some x.class

-- whether the subobject at path p lies in the one at path q, whose class is given
abbrev pub lies_in : List Class → Name → Path → Path → Bool
lies_in classes class q p = list_any (λ (r : Subobject). path_eq (joined q r.path) p) (subobjects classes class)

-- the subobjects in which p lies and whose class declares a function of this signature
abbrev pub candidates : List Class → Name → Path → Name → List Subobject
candidates classes c p signature =
    filter (λ (s : Subobject). lies_in classes s.class s.path p && is_some (declared classes s.class signature)) (subobjects classes c)

-- A candidate is final where no other one lies outside it.
abbrev pub is_final : List Class → List Subobject → Subobject → Bool
is_final classes all s =
    not (list_any (λ (t : Subobject). not (path_eq t.path s.path) && lies_in classes t.class t.path s.path) all)

-- the function that a virtual call runs, and the path of the subobject that it is a member of
pub record Overrider : Type 0 where
  pub path : Path
  pub function : MemberFunction

abbrev pub overrider_of : List Class → Name → List Subobject → Option Overrider
overrider_of classes signature (s ∷ []) = elim (declared classes s.class signature) [ None ↦ None | Some f ↦ Some (record { path = s.path; function = f }) ]
overrider_of classes signature all = None

-- The final overrider in class c of the function of this signature at the subobject p (10.2): the one final candidate.
abbrev pub final_overrider : List Class → Name → Path → Name → Option Overrider
final_overrider classes c p signature =
    let all = candidates classes c p signature in
    overrider_of classes signature (filter (is_final classes all) all)
