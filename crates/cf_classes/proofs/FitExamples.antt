-- A class table in order, and types that fit it.
use Rattle.std.proofs.Common.{◌≡◌, ℕ, zero, suc, ◌<◌, ◌≤◌, [], ◌∷◌, length, take, ◌^◌, None, Some, All, IsTrue, refl, subst, codes, arith, lit≤}
use Rattle.std.specs.Option.{ForSome}
use Rattle.std.specs.List.{filter_map}
use Rattle.cf_base.specs.declared.kind.Kind.TheVariants as kind
use Rattle.cf_types.specs.declared.ty.Ty.{Ty}
use Rattle.cf_types.specs.declared.ty.Ty.TheVariants as ty
use Rattle.cf_types.specs.Table.{Table}
use Rattle.cf_classes.specs.declared.label.Label.{Label}
use Rattle.cf_classes.specs.declared.class.ClassDef.{ClassDef}
use Rattle.cf_classes.specs.declared.class.MemberDef.{MemberDef}
use Rattle.cf_classes.specs.ClassTable.{ClassTable, latest_first}
use Rattle.cf_classes.specs.TypeTree.{class_in}
use Rattle.cf_classes.specs.Special.{fields_of}
use Rattle.cf_classes.specs.Layout.{layout}
use Rattle.cf_classes.specs.Fit.{Fit, IsClassTable, Extends, IsOnce, is_among, class_of_type, enum_of_type, types_named}
use Rattle.cf_classes.proofs.Each.{each}
use Rattle.cf_classes.proofs.Examples.{field, from, struct_of}

module _ {A : Type 0} (P : A → Type 0) where
  of_none : All P []
  of_none k d w = absurd (omega arith)

  of_one : (x : A) → P x → All P (x ∷ [])
  of_one x h zero d w = h
  of_one x h (suc k) d w = absurd (omega arith)

  of_two : (x y : A) → P x → P y → All P (x ∷ y ∷ [])
  of_two x y h k zero d w = h
  of_two x y h k (suc i) d w = of_one y k i d (omega arith)

once_none : IsOnce []
once_none i j x h k = cc

once_one : (c : ℕ) → IsOnce (c ∷ [])
once_one c zero zero x h k = refl
once_one c zero (suc j) x h k = cc
once_one c (suc i) j x h k = cc

-- `struct A{int x;};struct B:A{A a;};`, and an enumeration E in A
abbrev first : ClassDef
first = struct_of [] (field (codes "x") 0 ∷ [])

abbrev second : ClassDef
second = struct_of (from 0 ∷ []) (field (codes "a") 1 ∷ [])

abbrev classes : ClassTable
classes = record {
  labels = record { name = codes "A"; outer = None } ∷ record { name = codes "B"; outer = None } ∷ [];
  enums = record { name = codes "E"; outer = Some 0 } ∷ [];
  defined = (0, first) ∷ (1, second) ∷ [];
}

abbrev types : Table
types = record { types = ty.Int kind.Int ∷ ty.Class 0 ∷ ty.Class 1 ∷ ty.Enum 0 ∷ []; funs = [] }

first_extends : Extends classes [] 0 first
first_extends = record {
  declared = lit≤ tt;
  is_new = refl;
  bases_defined = of_none (λ b. IsTrue (is_among [] b));
  bases_once = once_none;
  classes_known = of_none (λ d. d < length classes.labels);
}

second_extends : Extends classes ((0, first) ∷ []) 1 second
second_extends = record {
  declared = lit≤ tt;
  is_new = refl;
  bases_defined = of_one (λ b. IsTrue (is_among ((0, first) ∷ []) b)) 0 refl;
  bases_once = once_one 0;
  classes_known = of_one (λ d. d < length classes.labels) 0 (lit≤ tt);
}

abbrev outer_below : ℕ → Label → Type 0
outer_below n l = ForSome l.outer (λ outer. outer < n)

abbrev extends_at : ℕ → ℕ × ClassDef → Type 0
extends_at i d = Extends classes (take i classes.defined) d.0 d.1

in_order : IsClassTable classes
in_order = record {
  labels_in_order = each outer_below classes.labels ((λ x e. cc), ((λ x e. cc), tt));
  enums_inside = each (λ i l. outer_below (length classes.labels) l) classes.enums ((λ x e. let same : 0 ≡ x = cc in subst (λ n. n < length classes.labels) same (lit≤ tt)), tt);
  in_order = each extends_at classes.defined (first_extends, (second_extends, tt));
}

abbrev given : Ty → Type 0
given ty = All (λ c. c < length classes.labels) (class_of_type ty)

abbrev given_enum : Ty → Type 0
given_enum ty = All (λ e. e < length classes.enums) (enum_of_type ty)

abbrev exists : ℕ × ClassDef → Type 0
exists d = All (λ t. t < length types.types) (types_named d.1)

abbrev defined_before : ℕ → ℕ × ClassDef → Type 0
defined_before i d = All (λ c. IsTrue (is_among (take i classes.defined) c)) (filter_map (λ (m : MemberDef). class_in types m.ty) (fields_of d.1))

abbrev small : ℕ × ClassDef → Type 0
small d = (layout types (latest_first classes) d.0).whole.size ≤ 2 ^ 22

no_class : All (λ c. c < length classes.labels) []
no_class = of_none (λ c. c < length classes.labels)

one_class : (c : ℕ) → c < length classes.labels → All (λ c. c < length classes.labels) (c ∷ [])
one_class = of_one (λ c. c < length classes.labels)

no_enum : All (λ e. e < length classes.enums) []
no_enum = of_none (λ e. e < length classes.enums)

they_fit : Fit types classes
they_fit = record {
  classes_given =
      each (λ i ty. given ty) types.types
      (no_class, (one_class 0 (lit≤ tt), (one_class 1 (lit≤ tt), (no_class, tt))));
  enums_given =
      each (λ i ty. given_enum ty) types.types
      (no_enum, (no_enum, (no_enum, (of_one (λ e. e < length classes.enums) 0 (lit≤ tt), tt))));
  types_exist =
      each (λ i d. exists d) classes.defined
      (of_one (λ t. t < length types.types) 0 (lit≤ tt), (of_one (λ t. t < length types.types) 1 (lit≤ tt), tt));
  fields_defined =
      each defined_before classes.defined
      (of_none (λ c. IsTrue (is_among [] c)), (of_one (λ c. IsTrue (is_among ((0, first) ∷ []) c)) 0 refl, tt));
  sizes = each (λ i d. small d) classes.defined (lit≤ tt, (lit≤ tt, tt));
}
