-- Overriders of a root over all subobjects of its class, and abstract classes, by evaluation.
use Rattle.std.proofs.Common.{◌≡◌, ℕ, true, false, List, [], ◌∷◌, refl, codes}
use Rattle.cf_classes.specs.declared.path.Step.TheVariants.{Base}
use Rattle.cf_classes.specs.declared.class.ClassDef.{ClassDef}
use Rattle.cf_classes.specs.declared.class.MemberRef.{MemberRef}
use Rattle.cf_classes.specs.Overrider.{One, Many, overrider, is_abstract, has_overriders}
use Rattle.cf_classes.proofs.Examples.{types, field, plain, virtual_function, pure_function, virtual_destructor, destructor, from, struct_of, diamond, two_parts}

abbrev first_of : ℕ → MemberRef
first_of c = record { class = c; index = 0 }

-- V's function along both routes to the one virtual base: A overrides it
one_virtual_part : overrider types (diamond (virtual_function (codes "f") ∷ []) (plain (codes "f") ∷ []) [] []) 3 (first_of 0) ≡ One (Base 0 ∷ []) (first_of 1)
one_virtual_part = refl

-- two parts of class V have each a function of their own
two_parts_differ : overrider types (two_parts (virtual_function (codes "f") ∷ [])) 3 (first_of 0) ≡ Many
two_parts_differ = refl

-- a function of the whole object overrides both
abbrev two_parts_overridden : List (ℕ × ClassDef)
two_parts_overridden =
    (3, struct_of (from 1 ∷ from 2 ∷ []) (plain (codes "f") ∷ [])) ∷ (2, struct_of (from 0 ∷ []) []) ∷ (1, struct_of (from 0 ∷ []) [])
    ∷ (0, struct_of [] (virtual_function (codes "f") ∷ [])) ∷ []

two_parts_agree : overrider types two_parts_overridden 3 (first_of 0) ≡ One [] (first_of 3)
two_parts_agree = refl

-- two overriders, neither of which is part of the other's class: the class has no single final overrider
no_single_overrider : has_overriders types (diamond (virtual_function (codes "f") ∷ []) (plain (codes "f") ∷ []) (plain (codes "f") ∷ []) []) 3 ≡ false
no_single_overrider = refl

single_overriders : has_overriders types (diamond (virtual_function (codes "f") ∷ []) (plain (codes "f") ∷ []) [] []) 3 ≡ true
single_overriders = refl

-- two parts of one class are no ambiguity of overriders
two_parts_have_overriders : has_overriders types (two_parts (virtual_function (codes "f") ∷ [])) 3 ≡ true
two_parts_have_overriders = refl

-- a pure function makes its class abstract, and a derived class that does not override it
abbrev with_pure : List (ℕ × ClassDef)
with_pure =
    (2, struct_of (from 1 ∷ []) (plain (codes "f") ∷ [])) ∷ (1, struct_of (from 0 ∷ []) (plain (codes "g") ∷ []))
    ∷ (0, struct_of [] (field (codes "a") 1 ∷ pure_function (codes "f") ∷ [])) ∷ []

pure_is_abstract : is_abstract types with_pure 0 ≡ true
pure_is_abstract = refl

inherited_pure_is_abstract : is_abstract types with_pure 1 ≡ true
inherited_pure_is_abstract = refl

overridden_pure_is_not_abstract : is_abstract types with_pure 2 ≡ false
overridden_pure_is_not_abstract = refl

-- the function in A overrides the pure one of the virtual base, also for an object of class D
sister_makes_it_concrete : is_abstract types (diamond (pure_function (codes "f") ∷ []) (plain (codes "f") ∷ []) [] []) 3 ≡ false
sister_makes_it_concrete = refl

sister_itself_is_abstract : is_abstract types (diamond (pure_function (codes "f") ∷ []) (plain (codes "f") ∷ []) [] []) 2 ≡ true
sister_itself_is_abstract = refl

-- a needed generated destructor overrides a virtual one, and stands after the last member: B has a member with a destructor
abbrev with_destructors : List (ℕ × ClassDef)
with_destructors =
    (2, struct_of (from 1 ∷ []) (field (codes "a") 7 ∷ [])) ∷ (1, struct_of [] (virtual_destructor ∷ [])) ∷ (0, struct_of [] (destructor ∷ [])) ∷ []

generated_destructor_overrides : overrider types with_destructors 2 (first_of 1) ≡ One [] (record { class = 2; index = 1 })
generated_destructor_overrides = refl

-- it is a root itself, by that place
generated_destructor_as_root : overrider types with_destructors 2 (record { class = 2; index = 1 }) ≡ One [] (record { class = 2; index = 1 })
generated_destructor_as_root = refl
