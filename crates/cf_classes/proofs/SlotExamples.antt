-- Virtual tables of small classes, by evaluation.
use Rattle.std.proofs.Common.{◌≡◌, ℕ, List, [], ◌∷◌, Option, None, Some, ℤ, pos, negsuc, refl, codes}
use Rattle.cf_classes.specs.declared.path.Step.{Step}
use Rattle.cf_classes.specs.declared.path.Step.TheVariants.{Base, VBase}
use Rattle.cf_classes.specs.declared.class.ClassDef.{ClassDef}
use Rattle.cf_classes.specs.declared.class.MemberRef.{MemberRef}
use Rattle.cf_classes.specs.Slots.{slots, tables, Slot, VirtualTable}
use Rattle.cf_classes.proofs.Examples.{types, field, plain, virtual_function, from, struct_of, diamond}
use Rattle.cf_classes.proofs.LayoutExamples.{two_bases, two_tables}

abbrev member : ℕ → ℕ → MemberRef
member c i = record { class = c; index = i }

abbrev holds : MemberRef → ℤ → Option Slot
holds m delta = Some (record { member = m; delta = delta })

abbrev table : List Step → List Step → List (Option Slot) → VirtualTable
table q p entries = record { active = q; place = p; slots = entries }

-- C uses the table pointer of A: one table while C is active, and one while A is
tables_of_two_bases : tables types two_bases 2 ≡ table [] (Base 0 ∷ []) (holds (member 0 1) (pos 0) ∷ []) ∷ table (Base 0 ∷ []) (Base 0 ∷ []) (holds (member 0 1) (pos 0) ∷ []) ∷ []
tables_of_two_bases = refl

-- with C active the slot of B holds C's function, 8 bytes before it; with B active its own
tables_of_second_base :
    tables types two_tables 2
    ≡ table [] (Base 0 ∷ []) (holds (member 0 0) (pos 0) ∷ []) ∷ table [] (Base 1 ∷ []) (holds (member 2 1) (negsuc 7) ∷ [])
    ∷ table (Base 0 ∷ []) (Base 0 ∷ []) (holds (member 0 0) (pos 0) ∷ [])
    ∷ table (Base 1 ∷ []) (Base 1 ∷ []) (holds (member 1 0) (pos 0) ∷ [])
    ∷ []
tables_of_second_base = refl

-- the slots of the primary base come first, then what the class introduces; an override has no slot of its own
abbrev more_functions : List (ℕ × ClassDef)
more_functions =
    (1, struct_of (from 0 ∷ []) (virtual_function (codes "h") ∷ plain (codes "f") ∷ [])) ∷ (0, struct_of [] (virtual_function (codes "f") ∷ virtual_function (codes "g") ∷ [])) ∷ []

slots_of_derived : slots types more_functions 1 ≡ member 0 0 ∷ member 0 1 ∷ member 1 0 ∷ []
slots_of_derived = refl

-- while the derived class is active, the base's table has the slot that it introduces too
table_of_derived :
    tables types more_functions 1
    ≡ table [] (Base 0 ∷ []) (holds (member 1 1) (pos 0) ∷ holds (member 0 1) (pos 0) ∷ holds (member 1 0) (pos 0) ∷ [])
    ∷ table (Base 0 ∷ []) (Base 0 ∷ []) (holds (member 0 0) (pos 0) ∷ holds (member 0 1) (pos 0) ∷ [])
    ∷ []
table_of_derived = refl

-- `struct V{int v;virtual int f();};struct A:virtual V{int f();};struct B:virtual V{};struct D:A,B{};`: one table of V's for D, A, B and V as the active part.
-- In D the part A is at 0, B at 4 and V at 8; while B is active alone, V's own function is the overrider.
abbrev virtual_base : List (ℕ × ClassDef)
virtual_base = diamond (field (codes "v") 1 ∷ virtual_function (codes "f") ∷ []) (plain (codes "f") ∷ []) [] []

tables_of_virtual_base :
    tables types virtual_base 3
    ≡ table [] (VBase 0 ∷ []) (holds (member 1 0) (negsuc 7) ∷ [])
    ∷ table (Base 0 ∷ []) (VBase 0 ∷ []) (holds (member 1 0) (negsuc 7) ∷ [])
    ∷ table (Base 1 ∷ []) (VBase 0 ∷ []) (holds (member 0 1) (pos 0) ∷ [])
    ∷ table (VBase 0 ∷ []) (VBase 0 ∷ []) (holds (member 0 1) (pos 0) ∷ [])
    ∷ []
tables_of_virtual_base = refl

-- where two functions override, the slot has none
no_overrider : tables types (diamond (virtual_function (codes "f") ∷ []) (plain (codes "f") ∷ []) (plain (codes "f") ∷ []) []) 3 ≡
    table [] (VBase 0 ∷ []) (None ∷ []) ∷ table (Base 0 ∷ []) (VBase 0 ∷ []) (holds (member 1 0) (negsuc 7) ∷ [])
    ∷ table (Base 1 ∷ []) (VBase 0 ∷ []) (holds (member 2 0) (negsuc 3) ∷ []) ∷ table (VBase 0 ∷ []) (VBase 0 ∷ []) (holds (member 0 0) (pos 0) ∷ []) ∷ []
no_overrider = refl
