-- Sizes and offsets of small classes, by evaluation.
use Rattle.std.proofs.Common.{◌≡◌, ℕ, List, [], ◌∷◌, refl, codes}
use Rattle.cf_classes.specs.declared.path.Step.TheVariants.{Base}
use Rattle.cf_classes.specs.declared.class.ClassDef.{ClassDef}
use Rattle.cf_classes.specs.Layout.{layout, extent, offset, BasePart, TablePointer, BasePointer, Field, VirtualPart}
use Rattle.cf_classes.specs.Overrider as override
use Rattle.cf_classes.specs.Overrider.{over}
use Rattle.cf_classes.proofs.Examples.{types, field, function_named, plain, virtual_function, from, virtual_from, struct_of}

-- `struct A{char c;virtual int f();};struct B{int b;};struct C:A,B{char d;};`
abbrev pub two_bases : List (ℕ × ClassDef)
two_bases =
    (2, struct_of (from 0 ∷ from 1 ∷ []) (field (codes "d") 0 ∷ [])) ∷ (1, struct_of [] (field (codes "b") 1 ∷ []))
    ∷ (0, struct_of [] (field (codes "c") 0 ∷ virtual_function (codes "f") ∷ [])) ∷ []

size_with_table : extent types two_bases 7 ≡ record { size = 8; align = 4 }
size_with_table = refl

items_with_table : (layout types two_bases 0).items ≡ record { item = TablePointer; offset = 0 } ∷ record { item = Field 0; offset = 4 } ∷ []
items_with_table = refl

size_of_two_bases : extent types two_bases 9 ≡ record { size = 16; align = 4 }
size_of_two_bases = refl

items_of_two_bases : (layout types two_bases 2).items ≡ record { item = BasePart 0; offset = 0 } ∷ record { item = BasePart 1; offset = 8 } ∷ record { item = Field 0; offset = 12 } ∷ []
items_of_two_bases = refl

-- `struct V{int v;};struct E:virtual V{int e;};`
abbrev one_virtual_base : List (ℕ × ClassDef)
one_virtual_base = (1, struct_of (virtual_from 0 ∷ []) (field (codes "e") 1 ∷ [])) ∷ (0, struct_of [] (field (codes "v") 1 ∷ [])) ∷ []

size_of_virtual_base : extent types one_virtual_base 8 ≡ record { size = 12; align = 4 }
size_of_virtual_base = refl

items_of_virtual_base : (layout types one_virtual_base 1).items ≡ record { item = BasePointer 0; offset = 0 } ∷ record { item = Field 0; offset = 4 } ∷ record { item = VirtualPart 0; offset = 8 } ∷ []
items_of_virtual_base = refl

-- with chars the virtual base stands after the rounded part
size_of_small_virtual_base : extent types ((1, struct_of (virtual_from 0 ∷ []) (field (codes "e") 0 ∷ [])) ∷ (0, struct_of [] (field (codes "v") 0 ∷ [])) ∷ []) 8 ≡ record { size = 12; align = 4 }
size_of_small_virtual_base = refl

-- `struct A{virtual int f();int a;};struct B{virtual int g();int b;};struct C:A,B{int c;int g();};`
abbrev pub two_tables : List (ℕ × ClassDef)
two_tables =
    (2, struct_of (from 0 ∷ from 1 ∷ []) (field (codes "c") 1 ∷ plain (codes "g") ∷ [])) ∷ (1, struct_of [] (virtual_function (codes "g") ∷ field (codes "b") 1 ∷ []))
    ∷ (0, struct_of [] (virtual_function (codes "f") ∷ field (codes "a") 1 ∷ [])) ∷ []

size_of_two_tables : extent types two_tables 9 ≡ record { size = 20; align = 4 }
size_of_two_tables = refl

second_base_at_eight : offset types two_tables 2 (Base 1 ∷ []) ≡ 8
second_base_at_eight = refl

-- the function of the second base is overridden by the whole object's
second_base_overridden : over types two_tables 2 (Base 1 ∷ []) (function_named (codes "g")) ≡ override.One [] (record { class = 2; index = 1 })
second_base_overridden = refl

-- an empty class has 1 byte, and an array of three 3
empty_class : extent types ((0, struct_of [] []) ∷ []) 12 ≡ record { size = 3; align = 1 }
empty_class = refl
