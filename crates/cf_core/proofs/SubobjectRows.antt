-- Paths of subobjects, overriders and sizes, tried on classes worked out by hand.
use Rattle.std.proofs.Common.{◌≡◌, List, [], ◌∷◌, refl}
use Rattle.std.specs.Prelude.{Option, Some, None, codes, map}
use Rattle.cf_base.specs.declared.kind.Kind.TheVariants.{Char}
use Rattle.cf_core.specs.Types.{Name, integer, class, array}
use Rattle.cf_core.specs.Classes.{Class}
use Rattle.cf_core.specs.Subobjects.{base, virtual, Path, Subobject, subobjects, Overrider, final_overrider}
use Rattle.cf_core.specs.Size.{size}
use Rattle.cf_core.proofs.Sample.{int, base_of, virtual_base_of, plain_class, built_class, virtual_function}

abbrev paths : List Class → Name → List Path
paths cs c = map (λ (x : Subobject). x.path) (subobjects cs c)

abbrev overriding : Option Overrider → Option Name
overriding None = None
overriding (Some x) = Some x.function.name

-- struct V{};struct A:virtual V{};struct B:virtual V{};struct D:A,B{};
abbrev diamond : List Class
diamond =
    built_class (codes "1V") [] (int ∷ []) (virtual_function (codes "f__Fv") (codes "f__1VFv") ∷ []) None
    ∷ built_class (codes "1A") (virtual_base_of (codes "1V") ∷ []) [] (virtual_function (codes "f__Fv") (codes "f__1AFv") ∷ []) None
    ∷ built_class (codes "1B") (virtual_base_of (codes "1V") ∷ []) [] [] None
    ∷ built_class (codes "1D") (base_of (codes "1A") ∷ base_of (codes "1B") ∷ []) [] [] None ∷ []

paths_of_a_diamond :
    paths diamond (codes "1D") ≡ [] ∷ (base 0 ∷ []) ∷ (base 1 ∷ []) ∷ (virtual (codes "1V") ∷ []) ∷ []
paths_of_a_diamond = refl

overrider_dominates : overriding (final_overrider diamond (codes "1D") (virtual (codes "1V") ∷ []) (codes "f__Fv")) ≡ Some (codes "f__1AFv")
overrider_dominates = refl

overrider_in_the_base_alone : overriding (final_overrider diamond (codes "1B") (virtual (codes "1V") ∷ []) (codes "f__Fv")) ≡ Some (codes "f__1VFv")
overrider_in_the_base_alone = refl

-- both A and B override V's function, and D does not: none is final
abbrev ambiguous : List Class
ambiguous =
    built_class (codes "1V") [] (int ∷ []) (virtual_function (codes "f__Fv") (codes "f__1VFv") ∷ []) None
    ∷ built_class (codes "1A") (virtual_base_of (codes "1V") ∷ []) [] (virtual_function (codes "f__Fv") (codes "f__1AFv") ∷ []) None
    ∷ built_class (codes "1B") (virtual_base_of (codes "1V") ∷ []) [] (virtual_function (codes "f__Fv") (codes "f__1BFv") ∷ []) None
    ∷ built_class (codes "1D") (base_of (codes "1A") ∷ base_of (codes "1B") ∷ []) [] [] None ∷ []

no_final_overrider : overriding (final_overrider ambiguous (codes "1D") (virtual (codes "1V") ∷ []) (codes "f__Fv")) ≡ None
no_final_overrider = refl

-- struct A{};struct B:A{};struct C:A{};struct D:B,C{};: two parts of one class
two_parts_of_one_class :
    paths (plain_class (codes "1A") [] [] ∷ plain_class (codes "1B") (base_of (codes "1A") ∷ []) [] ∷ plain_class (codes "1C") (base_of (codes "1A") ∷ []) []
    ∷ plain_class (codes "1D") (base_of (codes "1B") ∷ base_of (codes "1C") ∷ []) [] ∷ []) (codes "1D")
    ≡ [] ∷ (base 0 ∷ []) ∷ (base 0 ∷ base 0 ∷ []) ∷ (base 1 ∷ []) ∷ (base 1 ∷ base 0 ∷ []) ∷ []
two_parts_of_one_class = refl

-- struct A{char c;virtual void f();};struct B{int b;};struct C:A,B{char d;};
abbrev three : List Class
three =
    built_class (codes "1A") [] (integer Char ∷ []) (virtual_function (codes "f__Fv") (codes "f__1AFv") ∷ []) None
    ∷ plain_class (codes "1B") [] (int ∷ []) ∷ built_class (codes "1C") (base_of (codes "1A") ∷ base_of (codes "1B") ∷ []) (integer Char ∷ []) [] None ∷ []

size_with_a_table : size three (class (codes "1A")) ≡ 8
size_with_a_table = refl

size_with_bases : size three (class (codes "1C")) ≡ 16
size_with_bases = refl

-- struct V{int v;};struct E:virtual V{int e;}; and the same with char
size_with_a_virtual_base : size (plain_class (codes "1V") [] (int ∷ []) ∷ built_class (codes "1E") (virtual_base_of (codes "1V") ∷ []) (int ∷ []) [] None ∷ []) (class (codes "1E")) ≡ 12
size_with_a_virtual_base = refl

virtual_base_follows_the_rounded_part : size (plain_class (codes "1V") [] (integer Char ∷ []) ∷ built_class (codes "1E") (virtual_base_of (codes "1V") ∷ []) (integer Char ∷ []) [] None ∷ []) (class (codes "1E")) ≡ 12
virtual_base_follows_the_rounded_part = refl

empty_class_has_one_byte : size (plain_class (codes "1V") [] [] ∷ []) (array (class (codes "1V")) 3) ≡ 3
empty_class_has_one_byte = refl
