-- Lists as initialisers of arrays: each element in order and by itself, and what is left out (8.4.1).
use Rattle.std.proofs.Common.{◌≡◌, ℕ, List, [], ◌∷◌, refl}
use Rattle.std.specs.Prelude.{pos, codes, true}
use Rattle.std.specs.List.{list_all}
use Rattle.cf_base.specs.Event.{Ended, Undefined}
use Rattle.cf_core.specs.Types.{pointer, reference, array, const}
use Rattle.cf_core.specs.Core.{Core, Function, address, read, dereference, local, decay, index, logical_and, declare, store, list, zeros, temporary}
use Rattle.cf_core.specs.Calls.{Program}
use Rattle.cf_core.proofs.Sample.{int, function_of, listed, in_block, main_of, program, returns, num, add, put_digit, value_of, called, referred}
use Rattle.cf_sequence.specs.Built.{is_plainly_built}
use Rattle.cf_sequence.proofs.Sample.{Shows}

-- int p(int a){putchar('0'+a);return a;} const int*f(const int&r){putchar('0'+r);return &r;}
abbrev p : Function
p = function_of (codes "p__Fi") (int ∷ []) int (in_block (put_digit (value_of 0) ∷ returns (value_of 0) ∷ []))

abbrev f : Function
f = function_of (codes "f__FRCi") (reference (const int) ∷ []) (pointer (const int)) (in_block (put_digit (value_of 0) ∷ returns (address (local 0)) ∷ []))

abbrev shown : Core → Core
shown e = called (codes "p__Fi") (int ∷ []) int (e ∷ [])

abbrev kept : Core → Core
kept e = called (codes "f__FRCi") (reference (const int) ∷ []) (pointer (const int)) (referred (temporary (const int) e) ∷ [])

abbrev with_main : List Core → Program
with_main ss = program [] (p ∷ f ∷ main_of ss ∷ []) []

abbrev at : ℕ → ℕ → Core
at i n = read (index (decay (local i)) (num n))

-- int a[4]={p(1),p(a[0]+1),p(3)};return a[1]+a[2]+a[3];: an element is there for those behind it, and what is left out is 0
abbrev in_order : Program
in_order = with_main (declare 0 (array int 4) (list (listed (shown (num 1) ∷ shown (add (at 0 0) (num 1)) ∷ shown (num 3) ∷ [])) zeros)
    ∷ returns (add (add (at 0 1) (at 0 2)) (at 0 3)) ∷ [])

elements_in_order : Shows in_order [] 9 (record { end = Ended (pos 5); out = codes "123" })
elements_in_order = record { core = refl; plain = refl }

-- int a[2]={a[1],p(1)};return 0;: an element that is not there yet has no value
abbrev too_early : Program
too_early = with_main (declare 0 (array int 2) (list (listed (at 0 1 ∷ shown (num 1) ∷ [])) zeros) ∷ returns (num 0) ∷ [])

element_before_its_turn : Shows too_early [] 9 (record { end = Undefined 7; out = [] })
element_before_its_turn = record { core = refl; plain = refl }

-- const int*q;int a[2]={p(1)&&*(q=f(p(5))),*q};return 0;: the temporary of an element ends before the next one
abbrev with_temporary : Program
with_temporary = with_main (declare 0 (pointer (const int)) zeros
    ∷ declare 1 (array int 2) (list (listed (logical_and (shown (num 1)) (read (dereference (read (store (local 0) (kept (shown (num 5))))))) ∷ read (dereference (value_of 0)) ∷ [])) zeros)
    ∷ returns (num 0) ∷ [])

temporary_of_an_element_ends : Shows with_temporary [] 9 (record { end = Undefined 5; out = codes "155" })
temporary_of_an_element_ends = record { core = refl; plain = refl }

-- int a[2][2]={{p(1),p(2)},{p(3)}};return a[0][1]+a[1][0]+a[1][1];: lists in lists
abbrev nested : Program
nested = with_main (declare 0 (array (array int 2) 2) (list (listed (list (listed (shown (num 1) ∷ shown (num 2) ∷ [])) zeros ∷ list (listed (shown (num 3) ∷ [])) zeros ∷ [])) zeros)
    ∷ returns (add (add (cell 0 1) (cell 1 0)) (cell 1 1)) ∷ [])
  where
    cell : ℕ → ℕ → Core
    cell i j = read (index (decay (index (decay (local 0)) (num i))) (num j))

lists_in_lists : Shows nested [] 9 (record { end = Ended (pos 5); out = codes "123" })
lists_in_lists = record { core = refl; plain = refl }

-- const int a[2]={p(1)};return a[0]+a[1];: the elements of a const array have their first values
abbrev of_const : Program
of_const = with_main (declare 0 (const (array (const int) 2)) (list (listed (shown (num 1) ∷ [])) zeros) ∷ returns (add (at 0 0) (at 0 1)) ∷ [])

elements_of_a_const_array : Shows of_const [] 9 (record { end = Ended (pos 1); out = codes "1" })
elements_of_a_const_array = record { core = refl; plain = refl }

lists_are_built : list_all is_plainly_built (in_order ∷ too_early ∷ with_temporary ∷ nested ∷ of_const ∷ []) ≡ true
lists_are_built = refl
