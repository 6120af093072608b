-- Temporaries of full expressions, in branches too: they are there to the end of the full expression, and no longer (12.2).
use Rattle.std.proofs.Common.{◌≡◌, ℕ, List, [], ◌∷◌, refl}
use Rattle.std.specs.Prelude.{pos, codes, true}
use Rattle.std.specs.List.{list_all}
use Rattle.cf_base.specs.declared.kind.Kind.TheVariants.{Int}
use Rattle.cf_base.specs.declared.arith.Arith.TheVariants as op
use Rattle.cf_base.specs.Event.{Ended, Undefined}
use Rattle.cf_core.specs.declared.operators.LoopForm.TheVariants as form
use Rattle.cf_core.specs.Types.{pointer, reference, const}
use Rattle.cf_core.specs.Core.{Core, Function, absent, given, branch, operate, address, read, dereference, local, logical_and, logical_or, conditional, comma, declare, store, step, arithmetic, full, loop, temporary}
use Rattle.cf_core.specs.Calls.{Program}
use Rattle.cf_core.proofs.Sample.{int, function_of, listed, in_block, main_of, program, returns, num, add, put_digit, value_of, set, called, referred}
use Rattle.cf_sequence.specs.Built.{is_plainly_built}
use Rattle.cf_sequence.proofs.Sample.{Shows}

-- int p(int a){putchar('0'+a);return a;} const int*f(const int&r){putchar('0'+r);return &r;}
abbrev p : Function
p = function_of (codes "p__Fi") (int ∷ []) int (in_block (put_digit (value_of 0) ∷ returns (value_of 0) ∷ []))

abbrev f : Function
f = function_of (codes "f__FRCi") (reference (const int) ∷ []) (pointer (const int)) (in_block (put_digit (value_of 0) ∷ returns (address (local 0)) ∷ []))

abbrev shown : Core → Core
shown e = called (codes "p__Fi") (int ∷ []) int (e ∷ [])

-- the address of a temporary that is made of this value
abbrev kept : Core → Core
kept e = called (codes "f__FRCi") (reference (const int) ∷ []) (pointer (const int)) (referred (temporary (const int) e) ∷ [])

abbrev at : Core → Core
at e = read (dereference e)

abbrev with_main : List Core → Program
with_main ss = program [] (p ∷ f ∷ main_of ss ∷ []) []

-- const int x=7;const int*q=&x; and then more
abbrev with_pointer : List Core → Program
with_pointer ss = with_main (declare 0 (const int) (num 7) ∷ declare 1 (pointer (const int)) (address (local 0)) ∷ ss)

-- return (q=p(z)?f(p(2)):f(p(3)),p(4),*q);: the temporary of the arm that is taken is there behind the arm
abbrev in_arms : ℕ → Program
in_arms z = with_pointer (returns (comma (listed (store (local 1) (conditional (shown (num z)) (kept (shown (num 2))) (kept (shown (num 3)))) ∷ shown (num 4) ∷ at (value_of 1) ∷ []))) ∷ [])

temporary_of_the_first_arm : Shows (in_arms 1) [] 9 (record { end = Ended (pos 2); out = codes "1224" })
temporary_of_the_first_arm = record { core = refl; plain = refl }

temporary_of_the_second_arm : Shows (in_arms 0) [] 9 (record { end = Ended (pos 3); out = codes "0334" })
temporary_of_the_second_arm = record { core = refl; plain = refl }

-- q=p(1)?f(p(2)):f(p(3));p(4);return *q;: and it ends with its full expression
abbrev behind_arms : Program
behind_arms = with_pointer (set (local 1) (conditional (shown (num 1)) (kept (shown (num 2))) (kept (shown (num 3)))) ∷ full (shown (num 4)) ∷ returns (at (value_of 1)) ∷ [])

temporary_of_an_arm_ends : Shows behind_arms [] 9 (record { end = Undefined 5; out = codes "1224" })
temporary_of_an_arm_ends = record { core = refl; plain = refl }

-- return (p(z)&&*(q=f(p(5))))+*q;: one that `&&` leaves out is not made
abbrev in_and : ℕ → Program
in_and z = with_pointer (returns (add (logical_and (shown (num z)) (at (read (store (local 1) (kept (shown (num 5))))))) (at (value_of 1))) ∷ [])

temporary_behind_and : Shows (in_and 1) [] 9 (record { end = Ended (pos 6); out = codes "155" })
temporary_behind_and = record { core = refl; plain = refl }

temporary_that_and_leaves_out : Shows (in_and 0) [] 9 (record { end = Ended (pos 7); out = codes "0" })
temporary_that_and_leaves_out = record { core = refl; plain = refl }

-- p(z)||*(q=f(p(5)));return *q;
abbrev in_or : ℕ → Program
in_or z = with_pointer (full (logical_or (shown (num z)) (at (read (store (local 1) (kept (shown (num 5))))))) ∷ returns (at (value_of 1)) ∷ [])

temporary_behind_or_ends : Shows (in_or 0) [] 9 (record { end = Undefined 5; out = codes "055" })
temporary_behind_or_ends = record { core = refl; plain = refl }

temporary_that_or_leaves_out : Shows (in_or 1) [] 9 (record { end = Ended (pos 7); out = codes "1" })
temporary_that_or_leaves_out = record { core = refl; plain = refl }

-- if(*(q=f(p(3)))==3)return *q;return 9;: one of a condition has ended before the statement behind
abbrev in_condition : Program
in_condition = with_pointer (branch (operate op.Equal Int (at (read (store (local 1) (kept (shown (num 3)))))) (num 3)) (returns (at (value_of 1))) absent ∷ returns (num 9) ∷ [])

temporary_of_a_condition_ends : Shows in_condition [] 9 (record { end = Undefined 5; out = codes "33" })
temporary_of_a_condition_ends = record { core = refl; plain = refl }

-- int i=0;while(p(i)<2&&*f(i+4))i++;return i;: each turn of a loop has its own, and none where the condition leaves it out
abbrev in_turns : Program
in_turns = with_main (declare 0 int (num 0)
    ∷ loop form.While (given (logical_and (operate op.Less Int (shown (value_of 0)) (num 2)) (at (kept (add (value_of 0) (num 4)))))) absent (full (step true (arithmetic op.Add Int Int) (local 0)))
    ∷ returns (value_of 0) ∷ [])

temporaries_of_turns : Shows in_turns [] 12 (record { end = Ended (pos 2); out = codes "04152" })
temporaries_of_turns = record { core = refl; plain = refl }

-- return *f(*f(p(1))+p(2));: an argument's temporary is made before that of the call around it
abbrev nested : Program
nested = with_main (returns (at (kept (add (at (kept (shown (num 1)))) (shown (num 2))))) ∷ [])

temporary_inside_a_temporary : Shows nested [] 9 (record { end = Ended (pos 3); out = codes "1123" })
temporary_inside_a_temporary = record { core = refl; plain = refl }

temporaries_are_built : list_all is_plainly_built (in_arms 1 ∷ behind_arms ∷ in_and 1 ∷ in_or 1 ∷ in_condition ∷ in_turns ∷ nested ∷ []) ≡ true
temporaries_are_built = refl
