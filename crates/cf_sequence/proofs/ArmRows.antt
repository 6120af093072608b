-- Objects that are declared as the statement of an `if` by itself: they end with the scope around it (6.5.3).
use Rattle.std.proofs.Common.{◌≡◌, List, [], ◌∷◌, refl}
use Rattle.std.specs.List.{list_all}
use Rattle.std.specs.Prelude.{ℕ, pos, codes, true, false}
use Rattle.cf_base.specs.declared.kind.Kind.TheVariants.{Int}
use Rattle.cf_base.specs.declared.arith.Arith.TheVariants as op
use Rattle.cf_base.specs.Event.{Ended, Undefined}
use Rattle.cf_core.specs.declared.operators.LoopForm.TheVariants as form
use Rattle.cf_core.specs.Types.{pointer, reference, const}
use Rattle.cf_core.specs.Core.{Core, absent, given, local, read, address, dereference, operate, step, arithmetic, bind, local_temporary, blank, sequence, declare, full, branch, loop, switch, case_label, leave, continue}
use Rattle.cf_core.specs.Calls.{Program}
use Rattle.cf_core.proofs.Sample.{int, function_of, listed, in_block, main_of, program, returns, num, add, put_digit, value_of, set, called}
use Rattle.cf_sequence.specs.Built.{is_plainly_built}
use Rattle.cf_sequence.proofs.Sample.{Shows}

abbrev shown : Core → Core
shown e = called (codes "p__Fi") (int ∷ []) int (e ∷ [])

-- int p(int a){putchar('0'+a);return a;} and a main function
abbrev with_main : List Core → Program
with_main ss = program []
    (function_of (codes "p__Fi") (int ∷ []) int (in_block (put_digit (value_of 0) ∷ returns (value_of 0) ∷ [])) ∷ main_of ss ∷ []) []

-- for(int i=from;i<to;i=i+1)body
abbrev counted : ℕ → Core → Core → Core → Core
counted i from to body = sequence (listed (declare i int from
    ∷ loop form.For (given (operate op.Less Int (value_of i) to)) (given (step true (arithmetic op.Add Int Int) (local i))) body ∷ []))

-- int*q;{if(p(c))for(int i=3;i<5;i++)q=&i;}return *q;: the object has ended with the block, where there was one
abbrev in_an_arm : ℕ → Program
in_an_arm c = with_main (declare 0 (pointer int) blank
    ∷ in_block (branch (shown (num c)) (counted 1 (num 3) (num 5) (set (local 0) (address (local 1)))) absent ∷ [])
    ∷ returns (read (dereference (value_of 0))) ∷ [])

object_of_an_arm_ends : Shows (in_an_arm 1) [] 20 (record { end = Undefined 5; out = codes "1" })
object_of_an_arm_ends = record { core = refl; plain = refl }

no_object_of_an_arm : Shows (in_an_arm 0) [] 20 (record { end = Undefined 7; out = codes "0" })
no_object_of_an_arm = record { core = refl; plain = refl }

-- int n=0;for(int i=0;i<3;i++)if(p(i))for(int j=0;j<i;j++)n=n+1;else int k=p(n+5);return n;: each turn has objects of its own
abbrev in_turns : Program
in_turns = with_main (declare 0 int (num 0)
    ∷ counted 1 (num 0) (num 3) (branch (shown (value_of 1)) (counted 2 (num 0) (value_of 1) (set (local 0) (add (value_of 0) (num 1))))
    (given (declare 3 int (shown (add (value_of 0) (num 5))))))
    ∷ returns (value_of 0) ∷ [])

arms_in_turns : Shows in_turns [] 40 (record { end = Ended (pos 3); out = codes "0512" })
arms_in_turns = record { core = refl; plain = refl }

-- int a=1;if(p(2))if(p(a))for(int i=4;i<9;i++)return p(i);: a way out of an arm ends what is declared there
abbrev out_of_an_arm : Program
out_of_an_arm = with_main (declare 0 int (num 1)
    ∷ branch (shown (num 2)) (branch (shown (value_of 0)) (counted 1 (num 4) (num 9) (returns (shown (value_of 1)))) absent) absent ∷ [])

way_out_of_an_arm : Shows out_of_an_arm [] 20 (record { end = Ended (pos 4); out = codes "214" })
way_out_of_an_arm = record { core = refl; plain = refl }

-- const int*q;{if(p(1))for(const int&r=p(4);;){q=&r;break;}}return *q;: a reference's temporary ends so too
abbrev reference_in_an_arm : Program
reference_in_an_arm = with_main (declare 0 (pointer (const int)) blank
    ∷ in_block (branch (shown (num 1)) (sequence (listed (declare 1 (reference (const int)) (bind (local_temporary 2 (const int)) (shown (num 4)))
    ∷ loop form.For absent absent (in_block (set (local 0) (address (local 1)) ∷ leave ∷ [])) ∷ []))) absent ∷ [])
    ∷ returns (read (dereference (value_of 0))) ∷ [])

temporary_of_an_arm_ends : Shows reference_in_an_arm [] 20 (record { end = Undefined 5; out = codes "14" })
temporary_of_an_arm_ends = record { core = refl; plain = refl }

arms_are_built : list_all is_plainly_built (in_an_arm 1 ∷ in_turns ∷ out_of_an_arm ∷ reference_in_an_arm ∷ []) ≡ true
arms_are_built = refl

-- ---- something follows

-- if(p(c))for(int i=3;i<5;i++)p(i);p(7);return c;: the object is there behind the loop, or not
abbrev followed : ℕ → Program
followed c = with_main (branch (shown (num c)) (counted 0 (num 3) (num 5) (full (shown (value_of 0)))) absent ∷ full (shown (num 7)) ∷ returns (num c) ∷ [])

with_an_object : Shows (followed 1) [] 20 (record { end = Ended (pos 1); out = codes "1347" })
with_an_object = record { core = refl; plain = refl }

without_an_object : Shows (followed 0) [] 20 (record { end = Ended (pos 0); out = codes "07" })
without_an_object = record { core = refl; plain = refl }

-- int*q;for(int k=0;k<3;k++){if(p(k)==1)int x=k+4;else int y=k+6;if(k==1)q=&x;else q=&y;p(*q);}return 0;: in each turn one of two
abbrev either_in_turns : Program
either_in_turns = with_main (declare 0 (pointer int) blank
    ∷ counted 1 (num 0) (num 3) (in_block (
    branch (operate op.Equal Int (shown (value_of 1)) (num 1)) (declare 2 int (add (value_of 1) (num 4))) (given (declare 3 int (add (value_of 1) (num 6))))
    ∷ branch (operate op.Equal Int (value_of 1) (num 1)) (set (local 0) (address (local 2))) (given (set (local 0) (address (local 3))))
    ∷ full (shown (read (dereference (value_of 0)))) ∷ []))
    ∷ returns (num 0) ∷ [])

either_of_two : Shows either_in_turns [] 40 (record { end = Ended (pos 0); out = codes "061528" })
either_of_two = record { core = refl; plain = refl }

-- int*q;for(int k=0;k<2;k++){if(k==0)int x=8;if(k==0)q=&x;p(*q);}return 0;: the object of the first turn has ended in the second
abbrev of_an_earlier_turn : Program
of_an_earlier_turn = with_main (declare 0 (pointer int) blank
    ∷ counted 1 (num 0) (num 2) (in_block (
    branch (operate op.Equal Int (value_of 1) (num 0)) (declare 2 int (num 8)) absent
    ∷ branch (operate op.Equal Int (value_of 1) (num 0)) (set (local 0) (address (local 2))) absent
    ∷ full (shown (read (dereference (value_of 0)))) ∷ []))
    ∷ returns (num 0) ∷ [])

ended_with_its_turn : Shows of_an_earlier_turn [] 40 (record { end = Undefined 5; out = codes "8" })
ended_with_its_turn = record { core = refl; plain = refl }

-- for(int k=0;k<4;k++){if(k==p(1))int x=k;if(k==2)break;if(k==0)continue;p(5);}return 3;: ways out behind it
abbrev ways_out : Program
ways_out = with_main (counted 0 (num 0) (num 4) (in_block (
    branch (operate op.Equal Int (value_of 0) (shown (num 1))) (declare 1 int (value_of 0)) absent
    ∷ branch (operate op.Equal Int (value_of 0) (num 2)) leave absent
    ∷ branch (operate op.Equal Int (value_of 0) (num 0)) continue absent
    ∷ full (shown (num 5)) ∷ []))
    ∷ returns (num 3) ∷ [])

ways_out_behind : Shows ways_out [] 40 (record { end = Ended (pos 3); out = codes "1151" })
ways_out_behind = record { core = refl; plain = refl }

-- a name of an object whose declaration was not reached: for(int k=0;k<2;k++){if(k==first)int x=1;q=&x;}return 0;
abbrev not_reached : ℕ → Program
not_reached first = with_main (declare 0 (pointer int) blank
    ∷ counted 1 (num 0) (num 2) (in_block (
    branch (operate op.Equal Int (value_of 1) (num first)) (declare 2 int (num 1)) absent
    ∷ set (local 0) (address (local 2)) ∷ []))
    ∷ returns (num 0) ∷ [])

not_reached_first : Shows (not_reached 1) [] 40 (record { end = Undefined 5; out = [] })
not_reached_first = record { core = refl; plain = refl }

not_reached_later : Shows (not_reached 0) [] 40 (record { end = Ended (pos 0); out = [] })
not_reached_later = record { core = refl; plain = refl }

-- for(int k=0;k<9;k++){if(k==1)int x=p(k+4);if(k==2)return p(k);}return 3;: a way out of the function behind it
abbrev returned_behind : Program
returned_behind = with_main (counted 0 (num 0) (num 9) (in_block (
    branch (operate op.Equal Int (value_of 0) (num 1)) (declare 1 int (shown (add (value_of 0) (num 4)))) absent
    ∷ branch (operate op.Equal Int (value_of 0) (num 2)) (returns (shown (value_of 0))) absent ∷ []))
    ∷ returns (num 3) ∷ [])

way_out_of_the_function_behind : Shows returned_behind [] 40 (record { end = Ended (pos 2); out = codes "52" })
way_out_of_the_function_behind = record { core = refl; plain = refl }

-- if(p(1))if(p(c))int x=p(6);else int y=p(5);p(7);return c;: an `if` that is an arm
abbrev arm_of_an_arm : ℕ → Program
arm_of_an_arm c = with_main (branch (shown (num 1)) (branch (shown (num c)) (declare 0 int (shown (num 6))) (given (declare 1 int (shown (num 5))))) absent
    ∷ full (shown (num 7)) ∷ returns (num c) ∷ [])

first_arm_of_an_arm : Shows (arm_of_an_arm 1) [] 20 (record { end = Ended (pos 1); out = codes "1167" })
first_arm_of_an_arm = record { core = refl; plain = refl }

second_arm_of_an_arm : Shows (arm_of_an_arm 0) [] 20 (record { end = Ended (pos 0); out = codes "1057" })
second_arm_of_an_arm = record { core = refl; plain = refl }

-- const int*q;if(p(1))for(const int&r=p(4);;){q=&r;break;}p(*q);return 0;: a reference's temporary is there behind it
abbrev reference_followed : Program
reference_followed = with_main (declare 0 (pointer (const int)) blank
    ∷ branch (shown (num 1)) (sequence (listed (declare 1 (reference (const int)) (bind (local_temporary 2 (const int)) (shown (num 4)))
    ∷ loop form.For absent absent (in_block (set (local 0) (address (local 1)) ∷ leave ∷ [])) ∷ []))) absent
    ∷ full (shown (read (dereference (value_of 0)))) ∷ returns (num 0) ∷ [])

temporary_is_there : Shows reference_followed [] 20 (record { end = Ended (pos 0); out = codes "144" })
temporary_is_there = record { core = refl; plain = refl }

-- switch(p(2)){case 1:p(8);case 2:if(p(c))int x=p(6);else int y=p(5);p(7);}return c;: in a switch's own block, with no label behind
abbrev in_a_switch : ℕ → Program
in_a_switch c = with_main (switch (shown (num 2)) (listed (case_label (pos 1) ∷ full (shown (num 8)) ∷ case_label (pos 2)
    ∷ branch (shown (num c)) (declare 0 int (shown (num 6))) (given (declare 1 int (shown (num 5)))) ∷ full (shown (num 7)) ∷ []))
    ∷ returns (num c) ∷ [])

first_arm_in_a_switch : Shows (in_a_switch 1) [] 20 (record { end = Ended (pos 1); out = codes "2167" })
first_arm_in_a_switch = record { core = refl; plain = refl }

second_arm_in_a_switch : Shows (in_a_switch 0) [] 20 (record { end = Ended (pos 0); out = codes "2057" })
second_arm_in_a_switch = record { core = refl; plain = refl }

followed_are_built : list_all is_plainly_built (followed 1 ∷ either_in_turns ∷ of_an_earlier_turn ∷ ways_out ∷ not_reached 0
    ∷ returned_behind ∷ arm_of_an_arm 1 ∷ reference_followed ∷ in_a_switch 1 ∷ []) ≡ true
followed_are_built = refl

-- switch(2){if(0)int x;case 2:p(7);}return 0;: a label passes an `if` that declares
abbrev passed_by_a_label : Program
passed_by_a_label = with_main (switch (num 2) (listed (branch (num 0) (declare 0 int blank) absent ∷ case_label (pos 2) ∷ full (shown (num 7)) ∷ []))
    ∷ returns (num 0) ∷ [])

passed_is_not_built : is_plainly_built passed_by_a_label ≡ false
passed_is_not_built = refl
