-- Programs over numbers, pointers, arrays and references: their cores and their plain statements show the same.
use Rattle.std.proofs.Common.{◌≡◌, [], ◌∷◌, refl}
use Rattle.std.specs.Prelude.{pos, true, codes}
use Rattle.cf_base.specs.declared.kind.Kind.TheVariants.{Int}
use Rattle.cf_base.specs.declared.arith.Arith.TheVariants as op
use Rattle.cf_base.specs.Event.{Ended, Ticks}
use Rattle.cf_core.specs.declared.operators.UnaryOperator.TheVariants as sign
use Rattle.cf_core.specs.declared.operators.LoopForm.TheVariants as form
use Rattle.cf_core.specs.Core.{absent, given, local, static_object, read, operate, unary, declare, blank, loop, store}
use Rattle.cf_core.specs.Calls.{Program}
use Rattle.cf_core.proofs.Sample.{int, function_of, in_block, main_of, program, static_of, returns, num, add, put, put_digit, value_of, set, called}
use Rattle.cf_sequence.specs.Built.{is_plainly_built}
use Rattle.cf_sequence.proofs.Sample.{Shows}

-- int main(){return 7;}
returns_seven : Shows (program [] (main_of (returns (num 7) ∷ []) ∷ []) []) [] 1 (record { end = Ended (pos 7); out = [] })
returns_seven = record { core = refl; plain = refl }

-- int g(int a){putchar('0'+a);return a;}int f(int a,int b){return a+b;}int main(){return f(g(1),g(2));}
abbrev arguments_in_order : Program
arguments_in_order = program []
    (function_of (codes "g__Fi") (int ∷ []) int (in_block (put_digit (value_of 0) ∷ returns (value_of 0) ∷ []))
    ∷ function_of (codes "f__Fii") (int ∷ int ∷ []) int (in_block (returns (add (value_of 0) (value_of 1)) ∷ []))
    ∷ main_of (returns (called (codes "f__Fii") (int ∷ int ∷ []) int
    (called (codes "g__Fi") (int ∷ []) int (num 1 ∷ []) ∷ called (codes "g__Fi") (int ∷ []) int (num 2 ∷ []) ∷ [])) ∷ []) ∷ []) []

arguments_left_to_right : Shows arguments_in_order [] 4 (record { end = Ended (pos 3); out = codes "12" })
arguments_left_to_right = record { core = refl; plain = refl }

ticks_agree : Shows arguments_in_order [] 3 (record { end = Ticks; out = codes "12" })
ticks_agree = record { core = refl; plain = refl }

-- int c;while((c=getchar())!=-1)putchar(c);return 0;
abbrev echo : Program
echo = program [] (main_of (declare 0 int blank
    ∷ loop form.While (given (operate op.NotEqual Int (read (store (local 0) (called (codes "getchar") [] int []))) (unary sign.Negate Int (num 1)))) absent (put (value_of 0))
    ∷ returns (num 0) ∷ []) ∷ []) []

condition_inside : Shows echo (codes "hi") 4 (record { end = Ended (pos 0); out = codes "hi" })
condition_inside = record { core = refl; plain = refl }

last_turn_spends_a_tick : Shows echo (codes "hi") 3 (record { end = Ticks; out = codes "hi" })
last_turn_spends_a_tick = record { core = refl; plain = refl }

-- The law of sequencing speaks of such programs.
calls_are_built : is_plainly_built arguments_in_order ≡ true
calls_are_built = refl

input_is_built : is_plainly_built echo ≡ true
input_is_built = refl

-- int x;int main(){x=3;return x+1;}
abbrev global : Program
global = program [] (main_of (set (static_object (codes "x") int) (num 3) ∷ returns (add (read (static_object (codes "x") int)) (num 1)) ∷ []) ∷ []) (static_of (codes "x") int ∷ [])

global_object : Shows global [] 1 (record { end = Ended (pos 4); out = [] })
global_object = record { core = refl; plain = refl }

global_is_built : is_plainly_built global ≡ true
global_is_built = refl
