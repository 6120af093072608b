-- Small files whose functions are in place, and files that are refused.
use Rattle.std.proofs.Common.{◌≡◌, List, [], ◌∷◌, refl}
use Rattle.std.specs.Prelude.{pos, Some, None, true, false, codes}
use Rattle.cf_base.specs.declared.kind.Kind.TheVariants.{Char, UChar, Int}
use Rattle.cf_core.specs.declared.operators.PointerOperator.TheVariants as pointer_operator
use Rattle.cf_core.specs.Types.{SourceType, void, integer, pointer, array, takes, gives}
use Rattle.cf_core.specs.Core.{plain_function}
use Rattle.cf_plain.specs.Plain.{Plain, Plains, PlainFile, nothing, more, act, set, branch, loop, switch, case_label, leave, continue, give, number, local, read, convert, pointer_operate, declare, first, bytes, finish, call}
use Rattle.cf_lower_place.specs.Named.{functions_in_place}

abbrev statements : List Plain → Plains
statements [] = nothing
statements (s ∷ ss) = more s (statements ss)

abbrev int : SourceType
int = integer Int

-- a file of one function
abbrev of_function : SourceType → List SourceType → List Plain → PlainFile
of_function t locals ss = record {
  classes = [];
  functions = record { name = codes "g"; role = plain_function; type = t; locals = locals; body = statements ss; is_shared = false; is_local = false } ∷ [];
  statics = [];
}

abbrev of_main : List SourceType → List Plain → PlainFile
of_main locals ss = of_function (gives int false) locals ss

-- int main(){return 7;} and a `return` with what no int has
seven-passes : functions_in_place (of_main [] (set 0 (number (pos 7)) ∷ give (Some 0) ∷ [])) ≡ true
seven-passes = refl

wide-return-refused : functions_in_place (of_main [] (set 0 (number (pos 3000000000)) ∷ give (Some 0) ∷ [])) ≡ false
wide-return-refused = refl

-- int g(int(*p)(int)){if(p==0)return 1;return 2;} and the same of int*
abbrev compared : SourceType → PlainFile
compared t =
    of_function (takes t (gives int false)) []
    (set 0 (local 0) ∷ set 1 (read 0) ∷ set 2 (number (pos 0)) ∷ set 3 (convert t 2) ∷ set 4 (pointer_operate pointer_operator.Equal 1 3)
    ∷ branch 4 (statements (set 5 (number (pos 1)) ∷ give (Some 5) ∷ [])) nothing ∷ set 5 (number (pos 2)) ∷ give (Some 5) ∷ [])

function-compared-refused : functions_in_place (compared (pointer (takes int (gives int false)))) ≡ false
function-compared-refused = refl

object-compared-passes : functions_in_place (compared (pointer int)) ≡ true
object-compared-passes = refl

-- void g(){char s[]="a";}, the same of unsigned char, and of int
abbrev literal : SourceType → PlainFile
literal t =
    of_function (gives void false) (array t 2 ∷ [])
    (set 0 (declare 0 (array t 2)) ∷ act (bytes 0 (97 ∷ 0 ∷ [])) ∷ act (finish (array t 2) 0) ∷ [])

chars-pass : functions_in_place (literal (integer Char)) ≡ true
chars-pass = refl

unsigned-chars-pass : functions_in_place (literal (integer UChar)) ≡ true
unsigned-chars-pass = refl

ints-refused : functions_in_place (literal int) ≡ false
ints-refused = refl

-- a char takes a number that it has, or one that is converted
abbrev char_of : List Plain → PlainFile
char_of ss = of_function (gives void false) (integer Char ∷ []) (set 0 (declare 0 (integer Char)) ∷ set 1 (number (pos 300)) ∷ ss)

wide-first-refused : functions_in_place (char_of (act (first 0 1) ∷ [])) ≡ false
wide-first-refused = refl

converted-first-passes : functions_in_place (char_of (set 1 (convert (integer Char) 1) ∷ act (first 0 1) ∷ [])) ≡ true
converted-first-passes = refl

-- what both ways leave in a register is kept, and nothing of what a loop sets
both-ways-pass : functions_in_place (of_main [] (set 0 (number (pos 1)) ∷ branch 0 (statements (set 1 (number (pos 2)) ∷ [])) (statements (set 1 (number (pos 3)) ∷ [])) ∷ give (Some 1) ∷ [])) ≡ true
both-ways-pass = refl

one-way-refused : functions_in_place (of_main [] (set 0 (number (pos 1)) ∷ branch 0 (statements (set 1 (number (pos 2)) ∷ [])) nothing ∷ give (Some 1) ∷ [])) ≡ false
one-way-refused = refl

loop-forgets : functions_in_place (of_main [] (loop (statements (set 1 (number (pos 2)) ∷ leave ∷ [])) nothing ∷ give (Some 1) ∷ [])) ≡ false
loop-forgets = refl

-- labels once, and `continue` in a loop alone
abbrev chosen : List Plain → PlainFile
chosen ss = of_main [] (set 0 (number (pos 1)) ∷ switch 0 (statements (case_label (pos 1) ∷ ss)) ∷ give None ∷ [])

labels-pass : functions_in_place (chosen (leave ∷ case_label (pos 2) ∷ leave ∷ [])) ≡ true
labels-pass = refl

label-twice-refused : functions_in_place (chosen (leave ∷ case_label (pos 1) ∷ leave ∷ [])) ≡ false
label-twice-refused = refl

continue-refused : functions_in_place (chosen (continue ∷ [])) ≡ false
continue-refused = refl

-- `putchar` takes one object of a parameter, of an int
abbrev put : List Plain → PlainFile
put ss = of_function (gives void false) (int ∷ []) (set 0 (declare 0 int) ∷ set 1 (number (pos 97)) ∷ act (first 0 1) ∷ ss)

put-passes : functions_in_place (put (set 2 (call (codes "putchar") (takes int (gives int false)) None (0 ∷ []) None) ∷ [])) ≡ true
put-passes = refl

put-twice-refused : functions_in_place (put (set 2 (call (codes "putchar") (takes int (gives int false)) None (0 ∷ 0 ∷ []) None) ∷ [])) ≡ false
put-twice-refused = refl

put-alone-refused : functions_in_place (put (act (call (codes "putchar") (takes int (gives int false)) None (0 ∷ []) None) ∷ [])) ≡ false
put-alone-refused = refl
