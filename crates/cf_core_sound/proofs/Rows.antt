-- Programs of which the laws speak: they are of the forms, and typed.
use Rattle.std.proofs.Common.{◌≡◌, [], ◌∷◌, refl}
use Rattle.std.specs.Prelude.{true, false, codes}
use Rattle.cf_base.specs.declared.kind.Kind.TheVariants.{Char}
use Rattle.cf_core.specs.Types.{SourceType, integer, pointer, array, gives}
use Rattle.cf_core.specs.Core.{local, text, static_object, function, read, address, dereference, decay, index, convert, conditional, list, string, zeros, declare}
use Rattle.cf_core.proofs.Sample.{int, function_of, in_block, listed, main_of, program, static_of, returns, num, add, put_digit, value_of, set, called}
use Rattle.cf_core_sound.specs.Forms.{pointer_to, form}
use Rattle.cf_core_sound.specs.Programs.{is_sound_program}

-- int main(){return 7;}
a_number : is_sound_program (program [] (main_of (returns (num 7) ∷ []) ∷ []) []) ≡ true
a_number = refl

-- int g(int a){putchar('0'+a);return a;}int f(int a,int b){return a+b;}int main(){return f(g(1),g(2));}
calls : is_sound_program (program []
    (function_of (codes "g__Fi") (int ∷ []) int (in_block (put_digit (value_of 0) ∷ returns (value_of 0) ∷ []))
    ∷ function_of (codes "f__Fii") (int ∷ int ∷ []) int (in_block (returns (add (value_of 0) (value_of 1)) ∷ []))
    ∷ main_of (returns (called (codes "f__Fii") (int ∷ int ∷ []) int
    (called (codes "g__Fi") (int ∷ []) int (num 1 ∷ []) ∷ called (codes "g__Fi") (int ∷ []) int (num 2 ∷ []) ∷ [])) ∷ []) ∷ []) []) ≡ true
calls = refl

-- int main(){int a=1;int b=2;a=a+b;putchar('0'+a);return a;}
locals : is_sound_program (program [] (main_of (declare 0 int (num 1) ∷ declare 1 int (num 2) ∷ set (local 0) (add (value_of 0) (value_of 1)) ∷ put_digit (value_of 0) ∷ returns (value_of 0) ∷ []) ∷ []) []) ≡ true
locals = refl

abbrev chars : SourceType
chars = array (integer Char) 3

-- int main(){char s[3]="ab";return s[0];}
a_string : is_sound_program (program [] (main_of (declare 0 chars (string (97 ∷ 98 ∷ 0 ∷ [])) ∷ returns (convert int (read (index (decay (local 0)) (num 0)))) ∷ []) ∷ []) []) ≡ true
a_string = refl

-- int main(){int a[3][2]={{1},{2,3}};return a[1][0];}
nested_lists : is_sound_program (program [] (main_of (declare 0 (array (array int 2) 3) (list (listed (list (listed (num 1 ∷ [])) zeros ∷ list (listed (num 2 ∷ num 3 ∷ [])) zeros ∷ [])) zeros)
    ∷ returns (read (index (decay (index (decay (local 0)) (num 1))) (num 0))) ∷ []) ∷ []) []) ≡ true
nested_lists = refl

-- char s[3][3]={"ab","c"};int main(){return s[1][0];}
a_static_array : is_sound_program (record (program [] (main_of (returns (convert int (read (index (decay (index (decay (static_object (codes "s") (array chars 3))) (num 1))) (num 0)))) ∷ []) ∷ [])
    (static_of (codes "s") (array chars 3) ∷ [])) {
      constants = record { object = codes "s"; function = []; start = list (listed (string (97 ∷ 98 ∷ 0 ∷ []) ∷ string (99 ∷ 0 ∷ []) ∷ [])) zeros } ∷ [];
    }) ≡ true
a_static_array = refl

-- what nodes are by their forms: a pointer to a pointer to a function, a function, one of two pointers, an element, a literal

abbrev code : SourceType
code = gives int false

pointer_variable : form (pointer code ∷ []) (address (local 0)) ≡ pointer_to (pointer code)
pointer_variable = refl

function_itself : form [] (decay (dereference (function (codes "f__Fv") code))) ≡ pointer_to code
function_itself = refl

one_of_two : form (pointer code ∷ []) (conditional (num 1) (convert (pointer code) (num 0)) (value_of 0)) ≡ pointer_to code
one_of_two = refl

element : form (array (pointer code) 2 ∷ []) (read (index (num 1) (decay (local 0)))) ≡ pointer_to code
element = refl

literal : form [] (decay (text 0 (codes "a"))) ≡ pointer_to (integer Char)
literal = refl
