-- Small files that are lowered, and files that each test refuses.
use Rattle.std.proofs.Common.{◌≡◌, ℕ, List, [], ◌∷◌, ◌++◌, refl}
use Rattle.std.specs.Prelude.{pos, Some, None, true, false, codes}
use Rattle.std.specs.Fmt.{digits}
use Rattle.cf_base.specs.declared.kind.Kind.TheVariants.{Char, UChar, Int, UInt}
use Rattle.cf_core.specs.Types.{Name, SourceType, void, integer, pointer, reference, array, data_member, takes, gives, const}
use Rattle.cf_core.specs.Core.{plain_function}
use Rattle.cf_plain.specs.Plain.{Plain, Plains, PlainFunction, PlainStatic, PlainFile, nothing, more, act, set, branch, give, number, text, read, decay, index, convert, truth, store, declare, first, zeros, bytes, call, function, static_object, reach, finish_static}
use Rattle.cc_whole.specs.Types.{same_type}
use Rattle.cc_whole.specs.ValidUnit.{valid_items}
use Rattle.cf_lower.specs.Functions.{lowered_file}
use Rattle.cf_lower_program.specs.Types.{types_lowered}
use Rattle.cf_lower_place.specs.Named.{functions_in_place}
use Rattle.cf_lower_program.specs.Names.{names_lowered, names_used, may_be_object, may_be_function}
use Rattle.cf_lower_program.specs.Starts.{statics_known, texts_fit}
use Rattle.cf_lower_program.specs.Alike.{start_alike}
use Rattle.cf_lower_program.specs.Counts.{shared_apart}
use Rattle.cf_lower_program.specs.Passed.{arguments_apart}
use Rattle.cf_lower_program.specs.Lowerable.{Lowerable}

abbrev statements : List Plain → Plains
statements [] = nothing
statements (s ∷ ss) = more s (statements ss)

abbrev int : SourceType
int = integer Int

abbrev no_parameters : SourceType → SourceType
no_parameters t = gives t false

abbrev function_of : Name → SourceType → List SourceType → List Plain → PlainFunction
function_of name t locals ss = record {
  name = name;
  role = plain_function;
  type = t;
  locals = locals;
  body = statements ss;
  is_shared = false;
  is_local = false;
}

abbrev main_of : List SourceType → List Plain → PlainFunction
main_of locals ss = function_of (codes "__main") (no_parameters int) locals ss

abbrev file : List PlainFunction → List PlainStatic → PlainFile
file fs xs = record { classes = []; functions = fs; statics = xs }

abbrev static_of : Name → SourceType → List Plain → PlainStatic
static_of name t ss = record {
  name = name;
  type = t;
  locals = [];
  start = statements (act (reach name) ∷ set 0 (static_object name t) ∷ ss ++ act (finish_static name) ∷ []);
  owner = None;
  is_constant = true;
  is_shared = false;
  is_local = false;
}

-- int main(){return 7;}
abbrev returns_seven : List Plain
returns_seven = set 0 (number (pos 7)) ∷ give (Some 0) ∷ []

abbrev with_seven : List PlainStatic → PlainFile
with_seven xs = file (main_of [] returns_seven ∷ []) xs

-- extern int y;int f(int);int x=1&&2;char*s="a";int main(){return f(y);}
abbrev f_type : SourceType
f_type = takes int (no_parameters int)

abbrev whole : PlainFile
whole = file (main_of (int ∷ [])
    (act (function (codes "f__Fi") f_type) ∷ set 0 (declare 0 int) ∷ set 1 (static_object (codes "y") int) ∷ set 1 (read 1) ∷ act (first 0 1)
    ∷ set 0 (call (codes "f__Fi") f_type None (0 ∷ []) None) ∷ give (Some 0) ∷ []) ∷ [])
    (static_of (codes "x") int
    (set 1 (number (pos 1)) ∷ set 1 (truth 1) ∷ branch 1 (statements (set 1 (number (pos 2)) ∷ set 1 (truth 1) ∷ [])) nothing ∷ act (first 0 1) ∷ [])
    ∷ static_of (codes "s") (pointer (integer Char)) (set 1 (text 0 (97 ∷ 0 ∷ [])) ∷ set 1 (decay 1) ∷ act (first 0 1) ∷ []) ∷ [])

whole-is-lowered : Lowerable whole
unfolding digits same_type
whole-is-lowered = record {
  valid = refl;
  no_classes = refl;
  roles = refl;
  types = refl;
  actions = refl;
  names = refl;
  used = refl;
  statics = refl;
  starts = refl;
  texts = refl;
  literals = refl;
  labels = refl;
  counts = refl;
  shared = refl;
  arguments = refl;
  kept = refl;
  ready = refl;
  opened = refl;
  places = refl;
}

-- struct A;int f(int A::*p){..}
member-refused : types_lowered (file (function_of (codes "f__FM1Ai") (takes (data_member (codes "1A") int) (no_parameters int)) [] returns_seven ∷ []) []) ≡ false
unfolding digits
member-refused = refl

-- a function of the name of what runs before `main`, and a main of another type
abbrev named_only : Name → SourceType → PlainFile
named_only name t = file (function_of name t [] returns_seven ∷ []) []

main-named : names_lowered (named_only (codes "__main") (no_parameters int)) ≡ true
unfolding digits same_type
main-named = refl

start-refused : names_lowered (named_only (codes "__sti") (no_parameters int)) ≡ false
unfolding digits same_type
start-refused = refl

unsigned-main-refused : names_lowered (named_only (codes "__main") (no_parameters (integer UInt))) ≡ false
unfolding digits same_type
unsigned-main-refused = refl

main-with-parameters-refused : names_lowered (named_only (codes "__main") f_type) ≡ false
unfolding digits same_type
main-with-parameters-refused = refl

-- int f(){static int x;..}, int free;, int x; and f
local-object-named : may_be_object (codes "x__L1__f__Fv") ≡ true
local-object-named = refl

known-object-named : may_be_object (codes "free__g") ≡ true
known-object-named = refl

object-named : may_be_object (codes "x") ≡ true
object-named = refl

function-is-no-object : may_be_object (codes "f__Fi") ≡ false
function-is-no-object = refl

function-named : may_be_function (codes "f__Fi") ≡ true
function-named = refl

-- a name that ends as those of files do
file-name-refused : may_be_function (codes "f__Fi__u12") ≡ false
file-name-refused = refl

longer-named : may_be_function (codes "f__Fi__u1x") ≡ true
longer-named = refl

-- int f(int x){return g(x);} where the object of x is passed on itself, and where the argument has an object of its own
abbrev passing : ℕ → PlainFunction
passing i = function_of (codes "f__Fi") f_type (int ∷ []) (set 0 (call (codes "g__Fi") f_type None (i ∷ []) None) ∷ give (Some 0) ∷ [])

parameter-refused : arguments_apart (file (passing 0 ∷ []) []) ≡ false
parameter-refused = refl

own-passed : arguments_apart (file (passing 1 ∷ []) []) ≡ true
own-passed = refl

-- int x=g(); as a constant
call-refused : statics_known (with_seven (static_of (codes "x") int (set 1 (call (codes "g__Fv") (no_parameters int) None [] None) ∷ act (first 0 1) ∷ []) ∷ [])) ≡ false
unfolding digits
call-refused = refl

-- a literal without its ending 0
abbrev literal : List ℕ → PlainFile
literal b = with_seven (static_of (codes "s") (pointer (integer Char)) (set 1 (text 0 b) ∷ set 1 (decay 1) ∷ act (first 0 1) ∷ []) ∷ [])

open-literal-refused : texts_fit (literal (97 ∷ [])) ≡ false
unfolding digits
open-literal-refused = refl

-- a store whose value is kept
kept-store-refused : functions_in_place (file (main_of (int ∷ []) (set 0 (declare 0 int) ∷ set 1 (number (pos 1)) ∷ set 2 (store 0 1) ∷ returns_seven) ∷ []) []) ≡ false
unfolding digits
kept-store-refused = refl

-- a pointer to a function that becomes one to void
code-as-void-refused : functions_in_place (file (main_of [] (set 0 (function (codes "f__Fi") f_type) ∷ set 0 (convert (pointer void) 0) ∷ returns_seven) ∷ []) []) ≡ false
unfolding digits
code-as-void-refused = refl

-- a name that is used for nothing
unused-name-refused : names_used (file (main_of [] (act (static_object (codes "y") int) ∷ returns_seven) ∷ []) []) ≡ false
unfolding digits
unused-name-refused = refl

-- an array that starts by "", and that nothing uses
abbrev static_bytes : PlainFile
static_bytes = with_seven (static_of (codes "s") (array (integer Char) 1) (act (bytes 0 (0 ∷ [])) ∷ []) ∷ [])

unused-array-passes : names_used static_bytes ≡ true
unfolding digits
unused-array-passes = refl

-- Files that the other tests let through, and whose units are not valid. Elaboration and sequencing make none of them.

-- a function that is shared and local to its file (V12)
abbrev shared_and_local : PlainFile
shared_and_local = file (record (main_of [] returns_seven) { is_shared = true; is_local = true } ∷ []) []

shared-local-invalid : valid_items (lowered_file shared_and_local) ≡ false
unfolding digits same_type
shared-local-invalid = refl

shared-local-refused : shared_apart shared_and_local ≡ false
unfolding digits
shared-local-refused = refl

-- an object of a function's type, whose place goes to the register of a function (V4)
abbrev function_as_object : PlainFile
function_as_object = file (main_of [] (set 0 (static_object (codes "y") f_type) ∷ returns_seven) ∷ []) []

function-object-invalid : valid_items (lowered_file function_as_object) ≡ false
unfolding digits same_type
function-object-invalid = refl

function-object-refused : types_lowered function_as_object ≡ false
unfolding digits
function-object-refused = refl

-- a reference to a const function (V3)
abbrev to_const_function : PlainFile
to_const_function = file (main_of [] (set 0 (static_object (codes "r") (reference (const f_type))) ∷ returns_seven) ∷ []) []

const-function-invalid : valid_items (lowered_file to_const_function) ≡ false
unfolding digits same_type
const-function-invalid = refl

const-function-refused : types_lowered to_const_function ≡ false
unfolding digits
const-function-refused = refl

-- int*p=5; without a conversion (V3)
abbrev number_as_pointer : PlainFile
number_as_pointer = with_seven (static_of (codes "p") (pointer int) (set 1 (number (pos 5)) ∷ act (first 0 1) ∷ []) ∷ [])

number-pointer-invalid : valid_items (lowered_file number_as_pointer) ≡ false
unfolding digits same_type
number-pointer-invalid = refl

number-pointer-refused : statics_known number_as_pointer ≡ false
unfolding digits
number-pointer-refused = refl

-- ---- initialisers that do the same in both

abbrev three : SourceType
three = array int 3

-- int a[3]={1}; by elements, and zeros for the rest
list-passes : start_alike (static_of (codes "a") three
    (set 1 (decay 0) ∷ set 2 (number (pos 0)) ∷ set 3 (index 1 2) ∷ set 4 (number (pos 1)) ∷ act (first 3 4) ∷ set 2 (number (pos 2)) ∷ set 3 (index 1 2) ∷ act (zeros 3) ∷ [])) ≡ true
list-passes = refl

-- a store at the end of the array
end-refused : start_alike (static_of (codes "a") three
    (set 1 (decay 0) ∷ set 2 (number (pos 3)) ∷ set 3 (index 1 2) ∷ set 4 (number (pos 1)) ∷ act (first 3 4) ∷ [])) ≡ false
end-refused = refl

-- zeros for what was set before
zeros-behind-refused : start_alike (static_of (codes "x") int (set 1 (number (pos 1)) ∷ act (first 0 1) ∷ act (zeros 0) ∷ [])) ≡ false
zeros-behind-refused = refl

-- a number that a char does not have
wide-number-refused : start_alike (static_of (codes "c") (integer Char) (set 1 (number (pos 300)) ∷ act (first 0 1) ∷ [])) ≡ false
wide-number-refused = refl

-- the object of another name
other-object-refused : start_alike (static_of (codes "x") int (set 1 (static_object (codes "y") int) ∷ set 2 (number (pos 1)) ∷ act (first 1 2) ∷ [])) ≡ false
other-object-refused = refl

-- int*p=&x; and the same as a pointer to unsigned int
pointer-passes : start_alike (static_of (codes "p") (pointer int) (set 1 (static_object (codes "x") int) ∷ act (first 0 1) ∷ [])) ≡ true
pointer-passes = refl

other-pointer-refused : start_alike (static_of (codes "p") (pointer (integer UInt)) (set 1 (static_object (codes "x") int) ∷ act (first 0 1) ∷ [])) ≡ false
other-pointer-refused = refl

-- a pointer to void that is moved
void-moved-refused : start_alike (static_of (codes "p") (pointer void)
    (set 1 (static_object (codes "x") int) ∷ set 1 (convert (pointer void) 1) ∷ set 2 (number (pos 1)) ∷ set 1 (index 1 2) ∷ act (first 0 1) ∷ [])) ≡ false
void-moved-refused = refl

-- int(*p)(int)=f; and with a function that takes nothing
function-passes : start_alike (static_of (codes "p") (pointer f_type) (set 1 (function (codes "f__Fi") f_type) ∷ act (first 0 1) ∷ [])) ≡ true
function-passes = refl

other-function-refused : start_alike (static_of (codes "p") (pointer f_type) (set 1 (function (codes "g__Fv") (no_parameters int)) ∷ act (first 0 1) ∷ [])) ≡ false
other-function-refused = refl

-- char s[]="a"; the same of unsigned char, and bytes in an array of no characters
bytes-pass : start_alike (static_of (codes "s") (array (integer Char) 2) (act (bytes 0 (97 ∷ 0 ∷ [])) ∷ [])) ≡ true
bytes-pass = refl

unsigned-bytes-pass : start_alike (static_of (codes "s") (array (integer UChar) 2) (act (bytes 0 (97 ∷ 0 ∷ [])) ∷ [])) ≡ true
unsigned-bytes-pass = refl

other-bytes-refused : start_alike (static_of (codes "s") (array (integer UInt) 2) (act (bytes 0 (97 ∷ 0 ∷ [])) ∷ [])) ≡ false
other-bytes-refused = refl
