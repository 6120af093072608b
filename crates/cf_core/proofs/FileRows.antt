-- Files joined, what stands in the way of joining, frame bounds and functions named without dispatch, tried on small files.
use Rattle.std.proofs.Common.{◌≡◌, ℕ, ◌+◌, ◌*◌, List, [], ◌∷◌, refl}
use Rattle.std.specs.Prelude.{◌++◌, map, pos, Option, Some, true, false, codes}
use Rattle.std.specs.Fmt.{digits}
use Rattle.cf_base.specs.declared.kind.Kind.TheVariants.{Char, Int}
use Rattle.cf_base.specs.declared.arith.Arith.TheVariants as op
use Rattle.cf_base.specs.Event.{Enter, Ended, Undefined}
use Rattle.cf_core.specs.Types.{Name, SourceType, void, integer, class, pointer, array, const}
use Rattle.cf_core.specs.Classes.{Class}
use Rattle.cf_core.specs.Core.{Core, Function, Static, CoreFile, no_parts, none, this, local, member, read, static_object, virtual_call, delete, temporary, declare, each, assign, blank, full, once, text, decay, convert, dereference, operate}
use Rattle.cf_core.specs.Program.{Mean}
use Rattle.cf_core.specs.Joined.{program_of}
use Rattle.cf_core.specs.Join.{Definition, definitions, uses_at}
use Rattle.cf_core.specs.Frame.{frame_bound, initialiser_bound}
use Rattle.cf_core.specs.Named.{Named, named_in}
use Rattle.cf_core.proofs.Sample.{int, function_type, function_of, main_of, in_block, static_of, returns, num, add, put, value_of, set, called, built, copying, base_of, built_class, virtual_function, nonvirtual_function, constructor_of, destructor_of, Shown, shown_of}

abbrev file_of : List Class → List Function → List Static → CoreFile
file_of cs fs ss = record { classes = cs; functions = fs; statics = ss }

abbrev run_files : List CoreFile → ℕ → Option Shown
run_files files n = shown_of (Mean (program_of files) [] 1048576 1024 n)

abbrev shared : Function → Function
shared f = record f { is_shared = true }

abbrev dynamic : Name → SourceType → Core → Static
dynamic name t e = record (static_of name t) { start = e; is_constant = false }

abbrev local_dynamic : Name → Name → SourceType → Static
local_dynamic f name t = record (static_of name t) { owner = Some f; is_constant = false }

abbrev constant : Name → SourceType → Core → Static
constant name t e = record (static_of name t) { start = e }

-- struct S{int n;S(int a){n=a;putchar('a'+a);}~S(){putchar('A'+n);}}; in two files
abbrev S : SourceType
S = class (codes "1S")

abbrev S_by : ℕ → Core
S_by n = built (codes "__ct__1SFi") (int ∷ []) (num n ∷ [])

abbrev S_class : List Class
S_class = built_class (codes "1S") [] (int ∷ []) (nonvirtual_function (codes "__dt__Fv") (codes "__dt__1SFv") ∷ []) (Some (codes "__dt__1SFv")) ∷ []

abbrev S_constructor : Function
S_constructor =
    shared (constructor_of (codes "1S") (codes "__ct__1SFi") (int ∷ []) no_parts (set (member this 0) (value_of 0) ∷ put (add (num 97) (value_of 0)) ∷ []))

abbrev S_destructor : Function
S_destructor = shared (destructor_of (codes "1S") (codes "__dt__1SFv") (put (add (num 65) (read (member this 0))) ∷ []))

-- S s1(0); and S s2(1);void f(){static S s3(2);exit(3);}int main(){S l(3);f();return 0;}
two_files_with_statics :
    run_files
    (file_of S_class (S_constructor ∷ S_destructor ∷ []) (dynamic (codes "s1") S (S_by 0) ∷ [])
    ∷ file_of S_class
    (S_constructor ∷ S_destructor
    ∷ function_of (codes "f__Fv") [] void (in_block (once (codes "s3__L1__f__Fv") (S_by 2) ∷ full (called (codes "exit") (int ∷ []) void (num 3 ∷ [])) ∷ []))
    ∷ main_of (declare 0 S (S_by 3) ∷ full (called (codes "f__Fv") [] void []) ∷ returns (num 0) ∷ []) ∷ [])
    (dynamic (codes "s2") S (S_by 1) ∷ local_dynamic (codes "f__Fv") (codes "s3__L1__f__Fv") S ∷ [])
    ∷ []) 30
    ≡ Some (record { end = Ended (pos 3); out = codes "abdcCBA" })
two_files_with_statics = refl

-- int f(){static int n=g();return n;}int g(){return 4;}int main(){return f();}: no file is initialised, so three functions are entered
local_is_initialised_in_its_function :
    Mean (program_of (file_of []
    (function_of (codes "f__Fv") [] int (in_block (once (codes "n__L1__f__Fv") (called (codes "g__Fv") [] int []) ∷ returns (read (static_object (codes "n__L1__f__Fv") int)) ∷ []))
    ∷ function_of (codes "g__Fv") [] int (in_block (returns (num 4) ∷ [])) ∷ main_of (returns (called (codes "f__Fv") [] int []) ∷ []) ∷ [])
    (local_dynamic (codes "f__Fv") (codes "n__L1__f__Fv") int ∷ []) ∷ [])) [] 0 9 9
    ≡ Some (record { end = Ended (pos 4); trace = Enter (codes "__main") ∷ Enter (codes "f__Fv") ∷ Enter (codes "g__Fv") ∷ [] })
local_is_initialised_in_its_function = refl

-- int f();int x=f();int main(){return x;} and int y=3;int f(){return y+1;}
constants_of_all_files_come_first :
    run_files
    (file_of [] (main_of (returns (read (static_object (codes "x") int)) ∷ []) ∷ []) (dynamic (codes "x") int (called (codes "f__Fv") [] int []) ∷ [])
    ∷ file_of [] (function_of (codes "f__Fv") [] int (in_block (returns (add (read (static_object (codes "y") int)) (num 1)) ∷ [])) ∷ []) (constant (codes "y") int (num 3) ∷ [])
    ∷ []) 10
    ≡ Some (record { end = Ended (pos 4); out = [] })
constants_of_all_files_come_first = refl

-- static int f(){return 2;}int g();int main(){return f()+g();} and static int f(){return 5;}int g(){return f();}
abbrev own : Function → Function
own f = record f { is_local = true }

abbrev two_local_functions : List CoreFile
two_local_functions =
    file_of [] (own (function_of (codes "f__Fv") [] int (in_block (returns (num 2) ∷ [])))
    ∷ main_of (returns (add (called (codes "f__Fv") [] int []) (called (codes "g__Fv") [] int [])) ∷ []) ∷ []) []
    ∷ file_of [] (own (function_of (codes "f__Fv") [] int (in_block (returns (num 5) ∷ [])))
    ∷ function_of (codes "g__Fv") [] int (in_block (returns (called (codes "f__Fv") [] int []) ∷ [])) ∷ []) [] ∷ []

local_functions_are_apart :
    Mean (program_of two_local_functions) [] 0 9 9
    ≡ Some (record { end = Ended (pos 7); trace = Enter (codes "__main") ∷ Enter (codes "f__Fv__u1") ∷ Enter (codes "g__Fv") ∷ Enter (codes "f__Fv__u2") ∷ [] })
unfolding digits
local_functions_are_apart = refl

-- extern int x;int main(){return x;} and unsigned x=1; here the other file's name is used as if cast from void*
declared_otherwise_than_defined :
    run_files
    (file_of [] (main_of (returns (read (static_object (codes "x") (pointer int))) ∷ []) ∷ []) []
    ∷ file_of [] [] (constant (codes "x") (pointer (integer Char)) (num 0) ∷ []) ∷ []) 10
    ≡ Some (record { end = Undefined 9; out = [] })
declared_otherwise_than_defined = refl

-- int f(){static const char*s="x";return *s;}int g(){static const char*t="y";return *t;}int main(){return f()-g();}: each function has its literal 1
abbrev char_pointer : SourceType
char_pointer = pointer (const (integer Char))

abbrev local_constant : Name → Name → List ℕ → Static
local_constant f name bytes = record (constant name char_pointer (decay (text 1 bytes))) { owner = Some f }

abbrev first_char : Name → Core
first_char name = convert int (read (dereference (read (static_object name char_pointer))))

literals_of_local_statics :
    run_files
    (file_of []
    (function_of (codes "f__Fv") [] int (in_block (returns (first_char (codes "s__L1__f__Fv")) ∷ []))
    ∷ function_of (codes "g__Fv") [] int (in_block (returns (first_char (codes "t__L1__g__Fv")) ∷ []))
    ∷ main_of (returns (operate op.Subtract Int (called (codes "g__Fv") [] int []) (called (codes "f__Fv") [] int [])) ∷ []) ∷ [])
    (local_constant (codes "f__Fv") (codes "s__L1__f__Fv") (codes "x" ++ 0 ∷ []) ∷ local_constant (codes "g__Fv") (codes "t__L1__g__Fv") (codes "y" ++ 0 ∷ []) ∷ [])
    ∷ []) 10
    ≡ Some (record { end = Ended (pos 1); out = [] })
literals_of_local_statics = refl

literal_of_a_local_static_is_defined :
    map (λ (d : Definition). d.name) (definitions (file_of [] [] (local_constant (codes "f__Fv") (codes "s__L1__f__Fv") [] ∷ []) ∷ []))
    ≡ codes "s__L1__f__Fv" ∷ codes "__s1__f__Fv" ∷ []
unfolding digits
literal_of_a_local_static_is_defined = refl

-- Frame bounds: char b[8200];return 7; is 64 and 24 + 8200 and 32
array_in_a_frame :
    frame_bound [] [] (record (main_of (declare 0 (array (integer Char) 8200) blank ∷ returns (num 7) ∷ [])) { locals = array (integer Char) 8200 ∷ [] }) ≡ 8320
array_in_a_frame = refl

-- a class temporary adds its size: T(1); has two nodes beside the constant, and 4 bytes rounded up to 8
temporary_in_a_frame : frame_bound S_class [] (main_of (full (temporary S (S_by 1)) ∷ [])) ≡ 64 + (3 * 32 + 8)
temporary_in_a_frame = refl

-- S a[3]; each element's initialiser is a full expression of two nodes
elements_in_a_frame : frame_bound S_class [] (main_of (declare 0 (array S 3) (each (S_by 1)) ∷ [])) ≡ 64 + (24 + 16) + 2 * 32
elements_in_a_frame = refl

-- the initialisers of static objects belong to the function whose locals they are, or to the file's initialising function
abbrev two_constants : List Static
two_constants = local_constant (codes "__main") (codes "s__L1____main") (120 ∷ 0 ∷ []) ∷ constant (codes "x") int (add (num 1) (num 2)) ∷ []

local_static_in_a_frame : frame_bound [] two_constants (main_of []) ≡ 64 + 2 * 32
local_static_in_a_frame = refl

static_in_the_files_frame : initialiser_bound [] two_constants ≡ 64 + 3 * 32
static_in_the_files_frame = refl

-- Uses: struct A{virtual ~A();A(const A&);A operator=(A);}; an assignment by value builds a copy, and its result is a temporary
abbrev assigned_by_value : List Class
assigned_by_value =
    record (built_class (codes "1A") [] [] (virtual_function (codes "__dt__Fv") (codes "__dt__1AFv") ∷ []) (Some (codes "__dt__1AFv"))) {
      copy = copying (codes "1A") (codes "__ct__1AFRC1A") [];
      assignment = Some (record { name = codes "__as__1AF1A"; type = function_type (class (codes "1A") ∷ []) (class (codes "1A")) });
    } ∷ []

assignment_by_value_uses_the_copy :
    uses_at assigned_by_value (assign (class (codes "1A")) (local 0) (local 1) none)
    ≡ codes "__as__1AF1A" ∷ codes "__dt__1AFv" ∷ codes "__ct__1AFRC1A" ∷ []
assignment_by_value_uses_the_copy = refl

result_of_an_assignment_is_destroyed_by_name : named_in assigned_by_value (assign (class (codes "1A")) (local 0) (local 1) none) ≡ codes "__dt__1AFv" ∷ []
result_of_an_assignment_is_destroyed_by_name = refl

-- Named: struct A{virtual ~A();};struct B:A{};: delete of an A* names no destructor, a local B names B's, and B's destructor names A's
abbrev A_and_B : List Class
A_and_B =
    built_class (codes "1A") [] [] (virtual_function (codes "__dt__Fv") (codes "__dt__1AFv") ∷ []) (Some (codes "__dt__1AFv"))
    ∷ built_class (codes "1B") (base_of (codes "1A") ∷ []) [] (virtual_function (codes "__dt__Fv") (codes "__dt__1BFv") ∷ []) (Some (codes "__dt__1BFv")) ∷ []

delete_is_dispatched : Named A_and_B (function_of (codes "f__FP1A") (pointer (class (codes "1A")) ∷ []) void (in_block (full (delete (class (codes "1A")) (value_of 0)) ∷ []))) ≡ []
delete_is_dispatched = refl

local_is_destroyed_by_name : Named A_and_B (function_of (codes "f__Fv") [] void (in_block (declare 0 (class (codes "1B")) (built (codes "__ct__1BFv") [] []) ∷ []))) ≡ codes "__dt__1BFv" ∷ []
local_is_destroyed_by_name = refl

base_is_destroyed_by_name : Named A_and_B (destructor_of (codes "1B") (codes "__dt__1BFv") []) ≡ codes "__dt__1AFv" ∷ []
base_is_destroyed_by_name = refl

virtual_call_names_nothing : Named A_and_B (function_of (codes "f__FP1A") (pointer (class (codes "1A")) ∷ []) void (in_block (full (virtual_call (codes "g__Fv") (function_type [] void) (local 0) none) ∷ []))) ≡ []
virtual_call_names_nothing = refl
