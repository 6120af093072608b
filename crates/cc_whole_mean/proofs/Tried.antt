-- The definitions, evaluated on small programs: values, acts of memory, moves.
use Rattle.std.proofs.Common.{◌≡◌, List, [], ◌∷◌, pos, negsuc, Some, None, refl, codes}
use Rattle.cf_base.specs.declared.arith.Arith.TheVariants as op
use Rattle.cc_whole.specs.declared.types.CType.TheVariants as ty
use Rattle.cc_whole.specs.declared.types.CConstant.TheVariants as constants
use Rattle.cc_whole.specs.declared.types.CVariableType.TheVariants as variable
use Rattle.cc_whole.specs.declared.expression.Prefix.TheVariants as prefix
use Rattle.cc_whole.specs.declared.unit.CInitialiser.TheVariants as initialiser
use Rattle.cf_base.specs.World.{Outcome}
use Rattle.cc_whole.specs.Plain.{Statement, Item, unary, cast, address, binary, block, body, in_order}
use Rattle.cc_whole_mean.proofs.Small.{int, minus, uint, var, set, star, store, plus, less, same, null, ret, scalar, function, static, main, outcome_of, of_main, ends, ended, act}

return_three : of_main (ret (int 3) ∷ []) ≡ ended 3
return_three = refl

sum_wraps_not : of_main (ret (plus (int 2147483647) (int 1)) ∷ []) ≡ act 1
sum_wraps_not = refl

negated_least : of_main (ret (unary prefix.Negate (minus 2147483647)) ∷ []) ≡ act 1
negated_least = refl

unsigned_wraps : of_main (ret (cast ty.Int (plus (uint 4294967295) (uint 2))) ∷ []) ≡ ended 1
unsigned_wraps = refl

zero_divisor : of_main (ret (binary op.Divide (int 1) (int 0)) ∷ []) ≡ act 2
zero_divisor = refl

zero_remainder : of_main (ret (binary op.Remainder (int 1) (int 0)) ∷ []) ≡ act 2
zero_remainder = refl

least_divided : of_main (ret (binary op.Divide (minus 2147483647) (minus 0)) ∷ []) ≡ act 1
least_divided = refl

least_remainder : of_main (ret (binary op.Remainder (minus 2147483647) (minus 0)) ∷ []) ≡ ended 0
least_remainder = refl

shift_of_32 : of_main (ret (binary op.ShiftLeft (int 1) (int 32)) ∷ []) ≡ act 3
shift_of_32 = refl

shift_of_less_than_0 : of_main (ret (binary op.ShiftRight (int 1) (minus 0)) ∷ []) ≡ act 3
shift_of_less_than_0 = refl

left_shift_works_on_bits : of_main (ret (same (binary op.ShiftLeft (int 1) (int 31)) (minus 2147483647)) ∷ []) ≡ ended 1
left_shift_works_on_bits = refl

right_shift_rounds_down : of_main (ret (binary op.ShiftRight (minus 8) (int 1)) ∷ []) ≡ ends (negsuc 4) []
right_shift_rounds_down = refl

signed_char : of_main (ret (cast ty.Char (int 200)) ∷ []) ≡ ends (negsuc 55) []
signed_char = refl

int_with_unsigned : of_main (ret (less (minus 0) (uint 1)) ∷ []) ≡ ended 0
int_with_unsigned = refl

complement : of_main (ret (unary prefix.Complement (int 5)) ∷ []) ≡ ends (negsuc 5) []
complement = refl

not_of_zero : of_main (ret (unary prefix.Not (int 0)) ∷ []) ≡ ended 1
not_of_zero = refl

-- Null.

null_read : of_main (ret (star ty.Int null) ∷ []) ≡ act 4
null_read = refl

null_written : of_main (store ty.Int null (int 1) ∷ []) ≡ act 4
null_written = refl

null_and_zero : of_main (set (codes "p") (plus null (int 0)) ∷ []) ≡ act 4
null_and_zero = refl

null_is_less : of_main (ret (less null (var (codes "a"))) ∷ []) ≡ act 4
null_is_less = refl

null_subtracted : of_main (ret (binary op.Subtract (var (codes "a")) null) ∷ []) ≡ act 4
null_subtracted = refl

null_is_the_constant_0 : of_main (set (codes "p") (int 0) ∷ ret (same (var (codes "p")) (int 0)) ∷ []) ≡ ended 1
null_is_the_constant_0 = refl

-- Blocks that have ended. `{ int z; z = 5; p = (char *)&z; .. }`
abbrev let_go : List Statement → Statement
let_go all = block (body (scalar ty.Int (codes "z") ∷ []) (in_order (set (codes "z") (int 5) ∷ set (codes "p") (address (codes "z")) ∷ all)))

in_its_body : of_main (let_go (ret (star ty.Int (var (codes "p"))) ∷ []) ∷ []) ≡ ended 5
in_its_body = refl

dead_read : of_main (let_go [] ∷ ret (star ty.Int (var (codes "p"))) ∷ []) ≡ act 5
dead_read = refl

dead_written : of_main (let_go [] ∷ store ty.Int (var (codes "p")) (int 1) ∷ []) ≡ act 5
dead_written = refl

dead_moved : of_main (let_go [] ∷ set (codes "q") (plus (var (codes "p")) (int 0)) ∷ []) ≡ act 5
dead_moved = refl

dead_and_itself : of_main (let_go [] ∷ ret (less (var (codes "p")) (var (codes "p"))) ∷ []) ≡ act 5
dead_and_itself = refl

dead_and_another : of_main (let_go [] ∷ ret (less (var (codes "p")) (var (codes "a"))) ∷ []) ≡ act 8
dead_and_another = refl

equality_is_no_act : of_main (let_go [] ∷ ret (same (var (codes "p")) (var (codes "p"))) ∷ []) ≡ ended 1
equality_is_no_act = refl

-- Places outside their blocks.

one_past_the_end : of_main (set (codes "p") (plus (var (codes "a")) (int 8)) ∷ ret (binary op.Subtract (var (codes "p")) (var (codes "a"))) ∷ []) ≡ ended 8
one_past_the_end = refl

past_the_end_is_read : of_main (ret (star ty.Int (plus (var (codes "a")) (int 8))) ∷ []) ≡ act 6
past_the_end_is_read = refl

partly_outside : of_main (store ty.Int (plus (var (codes "a")) (int 5)) (int 1) ∷ []) ≡ act 6
partly_outside = refl

two_past_the_end : of_main (set (codes "p") (plus (var (codes "a")) (int 9)) ∷ []) ≡ act 6
two_past_the_end = refl

before_the_start : of_main (set (codes "p") (binary op.Subtract (var (codes "a")) (int 1)) ∷ []) ≡ act 6
before_the_start = refl

integer_before_pointer : of_main (store ty.Int (plus (int 4) (var (codes "a"))) (int 6) ∷ ret (star ty.Int (plus (var (codes "a")) (int 4))) ∷ []) ≡ ended 6
integer_before_pointer = refl

-- No value of that kind.

not_stored : of_main (ret (var (codes "x")) ∷ []) ≡ act 7
not_stored = refl

part_of_a_value : of_main (set (codes "x") (int 1) ∷ ret (cast ty.Int (star ty.Char (address (codes "x")))) ∷ []) ≡ act 7
part_of_a_value = refl

another_kind : of_main (set (codes "x") (int 0) ∷ set (codes "p") (address (codes "x")) ∷ ret (same (star ty.Pointer (var (codes "p"))) (int 0)) ∷ []) ≡ act 7
another_kind = refl

an_integer_of_that_width : of_main (set (codes "x") (minus 0) ∷ ret (less (int 5) (star ty.UInt (address (codes "x")))) ∷ []) ≡ ended 1
an_integer_of_that_width = refl

overlapped : of_main (store ty.Int (var (codes "a")) (int 1) ∷ store ty.Char (plus (var (codes "a")) (int 3)) (cast ty.Char (int 2))
    ∷ ret (star ty.Int (var (codes "a"))) ∷ []) ≡ act 7
overlapped = refl

overlapped_from_before : of_main (store ty.Char (plus (var (codes "a")) (int 3)) (cast ty.Char (int 2)) ∷ store ty.Int (var (codes "a")) (int 1)
    ∷ ret (cast ty.Int (star ty.Char (plus (var (codes "a")) (int 3)))) ∷ []) ≡ act 7
overlapped_from_before = refl

beside : of_main (store ty.Int (var (codes "a")) (int 1) ∷ store ty.Char (plus (var (codes "a")) (int 4)) (cast ty.Char (int 2))
    ∷ ret (star ty.Int (var (codes "a"))) ∷ []) ≡ ended 1
beside = refl

-- Moves.

no_value_is_moved : of_main (set (codes "y") (var (codes "x")) ∷ ret (int 0) ∷ []) ≡ ended 0
no_value_is_moved = refl

a_move_makes_no_value : of_main (set (codes "y") (int 1) ∷ set (codes "y") (var (codes "x")) ∷ ret (var (codes "y")) ∷ []) ≡ act 7
a_move_makes_no_value = refl

a_part_moves_as_no_value : of_main (set (codes "x") (int 1) ∷ set (codes "c") (star ty.Char (plus (address (codes "x")) (int 1)))
    ∷ ret (cast ty.Int (var (codes "c"))) ∷ []) ≡ act 7
a_part_moves_as_no_value = refl

whole_values_are_moved : of_main (store ty.Short (var (codes "a")) (cast ty.Short (int 1)) ∷ store ty.Short (plus (var (codes "a")) (int 2)) (cast ty.Short (int 2))
    ∷ store ty.Int (plus (var (codes "a")) (int 4)) (star ty.Int (var (codes "a")))
    ∷ ret (cast ty.Int (star ty.Short (plus (var (codes "a")) (int 6)))) ∷ []) ≡ ended 2
whole_values_are_moved = refl

a_value_is_moved_in_its_block : of_main (store ty.Int (var (codes "a")) (int 9) ∷ store ty.Int (plus (var (codes "a")) (int 4)) (star ty.Int (var (codes "a")))
    ∷ ret (plus (star ty.Int (var (codes "a"))) (star ty.Int (plus (var (codes "a")) (int 4)))) ∷ []) ≡ ended 18
a_value_is_moved_in_its_block = refl

a_sum_is_no_move : of_main (set (codes "y") (plus (var (codes "x")) (int 0)) ∷ ret (int 0) ∷ []) ≡ act 7
a_sum_is_no_move = refl

-- Pointers into different blocks.

different_blocks_subtracted : of_main (ret (binary op.Subtract (var (codes "a")) (address (codes "x"))) ∷ []) ≡ act 8
different_blocks_subtracted = refl

different_blocks_compared : of_main (ret (binary op.GreaterEqual (var (codes "a")) (address (codes "x"))) ∷ []) ≡ act 8
different_blocks_compared = refl

offsets_compared : of_main (ret (less (var (codes "a")) (plus (var (codes "a")) (int 1))) ∷ []) ≡ ended 1
offsets_compared = refl

-- Static blocks. `char s[4] = "ab";`, `int n;`, `struct __e t[1] = { { 5, g } };`
abbrev statics : List Item
statics = static (variable.Chars (constants.Signed (pos 4))) (codes "s") (Some (initialiser.Text (codes "ab")))
    ∷ static (variable.Scalar ty.Int) (codes "n") None
    ∷ static (variable.Pairs (constants.Signed (pos 1))) (codes "t") (Some (initialiser.Pairs (record { number = constants.Signed (pos 5); function = Some (codes "g") } ∷ [])))
    ∷ function (Some ty.Int) (codes "g") [] [] (ret (int 8) ∷ []) ∷ []

abbrev of_static : List Statement → Outcome
of_static all = outcome_of (main all ∷ statics)

static_is_zero : of_static (ret (var (codes "n")) ∷ []) ≡ ended 0
static_is_zero = refl

zero_is_null_too : of_static (ret (same (star ty.Pointer (address (codes "n"))) (int 0)) ∷ []) ≡ ended 1
zero_is_null_too = refl

a_byte_of_the_string : of_static (ret (cast ty.Int (star ty.Char (plus (var (codes "s")) (int 1)))) ∷ []) ≡ ended 98
a_byte_of_the_string = refl

behind_the_string : of_static (ret (cast ty.Int (star ty.Char (plus (var (codes "s")) (int 3)))) ∷ []) ≡ ended 0
behind_the_string = refl

the_number_of_a_pair : of_static (ret (star ty.Int (var (codes "t"))) ∷ []) ≡ ended 5
the_number_of_a_pair = refl

the_function_of_a_pair : of_static (ret (same (star ty.FunctionPointer (plus (var (codes "t")) (int 4))) (var (codes "g"))) ∷ []) ≡ ended 1
the_function_of_a_pair = refl

unwritten_bytes_are_moved : of_static (set (codes "x") (var (codes "n")) ∷ ret (cast ty.Int (star ty.Char (plus (address (codes "x")) (int 2)))) ∷ []) ≡ ended 0
unwritten_bytes_are_moved = refl

written_partly : of_static (store ty.Char (address (codes "n")) (cast ty.Char (int 1)) ∷ ret (var (codes "n")) ∷ []) ≡ act 7
written_partly = refl
