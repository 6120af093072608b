-- What operators ask of what two operands hold, by what is asked of each.
use Rattle.std.proofs.Common.{◌≡◌, Bool, true, false, ◌&&◌, refl, sym, ◌∙◌}
use Rattle.cf_lower_layout.specs.Sorts.{number, address, code}
use Rattle.cf_lower.specs.Kept.{Kept, unknown, integer_of, holds, argument}
use Rattle.cf_lower_place.specs.Leaf.{is_integer, is_address, may_zero, may_move, may_add, may_subtract, have_order}

move_number : (x y : Kept) → is_integer y ≡ true → may_zero x ≡ may_move x y
move_number unknown (integer_of f) e = refl
move_number (integer_of g) (integer_of f) e = refl
move_number (holds (number k)) (integer_of f) e = refl
move_number (holds (address t)) (integer_of f) e = refl
move_number (holds (code t)) (integer_of f) e = refl
move_number (argument i t) (integer_of f) e = refl
move_number x unknown e = cc
move_number x (holds s) e = cc
move_number x (argument i t) e = cc

move_other : (x y : Kept) → is_integer y ≡ false → false ≡ may_move x y
move_other x (integer_of f) e = cc
move_other unknown unknown e = refl
move_other unknown (holds s) e = refl
move_other unknown (argument i t) e = refl
move_other (integer_of g) unknown e = refl
move_other (integer_of g) (holds s) e = refl
move_other (integer_of g) (argument i t) e = refl
move_other (holds (number k)) unknown e = refl
move_other (holds (number k)) (holds s) e = refl
move_other (holds (number k)) (argument i t) e = refl
move_other (holds (address u)) unknown e = refl
move_other (holds (address u)) (holds s) e = refl
move_other (holds (address u)) (argument i t) e = refl
move_other (holds (code u)) unknown e = refl
move_other (holds (code u)) (holds s) e = refl
move_other (holds (code u)) (argument i t) e = refl
move_other (argument n u) unknown e = refl
move_other (argument n u) (holds s) e = refl
move_other (argument n u) (argument i t) e = refl

pub moves : (x y : Kept) (b c : Bool) → b ≡ is_integer y → b ≡ true → c ≡ may_zero x → c ≡ may_move x y
moves x y b c integer sure zero = zero ∙ move_number x y (sym integer ∙ sure)

pub moves_not : (x y : Kept) (b : Bool) → b ≡ is_integer y → b ≡ false → false ≡ may_move x y
moves_not x y b integer not_so = move_other x y (sym integer ∙ not_so)

add_turned : (x y : Kept) → is_integer x ≡ true → may_move y x ≡ may_add x y
add_turned (integer_of f) unknown e = refl
add_turned (integer_of f) (integer_of g) e = refl
add_turned (integer_of f) (holds (number k)) e = refl
add_turned (integer_of f) (holds (address t)) e = refl
add_turned (integer_of f) (holds (code t)) e = refl
add_turned (integer_of f) (argument i t) e = refl
add_turned unknown y e = cc
add_turned (holds s) y e = cc
add_turned (argument i t) y e = cc

add_same : (x y : Kept) → is_integer x ≡ false → may_move x y ≡ may_add x y
add_same (integer_of f) y e = cc
add_same unknown y e = refl
add_same (holds s) y e = refl
add_same (argument i t) y e = refl

pub adds_turned : (x y : Kept) (b c : Bool) → b ≡ is_integer x → b ≡ true → c ≡ may_move y x → c ≡ may_add x y
adds_turned x y b c integer sure moved = moved ∙ add_turned x y (sym integer ∙ sure)

pub adds : (x y : Kept) (b c : Bool) → b ≡ is_integer x → b ≡ false → c ≡ may_move x y → c ≡ may_add x y
adds x y b c integer not_so moved = moved ∙ add_same x y (sym integer ∙ not_so)

order_both : (x y : Kept) → (is_address x && is_address y) ≡ have_order x y
order_both unknown y = refl
order_both (integer_of f) y = refl
order_both (holds (number k)) y = refl
order_both (holds (code t)) y = refl
order_both (argument i t) y = refl
order_both (holds (address t)) unknown = refl
order_both (holds (address t)) (integer_of f) = refl
order_both (holds (address t)) (holds (number k)) = refl
order_both (holds (address t)) (holds (address u)) = refl
order_both (holds (address t)) (holds (code u)) = refl
order_both (holds (address t)) (argument i u) = refl

pub ordered : (x y : Kept) (b : Bool) → b ≡ (is_address x && is_address y) → b ≡ have_order x y
ordered x y b e = e ∙ order_both x y

subtract_address : (x y : Kept) → is_address y ≡ true → may_zero x ≡ may_subtract x y
subtract_address unknown (holds (address u)) e = refl
subtract_address (integer_of g) (holds (address u)) e = refl
subtract_address (holds (number k)) (holds (address u)) e = refl
subtract_address (holds (address t)) (holds (address u)) e = refl
subtract_address (holds (code t)) (holds (address u)) e = refl
subtract_address (argument i t) (holds (address u)) e = refl
subtract_address x unknown e = cc
subtract_address x (integer_of f) e = cc
subtract_address x (holds (number k)) e = cc
subtract_address x (holds (code u)) e = cc
subtract_address x (argument i t) e = cc

subtract_other : (x y : Kept) → is_address y ≡ false → false ≡ may_subtract x y
subtract_other x (holds (address u)) e = cc
subtract_other unknown y e = refl
subtract_other (integer_of f) y e = refl
subtract_other (holds (number k)) y e = refl
subtract_other (holds (code t)) y e = refl
subtract_other (argument i t) y e = refl
subtract_other (holds (address t)) unknown e = refl
subtract_other (holds (address t)) (integer_of f) e = refl
subtract_other (holds (address t)) (holds (number k)) e = refl
subtract_other (holds (address t)) (holds (code u)) e = refl
subtract_other (holds (address t)) (argument i u) e = refl

pub subtracts : (x y : Kept) (b c : Bool) → b ≡ is_address y → b ≡ true → c ≡ may_zero x → c ≡ may_subtract x y
subtracts x y b c pointed sure zero = zero ∙ subtract_address x y (sym pointed ∙ sure)

pub subtracts_not : (x y : Kept) (b : Bool) → b ≡ is_address y → b ≡ false → false ≡ may_subtract x y
subtracts_not x y b pointed not_so = subtract_other x y (sym pointed ∙ not_so)
