-- What is converted, by its cell and whether it is an integer.
use Rattle.std.proofs.Common.{◌≡◌, ℕ, Bool, Option, Some, None, refl, ap, ◌∙◌}
use Rattle.std.specs.Option.{option_map}
use Rattle.cc_whole.specs.Plain.{Expression}
use Rattle.cf_lower_layout.specs.Sorts.{Sort, number, address, code}
use Rattle.cf_lower.specs.Kept.{Kept, unknown, integer_of, holds, argument}
use Rattle.cf_lower.specs.Expressions.{converted}
use Rattle.cf_lower_held.specs.Holds.{is_integer}
use Rattle.cf_lower_names.specs.declared.cell.Cell.{Cell}
use Rattle.cf_lower_names.specs.Cells.{cell_of}
use Rattle.cf_lower_expr.specs.Pointers.{converted_by}

by_cell : (o : Option Sort) (k : Kept) (r : ℕ) → converted_by (option_map cell_of o) (is_integer k) r ≡ converted o k r
by_cell None k r = refl
by_cell (Some (number l)) k r = refl
by_cell (Some (address t)) unknown r = refl
by_cell (Some (address t)) (integer_of f) r = refl
by_cell (Some (address t)) (holds s) r = refl
by_cell (Some (address t)) (argument i u) r = refl
by_cell (Some (code t)) unknown r = refl
by_cell (Some (code t)) (integer_of f) r = refl
by_cell (Some (code t)) (holds s) r = refl
by_cell (Some (code t)) (argument i u) r = refl

pub converted_is : (o p : Option Sort) (k : Kept) (r : ℕ) (q : Option Cell) (b : Bool) (e : Expression)
    → q ≡ option_map cell_of p → p ≡ o → b ≡ is_integer k → e ≡ converted_by q b r → e ≡ converted o k r
converted_is o p k r q b e cell sort zero is =
    is ∙ ap (λ q. converted_by q b r) (cell ∙ ap (option_map cell_of) sort) ∙ ap (λ b. converted_by (option_map cell_of o) b r) zero ∙ by_cell o k r
