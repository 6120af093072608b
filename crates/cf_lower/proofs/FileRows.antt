-- Two files: what one uses and the other defines is declared in the first one's unit.
use Rattle.std.proofs.Common.{◌≡◌, ℕ, List, [], ◌∷◌, ◌++◌, refl}
use Rattle.std.specs.Prelude.{pos, Option, Some, None, true, false, codes}
use Rattle.std.specs.Fmt.{digits}
use Rattle.cf_base.specs.declared.kind.Kind.TheVariants.{Int}
use Rattle.cf_base.specs.declared.arith.Arith.TheVariants as op
use Rattle.cf_plain.specs.Plain.{Plain, PlainFile, act, set, give, number, local, read, operate, declare, first, finish, call, function, static_object}
use Rattle.cf_plain.specs.Joined.{files_mean}
use Rattle.cc_whole.specs.declared.types.CType.TheVariants as ty
use Rattle.cc_whole.specs.declared.types.CVariableType.TheVariants as variable
use Rattle.cc_whole.specs.Plain.{Item, by_name, call as c_call, declares, declares_variable}
use Rattle.cc_whole.specs.Types.{same_type}
use Rattle.cc_whole.specs.ValidUnit.{valid_items}
use Rattle.cc_whole_mean.specs.Start.{mean_of}
use Rattle.cf_lower.specs.Functions.{parameter, defined_elsewhere, lowered_file}
use Rattle.cf_lower.proofs.Rows.{int, h_type, function_of, main_of, file, constant, main_item, value_of}

-- extern int x;int f(int);int main(){return f(x);}
abbrev uses : PlainFile
uses = file (main_of (int ∷ [])
    (act (function (codes "f__Fi") h_type) ∷ set 0 (declare 0 int) ∷ set 1 (static_object (codes "x") int) ∷ set 1 (read 1) ∷ act (first 0 1)
    ∷ set 0 (call (codes "f__Fi") h_type None (0 ∷ []) None) ∷ give (Some 0) ∷ []) ∷ []) []

-- int x=4;int f(int a){return a+x;}
abbrev defines_them : PlainFile
defines_them = file
    (function_of (codes "f__Fi") (int ∷ []) int []
    (value_of 0 1 0 ++ set 2 (static_object (codes "x") int) ∷ set 2 (read 2) ∷ set 1 (operate op.Add Int 1 2) ∷ act (finish int 0) ∷ give (Some 1) ∷ []) ∷ [])
    (constant (codes "x") int (set 1 (number (pos 4)) ∷ act (first 0 1) ∷ []) ∷ [])

-- extern int x; and int f(int), each once
declared-once : defined_elsewhere uses
    ≡ declares (record { is_static = false; result = Some ty.Int; name = codes "f__Fi"; parameters = parameter ty.Int (codes "__l0") ∷ [] })
    ∷ declares_variable (variable.Scalar ty.Int) (codes "x") ∷ []
unfolding digits
declared-once = refl

none-declared : defined_elsewhere defines_them ≡ []
unfolding digits
none-declared = refl

uses-valid : valid_items (lowered_file uses) ≡ true
unfolding digits same_type
uses-valid = refl

abbrev both : List Item
both = lowered_file uses ++ lowered_file defines_them ++ main_item (c_call None (by_name (codes "__hci")) [] ∷ []) ∷ []

both-valid : valid_items both ≡ true
unfolding digits same_type
both-valid = refl

both-agree : files_mean (uses ∷ defines_them ∷ []) [] 1048576 64 2 ≡ Some (mean_of both [] 1048576 64 2)
unfolding digits
both-agree = refl

both-out-of-ticks : files_mean (uses ∷ defines_them ∷ []) [] 1048576 64 1 ≡ Some (mean_of both [] 1048576 64 1)
unfolding digits
both-out-of-ticks = refl
