-- Types of a table name types of the table.
use Rattle.std.proofs.Common.{ℕ, ◌≤◌, arith}
use Rattle.cf_types.specs.declared.ty.Ty.{Ty}
use Rattle.cf_types.specs.declared.ty.Ty.TheVariants as ty
use Rattle.cf_types.specs.Table.{NamesBelow}

pub names_more : (m n : ℕ) (v : Ty) → NamesBelow m v → m ≤ n → NamesBelow n v
names_more m n ty.Void h k = tt
names_more m n (ty.Int i) h k = tt
names_more m n (ty.Enum e) h k = tt
names_more m n (ty.Class c) h k = tt
names_more m n (ty.Ptr t) h k = omega arith
names_more m n (ty.Ref t) h k = omega arith
names_more m n (ty.Array t i) h k = omega arith
names_more m n (ty.Fun f) h k = tt
names_more m n (ty.MemData c t) h k = omega arith
names_more m n (ty.MemFun c f) h k = tt
names_more m n (ty.Const t) h k = omega arith
