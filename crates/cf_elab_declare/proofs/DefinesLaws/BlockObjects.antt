-- What is known of an object that a block defines.
use Rattle.std.proofs.Common.{◌≡◌, ℕ, sym, subst}
use Rattle.cf_types.specs.Table.{Table}
use Rattle.cf_elab.specs.Env.{Object, Home}
use Rattle.cf_elab.specs.Objects.{block_object}
use Rattle.cf_elab_env.specs.Holds.{IsObject, IsType}

pub block_known : (types : Table) (x : Object) (t : ℕ) (home : Home) (at : ℕ) → x ≡ block_object t home at → IsType types t → IsObject types x
block_known types x t home at is typed =
    let known : IsObject types (block_object t home at) = record { typed = typed; number = tt } in
    subst (IsObject types) (sym is) known
