use Rattle.std.proofs.Common.{ℕ, List, ◌<◌, length, All, sym, subst}
use Rattle.cf_core_shape.proofs.Shaped.{params_known}
use Rattle.cf_core_shape.proofs.function.function_signature.Goals as goal

pub signature-requires-clause-known : goal.signature-requires-clause-known
signature-requires-clause-known c =
    let n = length c.args.unit.now.types.types in
    subst (λ (ps : List ℕ). All (λ t. t < n) ps) (sym c.as_slice.ensures) (params_known c.args.function.now n c.requires)
