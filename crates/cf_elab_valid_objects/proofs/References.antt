-- The two tests of a reference are the same.
use Rattle.std.proofs.Common.{◌≡◌, refl}
use Rattle.cf_core.specs.Places.{is_reference}
use Rattle.cf_core.specs.Typed as typed_form
use Rattle.cf_core.specs.Types.{SourceType, reference, const}
use Rattle.cf_core.specs.Typing.{Scope}

pub reference-told : (scope : Scope) (t : SourceType) → typed_form.is_reference scope t ≡ is_reference t
reference-told scope (reference t) = refl
reference-told scope (const t) = reference-told scope t
reference-told scope t = refl
