-- Values that can be used.
use Rattle.std.proofs.Common.{◌≡◌, ℕ, Bool, true, false}
use Rattle.std.specs.Prelude.{Some, Result}
use Rattle.cf_core.specs.Store as source
use Rattle.cf_lower_layout.specs.Sorts.{Sort}
use Rattle.cc_whole_memory.specs.declared.value.Value.{Value}
use Rattle.cf_lower_relate.specs.Map.{Fixed, Map}
use Rattle.cf_lower.specs.Kept.{Kept, unknown, integer_of, holds, argument, local_kept}
use Rattle.cf_lower_steps.specs.Steps.{HasValue, KeptAs}

-- what `used` lets through
abbrev pub usable : source.Value → Bool
usable source.Nothing = false
usable source.Missing = false
usable source.Built = false
usable v = true

module _ (K : Fixed) (F : Map) where
  pub usable-has : (x : Kept) (t : Sort) (v : source.Value) (found : Result Value ℕ) → local_kept x ≡ Some t → usable v ≡ true → KeptAs K F x v found → HasValue K F x v found
  usable-has unknown t v found e u h = absurd (cc)
  usable-has (argument i y) t v found e u h = absurd (cc)
  usable-has (integer_of kinds) t source.Nothing found e u h = absurd (cc)
  usable-has (integer_of kinds) t source.Missing found e u h = absurd (cc)
  usable-has (integer_of kinds) t source.Built found e u h = h
  usable-has (integer_of kinds) t (source.Number z) found e u h = h
  usable-has (integer_of kinds) t source.Null found e u h = h
  usable-has (integer_of kinds) t (source.At p) found e u h = h
  usable-has (integer_of kinds) t (source.Code f) found e u h = h
  usable-has (integer_of kinds) t (source.DataMember path i) found e u h = h
  usable-has (integer_of kinds) t (source.FunctionMember path d) found e u h = h
  usable-has (holds a) t source.Nothing found e u h = absurd (cc)
  usable-has (holds a) t source.Missing found e u h = absurd (cc)
  usable-has (holds a) t source.Built found e u h = h
  usable-has (holds a) t (source.Number z) found e u h = h
  usable-has (holds a) t source.Null found e u h = h
  usable-has (holds a) t (source.At p) found e u h = h
  usable-has (holds a) t (source.Code f) found e u h = h
  usable-has (holds a) t (source.DataMember path i) found e u h = h
  usable-has (holds a) t (source.FunctionMember path d) found e u h = h

  pub has-value : (x : Kept) (v : source.Value) (found : Result Value ℕ) → HasValue K F x v found → KeptAs K F x v found
  has-value unknown v found h = tt
  has-value (argument i y) v found h = tt
  has-value (integer_of kinds) source.Nothing found h = tt
  has-value (integer_of kinds) source.Missing found h = tt
  has-value (integer_of kinds) source.Built found h = h
  has-value (integer_of kinds) (source.Number z) found h = h
  has-value (integer_of kinds) source.Null found h = h
  has-value (integer_of kinds) (source.At p) found h = h
  has-value (integer_of kinds) (source.Code f) found h = h
  has-value (integer_of kinds) (source.DataMember path i) found h = h
  has-value (integer_of kinds) (source.FunctionMember path d) found h = h
  has-value (holds a) source.Nothing found h = tt
  has-value (holds a) source.Missing found h = tt
  has-value (holds a) source.Built found h = h
  has-value (holds a) (source.Number z) found h = h
  has-value (holds a) source.Null found h = h
  has-value (holds a) (source.At p) found h = h
  has-value (holds a) (source.Code f) found h = h
  has-value (holds a) (source.DataMember path i) found h = h
  has-value (holds a) (source.FunctionMember path d) found h = h
