-- What the scalars of the source are in the memory of the small C.
use Rattle.cc_whole_memory.specs.declared.value.Scalar.{Scalar}
use Rattle.cc_whole_memory.specs.declared.value.Scalar.TheVariants as c
use Rattle.cf_lower_layout.specs.Sorts.{Sort, number, address, code, c_kind}

abbrev pub c_scalar : Sort → Scalar
c_scalar (number k) = c.Integer (c_kind k)
c_scalar (address t) = c.Pointer
c_scalar (code t) = c.Function
