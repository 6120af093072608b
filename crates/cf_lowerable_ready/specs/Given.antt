-- What is left of an action on an object, and what a call gives.
use Rattle.std.specs.Prelude.{Option, Some, None}
use Rattle.cf_core.specs.Types.{result as result_type}
use Rattle.cf_plain.specs.Plain.{Action, store, first, zeros, bytes, finish, call, pointer_call}
use Rattle.cf_plain_kept.specs.Kept.{Kept, no_value, Keeping, stored, begun, filled, value_of, pointed_call}

abbrev pub done_kept : Keeping → Action → Option Kept
done_kept g (store r q) = stored (g r) (g q)
done_kept g (first r q) = begun (g r) (g q)
done_kept g (zeros r) = filled (g r)
done_kept g (bytes r b) = filled (g r)
done_kept g (finish t i) = Some no_value
done_kept g (call name t None is None) = Some (value_of (result_type t))
done_kept g (pointer_call None r t is None) = pointed_call t (g r)
done_kept g a = None
