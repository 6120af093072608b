-- What registers hold is held in each later map.
use Rattle.std.proofs.Common.{◌≡◌, ℕ}
use Rattle.std.specs.Prelude.{Result}
use Rattle.cf_core.specs.Store as source
use Rattle.cf_lower_layout.specs.Sorts.{number, address, code}
use Rattle.cf_plain.specs.Acts.{Registers}
use Rattle.cc_whole_memory.specs.declared.value.Value.{Value}
use Rattle.cc_whole_memory.specs.Blocks.{Memory}
use Rattle.cc_whole_mean.specs.Scope.{Scope}
use Rattle.cc_whole_mean.specs.Values.{value_of}
use Rattle.cf_lower_relate.specs.Map.{Fixed, Map, Grows}
use Rattle.cf_lower_relate.proofs.Values.{is-grows}
use Rattle.cf_lower.specs.Kept.{Kept, unknown, integer_of, holds, argument, Keeping}
use Rattle.cf_lower.specs.Expressions.{value_in}
use Rattle.cf_lower_steps.specs.Steps.{InLocal, HasValue, KeptAs, InRegisters}

module _ (K : Fixed) (F G : Map) (g : Grows F G) where
  local-grows : (x : Kept) (v : source.Value) (c : Value) → InLocal K F x v c → InLocal K G x v c
  local-grows (integer_of f) (source.Number z) c h = h
  local-grows (holds (address t)) v c h = is-grows K F G g (address t) v c h
  local-grows (holds (code t)) v c h = is-grows K F G g (code t) v c h
  local-grows x v c h = absurd h

  has-grows : (x : Kept) (v : source.Value) (found : Result Value ℕ) → HasValue K F x v found → HasValue K G x v found
  has-grows x v found h = record { value = h.value; is = h.is; same = local-grows x v h.value h.same }

  kept-grows : (x : Kept) (v : source.Value) (found : Result Value ℕ) → KeptAs K F x v found → KeptAs K G x v found
  kept-grows unknown v found h = tt
  kept-grows (argument i t) v found h = tt
  kept-grows (integer_of f) source.Nothing found h = tt
  kept-grows (integer_of f) source.Missing found h = tt
  kept-grows (integer_of f) v found h = has-grows (integer_of f) v found h
  kept-grows (holds u) source.Nothing found h = tt
  kept-grows (holds u) source.Missing found h = tt
  kept-grows (holds u) v found h = has-grows (holds u) v found h

  pub registers-grow : (kept : Keeping) (r : Registers) (scope : Scope) (m : Memory) → InRegisters K F kept r scope m → InRegisters K G kept r scope m
  registers-grow kept r scope m h q v e = kept-grows (kept q) v (value_of (value_in kept q) scope m) (h q v e)
