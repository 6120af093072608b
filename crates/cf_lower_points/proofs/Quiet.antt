-- The actions that make and end no object of a local, give none its first value, and set no flag.
use Rattle.std.proofs.Common.{◌≡◌, Bool, true, false, ◌&&◌, ◌||◌, List, refl}
use Rattle.std.specs.Prelude.{Option}
use Rattle.cf_plain.specs.Plain.{Register, Action, number, text, local, static_object, function, read, dereference, decay, index, convert, from_void, operate, unary, truth, logical_not, pointer_operate, changed, store, declare, first, zeros, bytes, finish, call, pointer_call}
use Rattle.cf_plain_kept.specs.Kept as plain
use Rattle.cf_lower_kept.specs.Opened.{Opened, opened_by}

abbrev pub is_quiet : Action → Bool
is_quiet (text j b) = true
is_quiet (local i) = true
is_quiet (static_object name t) = true
is_quiet (function name t) = true
is_quiet (read r) = true
is_quiet (dereference r) = true
is_quiet (decay r) = true
is_quiet (index r q) = true
is_quiet (convert t r) = true
is_quiet (from_void t r) = true
is_quiet (operate op k r q) = true
is_quiet (unary op k r) = true
is_quiet (truth r) = true
is_quiet (logical_not r) = true
is_quiet (pointer_operate op r q) = true
is_quiet (changed change r q) = true
is_quiet (store r q) = true
is_quiet (zeros r) = true
is_quiet (bytes r b) = true
is_quiet a = false

pub quiet-opens : (g : plain.Keeping) (r : Option Register) (a : Action) (xs : List Opened) → is_quiet a ≡ true → opened_by g r a xs ≡ xs
quiet-opens g r (number z) xs h = absurd (let k = h in cc)
quiet-opens g r (declare i t) xs h = absurd (let k = h in cc)
quiet-opens g r (first p q) xs h = absurd (let k = h in cc)
quiet-opens g r (finish t i) xs h = absurd (let k = h in cc)
quiet-opens g r (call name t object is into) xs h = absurd (let k = h in cc)
quiet-opens g r (pointer_call object q t is into) xs h = absurd (let k = h in cc)
quiet-opens g r a xs h = refl
