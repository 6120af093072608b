use Rattle.std.proofs.Common.{◌≡◌, ◌<◌, drop}
use Rattle.cf_syntax.specs.Slots.{slot_behind}
use Rattle.cf_syntax.proofs.slot.slot_of.Given as goal

abbrev pub invariant-loop-byte : goal.invariant-loop-byte
invariant-loop-byte l = record { small : l.slot < 65521; same : slot_behind l.slot (drop l.byte-index l.name) ≡ slot_behind 0 l.name }
