use Rattle.std.proofs.Common.{◌≡◌, ◌++◌, map, take}
use Rattle.std.specs.List.{concat}
use Rattle.cc_whole_print.specs.Initialisers.{byte_text}
use Rattle.cc_whole_print.proofs.initialiser.string_bytes.Given as goal

abbrev pub invariant-loop-byte : goal.invariant-loop-byte
invariant-loop-byte l = l.out.items ≡ l.initial.out.items ++ concat (map byte_text (take l.byte-index l.bytes))
