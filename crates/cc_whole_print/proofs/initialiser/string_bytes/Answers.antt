use Rattle.cc_whole_print.specs.Initialisers.{byte_text}
use Rattle.cc_whole_print.proofs.Pieces.{concat_copied}
use Rattle.cc_whole_print.proofs.initialiser.string_bytes.Goals as goal

pub loop-byte-preserved : goal.loop-byte-preserved
loop-byte-preserved c =
    concat_copied byte_text c.args.bytes.now c.loop-byte.byte-index _ c.args.out.now.items c.loop-byte.out.items c.string_byte.new.out.items
    c.loop-byte-test.true c.loop-byte.invariant c.in_ok-string_byte.ensures
