use Rattle.cc_whole_print.specs.Units.{unit_text}
use Rattle.cc_whole_read_back.proofs.back.printed_units_are_read_back.Goals as goal

pub returns : goal.returns
returns c =
    λ unit answer valid within read. c.text_of_a_valid_unit_is_read.ensures (unit_text unit) unit
    (c.printed_text_is_its_text.ensures unit (c.valid_units_are_written.ensures unit valid)) answer valid within read
