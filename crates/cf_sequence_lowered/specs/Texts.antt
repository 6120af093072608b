-- The literals of a core end in 0, and have 2 ^ 22 bytes at most.
use Rattle.std.specs.Prelude.{◌^◌, nat_le, Bool, true, ◌&&◌, length}
use Rattle.cf_core.specs.Core.{Core, text, string, CoreFile}
use Rattle.cf_lower_program.specs.Starts.{is_text}
use Rattle.cf_sequence_lowered.specs.Nodes.{in_file}

abbrev pub literal_fits : Core → Bool
literal_fits (text j bytes) = is_text bytes && nat_le (length bytes) (2 ^ 22)
literal_fits (string bytes) = nat_le (length bytes) (2 ^ 22)
literal_fits e = true

abbrev pub literals_fit : CoreFile → Bool
literals_fit file = in_file literal_fits file
