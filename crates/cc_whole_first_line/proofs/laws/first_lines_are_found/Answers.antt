use Rattle.cc_whole_first_line.proofs.FirstLines.{first_line_read, first_line_is}
use Rattle.cc_whole_first_line.proofs.laws.first_lines_are_found.Goals as goal

pub returns-clause-read : goal.returns-clause-read
returns-clause-read c = first_line_read

pub returns-clause-found : goal.returns-clause-found
returns-clause-found c = λ text rest version e. first_line_is text version rest e
