-- No more bytes than are wanted.
use Rattle.std.proofs.Common.{◌≤◌, vec_len}
use Rattle.cfront.proofs.disk_files.read_file.Given as goal

abbrev pub invariant-loop : goal.invariant-loop
invariant-loop g l = vec_len l.bytes ≤ l.cap
