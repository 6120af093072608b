-- The bytes that are not written yet become fewer.
use Rattle.std.proofs.Common.{length}
use Rattle.cfront.proofs.disk_files.write_whole.Given as goal

abbrev pub decreases-loop-rest : goal.decreases-loop-rest
decreases-loop-rest g l = length l.rest
