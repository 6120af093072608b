-- The list with one more name counts it once more.
use Rattle.std.proofs.Common.{string_bytes, map}
use Rattle.std.proofs.lemmas.List.{map-append}
use Rattle.cf_base.proofs.Times.{rises}
use Rattle.cfront.proofs.disk_files.note.Goals as goal

pub returns : goal.returns
returns c =
    let pushed = rw c.unwrap.ensures at c.push.ensures.items in
    rw (pushed, map-append) (rises (map string_bytes c.args.failed.now.items) (string_bytes c.args.name))
