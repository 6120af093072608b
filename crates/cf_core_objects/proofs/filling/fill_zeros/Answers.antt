use Rattle.std.proofs.Common.{◌<◌, length, refl, rules}
use Rattle.std.proofs.lemmas.Option.{slice_get_read}
use Rattle.std.specs.Vec.{with_item}
use Rattle.cf_core_objects.specs.declared.object.Cell.{Cell}
use Rattle.cf_core_objects.specs.declared.object.Objects.{Objects}
use Rattle.cf_core_objects.proofs.MadeLaws.{zeros-go}
use Rattle.cf_core_objects.proofs.filling.fill_zeros.Goals as goal

pub returns : goal.returns
returns c = λ T e w.
    let x = c.args.objects.now in
    let o = c.args.place.object in
    let cell = c.index_mut.result.now in
    let lt : o < length x.cells.items = search rules in
    let made : Cell = record { shape = cell.shape; bounds = cell.bounds; storage = cell.storage; log = c.note_zeros.new.log; is_gone = cell.is_gone } in
    let new : Objects = record { alloc = x.alloc; cells = with_item x.cells o made; literals = x.literals; reached = x.reached } in
    zeros-go T e x new o c.args.place.part cell made w (slice_get_read x.cells.items (length x.cells.items) o cell refl lt c.index_mut.ensures.value) refl
    (record { literals = refl; reached = refl }) refl c.in_ok-note_zeros.ensures
