use Rattle.std.proofs.Common.{◌<◌, length, refl, rules, true}
use Rattle.std.proofs.lemmas.Option.{slice_get_read}
use Rattle.std.specs.Vec.{with_item}
use Rattle.cf_core_objects.specs.declared.object.Objects.{Objects}
use Rattle.cf_core_objects.proofs.MadeLaws.{end-goes}
use Rattle.cf_core_objects.proofs.ending.end_object.Goals as goal

pub returns : goal.returns
returns c = λ T e w.
    let x = c.args.objects.now in
    let cell = c.index_mut.result.now in
    let lt : c.args.object < length x.cells.items = search rules in
    let new : Objects = record { alloc = x.alloc; cells = with_item x.cells c.args.object (record cell { is_gone = true }); literals = x.literals; reached = x.reached } in
    end-goes T e x new c.args.object cell w (slice_get_read x.cells.items (length x.cells.items) c.args.object cell refl lt c.index_mut.ensures.value) refl (record { literals = refl; reached = refl })
