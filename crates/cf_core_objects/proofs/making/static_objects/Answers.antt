use Rattle.std.proofs.Common.{◌∙◌, ap}
use Rattle.std.specs.Prelude.{◌++◌}
use Rattle.cf_core_objects.specs.declared.object.Objects.{Objects}
use Rattle.cf_core_objects.proofs.MadeLaws.{statics-state, made_of, zeroed_of}
use Rattle.cf_core_objects.proofs.making.static_objects.Goals as goal

pub returns : goal.returns
returns c = λ T e.
    let x : Objects = record { alloc = c.args.alloc; cells = c.push_statics.new.cells; literals = c.new.result; reached = c.new-2.result } in
    statics-state T e c.args.program.now x c.new.ensures.items c.new-2.ensures.items
    (c.in_ok-push_statics.ensures T ∙ ap (λ l. made_of T l ++ zeroed_of T c.as_slice.result.now) c.new-cells.ensures.items ∙ ap (zeroed_of T) c.as_slice.ensures)
