use Rattle.std.proofs.Common.{◌∙◌, ◌+◌, ◌*◌, ap}
use Rattle.cc_whole_memory.specs.declared.value.Value.TheVariants as value
use Rattle.cc_whole_memory.specs.Store.{memory_of}
use Rattle.cc_whole_mean.specs.Start.{put_static}
use Rattle.cc_whole_mean.specs.Types.{constant_value}
use Rattle.cc_whole_start.proofs.statics.put_pair.Goals as goal

pub returns : goal.returns
returns c =
    let b = c.args.block in
    let q = c.in_ok-offset.offset in
    let old = memory_of c.args.store.now in
    c.put_static-2.ensures
    ∙ ap (put_static b (q + 4) (value.Function c.pair_function-function.result)) c.put_static.ensures
    ∙ ap (λ q. put_static b (q + 4) (value.Function c.pair_function-function.result) (put_static b q c.constant_value.result old)) c.in_ok-offset.ensures
    ∙ ap (λ v. put_static b (8 * c.args.index + 4) (value.Function c.pair_function-function.result) (put_static b (8 * c.args.index) v old)) c.constant_value.ensures
    ∙ ap (λ f. put_static b (8 * c.args.index + 4) (value.Function f) (put_static b (8 * c.args.index) (constant_value c.args.pair.now.number) old))
    c.pair_function-function.ensures
