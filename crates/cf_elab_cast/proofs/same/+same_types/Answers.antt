use Rattle.std.proofs.Common.{ℕ, ◌+◌, ◌<◌, List, length, get_or, sym, ap, ◌∙◌, arith}
use Rattle.cf_elab_cast.proofs.Functions.{functions_differ, param_before}
use Rattle.cf_elab_cast.proofs.same.+same_types.Goals as goal

pub returns-then-len : goal.returns-then-len
returns-then-len t c =
    let x = c.get_fun-f.result.now in
    let y = c.get_fun-g.result.now in
    sym
    (sym c.in-Functions.ensures.value
    ∙ functions_differ c.args.env.now c.types-types.result.now c.in-Functions.f c.in-Functions.g x y c.types-types.ensures.value c.get_fun-f.ensures c.get_fun-g.ensures
    (λ e. c.if-len.true (c.len.ensures ∙ e ∙ sym c.len-in-Functions.ensures)))

pub same_types-requires-in-loop-i : goal.same_types-requires-in-loop-i
same_types-requires-in-loop-i t c =
    let env = c.args.env.now in
    let x = c.get_fun-f.result.now in
    let y = c.get_fun-g.result.now in
    let p = c.index-as_slice-i.result in
    let q = c.index-as_slice-i-in-loop-i.result in
    let i = c.loop-i.i in
    let below = c.in-Functions.ensures.below in
    let within : i < length x.params = omega arith in
    let within_other : i < length y.params = omega arith in
    let first : p < c.args.id =
    param_before env c.types-types.result.now c.in-Functions.f c.args.id i p x c.types-types.ensures.value c.get_fun-f.ensures below.first_parts within
    (c.index-as_slice-i.is ∙ ap (λ (l : List ℕ). get_or l i p) c.as_slice.ensures) in
    let second : q < c.args.other =
    param_before env c.types-types.result.now c.in-Functions.g c.args.other i q y c.types-types.ensures.value c.get_fun-g.ensures below.second_parts within_other
    (c.index-as_slice-i-in-loop-i.is ∙ ap (λ (l : List ℕ). get_or l i q) c.as_slice-in-loop-i.ensures) in
    let smaller : p + q < c.args.id + c.args.other = omega arith in
    (omega arith, (omega arith, omega arith))
