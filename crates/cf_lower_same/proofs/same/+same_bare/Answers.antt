use Rattle.std.proofs.Common.{ℕ, ◌+◌, ◌<◌, List, length, get_or, sym, ap, ◌∙◌, arith}
use Rattle.cf_lower_same.proofs.Functions.{functions_differ, param_before}
use Rattle.cf_lower_same.proofs.same.+same_bare.Goals as goal

pub returns-then-len : goal.returns-then-len
returns-then-len t c =
    sym
    (functions_differ c.args.tables.now c.in-Functions.f c.in-Functions.g c.fun-first.result.now c.fun-second.result.now c.fun-first.ensures c.fun-second.ensures
    (λ e. c.if-len.true (c.len.ensures ∙ e ∙ sym c.len-in-Functions.ensures)))
    ∙ c.in-Functions.ensures.tells

pub same_bare-requires-in-loop-i : goal.same_bare-requires-in-loop-i
same_bare-requires-in-loop-i t c =
    let tables = c.args.tables.now in
    let x = c.fun-first.result.now in
    let y = c.fun-second.result.now in
    let p = c.index-as_slice-i.result in
    let q = c.index-as_slice-i-in-loop-i.result in
    let i = c.loop-i.i in
    let below = c.in-Functions.ensures.below in
    let within : i < length x.params = omega arith in
    let within_other : i < length y.params = omega arith in
    let first : p < c.args.id =
    param_before tables c.in-Functions.f c.args.id x c.fun-first.ensures below.0 i p within
    (c.index-as_slice-i.is ∙ ap (λ (l : List ℕ). get_or l i p) c.as_slice.ensures) in
    let second : q < c.args.other =
    param_before tables c.in-Functions.g c.args.other y c.fun-second.ensures below.1 i q within_other
    (c.index-as_slice-i-in-loop-i.is ∙ ap (λ (l : List ℕ). get_or l i q) c.as_slice-in-loop-i.ensures) in
    let smaller : p + q < c.args.id + c.args.other = omega arith in
    (omega arith, tt)
