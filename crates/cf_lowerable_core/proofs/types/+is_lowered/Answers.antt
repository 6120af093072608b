use Rattle.std.proofs.Common.{ℕ, ◌<◌, ◌≤◌, List, length, get_or, ap, sym, subst, ◌∙◌, arith}
use Rattle.cf_core.specs.FromUnit.{tables_of}
use Rattle.cf_types.specs.declared.ty.Ty.TheVariants as ty
use Rattle.cf_lower_program.specs.Types.{is_lowered}
use Rattle.cf_lowerable_core.proofs.Entries.{by_form, lowered_by_others, one_unlowered, all_lowered, parameter_before}
use Rattle.cf_lowerable_core.proofs.types.+is_lowered.Goals as goal

pub returns-in-Ptr : goal.returns-in-Ptr
returns-in-Ptr t c =
    c.is_lowered.ensures ∙ by_form (tables_of c.args.unit.now) is_lowered c.args.id c.entry.result (ty.Ptr _) c.entry.ensures.value c.in-Ptr.is

pub returns-in-Ref : goal.returns-in-Ref
returns-in-Ref t c =
    c.is_lowered-in-Ref.ensures ∙ by_form (tables_of c.args.unit.now) is_lowered c.args.id c.entry.result (ty.Ref _) c.entry.ensures.value c.in-Ref.is

pub returns-in-MemData : goal.returns-in-MemData
returns-in-MemData t c =
    by_form (tables_of c.args.unit.now) is_lowered c.args.id c.entry.result (ty.MemData _ _) c.entry.ensures.value c.in-MemData.is

pub returns-in-MemFun : goal.returns-in-MemFun
returns-in-MemFun t c =
    by_form (tables_of c.args.unit.now) is_lowered c.args.id c.entry.result (ty.MemFun _ _) c.entry.ensures.value c.in-MemFun.is

pub returns-in_default : goal.returns-in_default
returns-in_default t c =
    lowered_by_others (tables_of c.args.unit.now) c.entry.result c.in_default.not-Ptr c.in_default.not-Ref c.in_default.not-Array c.in_default.not-Fun c.in_default.not-MemData c.in_default.not-MemFun c.in_default.not-Const ∙ sym (ap is_lowered c.entry.ensures.value)

pub is_lowered-requires-in-loop-parameter : goal.is_lowered-requires-in-loop-parameter
is_lowered-requires-in-loop-parameter t c =
    let g = c.fun-fun.result.now in
    let items = c.as_slice-parameter-items.ensures in
    let i = c.loop-parameter.parameter-index in
    let p = c.parameter-item.result in
    let within : i < length g.params = subst (λ (l : List ℕ). i < length l) items c.loop-parameter-test.true in
    let at = c.parameter-item.is ∙ ap (λ (l : List ℕ). get_or l i p) items in
    let before : p < c.args.id = parameter_before (tables_of c.args.unit.now) c.args.id _ c.entry.result g c.entry.ensures.value c.in-Fun.is c.fun-fun.ensures c.entry.ensures.named i p within at in
    (omega arith, c.requires)

pub returns-then-not-is_lowered : goal.returns-then-not-is_lowered
returns-then-not-is_lowered t c =
    let g = c.fun-fun.result.now in
    let items = c.as_slice-parameter-items.ensures in
    let i = c.loop-parameter.parameter-index in
    let p = c.parameter-item.result in
    let within : i < length g.params = subst (λ (l : List ℕ). i < length l) items c.loop-parameter-test.true in
    let at = c.parameter-item.is ∙ ap (λ (l : List ℕ). get_or l i p) items in
    one_unlowered (tables_of c.args.unit.now) c.args.id _ c.entry.result g c.entry.ensures.value c.in-Fun.is c.fun-fun.ensures i p within at
    (sym c.is_lowered-in-loop-parameter.ensures ∙ c.if-not-is_lowered.true) c.loop-parameter.invariant

pub returns-after-loop-parameter : goal.returns-after-loop-parameter
returns-after-loop-parameter t c =
    let g = c.fun-fun.result.now in
    let items = c.as_slice-parameter-items.ensures in
    let i = c.loop-parameter.parameter-index in
    let past : length g.params ≤ i = subst (λ (l : List ℕ). length l ≤ i) items c.loop-parameter-test.false in
    all_lowered (tables_of c.args.unit.now) c.args.id _ c.entry.result g c.entry.ensures.value c.in-Fun.is c.fun-fun.ensures i c.is_lowered-in-Fun.result past c.loop-parameter.invariant
    c.is_lowered-in-Fun.ensures
