use Rattle.std.proofs.Common.{◌≡◌, ◌≤◌, ◌*◌, ◌^◌, Some, None, slice_get, ap, sym, subst, ◌∙◌}
use Rattle.std.specs.Option.{option_map}
use Rattle.cf_types.specs.Table.{Table}
use Rattle.cf_classes.specs.Layout.{repeated_in}
use Rattle.cf_core.specs.FromUnit.{tables_of}
use Rattle.cf_frame.specs.declared.sizes.Objects.{Objects}
use Rattle.cf_frame.proofs.SizeLaws.{single-at, repeated-at}
use Rattle.cf_frame.proofs.sizes.+size.Goals as goal

pub returns-in-Some-clause-value : goal.returns-in-Some-clause-value
returns-in-Some-clause-value t c =
    let unit = c.args.unit.now in
    let held = c.get-held.result.now in
    let objects = c.in-Some.objects in
    let kept : slice_get unit.types.types c.args.ty ≡ Some held = ap (λ (tb : Table). slice_get tb.types c.args.ty) (sym c.types-types.ensures) ∙ c.get-held.ensures.kept in
    let some : repeated_in held ≡ Some (objects.ty, objects.count) = sym c.repeated.ensures ∙ ap (option_map (λ (o : Objects). (o.ty, o.count))) c.in-Some.is in
    ap (λ n. n * c.size.result) c.from.ensures ∙ ap (λ s. objects.count * s) c.size.ensures.value
    ∙ sym (repeated-at (tables_of unit) c.args.ty held objects.ty objects.count kept c.get-held.ensures.earlier some)

pub returns-in-Some-clause-bounded : goal.returns-in-Some-clause-bounded
returns-in-Some-clause-bounded t c = subst (λ n. n ≤ 2 ^ 22) (sym (returns-in-Some-clause-value t c)) (c.requires.small c.args.ty c.requires.known)

pub returns-in-None-clause-value : goal.returns-in-None-clause-value
returns-in-None-clause-value t c =
    let unit = c.args.unit.now in
    let held = c.get-held.result.now in
    let kept : slice_get unit.types.types c.args.ty ≡ Some held = ap (λ (tb : Table). slice_get tb.types c.args.ty) (sym c.types-types.ensures) ∙ c.get-held.ensures.kept in
    let none : repeated_in held ≡ None = sym c.repeated.ensures ∙ ap (option_map (λ (o : Objects). (o.ty, o.count))) c.in-None.is in
    c.single_size.ensures.value ∙ sym (single-at (tables_of unit) c.args.ty held kept none)
