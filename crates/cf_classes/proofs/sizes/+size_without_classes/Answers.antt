use Rattle.std.proofs.Common.{◌≡◌, Some, None, [], ap, sym, ◌∙◌}
use Rattle.std.specs.Option.{option_map}
use Rattle.cf_classes.specs.declared.sizes.Elements.{Elements}
use Rattle.cf_classes.specs.Layout.{extent, accepted_size, array_bytes, repeated_in}
use Rattle.cf_classes.proofs.TypeSizes.{scalar-at, repeated-at, array-bytes}
use Rattle.cf_classes.proofs.sizes.+size_without_classes.Goals as goal

pub returns-in-Some : goal.returns-in-Some
returns-in-Some t c =
    let types = c.args.types.now in
    let held = c.get-held.result.now in
    let inside = c.in-Some.elements in
    let some : repeated_in held ≡ Some (inside.ty, inside.count) = sym c.repeated.ensures ∙ ap (option_map (λ (e : Elements). (e.ty, e.count))) c.in-Some.is in
    c.array_size.ensures ∙ ap (λ s. array_bytes s inside.count) c.size_without_classes.ensures ∙ array-bytes (extent types [] inside.ty).size inside.count
    ∙ ap accepted_size (sym (repeated-at types c.args.ty held inside.ty inside.count c.get-held.ensures.kept c.get-held.ensures.earlier some))

pub returns-in-None : goal.returns-in-None
returns-in-None t c =
    let held = c.get-held.result.now in
    let none : repeated_in held ≡ None = sym c.repeated.ensures ∙ ap (option_map (λ (e : Elements). (e.ty, e.count))) c.in-None.is in
    ap Some c.scalar_size.ensures ∙ sym (scalar-at c.args.types.now c.args.ty held c.get-held.ensures.kept c.get-held.ensures.earlier none)
