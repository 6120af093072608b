use Rattle.std.proofs.Common.{◌≡◌, ◌-◌, Some, arith, sym, ◌∙◌, ap}
use Rattle.std.specs.Prelude.{unwrap_or, option_map}
use Rattle.cf_syntax.specs.Names.{in_class_to, no_class}
use Rattle.cf_syntax.proofs.Newest.{by-found-bases, class-read, in-no-class, in-own, oldest-here, oldest-none}
use Rattle.cf_syntax.proofs.lookup.+kind_in_class.Goals as goal

pub returns-in_err-found : goal.returns-in_err-found
returns-in_err-found t c =
    let looked = class-read c.args.classes.now c.args.class _ c.get.ensures ∙ ap (λ r. unwrap_or (option_map (λ x. x.now) r) no_class) c.in_err-found.was in
    let none = in-no-class c.args.depth (c.args.depth - 1) c.args.classes.now c.args.name.now c.args.class (omega arith) looked in
    cc (c.from_residual.ensures, none)

pub returns-in-Some : goal.returns-in-Some
returns-in-Some t c =
    let looked = class-read c.args.classes.now c.args.class _ c.get.ensures ∙ ap (λ r. unwrap_or (option_map (λ x. x.now) r) no_class) c.in_ok-found.was in
    in-own c.args.depth (c.args.depth - 1) c.args.classes.now c.args.name.now c.args.class c.in_ok-found.found.now c.in-Some.kind (omega arith) looked
    (sym c.kind.ensures ∙ c.in-Some.is)

pub returns-in-Some-kind_in_class : goal.returns-in-Some-kind_in_class
returns-in-Some-kind_in_class t c =
    let ask = in_class_to (c.args.depth - 1) c.args.classes.now c.args.name.now in
    let found : ask _ ≡ Some c.in-Some-kind_in_class.kind = sym c.kind_in_class.ensures ∙ c.in-Some-kind_in_class.is in
    let looked = class-read c.args.classes.now c.args.class _ c.get.ensures ∙ ap (λ r. unwrap_or (option_map (λ x. x.now) r) no_class) c.in_ok-found.was in
    sym (by-found-bases c.args.depth (c.args.depth - 1) c.args.classes.now c.args.name.now c.args.class c.in_ok-found.found.now
    c.as_slice-base-items.result.now c.kind.result (omega arith) looked c.kind.ensures c.in_default.not-Some (c.as_slice-base-items.ensures ∙ c.get-2.ensures)
    ∙ c.loop-base.invariant
    ∙ oldest-here ask c.as_slice-base-items.result.now c.loop-base.base-index 0 c.in-Some-kind_in_class.kind c.loop-base-test.true found)

pub returns : goal.returns
returns t c =
    let ask = in_class_to (c.args.depth - 1) c.args.classes.now c.args.name.now in
    let looked = class-read c.args.classes.now c.args.class _ c.get.ensures ∙ ap (λ r. unwrap_or (option_map (λ x. x.now) r) no_class) c.in_ok-found.was in
    sym (by-found-bases c.args.depth (c.args.depth - 1) c.args.classes.now c.args.name.now c.args.class c.in_ok-found.found.now
    c.as_slice-base-items.result.now c.kind.result (omega arith) looked c.kind.ensures c.in_default.not-Some (c.as_slice-base-items.ensures ∙ c.get-2.ensures)
    ∙ c.loop-base.invariant
    ∙ oldest-none ask c.as_slice-base-items.result.now c.loop-base.base-index c.loop-base-test.false)
