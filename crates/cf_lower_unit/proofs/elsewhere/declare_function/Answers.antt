use Rattle.std.proofs.Common.{false, ◌++◌, ◌∷◌, [], sym, ap, ◌∙◌}
use Rattle.cc_whole.specs.Plain.{declares, items_of}
use Rattle.cf_core.specs.FromTypes.{type_of}
use Rattle.cf_lower.specs.Functions.{prototype_of}
use Rattle.cf_lower_unit.proofs.Names.{made_new, made_there, names_new, names_there}
use Rattle.cf_lower_unit.proofs.elsewhere.declare_function.Goals as goal

pub returns-then-has : goal.returns-then-has
returns-then-has c =
    let names = c.args.names.now in
    let item = declares (prototype_of false c.args.name.now (type_of c.args.tables.now c.args.ty)) in
    let there = sym c.has.ensures ∙ c.if-has.true in
    record { made = made_there names item there (items_of c.args.made.now); names = names_there names item there }

pub returns : goal.returns
returns c =
    let names = c.args.names.now in
    let w = items_of c.args.made.now in
    let item = declares (prototype_of false c.args.name.now (type_of c.args.tables.now c.args.ty)) in
    let new = sym c.has.ensures ∙ c.if-has.false in
    let pushed = c.in_ok-push.ensures ∙ ap (λ p. w ++ declares p ∷ []) c.in_ok-head.ensures in
    record { made = made_new names item new w (items_of c.push.new.made) pushed; names = names_new names item new c.add.new.names c.in_ok-add.ensures }
