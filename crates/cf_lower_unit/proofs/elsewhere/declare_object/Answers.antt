use Rattle.std.proofs.Common.{◌++◌, ◌∷◌, [], sym, ap, ◌∙◌}
use Rattle.cc_whole.specs.Plain.{declares_variable, items_of}
use Rattle.cf_core.specs.FromTypes.{type_of}
use Rattle.cf_lower.specs.Written.{variable_type}
use Rattle.cf_lower_types.specs.Bare.{classes_of}
use Rattle.cf_lower_unit.proofs.Names.{made_new, made_there, names_new, names_there}
use Rattle.cf_lower_unit.proofs.elsewhere.declare_object.Goals as goal

pub returns-then-has : goal.returns-then-has
returns-then-has c =
    let tables = c.args.tables.now in
    let names = c.args.names.now in
    let item = declares_variable (variable_type (classes_of tables) (type_of tables c.args.ty)) c.args.name.now in
    let there = sym c.has.ensures ∙ c.if-has.true in
    record { made = made_there names item there (items_of c.args.made.now); names = names_there names item there }

pub returns : goal.returns
returns c =
    let tables = c.args.tables.now in
    let names = c.args.names.now in
    let w = items_of c.args.made.now in
    let object = variable_type (classes_of tables) (type_of tables c.args.ty) in
    let item = declares_variable object c.args.name.now in
    let new = sym c.has.ensures ∙ c.if-has.false in
    let pushed =
    c.in_ok-push.ensures ∙ ap (λ t. w ++ declares_variable t c.in_ok-copy.copy ∷ []) c.in_ok-object.ensures
    ∙ ap (λ n. w ++ declares_variable object n ∷ []) (c.in_ok-copy.ensures ∙ c.as_slice.ensures) in
    record { made = made_new names item new w (items_of c.push.new.made) pushed; names = names_new names item new c.add.new.names c.in_ok-add.ensures }
