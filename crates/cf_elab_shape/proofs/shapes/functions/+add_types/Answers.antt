use Rattle.std.proofs.Common.{◌≡◌, ℕ, List, rules, sym, subst}
use Rattle.cf_elab.specs.Answer.{Made}
use Rattle.cf_elab_shape.specs.Shapes.Holds.{AreTaken}
use Rattle.cf_elab_shape.specs.Shapes.Shut as shut
use Rattle.cf_elab_shape.proofs.ShapesLaws.ParameterLaws.{none_more, one_more, rest_objects, objects_grown, taken_grown, taken_more}
use Rattle.cf_elab_shape.proofs.shapes.functions.+add_types.Goals as goal

pub add_types-requires : goal.add_types-requires
add_types-requires t c =
    let old = c.args.env.now.types in
    let new = c.parameter_type.new.env.types in
    let first = c.in-Some.first.now in
    let ok = c.in_ok-ty-in-Some.ensures in
    let P : List ℕ → Type 0 = AreTaken new in (
      search rules,
      (
        objects_grown old new c.in-Some.rest.now ok.grows (rest_objects old first c.args.parameters.now c.in-Some.rest.now c.in-Some.ensures.cases.0 c.requires.objects),
        subst P (sym {A = List ℕ} c.in_ok-push-in-Some.ensures.items)
            (taken_more new c.args.types.now.items c.in_ok-ty-in-Some.ty (taken_grown old new c.args.types.now.items ok.grows c.requires.taken) ok.known ok.fine),
      ),
    )

pub returns-in-None-clause-made : goal.returns-in-None-clause-made
returns-in-None-clause-made t c = none_more c.args.env.now c.args.parameters.now c.args.types.now.items c.in-None.ensures.cases

pub returns-in_ok-add_types-in-Some-clause-made : goal.returns-in_ok-add_types-in-Some-clause-made
returns-in_ok-add_types-in-Some-clause-made t c =
    let first : shut.parameter_type c.in-Some.first.now.type c.args.env.now ≡ Made c.in_ok-ty-in-Some.ty c.parameter_type.new.env = search rules in
    one_more c.args.env.now c.parameter_type.new.env c.add_types.new.env c.args.parameters.now c.in-Some.rest.now c.in-Some.first.now c.args.types.now.items c.push.new.self.items
    c.add_types.new.types.items c.in_ok-ty-in-Some.ty c.in-Some.ensures.cases.0 first c.in_ok-push-in-Some.ensures.items c.in_ok-add_types-in-Some.ensures.made
