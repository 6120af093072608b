use Rattle.std.proofs.Common.{◌≢◌, length, sym, ◌∙◌, rules, arith}
use Rattle.std.proofs.lemmas.Grind.{common_steps}
use Rattle.cc_whole_valid.specs.Memory.{type_at}
use Rattle.cc_whole_valid.proofs.SignatureLaws.{other_lengths, differ_here, same_here}
use Rattle.cc_whole_valid.proofs.signature.same_types.Goals as goal

pub returns-then-len : goal.returns-then-len
returns-then-len c =
    let apart : length (type_at c.args.a).parameters ≢ length (type_at c.args.b).parameters = first_of (search rules, grind (arith, common_steps)) in
    other_lengths (type_at c.args.a).parameters (type_at c.args.b).parameters apart

pub returns-then-not-is : goal.returns-then-not-is
returns-then-not-is c =
    differ_here (type_at c.args.a).parameters (type_at c.args.b).parameters c.loop-index.index c.parameter.result c.parameter-in-loop-index.result
    c.parameter.ensures c.parameter-in-loop-index.ensures c.loop-index.invariant (sym c.is.ensures ∙ c.if-not-is.true)

pub loop-index-preserved : goal.loop-index-preserved
loop-index-preserved c =
    same_here (type_at c.args.a).parameters (type_at c.args.b).parameters c.loop-index.index c.parameter.result c.parameter-in-loop-index.result
    c.parameter.ensures c.parameter-in-loop-index.ensures c.loop-index.invariant (sym c.is.ensures ∙ c.if-not-is.false)
