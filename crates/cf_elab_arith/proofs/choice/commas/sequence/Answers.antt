use Rattle.std.proofs.Common.{◌≡◌, ℕ, ◌-◌, Bool, List, length, Some, slice_get, ap, ◌∙◌}
use Rattle.cf_core.specs.declared.node.Core.{Core as Node}
use Rattle.cf_core.specs.declared.node.Core.TheVariants as node
use Rattle.cf_elab.specs.Operand.{Value, computed}
use Rattle.cf_elab_arith.proofs.ChoiceLaws.Sequences.{in_sequence}
use Rattle.cf_elab_arith.proofs.choice.commas.sequence.Goals as goal

pub returns-in_ok-node-in-Some-clause-made : goal.returns-in_ok-node-in-Some-clause-made
returns-in_ok-node-in-Some-clause-made c =
    let at = c.args.at in
    let l = c.in-Some.last.now in
    let ns = c.in_ok-operands-in-Some.operands in
    let last : Some l ≡ slice_get c.args.values (length c.args.values - 1) =
    c.in-Some.ensures.value ∙ ap (λ (vs : List Value). slice_get vs (length vs - 1)) c.as_slice.ensures in
    let made : c.computed.result ≡ computed at (node.Comma at ns) l.type =
    c.computed.ensures ∙ ap (λ (n : Node). computed at n c.ty-ty.result) c.in_ok-node-in-Some.ensures ∙ ap (λ (t : ℕ). computed at (node.Comma at ns) t) c.ty-ty.ensures in
    let is : c.with_lvalue.result ≡ record (computed at (node.Comma at ns) l.type) { is_lvalue = l.is_lvalue } =
    c.with_lvalue.ensures ∙ ap (λ (v : Value). record v { is_lvalue = c.is_lvalue-is_lvalue.result }) made
    ∙ ap (λ (b : Bool). record (computed at (node.Comma at ns) l.type) { is_lvalue = b }) c.is_lvalue-is_lvalue.ensures in
    in_sequence at c.args.values c.args.env.now l c.with_lvalue.result ns c.holds.ensures c.requires last c.in_ok-operands-in-Some.ensures is
