-- What is written for a switch.
use Rattle.std.proofs.Common.{◌≡◌, ℕ, List, map, ap, sym, ◌∙◌}
use Rattle.cf_types.specs.Table.{Table}
use Rattle.cf_core.specs.declared.node.Core.{Core}
use Rattle.cf_core.specs.declared.node.Core.TheOpen.{Core-F}
use Rattle.cf_core.specs.declared.node.Core.TheFolds.{fold-roll-Core}
use Rattle.cf_core.specs.declared.node.Core.TheVariants.{Switch, rolls-Switch}
use Rattle.cf_plain.specs.declared.statement.Plain.{Plain}
use Rattle.cf_sequence_stmt.specs.declared.body.Body.{Body}
use Rattle.cf_sequence_stmt.specs.declared.body.Ways.{Ways}
use Rattle.cf_sequence_stmt.specs.Bodies.{behind_flags, given, begun, switched}
use Rattle.cf_sequence_stmt.specs.Steps.{Step, step, step_step, part_step, cases, selected, selection}

switch_act : (types : Table) (at : ℕ) (e : Core) (ss : List Core) (ways : Ways) (b : Body)
    → (step types (Switch at e ss)).act ways b ≡ selection (step types e) (map (step types) ss) ways b
switch_act types at e ss ways b =
    ap (λ x. Step.act x ways b) (ap (step types) (sym (rolls-Switch at e ss)) ∙ fold-roll-Core Step Step (step_step types) (part_step types) (Core-F.Switch at e ss))

pub in_switch : (types : Table) (x : Core) (at : ℕ) (e other : Core) (ss others : List Core) (ways : Ways) (b d : Body)
    → x ≡ Switch at e ss → other ≡ e → others ≡ ss → d ≡ selection (step types other) (map (step types) others) ways b → d ≡ (step types x).act ways b
in_switch types x at e other ss others ways b d is same all p =
    p ∙ ap (λ y. selection (step types y) (map (step types) others) ways b) same ∙ ap (λ l. selection (step types e) (map (step types) l) ways b) all
    ∙ sym (switch_act types at e ss ways b) ∙ ap (λ y. (step types y).act ways b) (sym is)

pub in_selection : (types : Table) (e : Core) (ss : List Core) (ways : Ways) (b v u w c d : Body) (n : ℕ) (before : List Plain)
    → v ≡ given (step types e).piece b → n ≡ behind_flags 0 (step types e).piece → u ≡ selected n (map (step types) ss) v → w ≡ begun u → before ≡ u.writing.code
    → c ≡ cases (map (step types) ss) ways w → d ≡ switched n before c → d ≡ selection (step types e) (map (step types) ss) ways b
in_selection types e ss ways b v u w c d n before written register first began kept inner p =
    p ∙ ap (λ l. switched n l c) kept ∙ ap (λ z. switched n u.writing.code z) (inner ∙ ap (cases (map (step types) ss) ways) began)
    ∙ ap (λ z. switched n (Body.writing z).code (cases (map (step types) ss) ways (begun z))) (first ∙ ap (selected n (map (step types) ss)) written)
    ∙ ap (λ m. let z = selected m (map (step types) ss) (given (step types e).piece b) in switched m (Body.writing z).code (cases (map (step types) ss) ways (begun z))) register
