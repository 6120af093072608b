use Rattle.std.proofs.Common.{ℕ, List, ap, sym, ◌∙◌}
use Rattle.std.specs.Prelude.{Option, Some, None, codes}
use Rattle.cf_lowerable_core.proofs.literals.owner_name.Goals as goal

pub returns-in-None : goal.returns-in-None
returns-in-None c = λ tables. ap (λ (o : Option (List ℕ)). elim o [ None ↦ codes "__sti" | Some f ↦ f ]) (sym c.in-None.is)

pub returns-in-Some : goal.returns-in-Some
returns-in-Some c = λ tables. c.as_slice.ensures ∙ ap (λ (o : Option (List ℕ)). elim o [ None ↦ codes "__sti" | Some f ↦ f ]) (sym c.in-Some.is)
