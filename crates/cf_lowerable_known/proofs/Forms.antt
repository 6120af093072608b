-- What is so of a statement of an initialiser, by its form.
use Rattle.std.proofs.Common.{◌≡◌, Bool, [], sym, ap, ◌∙◌}
use Rattle.cf_plain.specs.declared.statement.Plain.{Plain as CodePlain}
use Rattle.cf_plain.specs.Plain.{Plain, Register}
use Rattle.cf_lower.specs.Constants.{Known, known_after}
use Rattle.cf_lower_constants.specs.declared.site.Site.{Site}
use Rattle.cf_lower_constants.specs.Sites.{statement_at}
use Rattle.cf_lower_program.specs.Starts.{start_known}

-- whether all that it does is known, and what is known behind it
pub record Walked (x : Site) (p : Plain) (g h : Register → Known) (b : Bool) : Type 0 where
  pub known : b ≡ start_known p x.owner.now g
  pub behind : h ≡ known_after [] p x.owner.now g

pub by_form : (x : Site) (s : CodePlain) (p : Plain) (g h : Register → Known) (b : Bool) → statement_at x s ≡ p → Walked x p g h b → Walked x (statement_at x s) g h b
by_form x s p g h b is w = record {
  known = Walked.known w ∙ sym (ap (λ q. start_known q x.owner.now g) is);
  behind = Walked.behind w ∙ sym (ap (λ q. known_after [] q x.owner.now g) is);
}
