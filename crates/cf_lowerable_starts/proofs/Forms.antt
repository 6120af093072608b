-- What is so of a statement of an initialiser, by its form.
use Rattle.std.proofs.Common.{◌≡◌, Bool, [], sym, ap, ◌∙◌}
use Rattle.cf_core.specs.Types.{Name}
use Rattle.cf_plain.specs.declared.statement.Plain.{Plain as CodePlain}
use Rattle.cf_plain.specs.Plain.{Plain, Register}
use Rattle.cf_lower.specs.Constants.{Known, known_after}
use Rattle.cf_lower_constants.specs.declared.site.Site.{Site}
use Rattle.cf_lower_constants.specs.Sites.{statement_at}
use Rattle.cf_lower_program.specs.Alike.{Told, statement_alike, told_after}

-- whether it does the same, what is known behind it, and what is told
pub record Walked (x : Site) (name : Name) (p : Plain) (g h : Register → Known) (t u : Told) (b : Bool) : Type 0 where
  pub alike : b ≡ statement_alike name p x.owner.now g t
  pub known : h ≡ known_after [] p x.owner.now g
  pub told : u ≡ told_after p x.owner.now g t

pub by_form : (x : Site) (name : Name) (s : CodePlain) (p : Plain) (g h : Register → Known) (t u : Told) (b : Bool) → statement_at x s ≡ p → Walked x name p g h t u b
    → Walked x name (statement_at x s) g h t u b
by_form x name s p g h t u b is w = record {
  alike = Walked.alike w ∙ sym (ap (λ q. statement_alike name q x.owner.now g t) is);
  known = Walked.known w ∙ sym (ap (λ q. known_after [] q x.owner.now g) is);
  told = Walked.told w ∙ sym (ap (λ q. told_after q x.owner.now g t) is);
}
