-- The statements that the code has written, and then a rest.
use Rattle.std.proofs.Common.{◌≡◌, ℕ, ◌+◌, List, [], ◌∷◌, ◌++◌, refl, ap, ◌∙◌}
use Rattle.cf_classes.specs.declared.class.MemberRef.{MemberRef}
use Rattle.cf_core.specs.Types.{Name}
use Rattle.cf_core.specs.FromTypes.{Tables}
use Rattle.cf_plain.specs.declared.action.Action.{Action}
use Rattle.cf_plain.specs.declared.statement.Plain.{Plain}
use Rattle.cf_plain.specs.declared.statement.Plain.TheVariants as code
use Rattle.cf_plain.specs.Plain.{Plains, nothing, more, branch}
use Rattle.cf_plain.specs.Plain as plain
use Rattle.cf_plain.specs.View.{action_of, plain_of, plains_of}
use Rattle.cf_sequence.specs.Expressions.{used as use_of}
use Rattle.cf_sequence_expr.specs.declared.writing.Writing.{Writing}
use Rattle.cf_sequence_expr.specs.Writes.{put, set, act, used, emptied, branched, passed}
use Rattle.cf_sequence_written.proofs.Views.{of-Act, of-Set, of-If}

module _ (tables : Tables) (signature : MemberRef → Name) where
  abbrev pub followed : List Plain → Plains → Plains
  followed [] rest = rest
  followed (s ∷ ss) rest = more (plain_of tables signature s) (followed ss rest)

  pub followed-end : (ss : List Plain) → followed ss nothing ≡ plains_of tables signature ss
  followed-end [] = refl
  followed-end (s ∷ ss) = ap (more (plain_of tables signature s)) (followed-end ss)

  pub followed-last : (ss : List Plain) (s : Plain) (rest : Plains) → followed (ss ++ s ∷ []) rest ≡ followed ss (more (plain_of tables signature s) rest)
  followed-last [] s rest = refl
  followed-last (x ∷ ss) s rest = ap (more (plain_of tables signature x)) (followed-last ss s rest)

  pub followed-put : (s : Plain) (p : plain.Plain) (w : Writing) (rest : Plains) → plain_of tables signature s ≡ p
      → followed (Writing.code (put s w)) rest ≡ followed w.code (more p rest)
  unfolding put
  followed-put s p w rest is = followed-last w.code s rest ∙ ap (λ q. followed w.code (more q rest)) is

  pub followed-set : (n : ℕ) (a : Action) (w : Writing) (rest : Plains)
      → followed (Writing.code (set n a w)) rest ≡ followed w.code (more (plain.set n (action_of tables signature a)) rest)
  unfolding set
  followed-set n a w rest = followed-put (code.Set n a) _ w rest (of-Set tables signature n a)

  pub followed-act : (a : Action) (w : Writing) (rest : Plains)
      → followed (Writing.code (act a w)) rest ≡ followed w.code (more (plain.act (action_of tables signature a)) rest)
  unfolding act
  followed-act a w rest = followed-put (code.Act a) _ w rest (of-Act tables signature a)

  pub followed-used : (n : ℕ) (w : Writing) (rest : Plains) → followed (Writing.code (used n w)) rest ≡ followed w.code (use_of n rest)
  unfolding used
  followed-used n w rest = followed-act _ w rest

  pub followed-branch : (n : ℕ) (before chosen : List Plain) (chosen_as other_as : Plains) (w : Writing) (rest : Plains)
      → plains_of tables signature chosen ≡ chosen_as → plains_of tables signature w.code ≡ other_as
      → followed (Writing.code (branched n before chosen w)) rest ≡ followed before (more (branch n chosen_as other_as) rest)
  unfolding branched
  followed-branch n before chosen chosen_as other_as w rest first second =
      followed-last before (code.If n chosen w.code) rest
      ∙ ap (λ q. followed before (more q rest)) (of-If tables signature n chosen w.code ∙ ap (λ ss. branch n ss (plains_of tables signature w.code)) first ∙ ap (λ ts. branch n chosen_as ts) second)

-- The number of the next local.

pub next-put : (s : Plain) (w : Writing) → Writing.next (put s w) ≡ w.next
unfolding put
next-put s w = refl

pub next-set : (n : ℕ) (a : Action) (w : Writing) → Writing.next (set n a w) ≡ w.next
unfolding set
next-set n a w = next-put (code.Set n a) w

pub next-act : (a : Action) (w : Writing) → Writing.next (act a w) ≡ w.next
unfolding act
next-act a w = next-put (code.Act a) w

pub next-used : (n : ℕ) (w : Writing) → Writing.next (used n w) ≡ w.next
unfolding used
next-used n w = next-act _ w

pub next-emptied : (w : Writing) → Writing.next (emptied w) ≡ w.next
unfolding emptied
next-emptied w = refl

pub code-emptied : (w : Writing) → Writing.code (emptied w) ≡ []
unfolding emptied
code-emptied w = refl

pub next-branched : (n : ℕ) (before chosen : List Plain) (w : Writing) → Writing.next (branched n before chosen w) ≡ w.next
unfolding branched
next-branched n before chosen w = refl

pub next-passed : (count : ℕ) (w : Writing) → Writing.next (passed count w) ≡ w.next + count
unfolding passed
next-passed count w = refl

pub code-passed : (count : ℕ) (w : Writing) → Writing.code (passed count w) ≡ w.code
unfolding passed
code-passed count w = refl
