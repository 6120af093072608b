-- What is read is what the file is.
use Rattle.std.proofs.Common.{◌≡◌, ℕ, List, Result, Ok, Err, sym, subst}
use Rattle.std.proofs.Common.{inl, inr}
use Rattle.cf_tokens.specs.Lex.{Lex}
use Rattle.cf_tokens.specs.declared.token.Token.{Token}
use Rattle.cf_unit.specs.declared.file.Unit.{Unit as FileTree}
use Rattle.cf_unit.specs.Answers.{IsUnit}
use Rattle.cf_unit.specs.Answers as grammar
use Rattle.cf_core.specs.FromUnit.{Unit as CoreUnit}
use Rattle.cf_first.specs.declared.fault.Fault.{Fault}
use Rattle.cf_first.specs.declared.fault.Fault.TheVariants as fault
use Rattle.cf_first.specs.First.{HasTree, First, breaks, passes, breaks_form, passes_limit, is_nested, is_misspelled, breaks_rule, passes_in_turn, is_not_built, accepted}
use Rattle.cf_first.specs.Reads.{Reads}
use Rattle.cf_first.specs.Steps.{IsUncut, IsTree, HasCore}

-- the bytes have no tokens of the language
pub no_list : (bytes : List ℕ) (f : Fault) → IsUncut bytes f → Reads bytes (Err f)
no_list bytes (fault.Broken first) lexical = breaks_form first lexical
no_list bytes (fault.Limit limit) lexical = passes_limit limit lexical
no_list bytes fault.Memory free = tt

module _ (bytes : List ℕ) (listed : List Token) (lexical : Lex bytes (Ok listed)) where
  -- the tokens have no tree
  pub no_tree : (f : Fault) → IsTree listed (Err f) → Reads bytes (Err f)
  no_tree (fault.Broken b) n = subst (λ k. First bytes (Err (breaks k))) (sym n.broken) (is_misspelled listed b.at lexical n.refused)
  no_tree (fault.Limit limit) n = subst (λ l. First bytes (Err (passes l))) (sym n.passed) (is_nested listed lexical n.nested)
  no_tree fault.Memory free = tt

  module _ (tree : FileTree) (spelled : IsUnit listed (grammar.accepted tree)) where
    has_tree : HasTree bytes tree
    has_tree = record { listed = listed; lexical = lexical; spelled = spelled }

    -- the tree's core, or why it has none
    pub elaborated : (r : Result CoreUnit Fault) → HasCore tree r → Reads bytes r
    elaborated (Ok core) e = accepted tree core has_tree e
    elaborated (Err (fault.Broken b)) (inl e) = breaks_rule tree b has_tree e
    elaborated (Err (fault.Broken b)) (inr n) = subst (λ k. First bytes (Err (breaks k))) (sym n.broken) (is_not_built tree has_tree n.ended)
    elaborated (Err (fault.Limit l)) e = passes_in_turn tree l has_tree e
    elaborated (Err fault.Memory) free = tt
