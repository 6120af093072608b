-- Statements gone through step by step are stuck where their rules are.
use Rattle.std.proofs.Common.{◌≡◌, ℕ, [], Option, None, refl, ◌∙◌, ap}
use Rattle.std.proofs.Math.Path.{fun_ext}
use Rattle.cf_syntax.specs.NamesData.{Names}
use Rattle.cf_syntax.specs.Grammar.{sees}
use Rattle.cf_syntax.specs.Words.{left_paren, right_paren, colon}
use Rattle.cf_parse_expr.specs.Whole.{commas_at}
use Rattle.cf_unit.specs.declared.statement.Stmt.{Stmt}
use Rattle.cf_unit.specs.declared.statement.Stmt.TheVariants as stmt
use Rattle.cf_unit.specs.Declarations.{specified}
use Rattle.cf_unit.specs.Files.{inner, by_tree}
use Rattle.cf_unit.specs.Known.{Known, with_names, with_block}
use Rattle.cf_unit.specs.Pieces.{left_brace, right_brace, semicolon, break_word, case_word, continue_word, default_word, do_word, else_word, for_word, if_word, return_word, switch_word, while_word}
use Rattle.cf_unit.specs.Pieces as pieces
use Rattle.cf_unit.specs.Read.{reading, spot_by}
use Rattle.cf_unit.specs.Rule.{Rule, commas, condition, then, by, until, made}
use Rattle.cf_unit.specs.Statements as whole
use Rattle.cf_parse_decl.specs.Insides.{insides}
use Rattle.cf_stuck_statement.specs.declared.rows.Element.TheVariants as element
use Rattle.cf_stuck_statement.specs.Inside.{places}
use Rattle.cf_stuck_statement.specs.Parts.{behind, where_seen, nowhere, row_spot, known_at}
use Rattle.cf_stuck_statement.specs.Statements as steps
use Rattle.cf_stuck_statement.proofs.Quiet.{Quiet, Is, by-known, quiet-empty, quiet-exactly, quiet-form, quiet-then, quiet-made, quiet-by, is-quiet, is-then, is-before, is-made, is-by, is-both-known, is-rather, is-rather-then}
use Rattle.cf_stuck_statement.proofs.Past.{first-past, switched-past, case-rule, default-rule}
use Rattle.cf_stuck_statement.proofs.Kept.{until-is}

-- ---- what holds no place

pub quiet-word : (w : ℕ) → Quiet (pieces.word w)
quiet-word w = quiet-exactly _

pub quiet-before : {A B : Type 0} (n : ℕ) {f : A → B} {g : Rule A} → Quiet g → Quiet (pieces.before n f g)
quiet-before n one = quiet-then one (λ a. quiet-made (quiet-word n))

pub quiet-brackets : (names : Names) → Quiet (pieces.in_brackets names)
quiet-brackets names = quiet-then (quiet-word left_paren) (λ _. quiet-before right_paren (quiet-form commas names))

pub quiet-comma : (names : Names) (n : ℕ) → Quiet (pieces.maybe_comma names n)
quiet-comma names n = quiet-by (quiet-made (quiet-word n)) (quiet-before n (quiet-form commas names))

quiet-case : (k : Known) → Quiet (case-rule k)
quiet-case k = quiet-then (quiet-word case_word) (λ at. quiet-before colon (quiet-form condition k.names))

quiet-default : (k : Known) → Quiet (default-rule k)
quiet-default k = quiet-then (quiet-word default_word) (λ at. quiet-made (quiet-word colon))

module _ (n : ℕ) where
  quiet-expression : (k : Known) → Quiet (whole.expression_statement (inner by_tree n) k)
  quiet-expression k = quiet-then (quiet-exactly _) (λ at. quiet-by (quiet-made (quiet-word semicolon)) (quiet-before semicolon (quiet-form commas k.names)))

  quiet-leaving : (w : ℕ) (make : ℕ → Stmt) (k : Known) → Quiet (whole.leaving (inner by_tree n) w make k)
  quiet-leaving w make k = quiet-then (quiet-word w) (λ at. quiet-made (quiet-word semicolon))

  quiet-return : (k : Known) → Quiet (whole.return_statement (inner by_tree n) k)
  quiet-return k = quiet-then (quiet-word return_word) (λ at. quiet-made (quiet-comma k.names semicolon))

  -- the rest of the rule of statements behind the first of its words
  abbrev leaf-rule : Known → Rule (Stmt × Known)
  leaf-rule k = by (sees break_word) (whole.leaving (inner by_tree n) break_word (λ at. stmt.Break at) k) (by (sees continue_word) (whole.leaving (inner by_tree n) continue_word (λ at. stmt.Continue at) k)
      (by (sees return_word) (whole.return_statement (inner by_tree n) k) (whole.expression_statement (inner by_tree n) k)))

  abbrev loop-rule : Known → Rule (Stmt × Known)
  loop-rule k = by (sees do_word) (whole.do_statement (inner by_tree n) k) (by (sees for_word) (whole.for_statement (inner by_tree n) k)
      (by (sees switch_word) (whole.switch_statement (inner by_tree n) k) (leaf-rule k)))

  -- the rest of the rule of `for` behind its first part
  abbrev for-rule : ℕ → Stmt × Known → Rule (Stmt × Known)
  for-rule at first = then (pieces.maybe_comma first.1.names semicolon) (λ c. then (pieces.maybe_comma first.1.names right_paren) (λ last.
      made (λ s. (stmt.For at first.0 c last s.0, s.1)) ((inner by_tree n).statement first.1)))

  -- what stands inside
  inner-is : (k : Known) → Is ((inner by_tree n).statement k) ((places n).statement k)
  inner-is k = record { same = λ ts. refl }

  declaration-is : (k : Known) → Is (specified (inner by_tree n) k) ((places n).declaration k)
  declaration-is k = record { same = λ ts. refl }

  -- ---- braces

  statements-are : (k : Known) → Is (until (sees right_brace) whole.names_behind (whole.next_statement (inner by_tree n)) ([], k)) (steps.row_of (insides n) (places n) element.Statement k)
  unfolding steps.row_of steps.last_of steps.unended_at
  statements-are k = until-is (sees right_brace) (inner by_tree n).statement (places n).statement inner-is k

  switched-is : (k : Known) → Is (whole.switched (inner by_tree n) k) (steps.switched (insides n) (places n) k)
  unfolding steps.switched
  switched-is k = is-by nowhere (where_seen (sees default_word) nowhere ((places n).statement k)) (is-quiet (quiet-case k))
      (is-by nowhere ((places n).statement k) (is-quiet (quiet-default k)) (inner-is k))

  switched-past-is : steps.past (insides n) element.Switched ≡ (λ k. known_at (reading (whole.switched (inner by_tree n) k)))
  switched-past-is = fun_ext (λ k. fun_ext (λ ts. switched-past n k ts))

  all-switched-are : (k : Known) → Is (until (sees right_brace) whole.names_behind (whole.next_switched (inner by_tree n)) ([], k)) (steps.row_of (insides n) (places n) element.Switched k)
  unfolding steps.row_of steps.last_of steps.unended_at
  all-switched-are k = record {
    same = λ ts. ap (λ (f : Known → _). row_spot (sees right_brace) f (steps.switched (insides n) (places n)) k ts) switched-past-is
        ∙ (until-is (sees right_brace) (whole.switched (inner by_tree n)) (steps.switched (insides n) (places n)) switched-is k).same ts;
  }

  pub block-is : (k : Known) → Is (whole.block (inner by_tree n) k) (steps.braced (insides n) (places n) element.Statement k)
  unfolding steps.braced
  block-is k = is-then (λ _. steps.row_of (insides n) (places n) element.Statement (with_names k (with_block k.names))) (quiet-word left_brace)
      (λ at. is-before (statements-are (with_names k (with_block k.names))) (λ all. quiet-made (quiet-word right_brace)))

  switch-block-is : (k : Known) → Is (whole.braced (inner by_tree n) k (whole.next_switched (inner by_tree n))) (steps.braced (insides n) (places n) element.Switched k)
  unfolding steps.braced
  switch-block-is k = is-then (λ _. steps.row_of (insides n) (places n) element.Switched (with_names k (with_block k.names))) (quiet-word left_brace)
      (λ at. is-before (all-switched-are (with_names k (with_block k.names))) (λ all. quiet-made (quiet-word right_brace)))

  -- ---- conditions and loops

  otherwise-is : (make : Option Stmt → Stmt) (k : Known) → Is (whole.otherwise (inner by_tree n) make k) (steps.otherwise (insides n) (places n) k)
  unfolding steps.otherwise
  otherwise-is make k = is-by (behind (reading (pieces.word else_word)) (λ _. (places n).statement k)) nowhere
      (is-then (λ _. (places n).statement k) (quiet-word else_word) (λ at. is-made (inner-is k))) (is-quiet (quiet-empty _))

  if-behind-is : (at : ℕ) (c : _) (k : Known) → Is (then ((inner by_tree n).statement k) (λ s. whole.otherwise (inner by_tree n) (λ o. stmt.If at c s.0 o) s.1)) (steps.if_behind (insides n) (places n) k)
  unfolding steps.if_behind
  if-behind-is at c k = is-both-known ((places n).statement k) (steps.otherwise (insides n) (places n)) (inner-is k) (λ s. otherwise-is (λ o. stmt.If at c s.0 o) s.1)

  if-is : (k : Known) → Is (whole.if_statement (inner by_tree n) k) (steps.if_statement (insides n) (places n) k)
  unfolding steps.if_statement steps.in_brackets commas_at
  if-is k = is-then (λ _. behind (reading (pieces.in_brackets k.names)) (λ _. steps.if_behind (insides n) (places n) k)) (quiet-word if_word)
      (λ at. is-then (λ _. steps.if_behind (insides n) (places n) k) (quiet-brackets k.names) (λ c. if-behind-is at c k))

  while-is : (k : Known) → Is (whole.while_statement (inner by_tree n) k) (steps.while_statement (insides n) (places n) k)
  unfolding steps.while_statement steps.in_brackets commas_at
  while-is k = is-then (λ _. behind (reading (pieces.in_brackets k.names)) (λ _. (places n).statement k)) (quiet-word while_word)
      (λ at. is-then (λ _. (places n).statement k) (quiet-brackets k.names) (λ c. is-made (inner-is k)))

  do-is : (k : Known) → Is (whole.do_statement (inner by_tree n) k) (steps.do_statement (insides n) (places n) k)
  unfolding steps.do_statement
  do-is k = is-then (λ _. (places n).statement k) (quiet-word do_word)
      (λ at. is-before (inner-is k) (λ s. quiet-then (quiet-word while_word) (λ _. quiet-before semicolon (quiet-brackets s.1.names))))

  for-behind-is : (at : ℕ) (first : Stmt × Known) → Is (for-rule at first) (steps.for_behind (insides n) (places n) first.1)
  unfolding steps.for_behind steps.maybe_comma commas_at
  for-behind-is at first = is-then (λ _. behind (reading (pieces.maybe_comma first.1.names right_paren)) (λ _. (places n).statement first.1)) (quiet-comma first.1.names semicolon)
      (λ c. is-then (λ _. (places n).statement first.1) (quiet-comma first.1.names right_paren) (λ last. is-made (inner-is first.1)))

  for-first-is : (at : ℕ) (k : Known) → Is (then (whole.for_first (inner by_tree n) k) (for-rule at)) (steps.for_first (insides n) (places n) k)
  unfolding steps.for_first
  for-first-is at k = record {
    same = λ ts. ap (λ o. spot_by o (steps.for_behind (insides n) (places n)) ((places n).declaration k ts)) (first-past n k ts)
        ∙ by-known (reading (whole.for_first (inner by_tree n) k) ts) (steps.for_behind (insides n) (places n)) ((places n).declaration k ts)
        ∙ (first-is).same ts;
  }
    where
      first-is : Is (then (whole.for_first (inner by_tree n) k) (for-rule at)) (λ ts. spot_by (reading (whole.for_first (inner by_tree n) k) ts)
          (λ a mid. steps.for_behind (insides n) (places n) a.1 mid) ((places n).declaration k ts))
      first-is = is-rather-then (λ a. steps.for_behind (insides n) (places n) a.1) ((places n).declaration k) (is-made (declaration-is k)) (quiet-expression k) (λ first. for-behind-is at first)

  for-is : (k : Known) → Is (whole.for_statement (inner by_tree n) k) (steps.for_statement (insides n) (places n) k)
  unfolding steps.for_statement
  for-is k = is-then (λ _. behind (reading (pieces.word left_paren)) (λ _. steps.for_first (insides n) (places n) k)) (quiet-word for_word)
      (λ at. is-then (λ _. steps.for_first (insides n) (places n) k) (quiet-word left_paren) (λ _. for-first-is at k))

  switch-is : (k : Known) → Is (whole.switch_statement (inner by_tree n) k) (steps.switch_statement (insides n) (places n) k)
  unfolding steps.switch_statement steps.in_brackets commas_at
  switch-is k = is-then (λ _. behind (reading (pieces.in_brackets k.names)) (λ _. steps.braced (insides n) (places n) element.Switched k)) (quiet-word switch_word)
      (λ at. is-then (λ _. steps.braced (insides n) (places n) element.Switched k) (quiet-brackets k.names) (λ c. is-made (switch-block-is k)))

  -- ---- statements

  quiet-leaves : (k : Known) → Quiet (leaf-rule k)
  quiet-leaves k = quiet-by (quiet-leaving break_word (λ at. stmt.Break at) k) (quiet-by (quiet-leaving continue_word (λ at. stmt.Continue at) k)
      (quiet-by (quiet-return k) (quiet-expression k)))

  switches-are : (k : Known) → Is (by (sees switch_word) (whole.switch_statement (inner by_tree n) k) (leaf-rule k))
      (where_seen (sees switch_word) (steps.switch_statement (insides n) (places n) k) nowhere)
  switches-are k = is-by (steps.switch_statement (insides n) (places n) k) nowhere (switch-is k) (is-quiet (quiet-leaves k))

  loops-are : (k : Known) → Is (loop-rule k) (steps.loop_statement (insides n) (places n) k)
  unfolding steps.loop_statement
  loops-are k = is-by (steps.do_statement (insides n) (places n) k) _ (do-is k) (is-by (steps.for_statement (insides n) (places n) k) _ (for-is k) (switches-are k))

  other-is : (k : Known) → Is (whole.other_statement (inner by_tree n) k) (steps.other_statement (insides n) (places n) k)
  unfolding steps.other_statement
  other-is k = is-by (steps.braced (insides n) (places n) element.Statement k) _ (is-made (block-is k))
      (is-by (steps.if_statement (insides n) (places n) k) _ (if-is k) (is-by (steps.while_statement (insides n) (places n) k) _ (while-is k) (loops-are k)))

  -- a statement gone through step by step is stuck where the rule of statements is
  pub statement-is : (k : Known) → Is (whole.statement (inner by_tree n) k) (steps.statement (insides n) (places n) n k)
  unfolding steps.statement steps.unread_statement steps.past_statement
  statement-is k = is-rather (known_at (reading (whole.statement (inner by_tree n) k))) ((places n).declaration k) (steps.other_statement (insides n) (places n) k)
      (λ ts. by-known (reading (whole.statement (inner by_tree n) k) ts) (λ _ _. None) _) (is-made (declaration-is k)) (other-is k)
