-- The steps of the walk over statements.
use Rattle.std.proofs.Common.{◌≡◌, ℕ, ◌+◌, ◌<◌, ◌≤◌, ◌==◌, Bool, true, false, if◌then◌else◌, List, [], ◌∷◌, ◌++◌, length, drop, get_or, sym, ap, ◌∙◌, append_assoc, append-nil}
use Rattle.std.proofs.lemmas.List.{at_drop_all}
use Rattle.cc_whole.specs.Plain.{Body, Statement}
use Rattle.cf_plain.specs.declared.statement.Plain.{Plain as CodePlain}
use Rattle.cf_lower.specs.Kept.{Kept, Keeping, after, after_all, common, keep, nothing_kept}
use Rattle.cf_plain.specs.Plain.{Plains, Register}
use Rattle.cf_lower.specs.Statements.{Inside, block, lowered, all_lowered}
use Rattle.cf_lower_held.specs.declared.registers.Registers.{Registers}
use Rattle.cf_lower_held.specs.declared.scene.Scene.{Scene}
use Rattle.cf_lower_held.specs.Holds.{erased, erasing, held_at, kept_in}
use Rattle.cf_lower_held.specs.Scenes.{holding, locals_in, statement_in, statements_in}
use Rattle.cf_lower_held.proofs.After.{after_all_erased}
use Rattle.cf_lower_held.proofs.Erased.{both_erased, erased_kept}
use Rattle.cf_lower_held.proofs.Forgotten.{drop_item}
use Rattle.cf_lower_stmt.specs.declared.around.Around.{Around}
use Rattle.cf_lower_stmt.specs.Steps.{branched, inside}
use Rattle.cf_lower_stmt.proofs.Erasing.{all_erased}

-- what code's registers hold has no kinds
pub holding_erased : (x : Scene) (rs : Registers) → erasing (holding x rs) ≡ holding x rs
holding_erased x rs = λ j r. erased_kept x.tables.now (held_at rs.held.items r) j

pub as_erased : (x : Scene) (rs : Registers) (k : Keeping) → holding x rs ≡ k → holding x rs ≡ erasing k
as_erased x rs k e = sym (holding_erased x rs) ∙ ap erasing e

-- no register holds anything
pub nothing_held : (x : Scene) (rs : Registers) → rs.held.items ≡ [] → holding x rs ≡ nothing_kept
nothing_held x rs e = λ j r. ap (λ l. kept_in x.tables.now (held_at l r)) e j

-- one register holds something else
pub set_held : (x : Scene) (rs : Registers) (r : Register) (k l : Kept) (h : Keeping) → l ≡ erased k → h ≡ keep (holding x rs) r l → h ≡ erasing (keep (holding x rs) r k)
set_held x rs r k l h e p = p ∙ (λ j q. by q (q == r) j)
  where
    by : (q : Register) (b : Bool) → (if b then l else holding x rs q) ≡ erased (if b then k else holding x rs q)
    by q true = e
    by q false = sym (erased_kept x.tables.now (held_at rs.held.items q))

-- the registers behind a branch
met : (x : Scene) (rs : Registers) (f g a b : Keeping) → holding x rs ≡ common f g → f ≡ erasing a → g ≡ erasing b → holding x rs ≡ erasing (common a b)
met x rs f g a b e p q =
    as_erased x rs (common (erasing a) (erasing b)) (e ∙ ap (λ k. common k g) p ∙ ap (common (erasing a)) q) ∙ (λ j r. both_erased (a r) (b r) j)

-- where its two parts begin with the same
pub met_behind : (x : Scene) (rs : Registers) (ss ts : Plains) (g k f h : Keeping) → k ≡ g → f ≡ erasing (after_all (locals_in x) ss g) → h ≡ erasing (after_all (locals_in x) ts k)
    → holding x rs ≡ common f h → holding x rs ≡ erasing (common (after_all (locals_in x) ss g) (after_all (locals_in x) ts g))
met_behind x rs ss ts g k f h same first second e =
    met x rs f h (after_all (locals_in x) ss g) (after_all (locals_in x) ts g) e first (second ∙ ap (λ l. erasing (after_all (locals_in x) ts l)) same)

-- what is written for it
pub branched_is : (x : Inside) (r : ℕ) (ss ts : Plains) (g k : Keeping) (a b : Body) (w v : List Statement) → k ≡ g → a ≡ block (all_lowered ss x g) → b ≡ block (all_lowered ts x k)
    → v ≡ w ++ branched r a b ∷ [] → v ≡ w ++ branched r (block (all_lowered ss x g)) (block (all_lowered ts x g)) ∷ []
branched_is x r ss ts g k a b w v same first second written =
    written ∙ ap (λ y. w ++ branched r y b ∷ []) first ∙ ap (λ y. w ++ branched r (block (all_lowered ss x g)) y ∷ []) (second ∙ ap (λ l. block (all_lowered ts x l)) same)

module _ (x : Scene) (all : List CodePlain) (i : ℕ) (s : CodePlain) (within : i < length all) (is : s ≡ get_or all i s) (g h : Keeping)
    (behind : h ≡ erasing (after (locals_in x) (statement_in x s) g)) where
  pub one_statement : (around : Around) (w v whole : List Statement) → v ≡ w ++ lowered (statement_in x s) (inside x around) g
      → w ++ all_lowered (statements_in x (drop i all)) (inside x around) g ≡ whole
      → v ++ all_lowered (statements_in x (drop (i + 1) all)) (inside x around) h ≡ whole
  one_statement around w v whole written p =
      let rest = statements_in x (drop (i + 1) all) in
      let here = lowered (statement_in x s) (inside x around) g in
      ap (λ l. l ++ all_lowered rest (inside x around) h) written ∙ append_assoc w here (all_lowered rest (inside x around) h)
      ∙ ap (λ k. w ++ (here ++ all_lowered rest (inside x around) k)) behind
      ∙ ap (λ l. w ++ (here ++ l)) (all_erased rest (inside x around) (after (locals_in x) (statement_in x s) g))
      ∙ sym (ap (λ l. w ++ all_lowered (statements_in x l) (inside x around) g) (drop_item all i s within is)) ∙ p

  pub held_behind : (whole : Keeping) → erasing (after_all (locals_in x) (statements_in x (drop i all)) g) ≡ whole
      → erasing (after_all (locals_in x) (statements_in x (drop (i + 1) all)) h) ≡ whole
  held_behind whole p =
      let rest = statements_in x (drop (i + 1) all) in
      ap (λ k. erasing (after_all (locals_in x) rest k)) behind ∙ after_all_erased (locals_in x) rest (after (locals_in x) (statement_in x s) g)
      ∙ sym (ap (λ l. erasing (after_all (locals_in x) (statements_in x l) g)) (drop_item all i s within is)) ∙ p

-- ---- behind the last statement

module _ (x : Scene) (items all : List CodePlain) (same : items ≡ all) (i : ℕ) (past : length items ≤ i) where
  pub all_written : (around : Around) (g h : Keeping) (w v : List Statement)
      → v ++ all_lowered (statements_in x (drop i items)) (inside x around) h ≡ w ++ all_lowered (statements_in x items) (inside x around) g
      → v ≡ w ++ all_lowered (statements_in x all) (inside x around) g
  all_written around g h w v so_far =
      sym (append-nil v) ∙ sym (at_drop_all (λ (l : List CodePlain). v ++ all_lowered (statements_in x l) (inside x around) h) items i past) ∙ so_far
      ∙ ap (λ l. w ++ all_lowered (statements_in x l) (inside x around) g) same

  pub all_held : (rs : Registers) (g : Keeping)
      → erasing (after_all (locals_in x) (statements_in x (drop i items)) (holding x rs)) ≡ erasing (after_all (locals_in x) (statements_in x items) g)
      → holding x rs ≡ erasing (after_all (locals_in x) (statements_in x all) g)
  all_held rs g so_far =
      sym (holding_erased x rs) ∙ sym (at_drop_all (λ (l : List CodePlain). erasing (after_all (locals_in x) (statements_in x l) (holding x rs))) items i past) ∙ so_far
      ∙ ap (λ l. erasing (after_all (locals_in x) (statements_in x l) g)) same
