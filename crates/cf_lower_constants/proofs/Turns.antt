-- The steps of the walk over the statements of an initialiser.
use Rattle.std.proofs.Common.{◌≡◌, ℕ, ◌+◌, ◌<◌, ◌≤◌, Bool, true, false, List, [], ◌++◌, length, drop, get_or, Option, Some, None, sym, ap, ◌∙◌, append_assoc, append-nil}
use Rattle.std.proofs.lemmas.List.{at_drop_all}
use Rattle.cc_whole.specs.Plain.{Statement}
use Rattle.cf_plain.specs.declared.statement.Plain.{Plain as CodePlain}
use Rattle.cf_plain.specs.Plain.{Plains, Register, branch}
use Rattle.cf_lower.specs.Constants.{Known, nothing_known, holds_truth, known_after, all_known_after, constant_stores, constant_code}
use Rattle.cf_lower_held.proofs.Forgotten.{drop_item}
use Rattle.cf_lower_types.specs.Bare.{classes_of}
use Rattle.cf_lower_constants.specs.declared.site.Site.{Site}
use Rattle.cf_lower_constants.specs.Sites.{statement_at, statements_at}

module _ (x : Site) (all : List CodePlain) (i : ℕ) (s : CodePlain) (within : i < length all) (is : s ≡ get_or all i s) (g h : Register → Known)
    (behind : h ≡ known_after (classes_of x.tables.now) (statement_at x s) x.owner.now g) where
  pub stored_more : (w v whole : List Statement) → v ≡ w ++ constant_stores (classes_of x.tables.now) (statement_at x s) x.owner.now g
      → w ++ constant_code (classes_of x.tables.now) (statements_at x (drop i all)) x.owner.now g ≡ whole
      → v ++ constant_code (classes_of x.tables.now) (statements_at x (drop (i + 1) all)) x.owner.now h ≡ whole
  stored_more w v whole stored so_far =
      let rest = statements_at x (drop (i + 1) all) in
      let here = constant_stores (classes_of x.tables.now) (statement_at x s) x.owner.now g in
      ap (λ l. l ++ constant_code (classes_of x.tables.now) rest x.owner.now h) stored ∙ append_assoc w here (constant_code (classes_of x.tables.now) rest x.owner.now h)
      ∙ ap (λ k. w ++ (here ++ constant_code (classes_of x.tables.now) rest x.owner.now k)) behind
      ∙ sym (ap (λ l. w ++ constant_code (classes_of x.tables.now) (statements_at x l) x.owner.now g) (drop_item all i s within is)) ∙ so_far

  pub known_more : (whole : Register → Known) → all_known_after (classes_of x.tables.now) (statements_at x (drop i all)) x.owner.now g ≡ whole
      → all_known_after (classes_of x.tables.now) (statements_at x (drop (i + 1) all)) x.owner.now h ≡ whole
  known_more whole so_far =
      ap (all_known_after (classes_of x.tables.now) (statements_at x (drop (i + 1) all)) x.owner.now) behind
      ∙ sym (ap (λ l. all_known_after (classes_of x.tables.now) (statements_at x l) x.owner.now g) (drop_item all i s within is)) ∙ so_far

-- ---- behind the last one

module _ (x : Site) (items all : List CodePlain) (same : items ≡ all) (i : ℕ) (past : length items ≤ i) (g h : Register → Known) where
  pub stored_all : (w v : List Statement)
      → w ++ constant_code (classes_of x.tables.now) (statements_at x (drop i items)) x.owner.now g
      ≡ v ++ constant_code (classes_of x.tables.now) (statements_at x items) x.owner.now h
      → w ≡ v ++ constant_code (classes_of x.tables.now) (statements_at x all) x.owner.now h
  stored_all w v so_far =
      sym (append-nil w) ∙ sym (at_drop_all (λ (l : List CodePlain). w ++ constant_code (classes_of x.tables.now) (statements_at x l) x.owner.now g) items i past) ∙ so_far
      ∙ ap (λ l. v ++ constant_code (classes_of x.tables.now) (statements_at x l) x.owner.now h) same

  pub known_all : all_known_after (classes_of x.tables.now) (statements_at x (drop i items)) x.owner.now g
      ≡ all_known_after (classes_of x.tables.now) (statements_at x items) x.owner.now h
      → g ≡ all_known_after (classes_of x.tables.now) (statements_at x all) x.owner.now h
  known_all so_far =
      sym (at_drop_all (λ (l : List CodePlain). all_known_after (classes_of x.tables.now) (statements_at x l) x.owner.now g) items i past) ∙ so_far
      ∙ ap (λ l. all_known_after (classes_of x.tables.now) (statements_at x l) x.owner.now h) same

-- ---- a branch, by what is known of its register

module _ (x : Site) (g : Register → Known) (r : Register) (ss ts : Plains) (o : Option Bool) (told : o ≡ holds_truth (g r)) where
  abbrev stores : List Statement
  stores = constant_stores (classes_of x.tables.now) (branch r ss ts) x.owner.now g

  abbrev behind : Register → Known
  behind = known_after (classes_of x.tables.now) (branch r ss ts) x.owner.now g

  abbrev code_of : Plains → List Statement
  code_of ps = constant_code (classes_of x.tables.now) ps x.owner.now g

  abbrev after : Plains → Register → Known
  after ps = all_known_after (classes_of x.tables.now) ps x.owner.now g

  stores_by : (p : Option Bool) → holds_truth (g r) ≡ p
      → stores ≡ elim p as (λ _. List Statement) [ None ↦ [] | Some b ↦ elim b as (λ _. List Statement) [ true ↦ code_of ss | false ↦ code_of ts ] ]
  stores_by p e = ap (λ p. elim p as (λ _. List Statement) [ None ↦ [] | Some b ↦ elim b as (λ _. List Statement) [ true ↦ code_of ss | false ↦ code_of ts ] ]) e

  behind_by : (p : Option Bool) → holds_truth (g r) ≡ p
      → behind ≡ elim p as (λ _. Register → Known) [ None ↦ nothing_known | Some b ↦ elim b as (λ _. Register → Known) [ true ↦ after ss | false ↦ after ts ] ]
  behind_by p e = ap (λ p. elim p as (λ _. Register → Known) [ None ↦ nothing_known | Some b ↦ elim b as (λ _. Register → Known) [ true ↦ after ss | false ↦ after ts ] ]) e

  module _ (w v : List Statement) where
    pub untold_code : o ≡ None → w ≡ w ++ stores
    untold_code e = sym (append-nil w) ∙ ap (λ l. w ++ l) (sym (stores_by None (sym told ∙ e)))

    pub true_code : (b : Bool) → o ≡ Some b → b ≡ true → v ≡ w ++ code_of ss → v ≡ w ++ stores
    true_code b e so stored = stored ∙ ap (λ l. w ++ l) (sym (stores_by (Some true) (sym told ∙ e ∙ ap Some so)))

    pub false_code : (b : Bool) → o ≡ Some b → b ≡ false → v ≡ w ++ code_of ts → v ≡ w ++ stores
    false_code b e so stored = stored ∙ ap (λ l. w ++ l) (sym (stores_by (Some false) (sym told ∙ e ∙ ap Some so)))

  module _ (h : Register → Known) where
    pub untold_known : o ≡ None → h ≡ nothing_known → h ≡ behind
    untold_known e known = known ∙ sym (behind_by None (sym told ∙ e))

    pub true_known : (b : Bool) → o ≡ Some b → b ≡ true → h ≡ after ss → h ≡ behind
    true_known b e so known = known ∙ sym (behind_by (Some true) (sym told ∙ e ∙ ap Some so))

    pub false_known : (b : Bool) → o ≡ Some b → b ≡ false → h ≡ after ts → h ≡ behind
    false_known b e so known = known ∙ sym (behind_by (Some false) (sym told ∙ e ∙ ap Some so))
