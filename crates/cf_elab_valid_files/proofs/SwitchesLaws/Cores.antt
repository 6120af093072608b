-- The core of what stands in a switch's braces, and its validity (6.4.2).
use Rattle.std.proofs.Common.{◌≡◌, ◌⊎◌, inl, inr, ℕ, Bool, true, false, not, ◌&&◌, ◌||◌, List, [], ◌∷◌, map, ℤ, is_some, Option, Some, None, refl, sym, ap, subst, ◌∙◌, true≢false}
use Rattle.std.specs.List.{list_any}
use Rattle.std.specs.Prelude.{int_le}
use Rattle.cf_base.specs.declared.kind.Kind.{Kind}
use Rattle.cf_base.specs.Integers.{convert}
use Rattle.cf_core.specs.declared.node.Core.{Core as Node}
use Rattle.cf_core.specs.Core as core_form
use Rattle.cf_core.specs.Core.{Core, Cores, none, more}
use Rattle.cf_core.specs.FromClasses.{signature_of}
use Rattle.cf_core.specs.Numbers.{are_known, all_of}
use Rattle.cf_core.specs.Statements.{has_case, has_default}
use Rattle.cf_core.specs.Valid.{Body, fits, labelled_fit, initialises_local, has_label, passes_none}
use Rattle.cf_core.specs.Valid as valid
use Rattle.cf_core.specs.View.{listed}
use Rattle.cf_core_typed.proofs.Same.{and-both}
use Rattle.cf_elab.specs.Env.{Env}
use Rattle.cf_elab.specs.Operand.{Value}
use Rattle.cf_elab.specs.Statement as row
use Rattle.cf_elab.specs.Statement.{Made, Label, no_label, case_label, default_label, label_number, number_or_zero, same_number, same_label, label_node, labelled}
use Rattle.cf_elab_valid.specs.Scene.{Scene, IsScene, core}
use Rattle.cf_elab_valid.specs.Statements.{body_of}
use Rattle.cf_elab_valid.proofs.Nodes.{core-Case, core-Default, known-Case, known-Default}
use Rattle.cf_elab_valid_files.proofs.SwitchesLaws.Braces.{Entries}
use Rattle.cf_elab_valid_files.proofs.SwitchesLaws.Labels.{IsConstant, AllConstant, Differ, PassNone}

-- ---- what is no label

statement_only : (f : Body) (b k : Bool) (c : Core) → fits f b k c ≡ true → valid.is_label c ≡ false
statement_only f b k (core_form.case_label z) h = absurd (true≢false (sym h))
statement_only f b k core_form.default_label h = absurd (true≢false (sym h))
statement_only f b k c h = refl

no_case_there : (z : ℤ) (c : Core) (rest : Cores) → valid.is_label c ≡ false → has_case z (more c rest) ≡ has_case z rest
no_case_there z (core_form.case_label y) rest h = absurd (true≢false h)
no_case_there z c rest h = refl

no_default_there : (c : Core) (rest : Cores) → valid.is_label c ≡ false → has_default (more c rest) ≡ has_default rest
no_default_there core_form.default_label rest h = absurd (true≢false h)
no_default_there c rest h = refl

differ_there : (c : Core) (rest : Cores) → valid.is_label c ≡ false → valid.labels_differ (more c rest) ≡ valid.labels_differ rest
differ_there (core_form.case_label y) rest h = absurd (true≢false h)
differ_there core_form.default_label rest h = absurd (true≢false h)
differ_there c rest h = refl

or_true : (a : Bool) → (a || true) ≡ true
or_true true = refl
or_true false = refl

-- ---- numbers of labels

number_there : (k : Kind) (o : Option ℤ) → is_some o ≡ true → (elim o as (λ _. Option ℤ) [ None ↦ None | Some z ↦ Some (convert k z) ]) ≡ Some (number_or_zero (elim o as (λ _. Option ℤ) [ None ↦ None | Some z ↦ Some (convert k z) ]))
number_there k None h = absurd (true≢false (sym h))
number_there k (Some z) h = refl

-- one of those before
abbrev Among : Label → List Label → Type 0
Among l [] = ⊥
Among l (x ∷ xs) = (x ≡ l) ⊎ Among l xs

or_false : (a b : Bool) → (a || b) ≡ false → (a ≡ false) × (b ≡ false)
or_false true b h = absurd (true≢false h)
or_false false b h = (refl, h)

none_among : (test : Label → Bool) (l : Label) (xs : List Label) → list_any test xs ≡ false → Among l xs → test l ≡ false
none_among test l [] h a = absurd a
none_among test l (x ∷ xs) h (inl is) = subst (λ y. test y ≡ false) is (or_false (test x) (list_any test xs) h).0
none_among test l (x ∷ xs) h (inr a) = none_among test l xs (or_false (test x) (list_any test xs) h).1 a

module _ (s : Scene) (scene : IsScene s) (n : ℕ) (m : Bool) (k : Kind) where
  abbrev number_of : Value → ℤ
  number_of v = number_or_zero (label_number k v)

  -- a statement or a label as core
  abbrev seen : Node → Label → Core
  seen x no_label = core s x
  seen x default_label = core_form.default_label
  seen x (case_label v) = core_form.case_label (number_of v)

  abbrev pub cores : List Made → Cores
  cores [] = none
  cores (x ∷ xs) = more (seen x.node x.label) (cores xs)

  seen-is : (at : ℕ) (x : Node) (l : Label) → core s (label_node k at x l) ≡ seen x l
  seen-is at x no_label = refl
  seen-is at x default_label = core-Default s.tables (signature_of s.tables) at
  seen-is at x (case_label v) = core-Case s.tables (signature_of s.tables) at (number_of v)

  pub cores-are : (ms : List Made) → listed (map (core s) (labelled k ms)) ≡ cores ms
  cores-are [] = refl
  cores-are (x ∷ xs) = ap (λ c. more c (listed (map (core s) (labelled k xs)))) (seen-is x.at x.node x.label) ∙ ap (λ cs. more (seen x.node x.label) cs) (cores-are xs)

  -- ---- what is no label is a statement

  abbrev pub AllPlain : List Made → Type 0
  AllPlain [] = Unit {0}
  AllPlain (x ∷ xs) = (x.label ≡ no_label → valid.is_label (core s x.node) ≡ false) × AllPlain xs

  pub plain-entries : (breaks continues : Bool) (ms : List Made) (e : Env) → Entries s scene n m breaks continues ms e → AllPlain ms
  plain-entries breaks continues [] e f = tt
  plain-entries breaks continues (x ∷ xs) e f = ((λ is. statement_only (body_of s n m) breaks continues (core s x.node) (f.0.statement is).fine), plain-entries breaks continues xs e f.1)

  -- ---- labels differ

  later_default : (before : List Label) (ms : List Made) → Among default_label before → Differ k before ms → AllPlain ms → has_default (cores ms) ≡ false
  later_default before [] a d p = refl
  later_default before (x ∷ xs) a d p = by (later_default (x.label ∷ before) xs (inr a) d.1 p.1) x.label refl
    where
      by : has_default (cores xs) ≡ false → (l : Label) → x.label ≡ l → has_default (more (seen x.node l) (cores xs)) ≡ false
      by rest no_label is = no_default_there (core s x.node) (cores xs) (p.0 is) ∙ rest
      by rest default_label is = absurd (true≢false (none_among (same_label k default_label) default_label before (subst (λ l. list_any (same_label k l) before ≡ false) is d.0) a))
      by rest (case_label v) is = rest

  number_known : (v : Value) → is_some v.number ≡ true → label_number k v ≡ Some (number_of v)
  number_known v h = number_there k v.number h

  later_case : (v : Value) (before : List Label) (ms : List Made) → is_some v.number ≡ true → Among (case_label v) before → AllConstant ms → Differ k before ms → AllPlain ms → has_case (number_of v) (cores ms) ≡ false
  later_case v before [] kv a c d p = refl
  later_case v before (x ∷ xs) kv a c d p = by (later_case v (x.label ∷ before) xs kv (inr a) c.1 d.1 p.1) x.label refl
    where
      other : (u : Value) → x.label ≡ case_label u → (int_le (number_of u) (number_of v) && int_le (number_of v) (number_of u)) ≡ false
      other u is =
          let ku : is_some u.number ≡ true = subst IsConstant is c.0 in
          let apart : same_number (label_number k u) (label_number k v) ≡ false = none_among (same_label k (case_label u)) (case_label v) before (subst (λ l. list_any (same_label k l) before ≡ false) is d.0) a in
          sym (ap (λ o. same_number o (label_number k v)) (number_known u ku) ∙ ap (λ o. same_number (Some (number_of u)) o) (number_known v kv)) ∙ apart

      by : has_case (number_of v) (cores xs) ≡ false → (j : Label) → x.label ≡ j → has_case (number_of v) (more (seen x.node j) (cores xs)) ≡ false
      by rest no_label is = no_case_there (number_of v) (core s x.node) (cores xs) (p.0 is) ∙ rest
      by rest default_label is = rest
      by rest (case_label u) is = ap (λ b. b || has_case (number_of v) (cores xs)) (other u is) ∙ rest

  pub all-differ : (before : List Label) (ms : List Made) → AllConstant ms → Differ k before ms → AllPlain ms → valid.labels_differ (cores ms) ≡ true
  all-differ before [] c d p = refl
  all-differ before (x ∷ xs) c d p = by (all-differ (x.label ∷ before) xs c.1 d.1 p.1) x.label refl
    where
      by : valid.labels_differ (cores xs) ≡ true → (j : Label) → x.label ≡ j → valid.labels_differ (more (seen x.node j) (cores xs)) ≡ true
      by rest no_label is = differ_there (core s x.node) (cores xs) (p.0 is) ∙ rest
      by rest default_label is = and-both (not (has_default (cores xs))) (valid.labels_differ (cores xs)) (ap not (later_default (x.label ∷ before) xs (inl is) d.1 p.1)) rest
      by rest (case_label v) is =
          and-both (not (has_case (number_of v) (cores xs))) (valid.labels_differ (cores xs))
          (ap not (later_case v (x.label ∷ before) xs (subst IsConstant is c.0) (inl is) c.1 d.1 p.1)) rest

  -- ---- no label passes a declaration

  none_behind : (ms : List Made) → PassNone true ms → AllPlain ms → has_label (cores ms) ≡ false
  none_behind [] q p = refl
  none_behind (x ∷ xs) q p = by (none_behind xs q.1 p.1) x.label refl
    where
      by : has_label (cores xs) ≡ false → (j : Label) → x.label ≡ j → has_label (more (seen x.node j) (cores xs)) ≡ false
      by rest no_label is = ap (λ b. b || has_label (cores xs)) (p.0 is) ∙ rest
      by rest default_label is = absurd (true≢false (subst (λ l. row.is_label l ≡ false) is q.0))
      by rest (case_label v) is = absurd (true≢false (subst (λ l. row.is_label l ≡ false) is q.0))

  pub passes-none : (breaks continues passed : Bool) (ms : List Made) (e : Env) → Entries s scene n m breaks continues ms e → PassNone passed ms → AllPlain ms → passes_none (cores ms) ≡ true
  passes-none breaks continues passed [] e f q p = refl
  passes-none breaks continues passed (x ∷ xs) e f q p = by (passes-none breaks continues (passed || x.initialises) xs e f.1 q.1 p.1) x.label refl
    where
      plain : x.label ≡ no_label → (b : Bool) → initialises_local (core s x.node) ≡ b → not (b && has_label (cores xs)) ≡ true
      plain is false h = refl
      plain is true h =
          let reached : x.initialises ≡ true = (f.0.statement is).reached h in
          ap not (none_behind xs (subst (λ b. PassNone b xs) (ap (λ b. passed || b) reached ∙ or_true passed) q.1) p.1)

      by : passes_none (cores xs) ≡ true → (j : Label) → x.label ≡ j → passes_none (more (seen x.node j) (cores xs)) ≡ true
      by rest no_label is = and-both (not (initialises_local (core s x.node) && has_label (cores xs))) (passes_none (cores xs)) (plain is (initialises_local (core s x.node)) refl) rest
      by rest default_label is = rest
      by rest (case_label v) is = rest

  -- ---- each is a label or fits

  pub entries-fit : (breaks continues : Bool) (ms : List Made) (e : Env) → Entries s scene n m breaks continues ms e → labelled_fit (body_of s n m) breaks continues (cores ms) ≡ true
  entries-fit breaks continues [] e f = refl
  entries-fit breaks continues (x ∷ xs) e f = by (entries-fit breaks continues xs e f.1) x.label refl
    where
      by : labelled_fit (body_of s n m) breaks continues (cores xs) ≡ true → (j : Label) → x.label ≡ j → labelled_fit (body_of s n m) breaks continues (more (seen x.node j) (cores xs)) ≡ true
      by rest no_label is =
          and-both (valid.is_label (core s x.node) || fits (body_of s n m) breaks continues (core s x.node)) (labelled_fit (body_of s n m) breaks continues (cores xs))
          (ap (λ b. valid.is_label (core s x.node) || b) (f.0.statement is).fine ∙ or_true (valid.is_label (core s x.node))) rest
      by rest default_label is = rest
      by rest (case_label v) is = rest

  pub numbers-known : (breaks continues : Bool) (ms : List Made) (e : Env) → Entries s scene n m breaks continues ms e → all_of s.tables (map (are_known s.tables) (labelled k ms)) ≡ true
  numbers-known breaks continues [] e f = refl
  numbers-known breaks continues (x ∷ xs) e f = and-both (are_known s.tables (label_node k x.at x.node x.label)) (all_of s.tables (map (are_known s.tables) (labelled k xs))) (by x.label refl) (numbers-known breaks continues xs e f.1)
    where
      by : (j : Label) → x.label ≡ j → are_known s.tables (label_node k x.at x.node j) ≡ true
      by no_label is = (f.0.statement is).numbers
      by default_label is = known-Default s.tables x.at
      by (case_label v) is = known-Case s.tables x.at (number_of v)
