-- Code before other plain statements that is valid and has no label of its own.
use Rattle.std.proofs.Common.{◌≡◌, Bool, true, false, ◌&&◌, ◌||◌, if◌then◌else◌, List, [], ◌∷◌, refl, ap, subst, ◌∙◌}
use Rattle.std.specs.Prelude.{ℤ, pos, Option}
use Rattle.cf_base.proofs.Tests.{both, all_of}
use Rattle.cf_core.specs.Types.{SourceType}
use Rattle.cf_core.specs.Core.{Core}
use Rattle.cf_plain.specs.Plain.{Register, Action, Plain, Plains, act, set, branch, loop, switch, leave, continue, give, nothing, more}
use Rattle.cf_plain.specs.Plain as plain
use Rattle.cf_plain.specs.Running.{has_case}
use Rattle.cf_plain.specs.Valid.{action_fits, is_label, has_default, labels_differ, fits, all_fit, labelled_fit}
use Rattle.cf_sequence.specs.Made.{Local, Temporary}
use Rattle.cf_sequence.specs.Expressions.{Full, flag, flags, ended, finished, settled, builds, used}
use Rattle.cf_sequence_valid.proofs.Stands.{is_there, are_there, all_there}

module _ (locals : List SourceType) where
  -- what stands behind it stays valid, and has the same labels
  pub record Fine (breaks continues : Bool) (code : Plains → Plains) : Type 0 where
    pub fit : (rest : Plains) → all_fit locals breaks continues rest ≡ true → all_fit locals breaks continues (code rest) ≡ true
    pub labelled : (rest : Plains) → breaks ≡ true → labelled_fit locals continues rest ≡ true → labelled_fit locals continues (code rest) ≡ true
    pub cases : (z : ℤ) (rest : Plains) → has_case z (code rest) ≡ has_case z rest
    pub default : (rest : Plains) → has_default locals (code rest) ≡ has_default locals rest
    pub differ : (rest : Plains) → labels_differ locals (code rest) ≡ labels_differ locals rest

  -- a statement in a loop's or switch's body fits there where it fits here, and `break` may stand there too
  labelled-by : (b c : Bool) (s : Plain) (rest : Plains) → b ≡ true → fits locals b c s ≡ true → is_label locals s ≡ false → labelled_fit locals c rest ≡ true
      → labelled_fit locals c (more s rest) ≡ true
  labelled-by b c s rest e good plain_one ok =
      ap (λ l. (l || fits locals true c s) && labelled_fit locals c rest) plain_one
      ∙ all_of (fits locals true c s) (labelled_fit locals c rest) (subst (λ b. fits locals b c s ≡ true) e good) ok

  module _ {b c : Bool} where
    pub fine-none : Fine b c (λ rest. rest)
    fine-none = record { fit = λ rest ok. ok; labelled = λ rest e ok. ok; cases = λ z rest. refl; default = λ rest. refl; differ = λ rest. refl }

    pub fine-then : (F G : Plains → Plains) → Fine b c F → Fine b c G → Fine b c (λ rest. F (G rest))
    fine-then F G p q = record {
      fit = λ rest ok. p.fit (G rest) (q.fit rest ok);
      labelled = λ rest e ok. p.labelled (G rest) e (q.labelled rest e ok);
      cases = λ z rest. p.cases z (G rest) ∙ q.cases z rest;
      default = λ rest. p.default (G rest) ∙ q.default rest;
      differ = λ rest. p.differ (G rest) ∙ q.differ rest;
    }

    -- code that is the same
    pub fine-by : (F G : Plains → Plains) → ((rest : Plains) → F rest ≡ G rest) → Fine b c G → Fine b c F
    fine-by F G same p = record {
      fit = λ rest ok. ap (all_fit locals b c) (same rest) ∙ p.fit rest ok;
      labelled = λ rest e ok. ap (labelled_fit locals c) (same rest) ∙ p.labelled rest e ok;
      cases = λ z rest. ap (has_case z) (same rest) ∙ p.cases z rest;
      default = λ rest. ap (has_default locals) (same rest) ∙ p.default rest;
      differ = λ rest. ap (labels_differ locals) (same rest) ∙ p.differ rest;
    }

    pub fine-set : (n : Register) (a : Action) → action_fits locals a ≡ true → Fine b c (λ rest. more (set n a) rest)
    fine-set n a good = record {
      fit = λ rest ok. all_of (action_fits locals a) (all_fit locals b c rest) good ok;
      labelled = λ rest e ok. all_of (action_fits locals a) (labelled_fit locals c rest) good ok;
      cases = λ z rest. refl;
      default = λ rest. refl;
      differ = λ rest. refl;
    }

    pub fine-act : (a : Action) → action_fits locals a ≡ true → Fine b c (λ rest. more (act a) rest)
    fine-act a good = record {
      fit = λ rest ok. all_of (action_fits locals a) (all_fit locals b c rest) good ok;
      labelled = λ rest e ok. all_of (action_fits locals a) (labelled_fit locals c rest) good ok;
      cases = λ z rest. refl;
      default = λ rest. refl;
      differ = λ rest. refl;
    }

    pub fine-branch : (n : Register) (ss ts : Plains) → all_fit locals b c ss ≡ true → all_fit locals b c ts ≡ true → Fine b c (λ rest. more (branch n ss ts) rest)
    fine-branch n ss ts p q =
        let good = all_of (all_fit locals b c ss) (all_fit locals b c ts) p q in
        record {
          fit = λ rest ok. all_of (all_fit locals b c ss && all_fit locals b c ts) (all_fit locals b c rest) good ok;
          labelled = λ rest e ok. labelled-by b c (branch n ss ts) rest e good refl ok;
          cases = λ z rest. refl;
          default = λ rest. refl;
          differ = λ rest. refl;
        }

    pub fine-loop : (ss ts : Plains) → all_fit locals true true ss ≡ true → all_fit locals true false ts ≡ true → Fine b c (λ rest. more (loop ss ts) rest)
    fine-loop ss ts p q =
        let good = all_of (all_fit locals true true ss) (all_fit locals true false ts) p q in
        record {
          fit = λ rest ok. all_of (all_fit locals true true ss && all_fit locals true false ts) (all_fit locals b c rest) good ok;
          labelled = λ rest e ok. labelled-by b c (loop ss ts) rest e good refl ok;
          cases = λ z rest. refl;
          default = λ rest. refl;
          differ = λ rest. refl;
        }

    pub fine-switch : (n : Register) (ss : Plains) → labels_differ locals ss ≡ true → labelled_fit locals c ss ≡ true → Fine b c (λ rest. more (switch n ss) rest)
    fine-switch n ss p q =
        let good = all_of (labels_differ locals ss) (labelled_fit locals c ss) p q in
        record {
          fit = λ rest ok. all_of (labels_differ locals ss && labelled_fit locals c ss) (all_fit locals b c rest) good ok;
          labelled = λ rest e ok. labelled-by b c (switch n ss) rest e good refl ok;
          cases = λ z rest. refl;
          default = λ rest. refl;
          differ = λ rest. refl;
        }

    pub fine-leave : b ≡ true → Fine b c (λ rest. more leave rest)
    fine-leave is = record {
      fit = λ rest ok. all_of b (all_fit locals b c rest) is ok;
      labelled = λ rest e ok. ok;
      cases = λ z rest. refl;
      default = λ rest. refl;
      differ = λ rest. refl;
    }

    pub fine-continue : c ≡ true → Fine b c (λ rest. more continue rest)
    fine-continue is = record {
      fit = λ rest ok. all_of c (all_fit locals b c rest) is ok;
      labelled = λ rest e ok. all_of c (labelled_fit locals c rest) is ok;
      cases = λ z rest. refl;
      default = λ rest. refl;
      differ = λ rest. refl;
    }

    pub fine-give : (r : Option Register) → Fine b c (λ rest. more (give r) rest)
    fine-give r = record { fit = λ rest ok. ok; labelled = λ rest e ok. ok; cases = λ z rest. refl; default = λ rest. refl; differ = λ rest. refl }

    pub fine-used : (n : Register) → Fine b c (used n)
    fine-used n = fine-act (plain.truth n) refl

    pub fine-finished : (xs : List Local) → are_there locals xs ≡ true → Fine b c (finished xs)
    fine-finished [] ok = fine-none
    fine-finished (x ∷ xs) ok =
        let parts = both (is_there locals x) (are_there locals xs) ok in
        fine-then (λ rest. more (act (plain.finish x.type x.number)) rest) (finished xs) (fine-act _ parts.0) (fine-finished xs parts.1)

    pub fine-settled : (e : Core) (p n : Register) → Fine b c (settled e p n)
    fine-settled e p n = by-test (builds e)
      where
        by-test : (t : Bool) → Fine b c (λ rest. if t then rest else more (act (plain.first p n)) rest)
        by-test true = fine-none
        by-test false = fine-act (plain.first p n) refl

    -- two operands, and then more
    pub fine-operands : (F G last : Plains → Plains) (n : Register) → Fine b c F → Fine b c G → Fine b c last → Fine b c (λ rest. F (used n (G (last rest))))
    fine-operands F G last n p q r =
        fine-then F (λ rest. used n (G (last rest))) p (fine-then (used n) (λ rest. G (last rest)) (fine-used n) (fine-then G last q r))

    -- the flags of temporaries, and their ends
    pub fine-flags : (x : Full) (ts : List Temporary) → Fine b c (flags x ts)
    fine-flags x [] = fine-none
    fine-flags x (t ∷ ts) = by t.in_branch (fine-flags x ts)
      where
        by : (l : Bool) → Fine b c (flags x ts) → Fine b c (λ rest. elim l [ true ↦ more (set (flag x t.local.number) (plain.number (pos 0))) (flags x ts rest) | false ↦ flags x ts rest ])
        by true p = fine-then (λ rest. more (set (flag x t.local.number) (plain.number (pos 0))) rest) (flags x ts) (fine-set (flag x t.local.number) (plain.number (pos 0)) refl) p
        by false p = p

    pub fine-ended : (x : Full) (ts : List Temporary) → all_there locals ts ≡ true → Fine b c (ended x ts)
    fine-ended x [] ok = fine-none
    fine-ended x (t ∷ ts) ok =
        let parts = both (is_there locals t.local) (all_there locals ts) ok in
        by t.in_branch (fine-finished (t.local ∷ []) (all_of (is_there locals t.local) true parts.0 refl)) (fine-ended x ts parts.1)
      where
        by : (l : Bool) → Fine b c (finished (t.local ∷ [])) → Fine b c (ended x ts) → Fine b c (λ rest. elim l [
          | true ↦ more (branch (flag x t.local.number) (finished (t.local ∷ []) nothing) nothing) (ended x ts rest)
          | false ↦ finished (t.local ∷ []) (ended x ts rest)
        ])
        by true p q =
            fine-then (λ rest. more (branch (flag x t.local.number) (finished (t.local ∷ []) nothing) nothing) rest) (ended x ts)
            (fine-branch (flag x t.local.number) (finished (t.local ∷ []) nothing) nothing (Fine.fit p nothing refl) refl) q
        by false p q = fine-then (finished (t.local ∷ [])) (ended x ts) p q
