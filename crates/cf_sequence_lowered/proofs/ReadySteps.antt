-- Plain statements of which each action is ready for lowering, by what registers hold before it; code that has them where it runs at all.
use Rattle.std.proofs.Common.{◌≡◌, Bool, true, false, ◌&&◌, if◌then◌else◌, List, [], ◌∷◌, refl, sym, ap, ◌∙◌, subst}
use Rattle.std.specs.Prelude.{pos, Option, Some, None, is_some, slice_get}
use Rattle.cf_base.proofs.Tests.{both}
use Rattle.cf_core.specs.Types.{SourceType}
use Rattle.cf_core.specs.Core.{Core}
use Rattle.cf_plain.specs.Plain.{Register, Action, Plain, Plains, act, set, branch, loop, switch, case_label, default_label, leave, continue, give, parts, nothing, more}
use Rattle.cf_plain.specs.Plain as plain
use Rattle.cf_plain_kept.specs.Kept.{Keeping, nothing_set, integer_in, untouched, joined, after, after_all}
use Rattle.cf_lower_kept.specs.Ready.{action_ready, is_the_type}
use Rattle.cf_sequence.specs.Made.{Local, Temporary}
use Rattle.cf_sequence.specs.Expressions.{Full, flag, flags, ended, finished, settled, builds, used}
use Rattle.cf_sequence.specs.Statements.{made}
use Rattle.cf_sequence.proofs.Calling.{never}
use Rattle.cf_sequence_lowered.proofs.Each.{Each}

-- behind what is known
abbrev pub Behind : Option Keeping → (Keeping → Type 0) → Type 0
Behind None P = ⊥
Behind (Some h) P = P h

module _ (locals : List SourceType) (R : SourceType) where
  abbrev mutual
    pub Good : Plain → Keeping → Type 0
    Good (act a) g = action_ready locals R g a ≡ true
    Good (set r a) g = action_ready locals R g a ≡ true
    Good (branch r ss ts) g = GoodAll ss g × GoodAll ts g
    Good (loop ss ts) g = GoodAll ss nothing_set × GoodAll ts nothing_set
    Good (switch r ss) g = GoodAll ss nothing_set
    Good (parts ps) g = ⊥
    Good s g = Unit {0}

    pub GoodAll : Plains → Keeping → Type 0
    GoodAll nothing g = Unit {0}
    GoodAll (more s rest) g = Good s g × Behind (after locals R s g) (λ h. GoodAll rest h)

  abbrev pub run : Plains → Keeping → Option Keeping
  run ss g = after_all locals R ss g

  -- code that runs, and of which all operands are ready
  pub record Lucky (F : Plains → Plains) (g : Keeping) : Type 0 where
    pub now : Keeping
    pub goes : (rest : Plains) → run (F rest) g ≡ run rest now
    pub walks : (rest : Plains) → GoodAll rest now → GoodAll (F rest) g

  -- it is so wherever it runs
  abbrev pub Runs : (Plains → Plains) → Type 0
  Runs F = (g i : Keeping) (rest : Plains) → run (F rest) g ≡ Some i → Lucky F g

  abbrev pub Alone : Plains → Type 0
  Alone ss = (g i : Keeping) → run ss g ≡ Some i → GoodAll ss g

  pub alone : (F : Plains → Plains) → Runs F → Alone (F nothing)
  alone F r g i e = Lucky.walks (r g i nothing e) nothing tt

  pub before : (F : Plains → Plains) (ss : Plains) → Runs F → Alone ss → Alone (F ss)
  before F ss r a g i e = let l = r g i ss e in Lucky.walks l ss (a (Lucky.now l) i (sym (Lucky.goes l ss) ∙ e))

  pub same-state : (h i : Keeping) → Some h ≡ Some i → h ≡ i
  same-state h i e = ap (λ (o : Option Keeping). elim o as (λ _. Keeping) [ None ↦ nothing_set | Some k ↦ k ]) e

  -- ---- one statement

  pub record Peeled (s : Plain) (rest : Plains) (g i : Keeping) : Type 0 where
    pub behind : Keeping
    pub is : after locals R s g ≡ Some behind
    pub goes : run rest behind ≡ Some i

  pub peel : (s : Plain) (rest : Plains) (g i : Keeping) → run (more s rest) g ≡ Some i → Peeled s rest g i
  peel s rest g i e = by (after locals R s g) refl e
    where
      by : (o : Option Keeping) → after locals R s g ≡ o → elim o as (λ _. Option Keeping) [ None ↦ None | Some h ↦ run rest h ] ≡ Some i → Peeled s rest g i
      by None is e = absurd (cc)
      by (Some h) is e = record { behind = h; is = is; goes = e }

  pub runs-step : (s : Plain) → ((g h : Keeping) → after locals R s g ≡ Some h → Good s g) → Runs (λ rest. more s rest)
  runs-step s good g i rest e =
      let p = peel s rest g i e in
      record {
        now = Peeled.behind p;
        goes = λ rest. ap (λ (o : Option Keeping). elim o as (λ _. Option Keeping) [ None ↦ None | Some h ↦ run rest h ]) (Peeled.is p);
        walks = λ rest ok. (good g (Peeled.behind p) (Peeled.is p), subst (λ o. Behind o (λ h. GoodAll rest h)) (sym (Peeled.is p)) ok);
      }

  pub runs-none : Runs (λ rest. rest)
  runs-none g i rest e = record { now = g; goes = λ rest. refl; walks = λ rest ok. ok }

  pub runs-then : (F G : Plains → Plains) → Runs F → Runs G → Runs (λ rest. F (G rest))
  runs-then F G p q g i rest e =
      let a = p g i (G rest) e in
      let b = q (Lucky.now a) i rest (sym (Lucky.goes a (G rest)) ∙ e) in
      record { now = Lucky.now b; goes = λ rest. Lucky.goes a (G rest) ∙ Lucky.goes b rest; walks = λ rest ok. Lucky.walks a (G rest) (Lucky.walks b rest ok) }

  pub runs-by : (F G : Plains → Plains) → ((rest : Plains) → F rest ≡ G rest) → Runs G → Runs F
  runs-by F G same p g i rest e =
      let a = p g i rest (sym (ap (λ ss. run ss g) (same rest)) ∙ e) in
      record {
        now = Lucky.now a;
        goes = λ rest. ap (λ ss. run ss g) (same rest) ∙ Lucky.goes a rest;
        walks = λ rest ok. subst (λ ss. GoodAll ss g) (sym (same rest)) (Lucky.walks a rest ok);
      }

  -- code, and then a statement that is good behind it
  pub runs-more : (F : Plains → Plains) (s : Plain) → Runs F → ((g h : Keeping) → ((rest : Plains) → run (F rest) g ≡ run rest h) → (i : Keeping) → after locals R s h ≡ Some i → Good s h)
      → Runs (λ rest. F (more s rest))
  runs-more F s p good g i rest e =
      let a = p g i (more s rest) e in
      let q = peel s rest (Lucky.now a) i (sym (Lucky.goes a (more s rest)) ∙ e) in
      record {
        now = Peeled.behind q;
        goes = λ rest. Lucky.goes a (more s rest) ∙ ap (λ (o : Option Keeping). elim o as (λ _. Option Keeping) [ None ↦ None | Some h ↦ run rest h ]) (Peeled.is q);
        walks = λ rest ok.
            Lucky.walks a (more s rest)
            (good g (Lucky.now a) (Lucky.goes a) (Peeled.behind q) (Peeled.is q), subst (λ o. Behind o (λ h. GoodAll rest h)) (sym (Peeled.is q)) ok);
      }

  pub runs-act : (a : Action) → ((g : Keeping) → action_ready locals R g a ≡ true) → Runs (λ rest. more (act a) rest)
  runs-act a good = runs-step (act a) (λ g h e. good g)

  pub runs-set : (n : Register) (a : Action) → ((g : Keeping) → action_ready locals R g a ≡ true) → Runs (λ rest. more (set n a) rest)
  runs-set n a good = runs-step (set n a) (λ g h e. good g)

  -- ---- branches, loops and switches

  both-ways : (o p : Option Keeping) (h : Keeping) → joined locals R o p ≡ Some h → (is_some o ≡ true) × (is_some p ≡ true)
  both-ways None p h e = absurd (cc)
  both-ways (Some a) None h e = absurd (cc)
  both-ways (Some a) (Some b) h e = (refl, refl)

  if-some : (b : Bool) (o : Option Keeping) (h : Keeping) → (if b then o else None) ≡ Some h → (b ≡ true) × (o ≡ Some h)
  if-some true o h e = (refl, e)
  if-some false o h e = absurd (cc)

  record Runs_to (ss : Plains) (g : Keeping) : Type 0 where
    end : Keeping
    is : run ss g ≡ Some end

  some-run : (ss : Plains) (g : Keeping) → is_some (run ss g) ≡ true → Runs_to ss g
  some-run ss g ok = by (run ss g) refl ok
    where
      by : (o : Option Keeping) → run ss g ≡ o → is_some o ≡ true → Runs_to ss g
      by None e ok = never ok
      by (Some h) e ok = record { end = h; is = e }

  pub good-some : (ss : Plains) (g : Keeping) → Alone ss → is_some (run ss g) ≡ true → GoodAll ss g
  good-some ss g a ok = let r = some-run ss g ok in a g (Runs_to.end r) (Runs_to.is r)

  pub runs-branch : (n : Register) (ss ts : Plains) → Alone ss → Alone ts → Runs (λ rest. more (branch n ss ts) rest)
  runs-branch n ss ts a b = runs-step (branch n ss ts)
      (λ g h e.
      let parts = if-some (integer_in (g n)) (joined locals R (run ss g) (run ts g)) h e in
      let ways = both-ways (run ss g) (run ts g) h parts.1 in
      (good-some ss g a ways.0, good-some ts g b ways.1))

  pub runs-loop : (ss ts : Plains) → Alone ss → Alone ts → Runs (λ rest. more (loop ss ts) rest)
  runs-loop ss ts a b = runs-step (loop ss ts)
      (λ g h e.
      let parts = if-some (is_some (run ss nothing_set) && is_some (run ts nothing_set)) (Some nothing_set) h e in
      let ways = both (is_some (run ss nothing_set)) (is_some (run ts nothing_set)) parts.0 in
      (good-some ss nothing_set a ways.0, good-some ts nothing_set b ways.1))

  pub runs-switch : (n : Register) (ss : Plains) → Alone ss → Runs (λ rest. more (switch n ss) rest)
  runs-switch n ss a = runs-step (switch n ss)
      (λ g h e.
      let parts = if-some (integer_in (g n) && is_some (run ss nothing_set)) (Some (untouched g ss)) h e in
      good-some ss nothing_set a (both (integer_in (g n)) (is_some (run ss nothing_set)) parts.0).1)

  -- ---- code without such actions

  pub runs-used : (n : Register) → Runs (used n)
  runs-used n = runs-act (plain.truth n) (λ g. refl)

  pub runs-settled : (e : Core) (p n : Register) → Runs (settled e p n)
  runs-settled e p n = by-test (builds e)
    where
      by-test : (b : Bool) → Runs (λ rest. if b then rest else more (act (plain.first p n)) rest)
      by-test true = runs-none
      by-test false = runs-act (plain.first p n) (λ g. refl)

  pub runs-finished : (xs : List Local) → Runs (finished xs)
  runs-finished [] = runs-none
  runs-finished (x ∷ xs) = runs-then (λ rest. more (act (plain.finish x.type x.number)) rest) (finished xs) (runs-act (plain.finish x.type x.number) (λ g. refl)) (runs-finished xs)

  -- a local that is there with its very type
  abbrev pub Exact : Local → Type 0
  Exact x = is_the_type (slice_get locals x.number) x.type ≡ true

  pub runs-made : (xs : List Local) → Each Exact xs → Runs (made xs)
  runs-made [] u = runs-none
  runs-made (x ∷ xs) u = runs-then (λ rest. more (act (plain.declare x.number x.type)) rest) (made xs) (runs-act (plain.declare x.number x.type) (λ g. u.0)) (runs-made xs u.1)

  pub runs-flags : (x : Full) (ts : List Temporary) → Runs (flags x ts)
  runs-flags x [] = runs-none
  runs-flags x (t ∷ ts) = by t.in_branch (runs-flags x ts)
    where
      by : (l : Bool) → Runs (flags x ts) → Runs (λ rest. elim l [ true ↦ more (set (flag x t.local.number) (plain.number (pos 0))) (flags x ts rest) | false ↦ flags x ts rest ])
      by true p = runs-then (λ rest. more (set (flag x t.local.number) (plain.number (pos 0))) rest) (flags x ts) (runs-set (flag x t.local.number) (plain.number (pos 0)) (λ g. refl)) p
      by false p = p

  pub runs-ended : (x : Full) (ts : List Temporary) → Runs (ended x ts)
  runs-ended x [] = runs-none
  runs-ended x (t ∷ ts) = by t.in_branch (runs-ended x ts)
    where
      by : (l : Bool) → Runs (ended x ts) → Runs (λ rest. elim l [
        | true ↦ more (branch (flag x t.local.number) (finished (t.local ∷ []) nothing) nothing) (ended x ts rest)
        | false ↦ finished (t.local ∷ []) (ended x ts rest)
      ])
      by true p =
          runs-then (λ rest. more (branch (flag x t.local.number) (finished (t.local ∷ []) nothing) nothing) rest) (ended x ts)
          (runs-branch (flag x t.local.number) (finished (t.local ∷ []) nothing) nothing (alone (finished (t.local ∷ [])) (runs-finished (t.local ∷ []))) (λ g i e. tt)) p
      by false p = runs-then (finished (t.local ∷ [])) (ended x ts) (runs-finished (t.local ∷ [])) p
