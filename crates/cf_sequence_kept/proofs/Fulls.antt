-- Full expressions: the flags of temporaries hold integers from the flags before up to the ends behind, and nothing else changes by these.
use Rattle.std.proofs.Common.{◌≡◌, inl, ℕ, ◌+◌, ◌-◌, ◌≤◌, ◌<◌, Bool, true, false, if◌then◌else◌, List, [], ◌∷◌, ◌++◌, reverse, refl, sym, ap, ◌∙◌, subst, arith}
use Rattle.std.specs.Prelude.{pos, Option, Some, None}
use Rattle.std.proofs.lemmas.List.{reverse-append}
use Rattle.cf_base.specs.Integers.{fits}
use Rattle.cf_core.specs.Types.{SourceType}
use Rattle.cf_core.specs.Classes.{Class}
use Rattle.cf_core.specs.Core.{Core}
use Rattle.cf_core.specs.Nodes.{nodes}
use Rattle.cf_core.specs.Typing.{Scope}
use Rattle.cf_core.specs.Typed.{typing}
use Rattle.cf_plain.specs.Plain.{Register, Plains, act, set, branch, nothing, more}
use Rattle.cf_plain.specs.Plain as plain
use Rattle.cf_plain_kept.specs.Kept as kept
use Rattle.cf_plain_kept.specs.Kept.{Kept, no_value, an_integer, Keeping, keep, common, integer_in, after_all}
use Rattle.cf_sequence.specs.Built.{is_value}
use Rattle.cf_sequence.specs.Made.{Temporary, temporaries, added, width}
use Rattle.cf_sequence.specs.Expressions.{Full, flag, flags, ended, Destination, value, finished}
use Rattle.cf_sequence.proofs.Calling.{never}
use Rattle.cf_sequence.proofs.Placing.{placing}
use Rattle.cf_sequence.proofs.Temporaries.{Placed}
use Rattle.cf_sequence_kept.proofs.Related.{Relates}
use Rattle.cf_sequence_kept.proofs.Spans.{in-both-same, Span, Stays, Room}
use Rattle.cf_sequence_kept.proofs.Values.{keep-at, keep-below, runs, set-runs, act-runs}
use Rattle.cf_sequence_kept.proofs.Whole.{keeps-value}
use Rattle.cf_sequence_valid.proofs.Serves.{Serves}
use Rattle.cf_sequence_valid.proofs.Stands.{Stand}
use Rattle.cf_sequence_valid.proofs.Values as locals_of

-- ---- the flags of temporaries in branches hold integers

abbrev pub Flagged : Full → Keeping → List Temporary → Type 0
Flagged x g [] = Unit {0}
Flagged x g (t ∷ ts) = (t.in_branch ≡ true → integer_in (g (flag x t.local.number)) ≡ true) × Flagged x g ts

pub flagged-kept : (x : Full) (b : Bool) (k m : ℕ) (g h : Keeping) (ts : List Temporary) → Placed b k m ts
    → ((i : ℕ) → k ≤ i → i < m → integer_in (g (flag x i)) ≡ true → integer_in (h (flag x i)) ≡ true) → Flagged x g ts → Flagged x h ts
flagged-kept x b k m g h [] p stay u = tt
flagged-kept x b k m g h (t ∷ ts) p stay u = ((λ e. stay t.local.number p.0 p.1 (u.0 e)), flagged-kept x b k m g h ts p.3 stay u.1)

flagged-same : (x : Full) (g h : Keeping) (ts : List Temporary) → ((r : ℕ) → h r ≡ g r) → Flagged x g ts → Flagged x h ts
flagged-same x g h [] same u = tt
flagged-same x g h (t ∷ ts) same u = ((λ e. ap integer_in (same (flag x t.local.number)) ∙ u.0 e), flagged-same x g h ts same u.1)

flagged-append : (x : Full) (g : Keeping) (ts us : List Temporary) → Flagged x g ts → Flagged x g us → Flagged x g (ts ++ us)
flagged-append x g [] us p q = q
flagged-append x g (t ∷ ts) us p q = (p.0, flagged-append x g ts us p.1 q)

flagged-reverse : (x : Full) (g : Keeping) (ts : List Temporary) → Flagged x g ts → Flagged x g (reverse ts)
flagged-reverse x g [] p = tt
flagged-reverse x g (t ∷ ts) p =
    subst (Flagged x g) (sym (reverse-append (t ∷ []) ts)) (flagged-append x g (reverse ts) (t ∷ []) (flagged-reverse x g ts p.1) (p.0, tt))

module _ (locals : List SourceType) (R : SourceType) where
  then_rest : Plains → Option Keeping → Option Keeping
  then_rest rest o = elim o as (λ _. Option Keeping) [ None ↦ None | Some h ↦ after_all locals R rest h ]

  pub branch-goes : (g : Keeping) (n : Register) (ss ts : Plains) (h j : Keeping) → integer_in (g n) ≡ true → runs locals R ss g ≡ Some h → runs locals R ts g ≡ Some j
      → (rest : Plains) → runs locals R (more (branch n ss ts) rest) g ≡ runs locals R rest (common h j)
  unfolding then_rest
  branch-goes g n ss ts h j int first second rest =
      ap (λ b. then_rest rest (if b then kept.joined locals R (runs locals R ss g) (runs locals R ts g) else None)) int
      ∙ ap (λ o. then_rest rest (kept.joined locals R o (runs locals R ts g))) first ∙ ap (λ o. then_rest rest (kept.joined locals R (Some h) o)) second

  -- the flags are set
  pub record Cleared (x : Full) (ts : List Temporary) (g : Keeping) : Type 0 where
    pub now : Keeping
    pub flagged : Flagged x now ts
    pub integers : (r : ℕ) → integer_in (g r) ≡ true → integer_in (now r) ≡ true
    pub below : (r : ℕ) → r < x.base → now r ≡ g r
    pub goes : (rest : Plains) → runs locals R (flags x ts rest) g ≡ runs locals R rest now

  zero : Kept
  zero = an_integer (λ k. fits k (pos 0))

  set-integer : (g : Keeping) (n r : ℕ) (b : Bool) → integer_in (g r) ≡ true → integer_in (if b then Some zero else g r) ≡ true
  unfolding zero
  set-integer g n r true i = refl
  set-integer g n r false i = i

  clear-one : (x : Full) (t : Temporary) (ts : List Temporary) → ((g : Keeping) → Cleared x ts g) → (g : Keeping) (b : Bool) → t.in_branch ≡ b → Cleared x (t ∷ ts) g
  unfolding zero
  clear-one x t ts clears g true e =
      let n : Register = flag x t.local.number in
      let c = clears (keep g n zero) in
      record {
        now = c.now;
        flagged = ((λ is. c.integers n (ap integer_in (keep-at g n zero))), c.flagged);
        integers = λ r i. c.integers r (set-integer g n r _ i);
        below = λ r lt. c.below r lt ∙ keep-below g n r zero (omega (arith, lt));
        goes = λ rest.
            ap (λ b. runs locals R (elim b [ true ↦ more (set n (plain.number (pos 0))) (flags x ts rest) | false ↦ flags x ts rest ]) g) e
            ∙ set-runs locals R g n (plain.number (pos 0)) zero (flags x ts rest) refl ∙ c.goes rest;
      }
  clear-one x t ts clears g false e =
      let n : Register = flag x t.local.number in
      let c = clears g in
      record {
        now = c.now;
        flagged = ((λ is. never (sym e ∙ is)), c.flagged);
        integers = c.integers;
        below = c.below;
        goes = λ rest. ap (λ b. runs locals R (elim b [ true ↦ more (set n (plain.number (pos 0))) (flags x ts rest) | false ↦ flags x ts rest ]) g) e ∙ c.goes rest;
      }

  pub flags-run : (x : Full) (ts : List Temporary) (g : Keeping) → Cleared x ts g
  flags-run x [] g = record { now = g; flagged = tt; integers = λ r i. i; below = λ r lt. refl; goes = λ rest. refl }
  flags-run x (t ∷ ts) g = clear-one x t ts (flags-run x ts) g t.in_branch refl

  -- the temporaries end
  pub record EndsAll (x : Full) (ts : List Temporary) (g : Keeping) : Type 0 where
    pub now : Keeping
    pub same : (r : ℕ) → now r ≡ g r
    pub goes : (rest : Plains) → runs locals R (ended x ts rest) g ≡ runs locals R rest now

  one_ended : Full → Temporary → List Temporary → Plains → Bool → Plains
  one_ended x t ts rest b = elim b [
    | true ↦ more (branch (flag x t.local.number) (finished (t.local ∷ []) nothing) nothing) (ended x ts rest)
    | false ↦ finished (t.local ∷ []) (ended x ts rest)
  ]

  end-one : (x : Full) (t : Temporary) (ts : List Temporary) → ((g : Keeping) → Flagged x g ts → EndsAll x ts g) → (g : Keeping) (b : Bool) → t.in_branch ≡ b → Flagged x g (t ∷ ts)
      → EndsAll x (t ∷ ts) g
  unfolding one_ended
  end-one x t ts ends g true e u =
      let n : Register = flag x t.local.number in
      let same : (r : ℕ) → common g g r ≡ g r = λ r. in-both-same (g r) in
      let c = ends (common g g) (flagged-same x g (common g g) ts same u.1) in
      record {
        now = c.now;
        same = λ r. c.same r ∙ same r;
        goes = λ rest.
            ap (λ b. runs locals R (one_ended x t ts rest b) g) e
            ∙ branch-goes g n (finished (t.local ∷ []) nothing) nothing g g (u.0 e) (act-runs locals R g (plain.finish t.local.type t.local.number) no_value nothing refl) refl (ended x ts rest)
            ∙ c.goes rest;
      }
  end-one x t ts ends g false e u =
      let c = ends g u.1 in
      record {
        now = c.now;
        same = c.same;
        goes = λ rest.
            ap (λ b. runs locals R (one_ended x t ts rest b) g) e
            ∙ act-runs locals R g (plain.finish t.local.type t.local.number) no_value (ended x ts rest) refl ∙ c.goes rest;
      }

  pub ended-run : (x : Full) (ts : List Temporary) (g : Keeping) → Flagged x g ts → EndsAll x ts g
  ended-run x [] g u = record { now = g; same = λ r. refl; goes = λ rest. refl }
  ended-run x (t ∷ ts) g u = end-one x t ts (ended-run x ts) g t.in_branch refl u

  -- ---- the value of a full expression

  abbrev pub span_at : Core → ℕ → Span
  span_at e n = record { low = n; top = n + width e }

  abbrev pub full_at : ℕ → ℕ → Full
  full_at n k = record { first = k; base = n }

  pub full-room : (e : Core) (n k n' : ℕ) → n + width e ≤ n' → Stand locals k (added (nodes e)) → Room locals (span_at e n) (full_at n k) n' k (added (nodes e))
  full-room e n k n' le st = record { stand = st; first = omega arith; low = omega arith; flags = omega arith; top = le }

  -- what is done behind its value, in registers from that of the value on, leaves the flags
  pub record Held (classes : List Class) (scope : Scope) (e : Core) (into : Option Destination) (n k : ℕ) (g : Keeping) : Type 0 where
    pub kept : Kept
    pub now : Keeping
    pub related : Relates (typing scope e) kept
    pub at : now (n + width e) ≡ Some kept
    pub below : (r : ℕ) → r < n → now r ≡ g r
    pub flagged : Flagged (full_at n k) now (temporaries false e k)
    pub goes : (rest : Plains) → runs locals R (flags (full_at n k) (temporaries false e k) (value classes (full_at n k) e into (n + width e) k rest)) g ≡ runs locals R rest now

  pub held : (classes : List Class) (scope : Scope) (keeps : locals_of.Kept scope locals) (e : Core) → is_value e ≡ true → Serves (typing scope e) → (into : Option Destination) (n k : ℕ) (g : Keeping)
      → Stand locals k (added (nodes e)) → Held classes scope e into n k g
  held classes scope keeps e ok s into n k g st =
      let x : Full = full_at n k in
      let m : ℕ = n + width e in
      let ts : List Temporary = temporaries false e k in
      let le : m ≤ m = omega arith in
      let c = flags-run x ts g in
      let p = keeps-value locals R (span_at e n) classes scope keeps e ok s x into m k c.now (full-room e n k m le st) in
      record {
        kept = p.kept;
        now = p.now;
        related = p.related;
        at = p.at;
        below = λ r lt. Stays.same (p.below r (omega (arith, lt))) (inl lt) ∙ c.below r lt;
        flagged = flagged-kept x false k (k + width e) c.now p.now ts (placing e ok false k) (λ i from less. Stays.integer (p.below (flag x i) (omega (arith, from, less)))) c.flagged;
        goes = λ rest. c.goes (value classes x e into m k rest) ∙ p.goes rest;
      }

  -- a register behind the flags is set
  pub flagged-set : (e : Core) → is_value e ≡ true → (n k r : ℕ) (v : Kept) (g : Keeping) → n + width e ≤ r → Flagged (full_at n k) g (temporaries false e k) → Flagged (full_at n k) (keep g r v) (temporaries false e k)
  flagged-set e ok n k r v g le u =
      flagged-kept (full_at n k) false k (k + width e) g (keep g r v) (temporaries false e k) (placing e ok false k)
      (λ i from less is. ap integer_in (keep-below g r (n + (i - k)) v (omega (arith, from, less, le))) ∙ is) u

  -- the ends of its temporaries, the newest first
  pub ends-run : (e : Core) (n k : ℕ) (g : Keeping) → Flagged (full_at n k) g (temporaries false e k) → EndsAll (full_at n k) (reverse (temporaries false e k)) g
  ends-run e n k g u = ended-run (full_at n k) (reverse (temporaries false e k)) g (flagged-reverse (full_at n k) g (temporaries false e k) u)
