-- What the code writes on the way, and what the definition has in its place before a rest. `Still` adds no local.
use Rattle.std.proofs.Common.{◌≡◌, ℕ, ◌+◌, refl, ap, sym, ◌∙◌, arith}
use Rattle.cf_classes.specs.declared.class.MemberRef.{MemberRef}
use Rattle.cf_core.specs.Types.{Name}
use Rattle.cf_core.specs.FromTypes.{Tables}
use Rattle.cf_plain.specs.declared.action.Action.{Action}
use Rattle.cf_plain.specs.declared.statement.Plain.{Plain}
use Rattle.cf_plain.specs.Plain.{Plains, nothing, more, branch}
use Rattle.cf_plain.specs.Plain as plain
use Rattle.cf_plain.specs.View.{action_of, plain_of, plains_of}
use Rattle.cf_sequence.specs.Expressions.{used as use_of}
use Rattle.cf_sequence_expr.specs.declared.writing.Writing.{Writing}
use Rattle.cf_sequence_expr.specs.Writes.{put, set, act, used, emptied, within, passed}
use Rattle.cf_sequence_written.proofs.Followed.{followed, followed-end, followed-put, followed-set, followed-act, followed-used, followed-branch, next-put, next-set, next-act, next-used, next-emptied, code-emptied, next-branched, next-passed, code-passed}

module _ (tables : Tables) (signature : MemberRef → Name) where
  pub record Still (f : Writing → Writing) (g : Plains → Plains) : Type 0 where
    pub code : (w : Writing) (rest : Plains) → followed tables signature (Writing.code (f w)) rest ≡ followed tables signature w.code (g rest)
    pub next : (w : Writing) → Writing.next (f w) ≡ w.next

  -- with this many locals, numbered from the next one
  pub record Puts (f : Writing → Writing) (g : ℕ → Plains → Plains) (count : ℕ) : Type 0 where
    pub code : (w : Writing) (rest : Plains) → followed tables signature (Writing.code (f w)) rest ≡ followed tables signature w.code (g w.next rest)
    pub next : (w : Writing) → Writing.next (f w) ≡ w.next + count

  pub still-put : (s : Plain) (p : plain.Plain) → plain_of tables signature s ≡ p → Still (put s) (λ rest. more p rest)
  still-put s p is = record { code = λ w rest. followed-put tables signature s p w rest is; next = next-put s }

  pub still-set : (n : ℕ) (a : Action) → Still (set n a) (λ rest. more (plain.set n (action_of tables signature a)) rest)
  still-set n a = record { code = followed-set tables signature n a; next = next-set n a }

  pub still-act : (a : Action) → Still (act a) (λ rest. more (plain.act (action_of tables signature a)) rest)
  still-act a = record { code = followed-act tables signature a; next = next-act a }

  pub still-used : (n : ℕ) → Still (used n) (use_of n)
  still-used n = record { code = followed-used tables signature n; next = next-used n }

  pub still-then : {f h : Writing → Writing} {g k : Plains → Plains} → Still f g → Still h k → Still (λ w. h (f w)) (λ rest. g (k rest))
  still-then {f} {h} {g} {k} p q = record { code = λ w rest. q.code (f w) rest ∙ p.code w (k rest); next = λ w. q.next (f w) ∙ p.next w }

  pub puts-none : Puts (λ w. w) (λ k rest. rest) 0
  puts-none = record { code = λ w rest. refl; next = λ w. omega arith }

  pub puts-passed : (count : ℕ) → Puts (passed count) (λ k rest. rest) count
  puts-passed count = record { code = λ w rest. ap (λ ss. followed tables signature ss rest) (code-passed count w); next = next-passed count }

  pub puts-as : {f : Writing → Writing} {g h : ℕ → Plains → Plains} {m n : ℕ} → Puts f g m → ((k : ℕ) (rest : Plains) → g k rest ≡ h k rest) → m ≡ n → Puts f h n
  puts-as p same count = record {
    code = λ w rest. p.code w rest ∙ ap (followed tables signature w.code) (same w.next rest);
    next = λ w. p.next w ∙ ap (λ m. w.next + m) count;
  }

  pub puts-wide : {f : Writing → Writing} {g : ℕ → Plains → Plains} {m n : ℕ} → Puts f g m → m ≡ n → Puts f g n
  puts-wide p count = puts-as p (λ k rest. refl) count

  -- where it speaks of the number of the first local
  pub puts-at : {f : Writing → Writing} {g : ℕ → ℕ → Plains → Plains} {m : ℕ} → ((i : ℕ) → Puts f (g i) m) → Puts f (λ k rest. g k k rest) m
  puts-at p = record { code = λ w rest. Puts.code (p w.next) w rest; next = Puts.next (p 0) }

  pub puts-still : {f h : Writing → Writing} {g : ℕ → Plains → Plains} {k : Plains → Plains} {m : ℕ}
      → Puts f g m → Still h k → Puts (λ w. h (f w)) (λ i rest. g i (k rest)) m
  puts-still {f} {h} {g} {k} {m} p q = record { code = λ w rest. q.code (f w) rest ∙ p.code w (k rest); next = λ w. q.next (f w) ∙ p.next w }

  pub still-puts : {f h : Writing → Writing} {g : Plains → Plains} {k : ℕ → Plains → Plains} {m : ℕ}
      → Still f g → Puts h k m → Puts (λ w. h (f w)) (λ i rest. g (k i rest)) m
  still-puts {f} {h} {g} {k} {m} p q = record {
    code = λ w rest. q.code (f w) rest ∙ p.code w (k (Writing.next (f w)) rest) ∙ ap (λ i. followed tables signature w.code (g (k i rest))) (p.next w);
    next = λ w. q.next (f w) ∙ ap (λ i. i + m) (p.next w);
  }

  pub puts-then : {f h : Writing → Writing} {g k : ℕ → Plains → Plains} {m n : ℕ}
      → Puts f g m → Puts h k n → Puts (λ w. h (f w)) (λ i rest. g i (k (i + m) rest)) (m + n)
  puts-then {f} {h} {g} {k} {m} {n} p q = record {
    code = λ w rest. q.code (f w) rest ∙ p.code w (k (Writing.next (f w)) rest) ∙ ap (λ i. followed tables signature w.code (g w.next (k i rest))) (p.next w);
    next = λ w. let first = p.next w in let second = q.next (f w) in omega (arith, first, second);
  }

  -- what is written in a list of its own
  alone : {f : Writing → Writing} {g : ℕ → Plains → Plains} {m : ℕ} → Puts f g m → (w : Writing) → plains_of tables signature (Writing.code (f (emptied w))) ≡ g w.next nothing
  alone {f} {g} {m} p w =
      sym (followed-end tables signature (Writing.code (f (emptied w)))) ∙ p.code (emptied w) nothing
      ∙ ap (λ ss. followed tables signature ss (g (Writing.next (emptied w)) nothing)) (code-emptied w) ∙ ap (λ i. g i nothing) (next-emptied w)

  -- the branches of `&&`, `||` and `?:`
  pub puts-within : {f h : Writing → Writing} {g k : ℕ → Plains → Plains} {m n : ℕ} (r : ℕ)
      → Puts f g m → Puts h k n → Puts (within r f h) (λ i rest. more (branch r (g i nothing) (k (i + m) nothing)) rest) (m + n)
  puts-within {f} {h} {g} {k} {m} {n} r p q = record {
    code = λ w rest.
        let first = f (emptied w) in
        let behind : Writing.next first ≡ w.next + m = p.next (emptied w) ∙ ap (λ i. i + m) (next-emptied w) in
        followed-branch tables signature r w.code (Writing.code first) (g w.next nothing) (k (w.next + m) nothing) (h (emptied first)) rest
        (alone p w) (alone q first ∙ ap (λ i. k i nothing) behind);
    next = λ w.
        let first = f (emptied w) in
        let behind : Writing.next first ≡ w.next + m = p.next (emptied w) ∙ ap (λ i. i + m) (next-emptied w) in
        let further : Writing.next (h (emptied first)) ≡ Writing.next first + n = q.next (emptied first) ∙ ap (λ i. i + n) (next-emptied first) in
        next-branched r w.code (Writing.code first) (h (emptied first)) ∙ omega (arith, behind, further);
  }
