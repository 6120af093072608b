-- How a body goes on: what the definition has in the place of the statements that were written, the locals that were added, and those that were
-- declared in the scope at hand, the newest first.
use Rattle.std.proofs.Common.{◌≡◌, ℕ, ◌+◌, List, [], ◌∷◌, ◌++◌, length, take, drop, refl, ap, sym, ◌∙◌, append_assoc, append-nil, arith}
use Rattle.cf_classes.specs.declared.class.MemberRef.{MemberRef}
use Rattle.cf_core.specs.Types.{Name}
use Rattle.cf_core.specs.FromTypes.{Tables, type_of}
use Rattle.cf_plain.specs.declared.action.Action.TheVariants as action
use Rattle.cf_plain.specs.declared.statement.Plain.{Plain}
use Rattle.cf_plain.specs.declared.statement.Plain.TheVariants as code
use Rattle.cf_plain.specs.Plain.{Plains, nothing, more}
use Rattle.cf_plain.specs.Plain as plain
use Rattle.cf_plain.specs.View.{plain_of, plains_of}
use Rattle.cf_sequence.specs.Made.{Local}
use Rattle.cf_sequence.specs.Expressions.{finished}
use Rattle.cf_sequence_expr.specs.declared.writing.Writing.{Writing}
use Rattle.cf_sequence_stmt.specs.declared.body.Body.{Body}
use Rattle.cf_sequence_stmt.specs.declared.body.Open.{Open}
use Rattle.cf_sequence_stmt.specs.Bodies.{on, opened, ended, left_to, closed_to, stated, begun, turned, switched, with_code, set_aside}
use Rattle.cf_sequence_written.proofs.Opens.{finished-more, take-here, drop-here, ends, ends-more, no-opens}
use Rattle.cf_sequence_written.proofs.Views.{of-Loop, of-Switch}
use Rattle.cf_sequence_written.proofs.Followed.{followed, followed-end, followed-last, next-emptied, code-emptied}
use Rattle.cf_sequence_written.proofs.Puts.{Puts, Still, still-put, still-act, still-then, puts-none, puts-still}

module _ (tables : Tables) (signature : MemberRef → Name) where
  pub still-ended : (xs : List Open) → Still tables signature (ended xs) (finished (ends tables xs))
  still-ended [] = record { code = λ w rest. refl; next = λ w. refl }
  still-ended (x ∷ xs) =
      let both = still-then tables signature (still-ended xs) (still-act tables signature (action.Finish x.ty x.number)) in
      record {
        code = λ w rest. Still.code both w rest
            ∙ ap (followed tables signature w.code) (sym (finished-more (ends tables xs) (record { number = x.number; type = type_of tables x.ty } ∷ []) rest));
        next = Still.next both;
      }

  pub record Goes (g : ℕ → Plains → Plains) (count : ℕ) (ls : List Local) (b c : Body) : Type 0 where
    pub code : (rest : Plains) → followed tables signature (Writing.code c.writing) rest ≡ followed tables signature (Writing.code b.writing) (g (Writing.next b.writing) rest)
    pub next : Writing.next c.writing ≡ Writing.next b.writing + count
    pub opens : List Open
    pub scope : c.scope ≡ b.scope ++ opens
    pub ends : ends tables opens ≡ ls

  pub goes-on : {f : Writing → Writing} {g : ℕ → Plains → Plains} {count : ℕ} (b : Body) → Puts tables signature f g count → Goes g count [] b (on f b)
  goes-on b p = record { code = p.code b.writing; next = p.next b.writing; opens = []; scope = sym (append-nil b.scope); ends = refl }

  pub goes-none : (b : Body) → Goes (λ k rest. rest) 0 [] b b
  goes-none b = record { code = λ rest. refl; next = omega arith; opens = []; scope = sym (append-nil b.scope); ends = refl }

  pub goes-as : {g h : ℕ → Plains → Plains} {m n : ℕ} {ls : List Local} {b c : Body} → Goes g m ls b c → ((rest : Plains) → g (Writing.next b.writing) rest ≡ h (Writing.next b.writing) rest) → m ≡ n → Goes h n ls b c
  goes-as {b = b} p same count = record {
    code = λ rest. p.code rest ∙ ap (followed tables signature (Writing.code b.writing)) (same rest);
    next = p.next ∙ ap (λ m. Writing.next b.writing + m) count;
    opens = p.opens;
    scope = p.scope;
    ends = p.ends;
  }

  pub goes-then : {g h : ℕ → Plains → Plains} {m n : ℕ} {ls ms : List Local} {b c d : Body} → Goes g m ls b c → Goes h n ms c d
      → Goes (λ k rest. g k (h (k + m) rest)) (m + n) (ms ++ ls) b d
  goes-then {g = g} {h = h} {n = n} {ms = ms} {b = b} {c = c} p q = record {
    code = λ rest. q.code rest ∙ p.code (h (Writing.next c.writing) rest) ∙ ap (λ i. followed tables signature (Writing.code b.writing) (g (Writing.next b.writing) (h i rest))) p.next;
    next = let first = p.next in let second = q.next in omega (arith, first, second);
    opens = p.opens ++ q.opens;
    scope = q.scope ∙ ap (λ l. l ++ q.opens) p.scope ∙ append_assoc b.scope p.opens q.opens;
    ends = ends-more tables p.opens q.opens ∙ ap (λ l. l ++ ends tables p.opens) q.ends ∙ ap (λ l. ms ++ l) p.ends;
  }

  -- behind which nothing more is counted
  pub goes-rest : {g : ℕ → Plains → Plains} {h : Plains → Plains} {m : ℕ} {ls : List Local} {b c d : Body} → Goes g m ls b c → Goes (λ k rest. h rest) 0 [] c d
      → Goes (λ k rest. g k (h rest)) m ls b d
  goes-rest p q = goes-as (goes-then p q) (λ rest. refl) (omega arith)

  pub same-scope : {g : ℕ → Plains → Plains} {m : ℕ} {b c : Body} → Goes g m [] b c → c.scope ≡ b.scope
  same-scope {b = b} p = p.scope ∙ ap (λ l. b.scope ++ l) (no-opens tables p.opens p.ends) ∙ append-nil b.scope

  pub goes-declares : {g : ℕ → Plains → Plains} {m : ℕ} {ls ms : List Local} {b c : Body} → Goes g m ls b c → ls ≡ ms → Goes g m ms b c
  goes-declares p same = record { code = p.code; next = p.next; opens = p.opens; scope = p.scope; ends = p.ends ∙ same }

  -- statements
  pub goes-still : {f : Writing → Writing} {g : Plains → Plains} (b : Body) → Still tables signature f g → Goes (λ k rest. g rest) 0 [] b (on f b)
  goes-still b p = goes-on b (puts-still tables signature (puts-none tables signature) p)

  pub goes-stated : (s : Plain) (p : plain.Plain) (b : Body) → plain_of tables signature s ≡ p → Goes (λ k rest. more p rest) 0 [] b (stated s b)
  unfolding stated
  goes-stated s p b is = goes-still b (still-put tables signature s p is)

  -- the ends of the locals behind so many
  pub goes-left : (mark : ℕ) (b : Body) → Goes (λ k rest. finished (ends tables (drop mark b.scope)) rest) 0 [] b (left_to mark b)
  unfolding left_to
  goes-left mark b = goes-still b (still-ended (drop mark b.scope))

  scope-left : (mark : ℕ) (b : Body) → Body.scope (left_to mark b) ≡ b.scope
  unfolding left_to
  scope-left mark b = refl

  pub goes-left-as : (mark : ℕ) (ls : List Local) (b : Body) → ls ≡ ends tables (drop mark b.scope) → Goes (λ k rest. finished ls rest) 0 [] b (left_to mark b)
  goes-left-as mark ls b those = goes-as (goes-left mark b) (λ rest. ap (λ ms. finished ms rest) (sym those)) refl

  -- and the end of their scope
  pub goes-closed : {g : ℕ → Plains → Plains} {m : ℕ} {ls : List Local} {b c : Body} → Goes g m ls b c
      → Goes (λ k rest. g k (finished ls rest)) m [] b (closed_to (length b.scope) c)
  unfolding closed_to
  goes-closed {g = g} {m = m} {ls = ls} {b = b} {c = c} p =
      let left = goes-left (length b.scope) c in
      let those : ends tables (drop (length b.scope) c.scope) ≡ ls = ap (λ s. ends tables (drop (length b.scope) s)) p.scope ∙ ap (ends tables) (drop-here b.scope p.opens) ∙ p.ends in
      record {
        code = λ rest. Goes.code left rest ∙ ap (λ ls. followed tables signature (Writing.code c.writing) (finished ls rest)) those ∙ p.code (finished ls rest);
        next = let first = Goes.next left in let second = p.next in omega (arith, first, second);
        opens = [];
        scope = ap (take (length b.scope)) (scope-left (length b.scope) c ∙ p.scope) ∙ take-here b.scope p.opens ∙ sym (append-nil b.scope);
        ends = refl;
      }

  pub goes-opened : {g : ℕ → Plains → Plains} {m : ℕ} {ls : List Local} {b c : Body} (i t : ℕ) → Goes g m ls b c
      → Goes g m (record { number = i; type = type_of tables t } ∷ ls) b (opened i t c)
  unfolding opened
  goes-opened {b = b} i t p =
      let x : Open = record { number = i; ty = t } in
      record {
        code = p.code;
        next = p.next;
        opens = p.opens ++ x ∷ [];
        scope = ap (λ s. s ++ x ∷ []) p.scope ∙ append_assoc b.scope p.opens (x ∷ []);
        ends = ends-more tables p.opens (x ∷ []) ∙ ap (λ ls. record { number = i; type = type_of tables t } ∷ ls) p.ends;
      }

  -- what is written in a list of its own
  pub code-begun : (b : Body) → Writing.code (Body.writing (begun b)) ≡ []
  unfolding begun
  code-begun b = code-emptied b.writing

  pub next-begun : (b : Body) → Writing.next (Body.writing (begun b)) ≡ Writing.next b.writing
  unfolding begun
  next-begun b = next-emptied b.writing

  pub scope-begun : (b : Body) → Body.scope (begun b) ≡ b.scope
  unfolding begun
  scope-begun b = refl

  pub goes-alone : {g : ℕ → Plains → Plains} {m : ℕ} {ls : List Local} (b : Body) {c : Body} → Goes g m ls (begun b) c
      → plains_of tables signature (Writing.code c.writing) ≡ g (Writing.next b.writing) nothing
  goes-alone {g = g} b {c = c} p =
      sym (followed-end tables signature (Writing.code c.writing)) ∙ p.code nothing
      ∙ ap (λ ss. followed tables signature ss (g (Writing.next (Body.writing (begun b))) nothing)) (code-begun b) ∙ ap (λ k. g k nothing) (next-begun b)

  -- with locals put aside
  pub scope-aside : (mark : ℕ) (b : Body) → Body.scope (set_aside mark b) ≡ take mark b.scope
  unfolding set_aside
  scope-aside mark b = refl

  pub goes-alone-aside : {g : ℕ → Plains → Plains} {m : ℕ} {ls : List Local} (mark : ℕ) (b : Body) {c : Body} → Goes g m ls (set_aside mark (begun b)) c
      → plains_of tables signature (Writing.code c.writing) ≡ g (Writing.next b.writing) nothing
  unfolding set_aside
  goes-alone-aside {g = g} mark b {c = c} p =
      sym (followed-end tables signature (Writing.code c.writing)) ∙ p.code nothing
      ∙ ap (λ ss. followed tables signature ss (g (Writing.next (Body.writing (begun b))) nothing)) (code-begun b) ∙ ap (λ k. g k nothing) (next-begun b)

  pub next-aside : (mark : ℕ) (b : Body) → Writing.next (Body.writing (set_aside mark (begun b))) ≡ Writing.next b.writing
  unfolding set_aside
  next-aside mark b = next-begun b

  -- a loop, and a switch, behind these statements: what was written last is within
  pub code-turned : (before next : List Plain) (b : Body) (rest : Plains)
      → followed tables signature (Writing.code (Body.writing (turned before next b))) rest
      ≡ followed tables signature before (more (plain.loop (plains_of tables signature (Writing.code b.writing)) (plains_of tables signature next)) rest)
  unfolding turned
  code-turned before next b rest =
      followed-last tables signature before (code.Loop (Writing.code b.writing) next) rest
      ∙ ap (λ s. followed tables signature before (more s rest)) (of-Loop tables signature (Writing.code b.writing) next)

  pub next-turned : (before next : List Plain) (b : Body) → Writing.next (Body.writing (turned before next b)) ≡ Writing.next b.writing
  unfolding turned
  next-turned before next b = refl

  pub scope-turned : (before next : List Plain) (b : Body) → Body.scope (turned before next b) ≡ b.scope
  unfolding turned
  scope-turned before next b = refl

  pub code-switched : (n : ℕ) (before : List Plain) (b : Body) (rest : Plains)
      → followed tables signature (Writing.code (Body.writing (switched n before b))) rest
      ≡ followed tables signature before (more (plain.switch n (plains_of tables signature (Writing.code b.writing))) rest)
  unfolding switched
  code-switched n before b rest =
      followed-last tables signature before (code.Switch n (Writing.code b.writing)) rest
      ∙ ap (λ s. followed tables signature before (more s rest)) (of-Switch tables signature n (Writing.code b.writing))

  pub next-switched : (n : ℕ) (before : List Plain) (b : Body) → Writing.next (Body.writing (switched n before b)) ≡ Writing.next b.writing
  unfolding switched
  next-switched n before b = refl

  pub scope-switched : (n : ℕ) (before : List Plain) (b : Body) → Body.scope (switched n before b) ≡ b.scope
  unfolding switched
  scope-switched n before b = refl

  pub code-with_code : (ss : List Plain) (b : Body) → Writing.code (Body.writing (with_code ss b)) ≡ ss
  unfolding with_code
  code-with_code ss b = refl

  pub next-with_code : (ss : List Plain) (b : Body) → Writing.next (Body.writing (with_code ss b)) ≡ Writing.next b.writing
  unfolding with_code
  next-with_code ss b = refl

  pub scope-with_code : (ss : List Plain) (b : Body) → Body.scope (with_code ss b) ≡ b.scope
  unfolding with_code
  scope-with_code ss b = refl
