-- What is written for statements without loops and switches is the definition's.
use Rattle.std.proofs.Common.{◌≡◌, ℕ, ◌+◌, Bool, true, false, ◌||◌, List, [], ◌∷◌, ◌++◌, length, take, drop, append_assoc, refl, ap, sym, subst, ◌∙◌, arith}
use Rattle.std.specs.Prelude.{Option, Some, None, if◌then◌else◌}
use Rattle.cf_base.proofs.Tests.{both}
use Rattle.cf_classes.specs.declared.class.MemberRef.{MemberRef}
use Rattle.cf_core.specs.Types.{Name, is_class}
use Rattle.cf_core.specs.Core as core
use Rattle.cf_core.specs.Core.{Core, Cores, MaybeCore, absent, given}
use Rattle.cf_core.specs.Nodes.{nodes, nodes_all, nodes_maybe}
use Rattle.cf_core.specs.Valid.{is_label}
use Rattle.cf_core.specs.FromTypes.{Tables}
use Rattle.cf_plain.specs.declared.statement.Plain.TheVariants as code
use Rattle.cf_plain.specs.Plain.{Plains, nothing, more, branch, leave, continue, give, set as sets}
use Rattle.cf_plain.specs.Plain as plain
use Rattle.cf_sequence.specs.Built.{is_statement, is_statement_or, are_statements, are_cases, next_local}
use Rattle.cf_sequence.specs.Made.{Local, added, width, declared, declared_maybe, declared_all}
use Rattle.cf_sequence.specs.Expressions.{finished, value, whole, used as use_of}
use Rattle.cf_sequence.specs.Statements.{Inside, statement, statements, statement_or, declares}
use Rattle.cf_sequence.specs.Statements as definition
use Rattle.cf_sequence_expr.specs.declared.writing.Writing.{Writing}
use Rattle.cf_sequence_stmt.specs.declared.body.Body.{Body}
use Rattle.cf_sequence_stmt.specs.declared.body.Ways.{Ways}
use Rattle.cf_sequence_stmt.specs.Bodies.{begun, chosen, set_aside, taken_back, left_to, stated, behind_flags, tested}
use Rattle.cf_sequence_stmt.specs.Bodies as bodies
use Rattle.cf_sequence_stmt.specs.Steps.{Step, in_order, or_nothing, block, choice, returned}
use Rattle.cf_sequence_written.proofs.Views.{of-Break, of-Continue, of-Return}
use Rattle.cf_sequence_written.proofs.Followed.{followed, followed-branch, next-branched}
use Rattle.cf_sequence_written.proofs.Values.{nodes-count}
use Rattle.cf_sequence_written.proofs.Opens.{take-here, drop-here, ends, ends-more}
use Rattle.cf_sequence_written.proofs.Bodies.{Goes, goes-none, goes-as, goes-then, goes-rest, goes-stated, goes-left-as, goes-closed, goes-alone, goes-alone-aside, next-begun, next-aside, scope-begun, scope-aside, same-scope}
use Rattle.cf_sequence_written.proofs.Standing.{Stands, stands-more, stands-opened}
use Rattle.cf_sequence_written.proofs.Wholes.{Whole, register, goes-given, goes-tested}

or-right : (a b : Bool) → b ≡ true → a || b ≡ true
or-right true b ok = refl
or-right false b ok = ok

-- a label, or a statement where the locals below some number are those of the open scopes
pub record IsStated (c : Core) : Type 0 where
  pub below : ℕ
  pub stated : is_label c || is_statement below c ≡ true

abbrev pub AllStated : Cores → Type 0
AllStated core.none = Unit {0}
AllStated (core.more c cs) = IsStated c × AllStated cs

pub stated-statement : (m : ℕ) (c : Core) → is_statement m c ≡ true → IsStated c
stated-statement m c ok = record { below = m; stated = or-right (is_label c) (is_statement m c) ok }

pub stated-all : (m : ℕ) (cs : Cores) → are_statements m cs ≡ true → AllStated cs
stated-all m core.none ok = tt
stated-all m (core.more c cs) ok =
    let parts = both (is_statement m c) (are_statements (next_local m c) cs) ok in
    (stated-statement m c parts.0, stated-all (next_local m c) cs parts.1)

pub stated-cases : (m : ℕ) (cs : Cores) → are_cases m cs ≡ true → AllStated cs
stated-cases m core.none ok = tt
stated-cases m (core.more c cs) ok =
    let parts = both (is_label c || is_statement m c) (are_cases (next_local m c) cs) ok in
    (record { below = m; stated = parts.0 }, stated-cases (next_local m c) cs parts.1)

module _ (tables : Tables) (signature : MemberRef → Name) where
  pub record Acts (s : Step) (c : Core) : Type 0 where
    pub acts : IsStated c → (f : Inside) (ways : Ways) (b : Body) → Stands tables f ways b.scope
        → Goes tables signature (λ k rest. statement f c k rest) (width c) (declared c) b (s.act ways b)

  pub record ActsAll (ss : List Step) (cs : Cores) : Type 0 where
    pub acts : AllStated cs → (f : Inside) (ways : Ways) (b : Body) → Stands tables f ways b.scope
        → Goes tables signature (λ k rest. statements f cs k rest) (length (added (nodes_all cs))) (declared_all cs) b (in_order ss ways b)

  -- Statements in order.

  pub acts-none : ActsAll [] core.none
  acts-none = record { acts = λ ok f ways b at. goes-none tables signature b }

  pub acts-more : {s : Step} {c : Core} {ss : List Step} {cs : Cores} → Acts s c → ActsAll ss cs → ActsAll (s ∷ ss) (core.more c cs)
  acts-more {s} {c} {ss} {cs} one all = record {
    acts = λ ok f ways b at.
        let first = one.acts ok.0 f ways b at in
        let behind : Stands tables (declares (declared c) f) ways (Body.scope (s.act ways b)) =
        subst (Stands tables (declares (declared c) f) ways) (sym first.scope) (stands-more tables first.opens (declared c) first.ends at) in
        goes-as tables signature (goes-then tables signature first (all.acts ok.1 (declares (declared c) f) ways (s.act ways b) behind)) (λ rest. refl)
        (nodes-count (nodes c) (nodes_all cs));
  }

  pub goes-block : {ss : List Step} {cs : Cores} → ActsAll ss cs → AllStated cs → (f : Inside) (ways : Ways) (b : Body) → Stands tables f ways b.scope
      → Goes tables signature (λ k rest. statement f (core.block cs) k rest) (length (added (nodes_all cs))) [] b (block ss ways b)
  goes-block all ok f ways b at = goes-closed tables signature (all.acts ok _ ways b (stands-opened tables at))

  -- Branches (6.4.1).

  pub record ActsOr (o : Option Step) (c : MaybeCore) : Type 0 where
    pub acts : (m : ℕ) → is_statement_or m c ≡ true → (f : Inside) (ways : Ways) (b : Body) → Stands tables f ways b.scope
        → Goes tables signature (λ k rest. statement_or f c k rest) (length (added (nodes_maybe c))) (declared_maybe c) b (or_nothing o ways b)

  pub acts-absent : ActsOr None absent
  acts-absent = record { acts = λ m ok f ways b at. goes-none tables signature b }

  pub acts-given : {s : Step} {c : Core} → Acts s c → ActsOr (Some s) (given c)
  acts-given {s} {c} one = record { acts = λ m ok f ways b at. one.acts (stated-statement m c ok) f ways b at }

  -- behind what is declared in a list of its own, put aside
  aside-is : {h : ℕ → Plains → Plains} {n : ℕ} {ls : List Local} (t first : Body) (one : Goes tables signature h n ls (begun t) first)
      → Body.scope (set_aside (length t.scope) (begun first)) ≡ t.scope
  aside-is t first one =
      scope-aside tables signature (length t.scope) (begun first)
      ∙ ap (take (length t.scope)) (scope-begun tables signature first ∙ one.scope ∙ ap (λ l. l ++ one.opens) (scope-begun tables signature t)) ∙ take-here t.scope one.opens

  -- both sides behind a test, by the number in this register: what the first one declares is put aside while the second one is written
  pub goes-chosen : {g h i : ℕ → Plains → Plains} {m n o : ℕ} {ls ms : List Local} {b t first other : Body} (r q : ℕ) → r ≡ q
      → Goes tables signature g m [] b t → Goes tables signature h n ls (begun t) first → Goes tables signature i o ms (set_aside (length t.scope) (begun first)) other
      → Goes tables signature (λ k rest. g k (more (branch q (h (k + m) nothing) (i (k + m + n) nothing)) rest)) (m + n + o) (ms ++ ls) b
      (taken_back (length t.scope) (drop (length t.scope) (Body.scope (begun first))) (chosen r (Writing.code t.writing) (Writing.code first.writing) other))
  unfolding chosen taken_back
  goes-chosen {g = g} {h = h} {i = i} {m = m} {n = n} {o = o} {ls = ls} {ms = ms} {b = b} {t = t} {first = first} {other = other} r q same test one two =
      let there : Writing.next t.writing ≡ Writing.next b.writing + m = test.next in
      let further : Writing.next first.writing ≡ Writing.next b.writing + m + n =
      let begins = next-begun tables signature t in let goes = one.next in omega (arith, there, begins, goes) in
      let firsts : drop (length t.scope) (Body.scope (begun first)) ≡ one.opens =
      ap (drop (length t.scope)) (scope-begun tables signature first ∙ one.scope ∙ ap (λ l. l ++ one.opens) (scope-begun tables signature t)) ∙ drop-here t.scope one.opens in
      let seconds : other.scope ≡ t.scope ++ two.opens = two.scope ∙ ap (λ l. l ++ two.opens) (aside-is t first one) in
      record {
        code = λ rest.
            followed-branch tables signature r (Writing.code t.writing) (Writing.code first.writing) (h (Writing.next b.writing + m) nothing) (i (Writing.next b.writing + m + n) nothing)
            other.writing rest
            (goes-alone tables signature t one ∙ ap (λ k. h k nothing) there)
            (goes-alone-aside tables signature (length t.scope) first two ∙ ap (λ k. i k nothing) further)
            ∙ ap (λ q. followed tables signature (Writing.code t.writing) (more (branch q (h (Writing.next b.writing + m) nothing) (i (Writing.next b.writing + m + n) nothing)) rest)) same
            ∙ test.code _;
        next =
            let begins = next-aside tables signature (length t.scope) first in let goes = two.next in
            next-branched r (Writing.code t.writing) (Writing.code first.writing) other.writing ∙ omega (arith, further, begins, goes);
        opens = one.opens ++ two.opens;
        scope =
            ap (λ l. (take (length t.scope) other.scope ++ l) ++ drop (length t.scope) other.scope) firsts
            ∙ ap (λ l. (take (length t.scope) l ++ one.opens) ++ drop (length t.scope) l) seconds
            ∙ ap (λ l. (l ++ one.opens) ++ drop (length t.scope) (t.scope ++ two.opens)) (take-here t.scope two.opens)
            ∙ ap (λ l. (t.scope ++ one.opens) ++ l) (drop-here t.scope two.opens)
            ∙ append_assoc t.scope one.opens two.opens ∙ ap (λ l. l ++ (one.opens ++ two.opens)) (same-scope tables signature test);
        ends = ends-more tables one.opens two.opens ∙ ap (λ l. l ++ ends tables one.opens) two.ends ∙ ap (λ l. ms ++ l) one.ends;
      }

  pub goes-choice : (s : Step) {t : Step} {o : Option Step} {c a : Core} {d : MaybeCore} → Whole tables signature s.piece c → Acts t a → ActsOr o d
      → (m n : ℕ) → is_statement m a ≡ true → is_statement_or n d ≡ true → (f : Inside) (ways : Ways) (b : Body) → Stands tables f ways b.scope
      → Goes tables signature (λ k rest. statement f (core.branch c a d) k rest) (width (core.branch c a d)) (declared (core.branch c a d)) b (choice s t o ways b)
  goes-choice s {t} {o} {c} {a} {d} w one other m n ok ok-other f ways b at =
      let test = goes-tested tables signature f.classes b w in
      let before : Body = tested s.piece b in
      let at-test : Stands tables f ways before.scope = subst (Stands tables f ways) (sym (same-scope tables signature test)) at in
      let at-one : Stands tables f ways (Body.scope (begun before)) = subst (Stands tables f ways) (sym (scope-begun tables signature before)) at-test in
      let yes : Body = t.act ways (begun before) in
      let first = one.acts (stated-statement m a ok) f ways (begun before) at-one in
      let at-two : Stands tables f ways (Body.scope (set_aside (length before.scope) (begun yes))) = subst (Stands tables f ways) (sym (aside-is before yes first)) at-test in
      let second = other.acts n ok-other f ways (set_aside (length before.scope) (begun yes)) at-two in
      goes-as tables signature (goes-chosen (behind_flags 0 s.piece) (0 + width c) (register tables signature w) test first second)
      (λ rest. refl)
      (ap (λ z. z + length (added (nodes_maybe d))) (nodes-count (nodes c) (nodes a)) ∙ nodes-count (nodes c ++ nodes a) (nodes_maybe d))

  -- Ways out (6.6).

  pub goes-leave : (f : Inside) (ways : Ways) (b : Body) → Stands tables f ways b.scope
      → Goes tables signature (λ k rest. statement f core.leave k rest) 0 [] b (stated code.Break (left_to ways.breaks b))
  goes-leave f ways b at =
      goes-rest tables signature (goes-left-as tables signature ways.breaks (f.here ++ f.breaks) b at.breaks)
      (goes-stated tables signature code.Break leave (left_to ways.breaks b) (of-Break tables signature))

  pub goes-continue : (f : Inside) (ways : Ways) (b : Body) → Stands tables f ways b.scope
      → Goes tables signature (λ k rest. statement f core.continue k rest) 0 [] b (stated code.Continue (left_to ways.continues b))
  goes-continue f ways b at =
      goes-rest tables signature (goes-left-as tables signature ways.continues (f.here ++ f.continues) b at.continues)
      (goes-stated tables signature code.Continue continue (left_to ways.continues b) (of-Continue tables signature))

  goes-returns : (r : Option ℕ) (f : Inside) (ways : Ways) (b : Body) → Stands tables f ways b.scope
      → Goes tables signature (λ k rest. finished (f.here ++ f.returns) (more (give r) rest)) 0 [] b (stated (code.Return r) (left_to 0 b))
  goes-returns r f ways b at =
      goes-rest tables signature (goes-left-as tables signature 0 (f.here ++ f.returns) b at.returns)
      (goes-stated tables signature (code.Return r) (give r) (left_to 0 b) (of-Return tables signature r))

  pub goes-give : (f : Inside) (ways : Ways) (b : Body) → Stands tables f ways b.scope
      → Goes tables signature (λ k rest. statement f (core.give absent) k rest) 0 [] b (returned None b)
  goes-give f ways b at = goes-returns None f ways b at

  pub goes-given_back : (s : Step) {e : Core} → Whole tables signature s.piece e → (f : Inside) (ways : Ways) (b : Body) → Stands tables f ways b.scope
      → Goes tables signature (λ k rest. statement f (core.give (given e)) k rest) (width e) [] b (returned (Some s) b)
  goes-given_back s {e} w f ways b at =
      let value_there = goes-given tables signature f.classes b w in
      let at-value : Stands tables f ways (Body.scope (bodies.given s.piece b)) = subst (Stands tables f ways) (sym (same-scope tables signature value_there)) at in
      goes-as tables signature
      (goes-rest tables signature value_there (goes-returns (Some (behind_flags 0 s.piece)) f ways (bodies.given s.piece b) at-value))
      (λ rest.
      let k = Writing.next b.writing in
      let done : Option ℕ → Plains = λ r. finished (f.here ++ f.returns) (more (give r) rest) in
      ap (λ r. whole e 0 k (λ x n rest. value f.classes x e None n k (use_of n rest)) (λ n. done (Some r))) (register tables signature w)
      ∙ scalar f e k rest at.scalar)
      refl
    where
      scalar : (f : Inside) (e : Core) (k : ℕ) (rest : Plains) → is_class f.result ≡ false
          → whole e 0 k (λ x n rest. value f.classes x e None n k (use_of n rest)) (λ n. finished (f.here ++ f.returns) (more (give (Some n)) rest)) ≡ statement f (core.give (given e)) k rest
      scalar f e k rest no_class =
          ap (λ c. if c
          then more (sets 0 plain.result) (definition.started f.classes f.result e 0 k (finished (f.here ++ f.returns) (more (give None) rest)))
          else whole e 0 k (λ x n rest. value f.classes x e None n k (use_of n rest)) (λ n. finished (f.here ++ f.returns) (more (give (Some n)) rest))) (sym no_class)
