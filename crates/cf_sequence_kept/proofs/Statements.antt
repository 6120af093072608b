-- Statements: each register is set before it is used, and holds there what is taken.
use Rattle.std.proofs.Common.{◌≡◌, inl, inr, ℕ, suc, ◌+◌, Bool, true, false, ◌&&◌, ◌||◌, not, nat_le, nat_lt, if◌then◌else◌, List, [], ◌∷◌, ◌++◌, length, reverse, refl, ap, ◌∙◌, subst, arith}
use Rattle.std.specs.Prelude.{Option, Some, None, is_some, slice_get}
use Rattle.cf_base.proofs.Tests.{both, all_of}
use Rattle.cf_core.specs.declared.operators.LoopForm.{LoopForm}
use Rattle.cf_core.specs.declared.operators.LoopForm.TheVariants as form
use Rattle.cf_core.specs.Types.{SourceType, same_but_const, is_class}
use Rattle.cf_core.specs.Places.{is_reference}
use Rattle.cf_core.specs.Core as core
use Rattle.cf_core.specs.Core.{Core, Cores, MaybeCore, local_temporary, none, absent, given as some_core}
use Rattle.cf_core.specs.Joined.{is_nothing}
use Rattle.cf_core.specs.Nodes.{nodes, nodes_all, nodes_maybe}
use Rattle.cf_core.specs.Typing.{Scope, Typing, is_integer, is_expression, same_type}
use Rattle.cf_core.specs.Typing as typed
use Rattle.cf_core.specs.Typed.{typing}
use Rattle.cf_core.specs.Valid as valid
use Rattle.cf_core.specs.Valid.{Body, is_complete, fits, all_fit, fits_maybe, labelled_fit, condition_fits, expression_fits, passes_none}
use Rattle.cf_plain.specs.Plain.{Register, Plain, Plains, act, set, branch, loop, switch, leave, continue, give, nothing, more}
use Rattle.cf_plain.specs.Plain as plain
use Rattle.cf_plain_kept.specs.Kept as kept
use Rattle.cf_plain_kept.specs.Kept.{Kept, no_value, a_place, an_object, a_truth, Keeping, keep, nothing_set, common, tested, given, integer_in, suits, all_set, untouched, after, after_all}
use Rattle.cf_sequence.specs.Built.{is_value, is_condition, is_element, is_held, is_statement, is_statement_or, are_cases, are_statements, next_local}
use Rattle.cf_sequence.specs.Made.{Local, Temporary, temporaries, added, width, width_maybe, declared, declared_all}
use Rattle.cf_sequence.specs.Expressions.{Full, flag, ended, Destination, destination, value, whole, settled, finished, used}
use Rattle.cf_sequence.specs.Statements.{Inside, declares, opened, in_loop, in_switch, held, stepped, started, made, passing, passes_local, passed, looping, statement, statement_or, statements}
use Rattle.cf_sequence.proofs.Calling.{never}
use Rattle.cf_sequence.proofs.Fulls.{nothing-is, held_at}
use Rattle.cf_sequence.proofs.Labels.{passing-past}
use Rattle.cf_sequence.proofs.Placing.{placing}
use Rattle.cf_sequence_kept.proofs.Suits.{scalar-tested, integer-tested, reference-same, names-place}
use Rattle.cf_sequence_kept.proofs.Related.{conditions-kept, integers-kept, held-suits}
use Rattle.cf_sequence_kept.proofs.Values.{keep-at, keep-below, keep-above, runs, set-runs, act-runs}
use Rattle.cf_sequence_kept.proofs.Fulls.{flagged-kept, branch-goes, flags-run, Held, held as held-value, full-room, flagged-set, ends-run}
use Rattle.cf_sequence_kept.proofs.Lists.{object-takes, RunsAt, element-inits}
use Rattle.cf_sequence_kept.proofs.Spans.{Span, Stays}
use Rattle.cf_sequence_kept.proofs.Whole.{keeps-value, settled-put}
use Rattle.cf_sequence_valid.proofs.Serves.{Serves, as_start, bound-parts, either-true, integers-serve, conditions-serve, expressions-serve}
use Rattle.cf_sequence_valid.proofs.Stands.{Stand, stand-left, stand-right, stand-third}
use Rattle.cf_sequence_valid.proofs.Values as locals_of

module _ (body : Body) (locals : List SourceType) (keeps : locals_of.Kept body.scope locals) where
  abbrev scope : Scope
  scope = body.scope

  abbrev run : Plains → Keeping → Option Keeping
  run ss g = runs locals body.result ss g

  -- code that runs from what is held, whatever comes behind it
  pub record Runs (g : Keeping) (code : Plains → Plains) : Type 0 where
    pub now : Keeping
    pub goes : (rest : Plains) → run (code rest) g ≡ run rest now

  runs-none : (g : Keeping) → Runs g (λ rest. rest)
  runs-none g = record { now = g; goes = λ rest. refl }

  runs-by : (F G : Plains → Plains) (g : Keeping) → ((rest : Plains) → F rest ≡ G rest) → Runs g G → Runs g F
  runs-by F G g same p = record { now = p.now; goes = λ rest. ap (λ ss. run ss g) (same rest) ∙ p.goes rest }

  runs-then : (F G : Plains → Plains) (g : Keeping) (p : Runs g F) → Runs p.now G → Runs g (λ rest. F (G rest))
  runs-then F G g p q = record { now = q.now; goes = λ rest. p.goes (G rest) ∙ q.goes rest }

  pub runs-finished : (xs : List Local) (g : Keeping) → Runs g (finished xs)
  runs-finished [] g = runs-none g
  runs-finished (x ∷ xs) g =
      let q = runs-finished xs g in
      record { now = q.now; goes = λ rest. act-runs locals body.result g (plain.finish x.type x.number) no_value (finished xs rest) refl ∙ q.goes rest }

  then_rest : Plains → Option Keeping → Option Keeping
  then_rest rest o = elim o as (λ _. Option Keeping) [ None ↦ None | Some h ↦ after_all locals body.result rest h ]

  is-there : (o : Option Keeping) (h : Keeping) → o ≡ Some h → is_some o ≡ true
  is-there o h e = ap is_some e

  -- the value of a full expression
  valued : (f : Inside) (e : Core) → is_value e ≡ true → Serves (typing scope e) → (into : Option Destination) (n k : ℕ) (g : Keeping) → Stand locals k (added (nodes e))
      → Held locals body.result f.classes scope e into n k g
  valued f e ok s into n k g st = held-value locals body.result f.classes scope keeps e ok s into n k g st

  full-serves : (b c : Bool) (e : Core) → is_value e ≡ true → fits body b c (core.full e) ≡ true → Serves (typing scope e)
  full-serves b c core.blank ok is = never ok
  full-serves b c e ok is = expressions-serve (typing scope e) is

  -- the local of a temporary has a type of its own, the same but for const
  record HeldLocal (j : ℕ) (u : SourceType) : Type 0 where
    type : SourceType
    same : same_but_const type u ≡ true
    named : kept.named (slice_get locals j) ≡ Some (a_place type)

  held-local : (j : ℕ) (u : SourceType) → same_type (slice_get scope.locals j) u ≡ true → not (is_reference u) ≡ true → HeldLocal j u
  held-local j u same no_reference = by (slice_get scope.locals j) refl same
    where
      by : (o : Option SourceType) → slice_get scope.locals j ≡ o → same_type o u ≡ true → HeldLocal j u
      by None e same = never same
      by (Some v) e same = record { type = v; same = same; named = ap kept.named (keeps.kept j v e) ∙ names-place v (ap not (reference-same v u same) ∙ no_reference) }

  -- a reference's temporary: its place is in the register behind
  runs-held : (f : Inside) (i : ℕ) (t : SourceType) (e : Core) → is_held i e ≡ true → (typing scope e).start t ≡ true → (k : ℕ) (g : Keeping)
      → Stand locals k (added (nodes e)) → g 0 ≡ Some (an_object i t) → Runs g (started f.classes t e 0 k)
  runs-held f i t (core.bind (local_temporary j u) e) ok fit k g st at =
      let value_parts = both (not (is_reference u)) (is_value e) (both (nat_lt i j) (not (is_reference u) && is_value e) ok).1 in
      let is : is_value e ≡ true = value_parts.1 in
      let parts = bound-parts scope j u (typing scope e) t fit in
      let own = held-local j u parts.0 value_parts.0 in
      let n : Register = held_at e 0 in
      let x : Full = record { first = k; base = 1 } in
      let ts : List Temporary = temporaries false e k in
      let span : Span = record { low = 1; top = 1 + width e } in
      let c = flags-run locals body.result x ts g in
      let g1 : Keeping = keep c.now (suc n) (an_object j u) in
      let g2 : Keeping = keep g1 n (a_place own.type) in
      let p = keeps-value locals body.result span f.classes scope keeps e is (as_start u parts.1) x (destination (suc n) u) (suc (suc n)) k g2
      (full-room locals body.result e 1 k (suc (suc n)) (omega arith) st) in
      let flagged1 = flagged-set locals body.result e is 1 k (suc n) (an_object j u) c.now (omega arith) c.flagged in
      let flagged2 = flagged-set locals body.result e is 1 k n (a_place own.type) g1 (omega arith) flagged1 in
      let flagged = flagged-kept x false k (k + width e) g2 p.now ts (placing e is false k) (λ y from less. Stays.integer (p.below (flag x y) (omega (arith, from, less)))) flagged2 in
      let q = ends-run locals body.result e 1 k p.now flagged in
      let object : p.now (suc n) ≡ Some (an_object j u) =
      Stays.same (p.below (suc n) (omega arith)) (inr (omega arith)) ∙ keep-above g1 n (suc n) (a_place own.type) (omega arith) ∙ keep-at c.now (suc n) (an_object j u) in
      let place : p.now n ≡ Some (a_place own.type) = Stays.same (p.below n (omega arith)) (inr (omega arith)) ∙ keep-at g1 n (a_place own.type) in
      let first : p.now 0 ≡ Some (an_object i t) =
      Stays.same (p.below 0 (omega arith)) (inl (omega arith)) ∙ keep-below g1 n 0 (a_place own.type) (omega arith) ∙ keep-below c.now (suc n) 0 (an_object j u) (omega arith) ∙ c.below 0 (omega arith) ∙ at in
      record {
        now = q.now;
        goes = λ rest.
            let after : Plains = ended x (reverse ts) rest in
            let last : Plains = more (act (plain.first 0 n)) after in
            let inner : Plains = value f.classes x e (destination (suc n) u) (suc (suc n)) k (settled e (suc n) (suc (suc n)) last) in
            c.goes (more (set (suc n) (plain.declare j u)) (more (set n (plain.local j)) inner))
            ∙ set-runs locals body.result c.now (suc n) (plain.declare j u) (an_object j u) (more (set n (plain.local j)) inner) refl
            ∙ set-runs locals body.result g1 n (plain.local j) (a_place own.type) inner own.named
            ∙ p.goes (settled e (suc n) (suc (suc n)) last)
            ∙ ap (λ ss. run ss p.now) (settled-put e is (suc n) (suc (suc n)) last)
            ∙ act-runs locals body.result p.now (plain.first (suc n) (suc (suc n))) no_value last
            (ap (λ o. kept.begun o (p.now (suc (suc n)))) object ∙ ap (kept.begun (Some (an_object j u))) p.at ∙ ap (λ b. given b no_value) (p.related.start u parts.1))
            ∙ act-runs locals body.result p.now (plain.first 0 n) no_value after
            (ap (λ o. kept.begun o (p.now n)) first ∙ ap (kept.begun (Some (an_object i t))) place ∙ ap (λ b. given b no_value) (held-suits scope j u (typing scope e) t fit own.type own.same))
            ∙ q.goes rest;
      }
  runs-held f i t e ok fit k g st at = never ok

  runs-initial : (f : Inside) (i : ℕ) (t : SourceType) (e : Core) → (is_element t e || is_held i e) ≡ true → (typing scope e).start t ≡ true → (k : ℕ) (g : Keeping)
      → Stand locals k (added (nodes e)) → g 0 ≡ Some (an_object i t) → Runs g (started f.classes t e 0 k)
  runs-initial f i t e ok fit k g st at =
      either-true (is_element t e) (is_held i e) ok
      (λ element.
      let p = element-inits body locals keeps t e element fit f 0 k g st (object-takes i t (g 0) at) in
      record { now = RunsAt.now p; goes = RunsAt.goes p })
      (λ held. runs-held f i t e held fit k g st at)

  -- a condition, 1 or 0 in its register
  pub record Tested (f : Inside) (q : Core) (k : ℕ) (g : Keeping) : Type 0 where
    pub now : Keeping
    pub at : now (0 + width q) ≡ Some a_truth
    pub goes : (rest : Register → Plains) → run (whole q 0 k (λ x n rest. value f.classes x q None n k (more (set n (plain.truth n)) rest)) rest) g ≡ run (rest (0 + width q)) now

  test-runs : (f : Inside) (q : Core) → is_value q ≡ true → typed.is_condition (typing scope q) ≡ true → (k : ℕ) (g : Keeping) → Stand locals k (added (nodes q)) → Tested f q k g
  test-runs f q is ok k g st =
      let n : ℕ = 0 + width q in
      let x : Full = record { first = k; base = 0 } in
      let ts : List Temporary = temporaries false q k in
      let p = valued f q is (conditions-serve (typing scope q) ok) None 0 k g st in
      let g1 : Keeping = keep p.now n a_truth in
      let e = ends-run locals body.result q 0 k g1 (flagged-set locals body.result q is 0 k n a_truth p.now (omega arith) p.flagged) in
      record {
        now = e.now;
        at = e.same n ∙ keep-at p.now n a_truth;
        goes = λ rest.
            p.goes (more (set n (plain.truth n)) (ended x (reverse ts) (rest n)))
            ∙ set-runs locals body.result p.now n (plain.truth n) a_truth (ended x (reverse ts) (rest n)) (ap tested p.at ∙ conditions-kept (typing scope q) p.kept p.related ok)
            ∙ e.goes (rest n);
      }

  branch-runs : (g : Keeping) (n : Register) (ss ts : Plains) (h j : Keeping) → integer_in (g n) ≡ true → run ss g ≡ Some h → run ts g ≡ Some j → Runs g (λ rest. more (branch n ss ts) rest)
  branch-runs g n ss ts h j int first second = record { now = common h j; goes = branch-goes locals body.result g n ss ts h j int first second }

  loop-runs : (g : Keeping) (ss ts : Plains) (h j : Keeping) → run ss nothing_set ≡ Some h → run ts nothing_set ≡ Some j → Runs g (λ rest. more (loop ss ts) rest)
  unfolding then_rest
  loop-runs g ss ts h j first second = record {
    now = nothing_set;
    goes = λ rest.
        ap (λ b. then_rest rest (if b then Some nothing_set else None))
        (all_of (is_some (run ss nothing_set)) (is_some (run ts nothing_set)) (is-there (run ss nothing_set) h first) (is-there (run ts nothing_set) j second));
  }

  switch-goes : (g : Keeping) (n : Register) (ss : Plains) (h : Keeping) → integer_in (g n) ≡ true → run ss nothing_set ≡ Some h → (rest : Plains) → run (more (switch n ss) rest) g ≡ run rest (untouched g ss)
  unfolding then_rest
  switch-goes g n ss h int inner rest =
      ap (λ b. then_rest rest (if b then Some (untouched g ss) else None)) (all_of (integer_in (g n)) (is_some (run ss nothing_set)) int (is-there (run ss nothing_set) h inner))

  switch-runs : (g : Keeping) (n : Register) (ss : Plains) (h : Keeping) → integer_in (g n) ≡ true → run ss nothing_set ≡ Some h → Runs g (λ rest. more (switch n ss) rest)
  switch-runs g n ss h int inner = record { now = untouched g ss; goes = switch-goes g n ss h int inner }

  -- a loop is left where its condition doesn't hold
  held-runs : (f : Inside) (q : MaybeCore) → is_condition q ≡ true → condition_fits body q ≡ true → (k : ℕ) (g : Keeping) → Stand locals k (added (nodes_maybe q)) → Runs g (held f.classes q k)
  held-runs f absent ok is k g st = runs-none g
  held-runs f (some_core q) ok is k g st =
      let t = test-runs f q ok is k g st in
      let b = branch-runs t.now (0 + width q) nothing (more leave nothing) t.now t.now (ap integer_in t.at) refl refl in
      record { now = b.now; goes = λ rest. t.goes (λ n. more (branch n nothing (more leave nothing)) rest) ∙ b.goes rest }

  pub record Ends (g : Keeping) (code : Plains) : Type 0 where
    pub now : Keeping
    pub is : run code g ≡ Some now

  -- What a label passes is declared by the switch before, which sets no register.

  made-runs : (xs : List Local) (g : Keeping) (rest : Plains) → run (made xs rest) g ≡ run rest g
  made-runs [] g rest = refl
  made-runs (x ∷ xs) g rest = act-runs locals body.result g (plain.declare x.number x.type) (an_object x.number x.type) (made xs rest) refl ∙ made-runs xs g rest

  made-sets : (n : Register) (xs : List Local) (rest : Plains) → all_set n (made xs rest) ≡ all_set n rest
  made-sets n [] rest = refl
  made-sets n (x ∷ xs) rest = made-sets n xs rest

  passing-ends : (es : Cores) (m : ℕ) → are_cases m es ≡ true → (before : List Local) (g : Keeping) → Ends g (passing before es)
  passing-ends none m ok before g = record { now = g; is = refl }
  passing-ends (core.more (core.case_label y) es) m ok before g =
      let q = passing-ends es m ok before nothing_set in record { now = q.now; is = made-runs (reverse before) nothing_set (more leave (passing before es)) ∙ q.is }
  passing-ends (core.more core.default_label es) m ok before g =
      let q = passing-ends es m ok before nothing_set in record { now = q.now; is = made-runs (reverse before) nothing_set (more leave (passing before es)) ∙ q.is }
  passing-ends (core.more s es) m ok before g =
      let forms = both (is_statement m s) (are_cases (next_local m s) es) ok in
      let q = passing-ends es (next_local m s) forms.1 (declared s ++ before) g in
      record { now = q.now; is = ap (λ ss. run ss g) (passing-past m s forms.0 before es) ∙ q.is }

  passing-sets : (n : Register) (es : Cores) (m : ℕ) → are_cases m es ≡ true → (before : List Local) → all_set n (passing before es) ≡ false
  passing-sets n none m ok before = refl
  passing-sets n (core.more (core.case_label y) es) m ok before = made-sets n (reverse before) (more leave (passing before es)) ∙ passing-sets n es m ok before
  passing-sets n (core.more core.default_label es) m ok before = made-sets n (reverse before) (more leave (passing before es)) ∙ passing-sets n es m ok before
  passing-sets n (core.more s es) m ok before =
      let forms = both (is_statement m s) (are_cases (next_local m s) es) ok in
      ap (all_set n) (passing-past m s forms.0 before es) ∙ passing-sets n es (next_local m s) forms.1 (declared s ++ before)

  record Passes (g : Keeping) (n : Register) (es : Cores) : Type 0 where
    pub now : Keeping
    pub int : integer_in (now n) ≡ true
    pub goes : (rest : Plains) → run (passed n es rest) g ≡ run rest now

  passed-runs : (g : Keeping) (n : Register) (es : Cores) (m : ℕ) → are_cases m es ≡ true → integer_in (g n) ≡ true → Passes g n es
  passed-runs g n es m ok int = by (passes_local es) refl
    where
      by : (b : Bool) → passes_local es ≡ b → Passes g n es
      by true e =
          let q = passing-ends es m ok [] nothing_set in
          record {
            now = untouched g (passing [] es);
            int = ap (λ b. integer_in (if b then None else g n)) (passing-sets n es m ok []) ∙ int;
            goes = λ rest. ap (λ b. run (if b then more (switch n (passing [] es)) rest else rest) g) e ∙ switch-goes g n (passing [] es) q.now int q.is rest;
          }
      by false e = record { now = g; int = int; goes = λ rest. ap (λ b. run (if b then more (switch n (passing [] es)) rest else rest) g) e }

  stepped-ends : (f : Inside) (q : MaybeCore) → is_condition q ≡ true → expression_fits body q ≡ true → (k : ℕ) (g : Keeping) → Stand locals k (added (nodes_maybe q)) → Ends g (stepped f.classes q k)
  stepped-ends f absent ok is k g st = record { now = g; is = refl }
  stepped-ends f (some_core e) ok is k g st =
      let x : Full = record { first = k; base = 0 } in
      let p = valued f e ok (expressions-serve (typing scope e) is) None 0 k g st in
      let q = ends-run locals body.result e 0 k p.now p.flagged in
      record { now = q.now; is = p.goes (ended x (reverse (temporaries false e k)) nothing) ∙ q.goes nothing }

  width-maybe : (q : MaybeCore) → length (added (nodes_maybe q)) ≡ width_maybe q
  width-maybe absent = refl
  width-maybe (some_core e) = refl

  loop-ends : (how : LoopForm) (f : Inside) (q e : MaybeCore) (s : Core) → is_condition q ≡ true → is_condition e ≡ true → condition_fits body q ≡ true → expression_fits body e ≡ true
      → ((k : ℕ) (g : Keeping) → Stand locals k (added (nodes s)) → Runs g (statement (in_loop f) s k)) → (k : ℕ) (g : Keeping) → Stand locals k (added (nodes_maybe q ++ nodes_maybe e ++ nodes s))
      → Runs g (statement f (core.loop how q e s) k)
  loop-ends how f q e s test next tested_fits next_fits turned k g l =
      let code : Plains = statement (in_loop f) s (k + width_maybe q + width_maybe e) (finished (declared s) nothing) in
      let begin = stand-left locals k (nodes_maybe q ++ nodes_maybe e) (nodes s) l in
      let first_stand = stand-left locals k (nodes_maybe q) (nodes_maybe e) begin in
      let second_stand : Stand locals (k + width_maybe q) (added (nodes_maybe e)) =
      subst (λ n. Stand locals (k + n) (added (nodes_maybe e))) (width-maybe q) (stand-right locals k (nodes_maybe q) (nodes_maybe e) begin) in
      let third_stand : Stand locals (k + width_maybe q + width_maybe e) (added (nodes s)) =
      subst (λ n. Stand locals (k + width_maybe q + n) (added (nodes s))) (width-maybe e)
      (subst (λ n. Stand locals (k + n + length (added (nodes_maybe e))) (added (nodes s))) (width-maybe q) (stand-third locals k (nodes_maybe q) (nodes_maybe e) (nodes s) l)) in
      let inner : (g : Keeping) → Ends g code = λ g.
      let b = turned (k + width_maybe q + width_maybe e) g third_stand in
      let c = runs-finished (declared s) b.now in
      record { now = c.now; is = b.goes (finished (declared s) nothing) ∙ c.goes nothing } in
      let h = held-runs f q test tested_fits k nothing_set first_stand in
      let first = inner h.now in
      let plain_first = inner nothing_set in
      let later = stepped-ends f e next next_fits (k + width_maybe q) nothing_set second_stand in
      by how (loop-runs g (held f.classes q k code) (stepped f.classes e (k + width_maybe q)) first.now later.now (h.goes code ∙ first.is) later.is)
      (loop-runs g code (held f.classes q k nothing) plain_first.now h.now plain_first.is (h.goes nothing))
    where
      by : (how : LoopForm) → Runs g (looping f.classes q e k (statement (in_loop f) s (k + width_maybe q + width_maybe e) (finished (declared s) nothing)))
          → Runs g (λ rest. more (loop (statement (in_loop f) s (k + width_maybe q + width_maybe e) (finished (declared s) nothing)) (held f.classes q k nothing)) rest)
          → Runs g (statement f (core.loop how q e s) k)
      by form.While p q = p
      by form.For p q = p
      by form.Do p q = q

  keeps-registers : (xs : List Local) (g : Keeping) → (runs-finished xs g).now ≡ g
  unfolding runs-finished runs-none
  keeps-registers [] g = refl
  keeps-registers (x ∷ xs) g = keeps-registers xs g

  returned-runs : (f : Inside) → is_class f.result ≡ false → (e : Core) → is_value e ≡ true → (typing scope e).start body.result ≡ true → (k : ℕ) (g : Keeping) → Stand locals k (added (nodes e))
      → Runs g (statement f (core.give (some_core e)) k)
  returned-runs f scalar_result e is ok k g st =
      let n : ℕ = 0 + width e in
      let x : Full = record { first = k; base = 0 } in
      let ts : List Temporary = temporaries false e k in
      let p = valued f e is (as_start body.result ok) None 0 k g st in
      let d = ends-run locals body.result e 0 k p.now p.flagged in
      let by_value : Plains → Plains = λ rest.
      whole e 0 k (λ x n rest. value f.classes x e None n k (used n rest)) (λ n. finished (f.here ++ f.returns) (more (give (Some n)) rest)) in
      let in_place : Plains → Plains = λ rest.
      more (set 0 plain.result) (started f.classes f.result e 0 k (finished (f.here ++ f.returns) (more (give None) rest))) in
      let t = scalar-tested body.result p.kept (p.related.scalar body.result ok) (p.related.start body.result ok) in
      let c = runs-finished (f.here ++ f.returns) d.now in
      let same = keeps-registers (f.here ++ f.returns) d.now in
      record {
        now = c.now;
        goes = λ rest.
            let gone : Plains = finished (f.here ++ f.returns) (more (give (Some n)) rest) in
            ap (λ b. run (if b then in_place rest else by_value rest) g) scalar_result
            ∙ p.goes (used n (ended x (reverse ts) gone))
            ∙ act-runs locals body.result p.now (plain.truth n) a_truth (ended x (reverse ts) gone) (ap tested p.at ∙ t)
            ∙ d.goes gone
            ∙ c.goes (more (give (Some n)) rest)
            ∙ ap (λ b. elim (if b then Some c.now else None) as (λ _. Option Keeping) [ None ↦ None | Some h ↦ run rest h ])
            (ap (λ g. kept.returned locals body.result (g n)) same ∙ ap (kept.returned locals body.result) (d.same n ∙ p.at) ∙ p.related.start body.result ok);
      }

  mutual
    pub runs-statement : (s : Core) (m : ℕ) (b c : Bool) → is_statement m s ≡ true → fits body b c s ≡ true → (f : Inside) → is_class f.result ≡ false → (k : ℕ) (g : Keeping) → Stand locals k (added (nodes s))
        → Runs g (statement f s k)
    runs-statement (core.full e) m b c ok is f sr k g l =
        either-true (is_nothing e) (is_value e) ok
        (λ blank. runs-by (statement f (core.full e) k) (λ rest. rest) g (λ rest. ap (λ e. statement f (core.full e) k rest) (nothing-is e blank)) (runs-none g))
        (λ v.
        let p = valued f e v (full-serves b c e v is) None 0 k g l in
        let q = ends-run locals body.result e 0 k p.now p.flagged in
        record { now = q.now; goes = λ rest. p.goes (ended (record { first = k; base = 0 }) (reverse (temporaries false e k)) rest) ∙ q.goes rest })
    runs-statement (core.block es) m b c ok is f sr k g l =
        let q = runs-statements es m b c ok is (opened f) sr k g l in
        runs-then (statements (opened f) es k) (finished (declared_all es)) g q (runs-finished (declared_all es) q.now)
    runs-statement (core.sequence es) m b c ok is f sr k g l = runs-statements es m b c ok is f sr k g l
    runs-statement (core.declare i t e) m b c ok is f sr k g l =
        let start = (both (nat_le m i) (is_element t e || is_held i e) ok).1 in
        let parts = both (nat_le body.parameters i && same_type (slice_get scope.locals i) t && is_complete scope.classes t) ((typing scope e).start t) is in
        let first : Keeping = keep g 0 (an_object i t) in
        let q = runs-initial f i t e start parts.1 k first l (keep-at g 0 (an_object i t)) in
        record { now = q.now; goes = λ rest. set-runs locals body.result g 0 (plain.declare i t) (an_object i t) (started f.classes t e 0 k rest) refl ∙ q.goes rest }
    runs-statement (core.branch q a o) m b c ok is f sr k g l =
        let forms = both (is_value q) (is_statement m a && is_statement_or (next_local m a) o) ok in
        let arms = both (is_statement m a) (is_statement_or (next_local m a) o) forms.1 in
        let parts = both (typed.is_condition (typing scope q) && fits body b c a) (fits_maybe body b c o) is in
        let tests = both (typed.is_condition (typing scope q)) (fits body b c a) parts.0 in
        let begin = stand-left locals k (nodes q ++ nodes a) (nodes_maybe o) l in
        let t = test-runs f q forms.0 tests.0 k g (stand-left locals k (nodes q) (nodes a) begin) in
        let left = runs-statement a m b c arms.0 tests.1 f sr (k + width q) t.now (stand-right locals k (nodes q) (nodes a) begin) in
        let right = runs-or o (next_local m a) b c arms.1 parts.1 f sr (k + width q + width a) t.now (stand-third locals k (nodes q) (nodes a) (nodes_maybe o) l) in
        let left_code : Plains = statement f a (k + width q) nothing in
        let right_code : Plains = statement_or f o (k + width q + width a) nothing in
        let w = branch-runs t.now (0 + width q) left_code right_code left.now right.now (ap integer_in t.at) (left.goes nothing) (right.goes nothing) in
        record { now = w.now; goes = λ rest. t.goes (λ n. more (branch n left_code right_code) rest) ∙ w.goes rest }
    runs-statement (core.loop how q e s) m b c ok is f sr k g l =
        let forms = both (is_condition q) (is_condition e && is_statement m s) ok in
        let inner = both (is_condition e) (is_statement m s) forms.1 in
        let parts = both (condition_fits body q && expression_fits body e) (fits body true true s) is in
        let tests = both (condition_fits body q) (expression_fits body e) parts.0 in
        loop-ends how f q e s forms.0 inner.0 tests.0 tests.1 (λ k g l. runs-statement s m true true inner.1 parts.1 (in_loop f) sr k g l) k g l
    runs-statement (core.switch e es) m b c ok is f sr k g l =
        let forms = both (is_value e) (are_cases m es) ok in
        let parts = both (is_integer (typing scope e) && valid.labels_differ es && passes_none es) (labelled_fit body true c es) is in
        let tests = both (is_integer (typing scope e) && valid.labels_differ es) (passes_none es) parts.0 in
        let int = (both (is_integer (typing scope e)) (valid.labels_differ es) tests.0).0 in
        let n : ℕ = 0 + width e in
        let x : Full = record { first = k; base = 0 } in
        let ts : List Temporary = temporaries false e k in
        let row = stand-right locals k (nodes e) (nodes_all es) l in
        let p = valued f e forms.0 (integers-serve (typing scope e) int) None 0 k g (stand-left locals k (nodes e) (nodes_all es) l) in
        let d = ends-run locals body.result e 0 k p.now p.flagged in
        let held_int = integers-kept (typing scope e) p.kept p.related int in
        let inner = runs-cases es m c forms.1 parts.1 (in_switch f) sr (k + width e) nothing_set row in
        let finish = runs-finished (declared_all es) inner.now in
        let code : Plains = statements (in_switch f) es (k + width e) (finished (declared_all es) nothing) in
        let q = passed-runs d.now n es m forms.1 (ap integer_in (d.same n ∙ p.at) ∙ held_int) in
        let w = switch-runs q.now n code finish.now q.int (inner.goes (finished (declared_all es) nothing) ∙ finish.goes nothing) in
        record {
          now = w.now;
          goes = λ rest.
              let chosen : Plains = passed n es (more (switch n code) rest) in
              p.goes (used n (ended x (reverse ts) chosen))
              ∙ act-runs locals body.result p.now (plain.truth n) a_truth (ended x (reverse ts) chosen) (ap tested p.at ∙ integer-tested p.kept held_int)
              ∙ d.goes chosen ∙ q.goes (more (switch n code) rest) ∙ w.goes rest;
        }
    runs-statement core.leave m b c ok is f sr k g l =
        let q = runs-finished (f.here ++ f.breaks) g in record { now = q.now; goes = λ rest. q.goes (more leave rest) }
    runs-statement core.continue m b c ok is f sr k g l =
        let q = runs-finished (f.here ++ f.continues) g in record { now = q.now; goes = λ rest. q.goes (more continue rest) }
    runs-statement (core.give absent) m b c ok is f sr k g l =
        let q = runs-finished (f.here ++ f.returns) g in record { now = q.now; goes = λ rest. q.goes (more (give None) rest) }
    runs-statement (core.give (some_core e)) m b c ok is f sr k g l = returned-runs f sr e ok is k g l
    runs-statement s m b c ok is f sr k g l = never ok

    runs-or : (o : MaybeCore) (m : ℕ) (b c : Bool) → is_statement_or m o ≡ true → fits_maybe body b c o ≡ true → (f : Inside) → is_class f.result ≡ false → (k : ℕ) (g : Keeping) → Stand locals k (added (nodes_maybe o))
        → Runs g (statement_or f o k)
    runs-or absent m b c ok is f sr k g l = runs-none g
    runs-or (some_core s) m b c ok is f sr k g l = runs-statement s m b c ok is f sr k g l

    runs-statements : (es : Cores) (m : ℕ) (b c : Bool) → are_statements m es ≡ true → all_fit body b c es ≡ true → (f : Inside) → is_class f.result ≡ false → (k : ℕ) (g : Keeping) → Stand locals k (added (nodes_all es))
        → Runs g (statements f es k)
    runs-statements none m b c ok is f sr k g l = runs-none g
    runs-statements (core.more s es) m b c ok is f sr k g l =
        let forms = both (is_statement m s) (are_statements (next_local m s) es) ok in
        let parts = both (fits body b c s) (all_fit body b c es) is in
        let p = runs-statement s m b c forms.0 parts.0 f sr k g (stand-left locals k (nodes s) (nodes_all es) l) in
        runs-then (statement f s k) (statements (declares (declared s) f) es (k + width s)) g p (runs-statements es (next_local m s) b c forms.1 parts.1 (declares (declared s) f) sr (k + width s) p.now (stand-right locals k (nodes s) (nodes_all es) l))

    runs-cases : (es : Cores) (m : ℕ) (c : Bool) → are_cases m es ≡ true → labelled_fit body true c es ≡ true → (f : Inside) → is_class f.result ≡ false → (k : ℕ) (g : Keeping) → Stand locals k (added (nodes_all es))
        → Runs g (statements f es k)
    runs-cases none m c ok is f sr k g l = runs-none g
    runs-cases (core.more (core.case_label y) es) m c ok is f sr k g l =
        let q = runs-cases es m c ok is f sr (k + 0) nothing_set (stand-right locals k [] (nodes_all es) l) in record { now = q.now; goes = λ rest. q.goes rest }
    runs-cases (core.more core.default_label es) m c ok is f sr k g l =
        let q = runs-cases es m c ok is f sr (k + 0) nothing_set (stand-right locals k [] (nodes_all es) l) in record { now = q.now; goes = λ rest. q.goes rest }
    runs-cases (core.more s es) m c ok is f sr k g l =
        let forms = both (is_statement m s) (are_cases (next_local m s) es) ok in
        let parts = both (fits body true c s) (labelled_fit body true c es) is in
        let p = runs-statement s m true c forms.0 parts.0 f sr k g (stand-left locals k (nodes s) (nodes_all es) l) in
        runs-then (statement f s k) (statements (declares (declared s) f) es (k + width s)) g p (runs-cases es (next_local m s) c forms.1 parts.1 (declares (declared s) f) sr (k + width s) p.now (stand-right locals k (nodes s) (nodes_all es) l))
