-- Statements: their plain statements are ready for lowering.
use Rattle.std.proofs.Common.{◌≡◌, ℕ, suc, ◌+◌, Bool, true, false, ◌&&◌, ◌||◌, not, nat_le, nat_lt, if◌then◌else◌, List, [], ◌++◌, length, reverse, refl, sym, ap, ◌∙◌, subst, arith}
use Rattle.std.specs.Prelude.{Option, Some, None, slice_get}
use Rattle.cf_base.proofs.Tests.{both}
use Rattle.cf_core.specs.declared.operators.LoopForm.{LoopForm}
use Rattle.cf_core.specs.declared.operators.LoopForm.TheVariants as form
use Rattle.cf_core.specs.Types.{SourceType, is_class}
use Rattle.cf_core.specs.Core as core
use Rattle.cf_core.specs.Core.{Core, Cores, MaybeCore, local_temporary, none, absent, given}
use Rattle.cf_core.specs.Joined.{is_nothing}
use Rattle.cf_core.specs.Nodes.{nodes, nodes_all, nodes_maybe}
use Rattle.cf_core.specs.Places.{is_reference}
use Rattle.cf_core.specs.Typing.{Scope, is_integer, same_type}
use Rattle.cf_core.specs.Typing as typed
use Rattle.cf_core.specs.Typed.{typing}
use Rattle.cf_core.specs.Valid as valid
use Rattle.cf_core.specs.Valid.{Body, is_complete, fits, all_fit, fits_maybe, labelled_fit, condition_fits, expression_fits, passes_none}
use Rattle.cf_plain.specs.Plain.{Register, Plains, act, set, branch, loop, switch, case_label, default_label, leave, continue, give, nothing, more}
use Rattle.cf_plain.specs.Plain as plain
use Rattle.cf_plain_kept.specs.Kept.{Keeping, keep, an_object}
use Rattle.cf_lower_kept.specs.Ready.{names_well, names_well_if, is_the_type}
use Rattle.cf_sequence.specs.Built.{is_value, is_element, is_held, is_condition, is_statement, is_statement_or, are_cases, are_statements, next_local}
use Rattle.cf_sequence.specs.Made.{Local, Temporary, temporaries, added, width, width_maybe, declared, declared_maybe, declared_all, held_by}
use Rattle.cf_sequence.specs.Expressions.{Full, destination, value, whole, flags, ended, finished, settled, used}
use Rattle.cf_sequence.specs.Statements.{Inside, declares, opened, in_loop, in_switch, held, stepped, started, made, passing, passes_local, passed, looping, statement, statement_or, statements}
use Rattle.cf_sequence.proofs.Calling.{never, or-else}
use Rattle.cf_sequence.proofs.Filling.{element-holds}
use Rattle.cf_sequence.proofs.Fulls.{nothing-is, held_at}
use Rattle.cf_sequence.proofs.Labels.{passing-past}
use Rattle.cf_sequence_kept.proofs.Fulls.{full-room}
use Rattle.cf_sequence_kept.proofs.Spans.{Span}
use Rattle.cf_sequence_kept.proofs.Values.{keep-at}
use Rattle.cf_sequence_valid.proofs.Serves.{Serves, as_start, bound-parts, integers-serve, conditions-serve, expressions-serve}
use Rattle.cf_sequence_valid.proofs.Stands.{Stand, stand-left, stand-right, stand-third}
use Rattle.cf_sequence_valid.proofs.Values as locals_of
use Rattle.cf_sequence_lowered.specs.Ready.{node_is_ready, row_is_ready}
use Rattle.cf_sequence_lowered.proofs.Each.{Each, each-two, each-left, each-right, each-reversed}
use Rattle.cf_sequence_lowered.proofs.ReadyInitials.{run-whole}
use Rattle.cf_sequence_lowered.proofs.ReadyLists.{Begun, object-begun, element-ready}
use Rattle.cf_sequence_lowered.proofs.ReadySteps.{run, Lucky, Runs, Alone, Exact, alone, before, runs-none, runs-then, runs-by, runs-step, runs-act, runs-set, runs-branch, runs-loop, runs-switch, runs-used, runs-settled, runs-finished, runs-made, runs-flags, runs-ended}
use Rattle.cf_sequence_lowered.proofs.ReadyValues.{run-value}

module _ (body : Body) (locals : List SourceType) (keeps : locals_of.Kept body.scope locals) (named : (i : ℕ) → names_well_if (slice_get locals i) ≡ true) where
  abbrev scope : Scope
  scope = body.scope

  abbrev Ready : Core → Type 0
  Ready e = node_is_ready body.scope e ≡ true

  abbrev RunsHere : (Plains → Plains) → Type 0
  RunsHere F = Runs locals body.result F

  abbrev Owns : List Local → Type 0
  Owns xs = Each (Exact locals body.result) xs

  chain : (F G : Plains → Plains) → RunsHere F → RunsHere G → RunsHere (λ rest. F (G rest))
  chain F G p q = runs-then locals body.result F G p q

  record Starts (i : ℕ) (t : SourceType) (e : Core) : Type 0 where
    owns : Owns (held_by e)
    code : (f : Inside) (k : ℕ) → Stand locals k (added (nodes e)) → (g i : Keeping) (rest : Plains) → Begun t (g 0) → run locals body.result (started f.classes t e 0 k rest) g ≡ Some i
        → Lucky locals body.result (started f.classes t e 0 k) g

  -- a local has just the type that it has in the core
  exact : (i : ℕ) (t : SourceType) → is_the_type (slice_get scope.locals i) t ≡ true → is_the_type (slice_get locals i) t ≡ true
  exact i t ok = by (slice_get scope.locals i) refl ok
    where
      by : (o : Option SourceType) → slice_get scope.locals i ≡ o → is_the_type o t ≡ true → is_the_type (slice_get locals i) t ≡ true
      by None e ok = never ok
      by (Some v) e ok = ap (λ o. is_the_type o t) (keeps.kept i v e) ∙ ok

  starts-held : (i : ℕ) (t : SourceType) (e : Core) → is_held i e ≡ true → (typing scope e).start t ≡ true → Each Ready (nodes e) → Starts i t e
  starts-held i t (core.bind (local_temporary j v) e) ok fit u =
      let is : is_value e ≡ true = (both (not (is_reference v)) (is_value e) (both (nat_lt i j) (not (is_reference v) && is_value e) ok).1).1 in
      let parts = bound-parts scope j v (typing scope e) t fit in
      let own : is_the_type (slice_get locals j) v ≡ true = exact j v (both (is_the_type (slice_get scope.locals j) v) (names_well v) u.0).0 in
      let n : Register = held_at e 0 in
      record {
        owns = (own, tt);
        code = λ f k st g i rest begun success.
            let x : Full = record { first = k; base = 1 } in
            let ts : List Temporary = temporaries false e k in
            let span : Span = record { low = 1; top = 1 + width e } in
            let last : Plains → Plains = λ rest. more (act (plain.first 0 n)) (ended x (reverse ts) rest) in
            let inside : Plains → Plains = λ rest. value f.classes x e (destination (suc n) v) (suc (suc n)) k (settled e (suc n) (suc (suc n)) (last rest)) in
            let placed : Plains → Plains = λ rest. more (set n (plain.local j)) (inside rest) in
            (chain (flags x ts) (λ rest. more (set (suc n) (plain.declare j v)) (placed rest)) (runs-flags locals body.result x ts)
            (chain (λ rest. more (set (suc n) (plain.declare j v)) rest) placed (runs-set locals body.result (suc n) (plain.declare j v) (λ g. own))
            (chain (λ rest. more (set n (plain.local j)) rest) inside (runs-set locals body.result n (plain.local j) (λ g. named j))
            (chain (value f.classes x e (destination (suc n) v) (suc (suc n)) k) (λ rest. settled e (suc n) (suc (suc n)) (last rest))
            (run-value locals body.result span f.classes scope keeps named e is (as_start v parts.1) u.1 x (destination (suc n) v) (suc (suc n)) k
            (full-room locals body.result e 1 k (suc (suc n)) (omega arith) st))
            (chain (settled e (suc n) (suc (suc n))) last (runs-settled locals body.result e (suc n) (suc (suc n)))
            (chain (λ rest. more (act (plain.first 0 n)) rest) (ended x (reverse ts)) (runs-act locals body.result (plain.first 0 n) (λ g. refl)) (runs-ended locals body.result x (reverse ts)))))))) g i rest success;
      }
  starts-held i t e ok fit u = never ok

  starts-well : (i : ℕ) (t : SourceType) (e : Core) → (is_element t e || is_held i e) ≡ true → (typing scope e).start t ≡ true → row_is_ready t e ≡ true → Each Ready (nodes e) → Starts i t e
  starts-well i t e ok fit good u =
      or-else (is_element t e) (is_held i e) ok
      (λ element. record {
        owns = subst Owns (sym (element-holds t e element)) tt;
        code = λ f k st g i rest begun success. element-ready body locals keeps named t e element fit good u f 0 k g i rest st begun success;
      })
      (λ held. starts-held i t e held fit u)

  -- ---- parts of statements

  run-truth : (m : Register) → RunsHere (λ rest. more (set m (plain.truth m)) rest)
  run-truth m = runs-set locals body.result m (plain.truth m) (λ g. refl)

  run-leave : RunsHere (λ rest. more leave rest)
  run-leave = runs-step locals body.result leave (λ g h e. tt)

  full-serves : (b c : Bool) (e : Core) → is_value e ≡ true → fits body b c (core.full e) ≡ true → Serves (typing scope e)
  full-serves b c core.blank ok is = never ok
  full-serves b c e ok is = expressions-serve (typing scope e) is

  alone-leave : Alone locals body.result (more leave nothing)
  alone-leave = alone locals body.result (λ rest. more leave rest) run-leave

  run-held : (f : Inside) (q : MaybeCore) → is_condition q ≡ true → condition_fits body q ≡ true → Each Ready (nodes_maybe q) → (k : ℕ) → Stand locals k (added (nodes_maybe q))
      → RunsHere (held f.classes q k)
  run-held f absent ok is u k st = runs-none locals body.result
  run-held f (given q) ok is u k st =
      run-whole body locals keeps named f q ok (conditions-serve (typing scope q) is) u 0 k st (λ m rest. more (set m (plain.truth m)) rest) (λ m rest. more (branch m nothing (more leave nothing)) rest) run-truth
      (λ m. runs-branch locals body.result m nothing (more leave nothing) (λ g i e. tt) alone-leave) None

  alone-stepped : (f : Inside) (q : MaybeCore) → is_condition q ≡ true → expression_fits body q ≡ true → Each Ready (nodes_maybe q) → (k : ℕ) → Stand locals k (added (nodes_maybe q))
      → Alone locals body.result (stepped f.classes q k)
  alone-stepped f absent ok is u k st = λ g i e. tt
  alone-stepped f (given q) ok is u k st =
      alone locals body.result (λ last. whole q 0 k (λ x m rest. value f.classes x q None m k rest) (λ m. last))
      (run-whole body locals keeps named f q ok (expressions-serve (typing scope q) is) u 0 k st (λ m rest. rest) (λ m rest. rest) (λ m. runs-none locals body.result) (λ m. runs-none locals body.result) None)

  -- what labels pass
  run-label : (xs : List Local) → Owns xs → RunsHere (λ rest. made (reverse xs) (more leave rest))
  run-label xs u = chain (made (reverse xs)) (λ rest. more leave rest) (runs-made locals body.result (reverse xs) (each-reversed (Exact locals body.result) xs u)) run-leave

  alone-passing : (es : Cores) (m : ℕ) → are_cases m es ≡ true → Owns (declared_all es) → (earlier : List Local) → Owns earlier → Alone locals body.result (passing earlier es)
  alone-passing none m ok all earlier owns = λ g i e. tt
  alone-passing (core.more (core.case_label y) es) m ok all earlier owns =
      before locals body.result (λ rest. more (case_label y) (made (reverse earlier) (more leave rest))) (passing earlier es)
      (chain (λ rest. more (case_label y) rest) (λ rest. made (reverse earlier) (more leave rest)) (runs-step locals body.result (case_label y) (λ g h e. tt)) (run-label earlier owns))
      (alone-passing es m ok (each-left (Exact locals body.result) (declared_all es) [] all) earlier owns)
  alone-passing (core.more core.default_label es) m ok all earlier owns =
      before locals body.result (λ rest. more default_label (made (reverse earlier) (more leave rest))) (passing earlier es)
      (chain (λ rest. more default_label rest) (λ rest. made (reverse earlier) (more leave rest)) (runs-step locals body.result default_label (λ g h e. tt)) (run-label earlier owns))
      (alone-passing es m ok (each-left (Exact locals body.result) (declared_all es) [] all) earlier owns)
  alone-passing (core.more s es) m ok all earlier owns =
      let parts = both (is_statement m s) (are_cases (next_local m s) es) ok in
      subst (Alone locals body.result) (sym (passing-past m s parts.0 earlier es))
      (alone-passing es (next_local m s) parts.1 (each-left (Exact locals body.result) (declared_all es) (declared s) all) (declared s ++ earlier)
      (each-two (Exact locals body.result) (declared s) earlier (each-right (Exact locals body.result) (declared_all es) (declared s) all) owns))

  run-passed : (n : Register) (es : Cores) (m : ℕ) → are_cases m es ≡ true → Owns (declared_all es) → RunsHere (passed n es)
  run-passed n es m ok all = by (passes_local es)
    where
      by : (t : Bool) → RunsHere (λ rest. if t then more (switch n (passing [] es)) rest else rest)
      by true = runs-switch locals body.result n (passing [] es) (alone-passing es m ok all [] tt)
      by false = runs-none locals body.result

  -- ---- statements

  pub record Works (s : Core) : Type 0 where
    pub owns : Each (Exact locals body.result) (declared s)
    pub code : (f : Inside) → is_class f.result ≡ false → (k : ℕ) → Stand locals k (added (nodes s)) → RunsHere (statement f s k)

  record AllWork (es : Cores) : Type 0 where
    owns : Owns (declared_all es)
    code : (f : Inside) → is_class f.result ≡ false → (k : ℕ) → Stand locals k (added (nodes_all es)) → RunsHere (statements f es k)

  record MaybeWorks (o : MaybeCore) : Type 0 where
    owns : Owns (declared_maybe o)
    code : (f : Inside) → is_class f.result ≡ false → (k : ℕ) → Stand locals k (added (nodes_maybe o)) → RunsHere (statement_or f o k)

  leaving : (xs : List Local) (last : Plains → Plains) → RunsHere last → RunsHere (λ rest. finished xs (last rest))
  leaving xs last p = chain (finished xs) last (runs-finished locals body.result xs) p

  returned : (e : Core) → is_value e ≡ true → (typing scope e).start body.result ≡ true → Each Ready (nodes e) → (f : Inside) → is_class f.result ≡ false → (k : ℕ)
      → Stand locals k (added (nodes e)) → RunsHere (statement f (core.give (given e)) k)
  returned e is fit u f scalar k st =
      let by_value : Plains → Plains = λ rest.
      whole e 0 k (λ x n rest. value f.classes x e None n k (used n rest)) (λ n. finished (f.here ++ f.returns) (more (give (Some n)) rest)) in
      let in_place : Plains → Plains = λ rest.
      more (set 0 plain.result) (started f.classes f.result e 0 k (finished (f.here ++ f.returns) (more (give None) rest))) in
      runs-by locals body.result (statement f (core.give (given e)) k) by_value (λ rest. ap (λ t. if t then in_place rest else by_value rest) scalar)
      (run-whole body locals keeps named f e is (as_start body.result fit) u 0 k st (λ n rest. used n rest) (λ n rest. finished (f.here ++ f.returns) (more (give (Some n)) rest)) (λ n. runs-used locals body.result n)
      (λ n. leaving (f.here ++ f.returns) (λ rest. more (give (Some n)) rest) (runs-step locals body.result (give (Some n)) (λ g h e. tt))) None)

  width-maybe : (q : MaybeCore) → length (added (nodes_maybe q)) ≡ width_maybe q
  width-maybe absent = refl
  width-maybe (given e) = refl

  loop-run : (how : LoopForm) (q e : MaybeCore) (s : Core) → is_condition q ≡ true → is_condition e ≡ true → condition_fits body q ≡ true → expression_fits body e ≡ true
      → Each Ready (nodes_maybe q) → Each Ready (nodes_maybe e) → Works s → (f : Inside) → is_class f.result ≡ false → (k : ℕ)
      → Stand locals k (added (nodes_maybe q ++ nodes_maybe e ++ nodes s)) → RunsHere (statement f (core.loop how q e s) k)
  loop-run how q e s test next tested nexted uq ue work f scalar k l =
      let begin = stand-left locals k (nodes_maybe q ++ nodes_maybe e) (nodes s) l in
      let second : Stand locals (k + width_maybe q) (added (nodes_maybe e)) =
      subst (λ n. Stand locals (k + n) (added (nodes_maybe e))) (width-maybe q) (stand-right locals k (nodes_maybe q) (nodes_maybe e) begin) in
      let third : Stand locals (k + width_maybe q + width_maybe e) (added (nodes s)) =
      subst (λ n. Stand locals (k + width_maybe q + n) (added (nodes s))) (width-maybe e)
      (subst (λ n. Stand locals (k + n + length (added (nodes_maybe e))) (added (nodes s))) (width-maybe q) (stand-third locals k (nodes_maybe q) (nodes_maybe e) (nodes s) l)) in
      let code : Plains = statement (in_loop f) s (k + width_maybe q + width_maybe e) (finished (declared s) nothing) in
      let inner : Alone locals body.result code =
      alone locals body.result (λ rest. statement (in_loop f) s (k + width_maybe q + width_maybe e) (finished (declared s) rest))
      (chain (statement (in_loop f) s (k + width_maybe q + width_maybe e)) (finished (declared s)) (Works.code work (in_loop f) scalar (k + width_maybe q + width_maybe e) third)
      (runs-finished locals body.result (declared s))) in
      let condition = run-held f q test tested uq k (stand-left locals k (nodes_maybe q) (nodes_maybe e) begin) in
      by how
      (runs-loop locals body.result (held f.classes q k code) (stepped f.classes e (k + width_maybe q)) (before locals body.result (held f.classes q k) code condition inner)
      (alone-stepped f e next nexted ue (k + width_maybe q) second))
      (runs-loop locals body.result code (held f.classes q k nothing) inner (alone locals body.result (held f.classes q k) condition))
    where
      by : (how : LoopForm) → RunsHere (looping f.classes q e k (statement (in_loop f) s (k + width_maybe q + width_maybe e) (finished (declared s) nothing)))
          → RunsHere (λ rest. more (loop (statement (in_loop f) s (k + width_maybe q + width_maybe e) (finished (declared s) nothing)) (held f.classes q k nothing)) rest)
          → RunsHere (statement f (core.loop how q e s) k)
      by form.While p q = p
      by form.For p q = p
      by form.Do p q = q

  row-of : (s : Core) (es : Cores) → Works s → AllWork es → AllWork (core.more s es)
  row-of s es one others = record {
    owns = each-two (Exact locals body.result) (declared_all es) (declared s) (AllWork.owns others) (Works.owns one);
    code = λ f scalar k l.
        chain (statement f s k) (statements (declares (declared s) f) es (k + width s)) (Works.code one f scalar k (stand-left locals k (nodes s) (nodes_all es) l))
        (AllWork.code others (declares (declared s) f) scalar (k + width s) (stand-right locals k (nodes s) (nodes_all es) l));
  }

  mutual
    pub run-statement : (s : Core) (m : ℕ) (b c : Bool) → is_statement m s ≡ true → fits body b c s ≡ true → Each Ready (nodes s) → Works s
    run-statement (core.full e) m b c ok is u = record {
      owns = tt;
      code = λ f scalar k l.
          or-else (is_nothing e) (is_value e) ok
          (λ blank. runs-by locals body.result (statement f (core.full e) k) (λ rest. rest) (λ rest. ap (λ e. statement f (core.full e) k rest) (nothing-is e blank)) (runs-none locals body.result))
          (λ v. run-whole body locals keeps named f e v (full-serves b c e v is) u.1 0 k l (λ m rest. rest) (λ m rest. rest) (λ m. runs-none locals body.result) (λ m. runs-none locals body.result) None);
    }
    run-statement (core.block es) m b c ok is u =
        let all = run-all es m b c ok is u.1 in
        record {
          owns = tt;
          code = λ f scalar k l.
              chain (statements (opened f) es k) (finished (declared_all es)) (AllWork.code all (opened f) scalar k l) (runs-finished locals body.result (declared_all es));
        }
    run-statement (core.sequence es) m b c ok is u = let all = run-all es m b c ok is u.1 in record { owns = AllWork.owns all; code = AllWork.code all }
    run-statement (core.declare i t e) m b c ok is u =
        let start = (both (nat_le m i) (is_element t e || is_held i e) ok).1 in
        let parts = both (nat_le body.parameters i && same_type (slice_get scope.locals i) t && is_complete scope.classes t) ((typing scope e).start t) is in
        let good = both (is_the_type (slice_get scope.locals i) t) (row_is_ready t e) u.0 in
        let own : is_the_type (slice_get locals i) t ≡ true = exact i t good.0 in
        let begins = starts-well i t e start parts.1 good.1 u.1 in
        record {
          owns = (own, Starts.owns begins);
          code = λ f scalar k l g j rest success.
              let h : Keeping = keep g 0 (an_object i t) in
              let q = Starts.code begins f k l h j rest (object-begun i t (h 0) (keep-at g 0 (an_object i t))) success in
              record { now = Lucky.now q; goes = λ rest. Lucky.goes q rest; walks = λ rest ok. (own, Lucky.walks q rest ok) };
        }
    run-statement (core.branch q a o) m b c ok is u =
        let forms = both (is_value q) (is_statement m a && is_statement_or (next_local m a) o) ok in
        let arms = both (is_statement m a) (is_statement_or (next_local m a) o) forms.1 in
        let parts = both (typed.is_condition (typing scope q) && fits body b c a) (fits_maybe body b c o) is in
        let tests = both (typed.is_condition (typing scope q)) (fits body b c a) parts.0 in
        let first = each-left Ready (nodes q ++ nodes a) (nodes_maybe o) u.1 in
        let one_way = run-statement a m b c arms.0 tests.1 (each-right Ready (nodes q) (nodes a) first) in
        let other_way = run-or o (next_local m a) b c arms.1 parts.1 (each-right Ready (nodes q ++ nodes a) (nodes_maybe o) u.1) in
        record {
          owns = each-two (Exact locals body.result) (declared_maybe o) (declared a) (MaybeWorks.owns other_way) (Works.owns one_way);
          code = λ f scalar k l.
              let begin = stand-left locals k (nodes q ++ nodes a) (nodes_maybe o) l in
              let left = statement f a (k + width q) nothing in
              let right = statement_or f o (k + width q + width a) nothing in
              run-whole body locals keeps named f q forms.0 (conditions-serve (typing scope q) tests.0) (each-left Ready (nodes q) (nodes a) first) 0 k (stand-left locals k (nodes q) (nodes a) begin)
              (λ n rest. more (set n (plain.truth n)) rest) (λ n rest. more (branch n left right) rest) run-truth
              (λ n.
              runs-branch locals body.result n left right
              (alone locals body.result (statement f a (k + width q)) (Works.code one_way f scalar (k + width q) (stand-right locals k (nodes q) (nodes a) begin)))
              (alone locals body.result (statement_or f o (k + width q + width a))
              (MaybeWorks.code other_way f scalar (k + width q + width a) (stand-third locals k (nodes q) (nodes a) (nodes_maybe o) l)))) None;
        }
    run-statement (core.loop how q e s) m b c ok is u =
        let forms = both (is_condition q) (is_condition e && is_statement m s) ok in
        let inner = both (is_condition e) (is_statement m s) forms.1 in
        let parts = both (condition_fits body q && expression_fits body e) (fits body true true s) is in
        let tests = both (condition_fits body q) (expression_fits body e) parts.0 in
        let first = each-left Ready (nodes_maybe q ++ nodes_maybe e) (nodes s) u.1 in
        let turned = run-statement s m true true inner.1 parts.1 (each-right Ready (nodes_maybe q ++ nodes_maybe e) (nodes s) u.1) in
        record {
          owns = tt;
          code = λ f scalar k l.
              loop-run how q e s forms.0 inner.0 tests.0 tests.1 (each-left Ready (nodes_maybe q) (nodes_maybe e) first) (each-right Ready (nodes_maybe q) (nodes_maybe e) first) turned f scalar k l;
        }
    run-statement (core.switch e es) m b c ok is u =
        let forms = both (is_value e) (are_cases m es) ok in
        let parts = both (is_integer (typing scope e) && valid.labels_differ es && passes_none es) (labelled_fit body true c es) is in
        let tests = both (is_integer (typing scope e) && valid.labels_differ es) (passes_none es) parts.0 in
        let int = (both (is_integer (typing scope e)) (valid.labels_differ es) tests.0).0 in
        let row = run-cases es m c forms.1 parts.1 (each-right Ready (nodes e) (nodes_all es) u.1) in
        record {
          owns = tt;
          code = λ f scalar k l.
              let code : Plains = statements (in_switch f) es (k + width e) (finished (declared_all es) nothing) in
              run-whole body locals keeps named f e forms.0 (integers-serve (typing scope e) int) (each-left Ready (nodes e) (nodes_all es) u.1) 0 k (stand-left locals k (nodes e) (nodes_all es) l)
              (λ n rest. used n rest) (λ n rest. passed n es (more (switch n code) rest)) (λ n. runs-used locals body.result n)
              (λ n.
              chain (passed n es) (λ rest. more (switch n code) rest) (run-passed n es m forms.1 (AllWork.owns row))
              (runs-switch locals body.result n code
              (alone locals body.result (λ rest. statements (in_switch f) es (k + width e) (finished (declared_all es) rest))
              (chain (statements (in_switch f) es (k + width e)) (finished (declared_all es))
              (AllWork.code row (in_switch f) scalar (k + width e) (stand-right locals k (nodes e) (nodes_all es) l)) (runs-finished locals body.result (declared_all es)))))) None;
        }
    run-statement core.leave m b c ok is u = record { owns = tt; code = λ f scalar k l. leaving (f.here ++ f.breaks) (λ rest. more leave rest) run-leave }
    run-statement core.continue m b c ok is u =
        record { owns = tt; code = λ f scalar k l. leaving (f.here ++ f.continues) (λ rest. more continue rest) (runs-step locals body.result continue (λ g h e. tt)) }
    run-statement (core.give absent) m b c ok is u =
        record { owns = tt; code = λ f scalar k l. leaving (f.here ++ f.returns) (λ rest. more (give None) rest) (runs-step locals body.result (give None) (λ g h e. tt)) }
    run-statement (core.give (given e)) m b c ok is u = record { owns = tt; code = λ f scalar k l. returned e ok is u.1 f scalar k l }
    run-statement s m b c ok is u = never ok

    run-or : (o : MaybeCore) (m : ℕ) (b c : Bool) → is_statement_or m o ≡ true → fits_maybe body b c o ≡ true → Each Ready (nodes_maybe o) → MaybeWorks o
    run-or absent m b c ok is u = record { owns = tt; code = λ f scalar k l. runs-none locals body.result }
    run-or (given s) m b c ok is u =
        let one = run-statement s m b c ok is u in
        record { owns = Works.owns one; code = Works.code one }

    run-all : (es : Cores) (m : ℕ) (b c : Bool) → are_statements m es ≡ true → all_fit body b c es ≡ true → Each Ready (nodes_all es) → AllWork es
    run-all none m b c ok is u = record { owns = tt; code = λ f scalar k l. runs-none locals body.result }
    run-all (core.more s es) m b c ok is u =
        let forms = both (is_statement m s) (are_statements (next_local m s) es) ok in
        let parts = both (fits body b c s) (all_fit body b c es) is in
        row-of s es (run-statement s m b c forms.0 parts.0 (each-left Ready (nodes s) (nodes_all es) u)) (run-all es (next_local m s) b c forms.1 parts.1 (each-right Ready (nodes s) (nodes_all es) u))

    run-cases : (es : Cores) (m : ℕ) (c : Bool) → are_cases m es ≡ true → labelled_fit body true c es ≡ true → Each Ready (nodes_all es) → AllWork es
    run-cases none m c ok is u = record { owns = tt; code = λ f scalar k l. runs-none locals body.result }
    run-cases (core.more (core.case_label y) es) m c ok is u =
        let others = run-cases es m c ok is u.1 in
        record {
          owns = each-two (Exact locals body.result) (declared_all es) [] (AllWork.owns others) tt;
          code = λ f scalar k l.
              chain (λ rest. more (case_label y) rest) (statements f es (k + 0)) (runs-step locals body.result (case_label y) (λ g h e. tt))
              (AllWork.code others f scalar (k + 0) (stand-right locals k [] (nodes_all es) l));
        }
    run-cases (core.more core.default_label es) m c ok is u =
        let others = run-cases es m c ok is u.1 in
        record {
          owns = each-two (Exact locals body.result) (declared_all es) [] (AllWork.owns others) tt;
          code = λ f scalar k l.
              chain (λ rest. more default_label rest) (statements f es (k + 0)) (runs-step locals body.result default_label (λ g h e. tt))
              (AllWork.code others f scalar (k + 0) (stand-right locals k [] (nodes_all es) l));
        }
    run-cases (core.more s es) m c ok is u =
        let forms = both (is_statement m s) (are_cases (next_local m s) es) ok in
        let parts = both (fits body true c s) (labelled_fit body true c es) is in
        row-of s es (run-statement s m true c forms.0 parts.0 (each-left Ready (nodes s) (nodes_all es) u)) (run-cases es (next_local m s) c forms.1 parts.1 (each-right Ready (nodes s) (nodes_all es) u))
