-- The plain statements of an expression do what the expression does.
use Rattle.std.proofs.Common.{◌≡◌, ℕ, ◌+◌, ◌≤◌, Bool, true, false, not, ◌&&◌, List, [], ◌++◌, length, append-nil, refl, sym, subst, arith}
use Rattle.std.specs.Prelude.{ℤ, Some, None}
use Rattle.cf_base.proofs.Tests.{both}
use Rattle.cf_base.specs.World.{World, and_then}
use Rattle.cf_base.specs.declared.kind.Kind.{Kind}
use Rattle.cf_core.specs.declared.operators.UnaryOperator.{UnaryOperator}
use Rattle.cf_core.specs.Types.{Name, SourceType, result, is_class}
use Rattle.cf_core.specs.Core as core
use Rattle.cf_core.specs.Core.{Core, Cores, Function, no_temporary, none, absent}
use Rattle.cf_core.specs.Nodes.{nodes, nodes_all}
use Rattle.cf_core.specs.Places.{Place, is_reference}
use Rattle.cf_core.specs.Store.{Value, Number, At, Code}
use Rattle.cf_core.specs.Run.{State, Frame, Act, ◌>>=◌, gives, malformed, some_or, with_frame}
use Rattle.cf_core.specs.Access.{used, place_of, read_place, followed}
use Rattle.cf_core.specs.Pointers.{truth_value, from_void_value, pointer_op}
use Rattle.cf_core.specs.Scalars.{truth_of, converted_value, operated, signed, indexed, decayed, pointed_to}
use Rattle.cf_core.specs.Objects.{literal_object, local_place}
use Rattle.cf_core.specs.Calls as calling
use Rattle.cf_core.specs.Calls.{Program, root, function_named, name_function}
use Rattle.cf_core.specs.Expressions as meaning
use Rattle.cf_plain.specs.Plain.{Plains}
use Rattle.cf_plain.specs.Plain as plain
use Rattle.cf_plain.specs.Acts.{Registers}
use Rattle.cf_plain.specs.Running as running
use Rattle.cf_plain.specs.Running.{Flow, keep}
use Rattle.cf_sequence.specs.Follows.{Follows}
use Rattle.cf_sequence.specs.Built.{is_value, are_values, are_arguments, is_chain}
use Rattle.cf_sequence.specs.Made.{Temporary, temporaries, temporaries_all, added, width}
use Rattle.cf_sequence.specs.Expressions.{Full, values, used as use_of}
use Rattle.cf_sequence.proofs.Following.{on, pull, pull-two, pull-three, push, pure-steps, pure-then, pure-gives, looks-steps, looks-then, looks-pure}
use Rattle.cf_sequence.proofs.Steps.{pure-used, pure-place_of, pure-truth_of, pure-converted_value, pure-operated, pure-signed, looks-read_place, looks-followed}
use Rattle.cf_sequence.proofs.StaticObjects.{named_object, same-named, pure-named}
use Rattle.cf_sequence.proofs.Pointers.{pure-pointed_to, looks-indexed, looks-decayed, looks-from_void, looks-pointer_op, literal-steps}
use Rattle.cf_sequence.proofs.Calling.{Bodies, never}
use Rattle.cf_sequence.proofs.Actions.{name-steps}
use Rattle.cf_sequence.proofs.Kept.{kept-then, added-two}
use Rattle.cf_sequence.proofs.Temporaries.{Begins, begins-first, begins-second, grown-then, grown-wider, After, after-leaf}
use Rattle.cf_sequence.proofs.Placing.{placing, placing-values}
use Rattle.cf_sequence.proofs.PlainSteps.{runs_on, set-steps, use-steps, local-steps}
use Rattle.cf_sequence.proofs.Operands.{H, Next, Follow, one-operand, held-one, used-one, two-used}
use Rattle.cf_sequence.proofs.Branches.{follow-and, follow-or, follow-conditional}
use Rattle.cf_sequence.proofs.Changes.{follow-store, follow-update, follow-before, follow-behind}
use Rattle.cf_sequence.proofs.Arguments.{FollowArguments, no-arguments, more-arguments, follow-call, follow-pointer}
use Rattle.cf_sequence.proofs.Binding.{follow-temporary}

no-reference : (b : Bool) → not b ≡ true → b ≡ false
no-reference true e = sym e
no-reference false e = refl

module _ (again : calling.Again) (again' : running.Again) (P : Program) (bodies : Bodies again again' P)
    (chains : (name : Name) (f : Function) → function_named P name ≡ Some f → is_chain f.type ≡ true)
    (A B : Type 0) (S : A → State → B → State → Type 0) where
  -- ---- expressions without parts

  follow-number : (b : Bool) (z : ℤ) → (Follow again again' P bodies chains A B S) b (core.number z)
  follow-number b z into into' x n k rest g s f w c K begins next =
      set-steps again' (H again again' P) n (plain.number z) rest g K _ (with_frame f s) w
      (next (Number z) s (keep g n (Number z)) f w (after-leaf x n k (k + 0) g s.frame f (Number z) s refl))

  follow-local : (b : Bool) (i : ℕ) → (Follow again again' P bodies chains A B S) b (core.local i)
  follow-local b i into into' x n k rest g s f w c K begins next =
      set-steps again' (H again again' P) n (plain.local i) rest g K _ (with_frame f s) w
      (pull (local_place i s w) (followed P.classes) c _ (push (local_place i (with_frame f s) w) (followed P.classes) _ _
      (local-steps again' (H again again' P) i k s f begins.ready (λ p. followed P.classes p >>= c)
      (λ p. followed P.classes p >>= (λ v. λ t w. runs_on again' (H again again' P) rest (keep g n v) K t w)) w (λ p.
      looks-steps (followed P.classes p) (looks-followed P.classes p) c (λ v. λ t w. runs_on again' (H again again' P) rest (keep g n v) K t w) s f w (λ v.
      next v s (keep g n v) f w (after-leaf x n k (k + 0) g s.frame f v s refl))))))

  follow-static : (b : Bool) (name : Name) (t : SourceType) → (Follow again again' P bodies chains A B S) b (core.static_object name t)
  follow-static b name t into into' x n k rest g s f w c K begins next =
      let G : Value → Act B = λ v. λ t w. runs_on again' (H again again' P) rest (keep g n v) K t w in
      set-steps again' (H again again' P) n (plain.static_object name t) rest g K _ (with_frame f s) w
      (subst (λ (a : Act Place). Follows S (and_then ((named_object P name t >>= followed P.classes) s w) (on c)) (and_then ((a >>= followed P.classes) (with_frame f s) w) (on G))) (sym (same-named P name t))
      (pull (named_object P name t s w) (followed P.classes) c _ (push (named_object P name t (with_frame f s) w) (followed P.classes) G _
      (pure-steps (named_object P name t) (pure-named P name t) (λ p. followed P.classes p >>= c) (λ p. followed P.classes p >>= G) s (with_frame f s) w (λ p.
      looks-steps (followed P.classes p) (looks-followed P.classes p) c G s f w (λ v. next v s (keep g n v) f w (after-leaf x n k (k + 0) g s.frame f v s refl)))))))

  follow-function : (b : Bool) (name : Name) (t : SourceType) → (Follow again again' P bodies chains A B S) b (core.function name t)
  follow-function b name t into into' x n k rest g s f w c K begins next =
      let G : Value → Act B = λ v. λ t w. runs_on again' (H again again' P) rest (keep g n v) K t w in
      set-steps again' (H again again' P) n (plain.function name t) rest g K _ (with_frame f s) w
      (pull (name_function P name t s w) (λ u. gives (Code name)) c _ (push (name_function (H again again' P) name t (with_frame f s) w) (λ u. gives (Code name)) G _
      (name-steps again again' P name t (λ u. c (Code name)) (λ u. G (Code name)) s (with_frame f s) w (λ callee.
      next (Code name) s (keep g n (Code name)) f w (after-leaf x n k (k + 0) g s.frame f (Code name) s refl)))))

  follow-text : (b : Bool) (j : ℕ) (bytes : List ℕ) → (Follow again again' P bodies chains A B S) b (core.text j bytes)
  follow-text b j bytes into into' x n k rest g s f w c K begins next =
      set-steps again' (H again again' P) n (plain.text j bytes) rest g K _ (with_frame f s) w
      (pull (literal_object j bytes s w) (λ o. gives (At (root o))) c _ (push (literal_object j bytes (with_frame f s) w) (λ o. gives (At (root o))) (λ v. λ t w. runs_on again' (H again again' P) rest (keep g n v) K t w) _
      (literal-steps s f w (λ o. c (At (root o))) (λ o. λ t w. runs_on again' (H again again' P) rest (keep g n (At (root o))) K t w)
      (λ o t same. next (At (root o)) t (keep g n (At (root o))) f w (after-leaf x n k (k + 0) g s.frame f (At (root o)) t same)) j bytes begins.ready.alike.function)))

  -- ---- expressions of one part

  follow-read : (b : Bool) (e : Core) → (Follow again again' P bodies chains A B S) b e → (Follow again again' P bodies chains A B S) b (core.read e)
  follow-read b e follow into into' x n k rest g s f w c K begins next =
      pull-three (meaning.value again P e None s w) used place_of (read_place P.classes) c _
      ((one-operand again again' P bodies chains A B S) b e follow (λ v. (used v >>= place_of) >>= read_place P.classes)
      (λ v. looks-then (used v >>= place_of) (read_place P.classes) (looks-pure (used v >>= place_of) (pure-then (used v) place_of (pure-used v) pure-place_of)) (looks-read_place P.classes))
      (λ n. plain.read n)
      (λ h n v e G y t w r. subst (λ o. Follows S y (and_then ((((some_or o malformed >>= used) >>= place_of) >>= read_place P.classes) t w) (on G))) (sym e) r)
      x n k rest g s f w c K begins next)

  follow-address : (b : Bool) (e : Core) → (Follow again again' P bodies chains A B S) b e → (Follow again again' P bodies chains A B S) b (core.address e)
  follow-address b e follow into into' x n k rest g s f w c K begins next =
      pull (meaning.value again P e None s w) used c _ (follow None None x n k (use_of n rest) g s f w (λ v. used v >>= c) K begins (λ v s1 h f1 w1 done.
      use-steps again' (H again again' P) n v h done.value c rest K s1 (with_frame f1 s1) w1 (λ usable. next v s1 h f1 w1 done)))

  follow-dereference : (b : Bool) (e : Core) → (Follow again again' P bodies chains A B S) b e → (Follow again again' P bodies chains A B S) b (core.dereference e)
  follow-dereference b e follow into into' x n k rest g s f w c K begins next =
      pull-two (meaning.value again P e None s w) used pointed_to c _
      ((one-operand again again' P bodies chains A B S) b e follow (λ v. used v >>= pointed_to) (λ v. looks-pure (used v >>= pointed_to) (pure-then (used v) pointed_to (pure-used v) pure-pointed_to))
      (λ n. plain.dereference n) (λ h n v e G y t' w r. (used-one again again' P bodies chains A B S) pointed_to (h n) v e G y t' w r) x n k rest g s f w c K begins next)

  follow-decay : (b : Bool) (e : Core) → (Follow again again' P bodies chains A B S) b e → (Follow again again' P bodies chains A B S) b (core.decay e)
  follow-decay b e follow into into' x n k rest g s f w c K begins next =
      pull-two (meaning.value again P e None s w) used (decayed P.classes) c _
      ((one-operand again again' P bodies chains A B S) b e follow (λ v. used v >>= decayed P.classes) (λ v. looks-then (used v) (decayed P.classes) (looks-pure (used v) (pure-used v)) (looks-decayed P.classes))
      (λ n. plain.decay n) (λ h n v e G y t' w r. (used-one again again' P bodies chains A B S) (decayed P.classes) (h n) v e G y t' w r) x n k rest g s f w c K begins next)

  follow-from_void : (b : Bool) (t : SourceType) (e : Core) → (Follow again again' P bodies chains A B S) b e → (Follow again again' P bodies chains A B S) b (core.from_void t e)
  follow-from_void b t e follow into into' x n k rest g s f w c K begins next =
      pull-two (meaning.value again P e None s w) used (from_void_value P.classes t) c _
      ((one-operand again again' P bodies chains A B S) b e follow (λ v. used v >>= from_void_value P.classes t) (λ v. looks-then (used v) (from_void_value P.classes t) (looks-pure (used v) (pure-used v)) (looks-from_void P.classes t))
      (λ n. plain.from_void t n) (λ h n v e G y t' w r. (used-one again again' P bodies chains A B S) (from_void_value P.classes t) (h n) v e G y t' w r) x n k rest g s f w c K begins next)

  follow-convert : (b : Bool) (t : SourceType) (e : Core) → (Follow again again' P bodies chains A B S) b e → (Follow again again' P bodies chains A B S) b (core.convert t e)
  follow-convert b t e follow into into' x n k rest g s f w c K begins next =
      pull (meaning.value again P e None s w) (converted_value t) c _
      ((one-operand again again' P bodies chains A B S) b e follow (converted_value t) (λ v. looks-pure (converted_value t v) (pure-converted_value t v)) (λ n. plain.convert t n)
      (λ h n v e G y t' w r. (held-one again again' P bodies chains A B S) (converted_value t) (h n) v e G y t' w r) x n k rest g s f w c K begins next)

  follow-unary : (b : Bool) (op : UnaryOperator) (t : Kind) (e : Core) → (Follow again again' P bodies chains A B S) b e → (Follow again again' P bodies chains A B S) b (core.unary op t e)
  follow-unary b op t e follow into into' x n k rest g s f w c K begins next =
      pull-two (meaning.value again P e None s w) used (signed op t) c _
      ((one-operand again again' P bodies chains A B S) b e follow (λ v. used v >>= signed op t) (λ v. looks-pure (used v >>= signed op t) (pure-then (used v) (signed op t) (pure-used v) (pure-signed op t)))
      (λ n. plain.unary op t n) (λ h n v e G y t' w r. (used-one again again' P bodies chains A B S) (signed op t) (h n) v e G y t' w r) x n k rest g s f w c K begins next)

  follow-not : (b : Bool) (e : Core) → (Follow again again' P bodies chains A B S) b e → (Follow again again' P bodies chains A B S) b (core.logical_not e)
  follow-not b e follow into into' x n k rest g s f w c K begins next =
      pull-two (meaning.value again P e None s w) truth_of (λ b. gives (truth_value (not b))) c _
      ((one-operand again again' P bodies chains A B S) b e follow (λ v. truth_of v >>= (λ b. gives (truth_value (not b))))
      (λ v. looks-pure (truth_of v >>= (λ b. gives (truth_value (not b)))) (pure-then (truth_of v) (λ b. gives (truth_value (not b))) (pure-truth_of v) (λ b. pure-gives (truth_value (not b)))))
      (λ n. plain.logical_not n)
      (λ h n v e G y t w r. subst (λ o. Follows S y (and_then (((some_or o malformed >>= truth_of) >>= (λ b. gives (truth_value (not b)))) t w) (on G))) (sym e) r)
      x n k rest g s f w c K begins next)

  -- ---- parts of an expression in order

  abbrev FollowValues : Bool → Cores → Type 0
  FollowValues b es =
      (x : Full) (n k : ℕ) (rest : Plains) (g : Registers) (s : State) (f : Frame) (w : World) (c : Value → Act A) (K : Flow → Act B)
      → Begins b x (temporaries_all b es k) n k (k + length (added (nodes_all es))) g s.frame f
      → (Next again again' P bodies chains A B S) c K x (temporaries_all b es k) n k (k + length (added (nodes_all es))) rest g s.frame f
      → Follows S (and_then (meaning.last_value again P es s w) (on c)) (runs_on again' (H again again' P) (values P.classes x es n k rest) g K (with_frame f s) w)

  last-value : (b : Bool) (e : Core) → is_value e ≡ true → (Follow again again' P bodies chains A B S) b e → FollowValues b (core.more e none)
  last-value b e ok follow x n k rest g s f w c K begins next =
      let ts : List Temporary = temporaries b e k in
      let m : ℕ = k + length (added (nodes e ++ [])) in
      let many = added-two (nodes e) [] in
      follow None None x n k rest g s f w c K
      (begins-first b x ts [] n k m g s.frame f begins b n k (k + width e) (omega arith) (omega arith) (omega arith) (omega arith) (placing e ok b k)) (λ v s1 h f1 w1 done.
      next v s1 h f1 w1 (subst (λ us. After x us n k m g s.frame f v s1 h f1) (sym (append-nil ts))
      (record { value = done.value; grown = grown-wider x ts n k k (k + width e) m g s.frame s1 h f1.locals (omega arith) (omega arith) done.grown; kept = done.kept })))

  more-values : (b : Bool) (e e' : Core) (es : Cores) → is_value e ≡ true → are_values (core.more e' es) ≡ true → (Follow again again' P bodies chains A B S) b e → FollowValues b (core.more e' es) → FollowValues b (core.more e (core.more e' es))
  more-values b e e' es ok oks follow follow-all x n k rest g s f w c K begins next =
      let others : Cores = core.more e' es in
      let l : ℕ = k + width e in
      let p : ℕ = l + length (added (nodes_all others)) in
      let m : ℕ = k + length (added (nodes e ++ nodes_all others)) in
      let many = added-two (nodes e) (nodes_all others) in
      let within : p ≤ m = omega arith in
      let ts : List Temporary = temporaries b e k in
      let us : List Temporary = temporaries_all b others l in
      pull (meaning.value again P e None s w) (λ v. meaning.last_value again P others) c _
      (follow None None x n k (values P.classes x others n l rest) g s f w (λ v. meaning.last_value again P others >>= c) K
      (begins-first b x ts us n k m g s.frame f begins b n k l (omega arith) (omega arith) (omega arith) (omega arith) (placing e ok b k)) (λ v s1 h1 f1 w1 done.
      follow-all x n l rest h1 s1 f1 w1 c K
      (begins-second b x ts us n k m g s.frame f begins b n l l p s1 h1 f1 done.grown done.kept (omega arith) (omega arith) (omega arith) (omega arith) within (placing-values others oks b l))
      (λ u s2 h2 f2 w2 done2.
      next u s2 h2 f2 w2 (record {
        value = done2.value;
        grown = grown-then b x ts us n k m g s.frame f begins b n l l p s1 s2 h1 h2 f1.locals f2.locals done.grown done2.grown (omega arith) (omega arith) (omega arith) (omega arith) within
            (placing e ok b k) (λ j from less. done2.kept.below j less);
        kept = kept-then k l f f1 f2 (omega arith) done.kept done2.kept;
      }))))

  -- ---- every expression, in a branch or not

  mutual
    pub follow-value : (e : Core) → is_value e ≡ true → (b : Bool) → (Follow again again' P bodies chains A B S) b e
    follow-value (core.number z) ok b = follow-number b z
    follow-value (core.local i) ok b = follow-local b i
    follow-value (core.static_object name t) ok b = follow-static b name t
    follow-value (core.function name t) ok b = follow-function b name t
    follow-value (core.text j bytes) ok b = follow-text b j bytes
    follow-value (core.read e) ok b = follow-read b e (follow-value e ok b)
    follow-value (core.address e) ok b = follow-address b e (follow-value e ok b)
    follow-value (core.dereference e) ok b = follow-dereference b e (follow-value e ok b)
    follow-value (core.decay e) ok b = follow-decay b e (follow-value e ok b)
    follow-value (core.from_void t e) ok b = follow-from_void b t e (follow-value e ok b)
    follow-value (core.convert t e) ok b = follow-convert b t e (follow-value e ok b)
    follow-value (core.unary op t e) ok b = follow-unary b op t e (follow-value e ok b)
    follow-value (core.logical_not e) ok b = follow-not b e (follow-value e ok b)
    follow-value (core.index a e) ok b =
        let p = both (is_value a) (is_value e) ok in
        λ into into' x n k rest g s f w c K begins next. (two-used again again' P bodies chains A B S) b a e p.0 p.1 (follow-value a p.0 b) (follow-value e p.1 b) (indexed P.classes) (looks-indexed P.classes)
        (λ n m. plain.index n m) (λ h n m. refl) x n k rest g s f w c K begins next
    follow-value (core.pointer_operate op a e) ok b =
        let p = both (is_value a) (is_value e) ok in
        λ into into' x n k rest g s f w c K begins next. (two-used again again' P bodies chains A B S) b a e p.0 p.1 (follow-value a p.0 b) (follow-value e p.1 b) (pointer_op P.classes op) (looks-pointer_op P.classes op)
        (λ n m. plain.pointer_operate op n m) (λ h n m. refl) x n k rest g s f w c K begins next
    follow-value (core.operate op t a e) ok b =
        let p = both (is_value a) (is_value e) ok in
        λ into into' x n k rest g s f w c K begins next. (two-used again again' P bodies chains A B S) b a e p.0 p.1 (follow-value a p.0 b) (follow-value e p.1 b) (operated op t) (λ u v. looks-pure (operated op t u v) (pure-operated op t u v))
        (λ n m. plain.operate op t n m) (λ h n m. refl) x n k rest g s f w c K begins next
    follow-value (core.logical_and a e) ok b = let p = both (is_value a) (is_value e) ok in (follow-and again again' P bodies chains A B S) b a e p.0 p.1 (follow-value a p.0 b) (follow-value e p.1 true)
    follow-value (core.logical_or a e) ok b = let p = both (is_value a) (is_value e) ok in (follow-or again again' P bodies chains A B S) b a e p.0 p.1 (follow-value a p.0 b) (follow-value e p.1 true)
    follow-value (core.conditional q a e) ok b =
        let p = both (is_value q) (is_value a && is_value e) ok in
        let arms = both (is_value a) (is_value e) p.1 in
        (follow-conditional again again' P bodies chains A B S) b q a e p.0 arms.0 arms.1 (follow-value q p.0 b) (follow-value a arms.0 true) (follow-value e arms.1 true)
    follow-value (core.comma es) ok b = λ into into' x n k rest g s f w c K begins next. follow-values es ok b x n k rest g s f w c K begins next
    follow-value (core.store a e) ok b = let p = both (is_value a) (is_value e) ok in (follow-store again again' P bodies chains A B S) b a e p.0 p.1 (follow-value a p.0 b) (follow-value e p.1 b)
    follow-value (core.update a ch e) ok b = let p = both (is_value a) (is_value e) ok in (follow-update again again' P bodies chains A B S) b a ch e p.0 p.1 (follow-value a p.0 b) (follow-value e p.1 b)
    follow-value (core.step false ch e) ok b = (follow-before again again' P bodies chains A B S) b ch e (follow-value e ok b)
    follow-value (core.step true ch e) ok b = (follow-behind again again' P bodies chains A B S) b ch e ok (follow-value e ok b)
    follow-value (core.temporary t e) ok b =
        let p = both (not (is_reference t)) (is_value e) ok in (follow-temporary again again' P bodies chains A B S) b t e (no-reference (is_reference t) p.0) p.1 (follow-value e p.1 b)
    follow-value (core.bind no_temporary e) ok b = λ into into' x n k rest g s f w c K begins next. follow-value e ok b None None x n k rest g s f w c K begins next
    follow-value (core.call name t absent args) ok b =
        let p = both (not (is_class (result t))) (is_chain t && are_arguments args) ok in
        let q = both (is_chain t) (are_arguments args) p.1 in
        (follow-call again again' P bodies chains A B S) b name t args p.0 q.1 (follow-arguments args q.1 b)
    follow-value (core.pointer_call absent e t args) ok b =
        let p = both (not (is_class (result t))) (is_chain t && (is_value e && are_arguments args)) ok in
        let q = both (is_value e) (are_arguments args) (both (is_chain t) (is_value e && are_arguments args) p.1).1 in
        (follow-pointer again again' P bodies chains A B S) b e t args p.0 q.0 q.1 (follow-value e q.0 b) (follow-arguments args q.1 b)
    follow-value e ok b = never ok

    follow-values : (es : Cores) → are_values es ≡ true → (b : Bool) → FollowValues b es
    follow-values none ok b = never ok
    follow-values (core.more e none) ok b = last-value b e ok (follow-value e ok b)
    follow-values (core.more e (core.more e' es)) ok b =
        let p = both (is_value e) (are_values (core.more e' es)) ok in
        more-values b e e' es p.0 p.1 (follow-value e p.0 b) (follow-values (core.more e' es) p.1 b)

    follow-arguments : (es : Cores) → are_arguments es ≡ true → (b : Bool) → (FollowArguments again again' P bodies chains A B S) b es
    follow-arguments none ok b = (no-arguments again again' P bodies chains A B S) b
    follow-arguments (core.more e es) ok b =
        let p = both (is_value e) (are_arguments es) ok in
        (more-arguments again again' P bodies chains A B S) b e es p.0 p.1 (follow-value e p.0 b) (follow-arguments es p.1 b)
