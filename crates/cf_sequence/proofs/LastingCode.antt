-- Built expressions and statements leave what lasts of the objects of before.
use Rattle.std.proofs.Common.{◌≡◌, ℕ, zero, suc, ◌≤◌, ◌-◌, Bool, true, false, not, ◌&&◌, ◌||◌, if◌then◌else◌, List, [], ◌∷◌, reverse, sym, subst}
use Rattle.std.specs.Prelude.{ℤ, pos, int_le, nat_le, nat_lt, Option, Some, None, length}
use Rattle.cf_base.proofs.Tests.{both}
use Rattle.cf_core.specs.declared.operators.LoopForm.{LoopForm}
use Rattle.cf_core.specs.Types.{Name, SourceType, parameters, result, is_class, is_array, plain, element}
use Rattle.cf_core.specs.Classes.{Class}
use Rattle.cf_core.specs.Core as core
use Rattle.cf_core.specs.Core.{Core, Cores, MaybeCore, Change, arithmetic, moved, Role, plain_function, Function, no_temporary, local_temporary, none, absent, given}
use Rattle.cf_core.specs.Joined.{is_nothing}
use Rattle.cf_core.specs.Places.{Place, inner, is_reference}
use Rattle.cf_core.specs.Store.{Value, Built, Number, At, Code, Object, in_construction, alive, set_life}
use Rattle.cf_core.specs.Run.{State, Act, ◌>>=◌, ◌>>◌, gives, state, tick, done, some_or, valid, when, for_each, for_all, declared_object, frame_changed, lists_in_scope, lists_temporary}
use Rattle.cf_core.specs.Access.{place_type, used, place_of, number_of, read_place, write_place, followed, fill_zeros}
use Rattle.cf_core.specs.Pointers.{truth_value, pointer_op, from_void_value}
use Rattle.cf_core.specs.Scalars.{truth_of, converted_value, operated, signed, changed_value, indexed, decayed, pointed_to}
use Rattle.cf_core.specs.Objects.{local_place, literal_object, new_local, settle, character_kind, write_bytes, element_part, element_count, begin_list, end_list, count, costs_tick, one_tick, result_place, run_pointer}
use Rattle.cf_core.specs.Calls as calling
use Rattle.cf_core.specs.Calls.{Program, Flow, Falls, Breaks, Continues, Returns, body, turn, root, function_named, run_named, name_function, full_expression, in_scope, end_object}
use Rattle.cf_core.specs.Expressions as meaning
use Rattle.cf_core.specs.Program.{begins, unbuilds, ends, ended_well, run_body, runs}
use Rattle.cf_core.specs.Statements as does
use Rattle.cf_core.specs.Statements.{has_case, has_default, passes, passes_all, falling, turning, leaving, tests_first}
use Rattle.cf_core.specs.Valid.{is_label}
use Rattle.cf_sequence.specs.Built.{is_row, is_value, are_values, are_arguments, is_chain, is_condition, is_start, is_filling, is_initial, is_list, is_element, are_elements, is_held, next_local, is_statement, is_statement_or, are_cases, are_statements}
use Rattle.cf_sequence.proofs.Following.{Looks, looks-pure, pure-valid}
use Rattle.cf_sequence.proofs.Steps.{pure-used, pure-place_of, pure-number_of, pure-truth_of, pure-converted_value, pure-operated, pure-signed, pure-changed, looks-read_place, looks-followed}
use Rattle.cf_sequence.proofs.Pointers.{pure-pointed_to, looks-indexed, looks-decayed, looks-moved_by, looks-from_void, looks-pointer_op}
use Rattle.cf_sequence.proofs.StaticObjects.{named_object, pure-named}
use Rattle.cf_sequence.proofs.Calling.{never, or-else, pure-function}
use Rattle.cf_sequence.proofs.Lasting.{Keeps, Makes, keeps-gives, keeps-malformed, keeps-then, keeps-next, makes-then, makes-gives, makes-all, makes-behind, keeps-at, keeps-when, keeps-some, keeps-looks, keeps-pure, keeps-tick, Newer, Lasting, keeps-newer, makes-declared, keeps-temporary, keeps-scoped, makes-new, keeps-write, keeps-zeros, keeps-bytes, keeps-settle, keeps-literal, keeps-ends, keeps-full, keeps-scope, keeps-named, newer-reverse}

-- The functions of a program, and further turns of its loops, leave what lasts.
pub record Rests (again : calling.Again) (P : Program) : Type 0 where
  pub bodies : (name : Name) (f : Function) → function_named P name ≡ Some f → (m : ℕ) (before : ℕ → Object) (args : List ℕ) → Newer m args
      → Keeps (Lasting m before []) (again (body f args))
  pub turns : (how : LoopForm) (q e : MaybeCore) (s : Core) (n : ℕ) → is_statement n (core.loop how q e s) ≡ true → (m : ℕ) (before : ℕ → Object) (base : List ℕ)
      → Keeps (Lasting m before base) (again (turn (core.loop how q e s)))

looks-changed : (cs : List Class) (c : Change) (v w : Value) → Looks (changed_value cs c v w)
looks-changed cs (arithmetic op k to) v w = looks-pure (changed_value cs (arithmetic op k to) v w) (pure-changed op k to cs v w)
looks-changed cs (moved false) v w = looks-moved_by cs v w
looks-changed cs (moved true) v w = looks-moved_by cs v _

module _ (again : calling.Again) (P : Program) (classless : P.classes ≡ []) (rests : Rests again P) (m : ℕ) (before : ℕ → Object) where
  module _ (base : List ℕ) where
    abbrev pub Q : State → Type 0
    Q = Lasting m before base

    abbrev Found : Core → Type 0
    Found e = (into : Option Place) → Keeps Q (meaning.value again P e into)

    used-keeps : (e : Core) → Found e → Keeps Q (meaning.value again P e None >>= used)
    used-keeps e p = keeps-then Q (meaning.value again P e None) used (p None) (λ v. keeps-pure Q (used v) (pure-used v))

    placed-keeps : (e : Core) → Found e → Keeps Q ((meaning.value again P e None >>= used) >>= place_of)
    placed-keeps e p = keeps-then Q (meaning.value again P e None >>= used) place_of (used-keeps e p) (λ v. keeps-pure Q (place_of v) (pure-place_of v))

    truth-keeps : (e : Core) → Found e → Keeps Q (meaning.value again P e None >>= truth_of)
    truth-keeps e p = keeps-then Q (meaning.value again P e None) truth_of (p None) (λ v. keeps-pure Q (truth_of v) (pure-truth_of v))

    test-keeps : (e : Core) → Found e → Keeps Q ((meaning.value again P e None >>= truth_of) >>= (λ y. gives (truth_value y)))
    test-keeps e p = keeps-then Q (meaning.value again P e None >>= truth_of) (λ y. gives (truth_value y)) (truth-keeps e p) (λ y. keeps-gives Q (truth_value y))

    two-keep : (a b : Core) → Found a → Found b → (go : Value → Value → Act Value) → ((x y : Value) → Looks (go x y))
        → Keeps Q ((meaning.value again P a None >>= used) >>= (λ x. (meaning.value again P b None >>= used) >>= go x))
    two-keep a b p q go looks =
        keeps-then Q (meaning.value again P a None >>= used) (λ x. (meaning.value again P b None >>= used) >>= go x) (used-keeps a p)
        (λ x. keeps-then Q (meaning.value again P b None >>= used) (go x) (used-keeps b q) (λ y. keeps-looks Q (go x y) (looks x y)))

    written-keeps : (p : Place) (v r : Value) → Keeps Q (write_place P.classes p v >> gives r)
    written-keeps p v r = keeps-next Q (write_place P.classes p v) (gives r) (keeps-write m before base P.classes p v) (keeps-gives Q r)

    -- a scalar is changed in place
    change-keeps : (c : Change) (p : Place) (x y r : Value) → Keeps Q (changed_value P.classes c x y >>= (λ z. write_place P.classes p z >> gives r))
    change-keeps c p x y r =
        keeps-then Q (changed_value P.classes c x y) (λ z. write_place P.classes p z >> gives r) (keeps-looks Q (changed_value P.classes c x y) (looks-changed P.classes c x y))
        (λ z. written-keeps p z r)

    local-keeps : (i : ℕ) → Keeps Q (local_place i)
    local-keeps i =
        keeps-at Q _ (λ s. keeps-next Q (valid (nat_lt i s.frame.count)) _ (keeps-pure Q _ (pure-valid _))
        (keeps-then Q (some_or (s.frame.locals i) _) _ (keeps-some Q (s.frame.locals i) _ (record { by = λ s w q. tt })) (λ o. keeps-gives Q (root o))))

    named-keeps : (name : Name) (args : List ℕ) (this into : Option Place) → Newer m args → Keeps Q (run_named again P name args this into)
    named-keeps name args this into new =
        keeps-named m before base again P name args this into (λ f found. rests.bodies name f found m before args new) new

    pointed-keeps : (v : Value) (args : List ℕ) (into : Option Place) → Newer m args → Keeps Q (run_pointer again P None v args into)
    pointed-keeps (Code f) args into new = named-keeps f args None into new
    pointed-keeps v args into new = record { by = λ s w q. tt }

    mutual
      pub value-keeps : (e : Core) → is_value e ≡ true → Found e
      value-keeps (core.number z) ok into = keeps-gives Q (Number z)
      value-keeps (core.text j bytes) ok into =
          keeps-then Q (literal_object j bytes) (λ o. gives (At (root o))) (keeps-literal m before base j bytes) (λ o. keeps-gives Q (At (root o)))
      value-keeps (core.local i) ok into =
          keeps-then Q (local_place i) (followed P.classes) (local-keeps i) (λ p. keeps-looks Q (followed P.classes p) (looks-followed P.classes p))
      value-keeps (core.static_object name t) ok into =
          keeps-then Q (named_object P name t) (followed P.classes) (keeps-pure Q (named_object P name t) (pure-named P name t))
          (λ p. keeps-looks Q (followed P.classes p) (looks-followed P.classes p))
      value-keeps (core.function name t) ok into =
          keeps-next Q (name_function P name t) (gives (Code name)) (keeps-pure Q (name_function P name t) (pure-function P name t)) (keeps-gives Q (Code name))
      value-keeps (core.read e) ok into =
          keeps-then Q ((meaning.value again P e None >>= used) >>= place_of) (read_place P.classes) (placed-keeps e (value-keeps e ok))
          (λ p. keeps-looks Q (read_place P.classes p) (looks-read_place P.classes p))
      value-keeps (core.address e) ok into = used-keeps e (value-keeps e ok)
      value-keeps (core.dereference e) ok into =
          keeps-then Q (meaning.value again P e None >>= used) pointed_to (used-keeps e (value-keeps e ok)) (λ v. keeps-pure Q (pointed_to v) (pure-pointed_to v))
      value-keeps (core.decay e) ok into =
          keeps-then Q (meaning.value again P e None >>= used) (decayed P.classes) (used-keeps e (value-keeps e ok))
          (λ v. keeps-looks Q (decayed P.classes v) (looks-decayed P.classes v))
      value-keeps (core.from_void t e) ok into =
          keeps-then Q (meaning.value again P e None >>= used) (from_void_value P.classes t) (used-keeps e (value-keeps e ok))
          (λ v. keeps-looks Q (from_void_value P.classes t v) (looks-from_void P.classes t v))
      value-keeps (core.index a b) ok into =
          let p = both (is_value a) (is_value b) ok in two-keep a b (value-keeps a p.0) (value-keeps b p.1) (indexed P.classes) (looks-indexed P.classes)
      value-keeps (core.pointer_operate op a b) ok into =
          let p = both (is_value a) (is_value b) ok in two-keep a b (value-keeps a p.0) (value-keeps b p.1) (pointer_op P.classes op) (looks-pointer_op P.classes op)
      value-keeps (core.convert t e) ok into =
          keeps-then Q (meaning.value again P e None) (converted_value t) (value-keeps e ok None) (λ v. keeps-pure Q (converted_value t v) (pure-converted_value t v))
      value-keeps (core.operate op k a b) ok into =
          let p = both (is_value a) (is_value b) ok in
          two-keep a b (value-keeps a p.0) (value-keeps b p.1) (operated op k) (λ x y. looks-pure (operated op k x y) (pure-operated op k x y))
      value-keeps (core.unary op k e) ok into =
          keeps-then Q (meaning.value again P e None >>= used) (signed op k) (used-keeps e (value-keeps e ok)) (λ v. keeps-pure Q (signed op k v) (pure-signed op k v))
      value-keeps (core.logical_not e) ok into =
          keeps-then Q (meaning.value again P e None >>= truth_of) (λ b. gives (truth_value (not b))) (truth-keeps e (value-keeps e ok)) (λ b. keeps-gives Q (truth_value (not b)))
      value-keeps (core.logical_and a b) ok into =
          let p = both (is_value a) (is_value b) ok in
          let second : Act Value = (meaning.value again P b None >>= truth_of) >>= (λ y. gives (truth_value y)) in
          keeps-then Q (meaning.value again P a None >>= truth_of) (λ x. when x second (gives (truth_value false))) (truth-keeps a (value-keeps a p.0))
          (λ x. keeps-when Q x second (gives (truth_value false)) (test-keeps b (value-keeps b p.1)) (keeps-gives Q (truth_value false)))
      value-keeps (core.logical_or a b) ok into =
          let p = both (is_value a) (is_value b) ok in
          let second : Act Value = (meaning.value again P b None >>= truth_of) >>= (λ y. gives (truth_value y)) in
          keeps-then Q (meaning.value again P a None >>= truth_of) (λ x. when x (gives (truth_value true)) second) (truth-keeps a (value-keeps a p.0))
          (λ x. keeps-when Q x (gives (truth_value true)) second (keeps-gives Q (truth_value true)) (test-keeps b (value-keeps b p.1)))
      value-keeps (core.conditional c a b) ok into =
          let p = both (is_value c) (is_value a && is_value b) ok in
          let q = both (is_value a) (is_value b) p.1 in
          keeps-then Q (meaning.value again P c None >>= truth_of) (λ x. when x (meaning.value again P a None) (meaning.value again P b None)) (truth-keeps c (value-keeps c p.0))
          (λ x. keeps-when Q x (meaning.value again P a None) (meaning.value again P b None) (value-keeps a q.0 None) (value-keeps b q.1 None))
      value-keeps (core.comma es) ok into = values-keep es ok
      value-keeps (core.store a b) ok into =
          let parts = both (is_value a) (is_value b) ok in
          keeps-then Q ((meaning.value again P a None >>= used) >>= place_of) _ (placed-keeps a (value-keeps a parts.0))
          (λ p. keeps-then Q (meaning.value again P b None >>= used) (λ x. write_place P.classes p x >> gives (At p)) (used-keeps b (value-keeps b parts.1)) (λ x. written-keeps p x (At p)))
      value-keeps (core.update a c b) ok into =
          let parts = both (is_value a) (is_value b) ok in
          keeps-then Q ((meaning.value again P a None >>= used) >>= place_of) _ (placed-keeps a (value-keeps a parts.0))
          (λ p. keeps-then Q (meaning.value again P b None >>= used) _ (used-keeps b (value-keeps b parts.1))
          (λ y. keeps-then Q (read_place P.classes p) _ (keeps-looks Q (read_place P.classes p) (looks-read_place P.classes p)) (λ x. change-keeps c p x y (At p))))
      value-keeps (core.step is_postfix c e) ok into =
          keeps-then Q ((meaning.value again P e None >>= used) >>= place_of) _ (placed-keeps e (value-keeps e ok))
          (λ p. keeps-then Q (read_place P.classes p) _ (keeps-looks Q (read_place P.classes p) (looks-read_place P.classes p))
          (λ x. change-keeps c p x (Number (pos 1)) (if is_postfix then x else At p)))
      value-keeps (core.temporary t e) ok into =
          let is : is_value e ≡ true = (both (not (is_reference t)) (is_value e) ok).1 in
          makes-then Q (λ (o : ℕ). m ≤ o) (declared_object t) _ (makes-declared m before base t)
          (λ o le. keeps-next Q (meaning.value again P e (Some (root o)) >>= settle P.classes (root o)) (frame_changed (lists_temporary o) >> gives (At (root o)))
          (keeps-then Q (meaning.value again P e (Some (root o))) (settle P.classes (root o)) (value-keeps e is (Some (root o))) (keeps-settle m before base P.classes (root o)))
          (keeps-next Q (frame_changed (lists_temporary o)) (gives (At (root o))) (keeps-temporary m before base o le) (keeps-gives Q (At (root o)))))
      value-keeps (core.bind no_temporary e) ok into = value-keeps e ok None
      value-keeps (core.call name t absent args) ok into =
          let ok-args = (both (is_chain t) (are_arguments args) (both (not (is_class (result t))) (is_chain t && are_arguments args) ok).1).1 in
          keeps-next Q (name_function P name t) _ (keeps-pure Q (name_function P name t) (pure-function P name t))
          (keeps-then Q (gives None) _ (keeps-gives Q None)
          (λ p. makes-then Q (Newer m) (meaning.arguments again P (parameters t) args) _ (arguments-make (parameters t) args ok-args) (λ os new. named-keeps name os p (result_place t into) new)))
      value-keeps (core.pointer_call absent e t args) ok into =
          let parts = both (is_value e) (are_arguments args) (both (is_chain t) (is_value e && are_arguments args) (both (not (is_class (result t))) (is_chain t && (is_value e && are_arguments args)) ok).1).1 in
          keeps-then Q (meaning.value again P e None >>= used) _ (used-keeps e (value-keeps e parts.0))
          (λ f. makes-then Q (Newer m) (meaning.arguments again P (parameters t) args) _ (arguments-make (parameters t) args parts.1) (λ os new. pointed-keeps f os (result_place t into) new))
      value-keeps e ok into = never ok

      values-keep : (es : Cores) → are_values es ≡ true → Keeps Q (meaning.last_value again P es)
      values-keep none ok = never ok
      values-keep (core.more e none) ok = value-keeps e ok None
      values-keep (core.more e (core.more f es)) ok =
          let p = both (is_value e) (are_values (core.more f es)) ok in
          keeps-next Q (meaning.value again P e None) (meaning.last_value again P (core.more f es)) (value-keeps e p.0 None) (values-keep (core.more f es) p.1)

      arguments-make : (ts : List SourceType) (es : Cores) → are_arguments es ≡ true → Makes Q (Newer m) (meaning.arguments again P ts es)
      arguments-make [] none ok = record { by = λ s w q. (tt, q) }
      arguments-make [] (core.more e es) ok = record { by = λ s w q. tt }
      arguments-make (t ∷ ts) none ok = record { by = λ s w q. tt }
      arguments-make (t ∷ ts) (core.more e es) ok =
          let parts = both (is_value e) (are_arguments es) ok in
          makes-all Q (λ (o : ℕ). m ≤ o) (Newer m) (declared_object t) _ (makes-declared m before base t) (λ o le.
          makes-behind Q (Newer m) (meaning.value again P e (Some (root o)) >>= settle P.classes (root o)) _
          (keeps-then Q (meaning.value again P e (Some (root o))) (settle P.classes (root o)) (value-keeps e parts.0 (Some (root o))) (keeps-settle m before base P.classes (root o)))
          (makes-all Q (Newer m) (Newer m) (meaning.arguments again P ts es) _ (arguments-make ts es parts.1) (λ os new. makes-gives Q (Newer m) (o ∷ os) (le, new))))

  abbrev L : List ℕ → State → Type 0
  L base = Lasting m before base

  -- ---- initialisers

  nothing-keeps : (base : List ℕ) (e : Core) → is_nothing e ≡ true → (into : Option Place) → Keeps (L base) (meaning.value again P e into)
  nothing-keeps base core.blank ok into = keeps-gives (L base) Built
  nothing-keeps base e ok into = never ok

  pub start-keeps : (base : List ℕ) (e : Core) → is_start e ≡ true → (into : Option Place) → Keeps (L base) (meaning.value again P e into)
  start-keeps base e ok into = or-else (is_nothing e) (is_value e) ok (λ blank. nothing-keeps base e blank into) (λ is. value-keeps base e is into)

  pub filling-keeps : (base : List ℕ) (e : Core) → is_filling e ≡ true → (p : Place) → Keeps (L base) (meaning.value again P e (Some p))
  filling-keeps base core.zeros ok p =
      keeps-next (L base) (gives p >>= fill_zeros P.classes) (gives Built)
      (keeps-then (L base) (gives p) (fill_zeros P.classes) (keeps-gives (L base) p) (λ p. keeps-zeros m before base P.classes p)) (keeps-gives (L base) Built)
  filling-keeps base (core.string bytes) ok p =
      keeps-at (L base) _ (λ s.
      let t : SourceType = place_type P.classes s p in
      keeps-next (L base) (valid (is_array t && nat_le (length bytes) (element_count P.classes t))) _ (keeps-pure (L base) _ (pure-valid _))
      (keeps-next (L base) (fill_zeros P.classes p) _ (keeps-zeros m before base P.classes p)
      (keeps-next (L base) (write_bytes (character_kind t) p 0 bytes) (gives Built) (keeps-bytes m before base (character_kind t) p 0 bytes) (keeps-gives (L base) Built))))
  filling-keeps base e ok p = never ok

  pub initial-keeps : (base : List ℕ) (e : Core) → is_initial e ≡ true → (p : Place) → Keeps (L base) (meaning.value again P e (Some p))
  initial-keeps base e ok p = or-else (is_filling e) (is_start e) ok (λ fills. filling-keeps base e fills p) (λ starts. start-keeps base e starts (Some p))

  pub held-keeps : (base : List ℕ) (i : ℕ) (e : Core) → is_held i e ≡ true → (p : Place) → Keeps (L base) (meaning.value again P e (Some p))
  held-keeps base i (core.bind (local_temporary j u) e) ok p =
      let is : is_value e ≡ true = (both (not (is_reference u)) (is_value e) (both (nat_lt i j) (not (is_reference u) && is_value e) ok).1).1 in
      makes-then (L base) (λ (o : ℕ). m ≤ o) (new_local j u) _ (makes-new m before base j u)
      (λ o le. keeps-next (L base) (meaning.value again P e (Some (root o)) >>= settle P.classes (root o)) (frame_changed (lists_in_scope o) >> gives (At (root o)))
      (keeps-then (L base) (meaning.value again P e (Some (root o))) (settle P.classes (root o)) (value-keeps base e is (Some (root o))) (keeps-settle m before base P.classes (root o)))
      (keeps-next (L base) (frame_changed (lists_in_scope o)) (gives (At (root o))) (keeps-scoped m before base o le) (keeps-gives (L base) (At (root o)))))
  held-keeps base i e ok p = never ok

  -- an initialiser of a place, as a full expression of its own
  pub settled-keeps : (base : List ℕ) (e : Core) (p : Place) → Keeps (L base) (meaning.value again P e (Some p))
      → Keeps (L base) (full_expression again P (meaning.value again P e (Some p) >>= settle P.classes p))
  settled-keeps base e p k =
      keeps-full m before base again P classless (meaning.value again P e (Some p) >>= settle P.classes p)
      (keeps-then (L base) (meaning.value again P e (Some p)) (settle P.classes p) k (keeps-settle m before base P.classes p))

  -- ---- lists

  pub each-keeps : (base : List ℕ) (i n : ℕ) (act : ℕ → Act (Unit {0})) → ((i : ℕ) → Keeps (L base) (act i)) → Keeps (L base) (for_each i n act)
  each-keeps base i zero act k = keeps-gives (L base) tt
  each-keeps base i (suc n) act k = keeps-next (L base) (act i) (for_each (suc i) n act) (k i) (each-keeps base (suc i) n act k)

  -- one element, by itself
  pub item-keeps : (base : List ℕ) (tick_first : Bool) (e : Core) (q : Place) → Keeps (L base) (meaning.value again P e (Some q))
      → Keeps (L base) (one_tick tick_first >> full_expression again P (meaning.value again P e (Some q) >>= settle P.classes q))
  item-keeps base tick_first e q k =
      keeps-next (L base) (one_tick tick_first) _ (keeps-when (L base) tick_first tick done (keeps-tick (L base)) (keeps-gives (L base) tt)) (settled-keeps base e q k)

  -- a list, by what its elements and what it leaves out keep
  list-of : (base : List ℕ) (es : Cores) (rest : Core) (p : Place) → m ≤ p.object → ((v : SourceType) → Keeps (L base) (meaning.elements again P es 0 p v))
      → ((q : Place) → m ≤ q.object → Keeps (L base) (meaning.value again P rest (Some q))) → Keeps (L base) (meaning.value again P (core.list es rest) (Some p))
  list-of base es rest p le each left =
      keeps-at (L base) _ (λ s.
      let v : SourceType = place_type P.classes s p in
      keeps-next (L base) (valid ((is_array v || is_class v) && nat_le (count es) (element_count P.classes v))) _ (keeps-pure (L base) _ (pure-valid _))
      (keeps-next (L base) (when (is_class v) (begin_list p) done) _ (keeps-when (L base) (is_class v) (begin_list p) done (keeps-newer m before base p.object (set_life p.route (in_construction [] ([] ∷ []))) le) (keeps-gives (L base) tt))
      (keeps-next (L base) (meaning.elements again P es 0 p v) _ (each v)
      (keeps-next (L base) _ _ (each-keeps base (count es) (element_count P.classes v - count es) _ (λ i.
      item-keeps base (is_array v && costs_tick rest P.classes (element (plain v))) rest (inner (element_part v i) p) (left (inner (element_part v i) p) le)))
      (keeps-next (L base) (when (is_class v) (end_list p) done) (gives Built)
      (keeps-when (L base) (is_class v) (end_list p) done (keeps-newer m before base p.object (set_life p.route alive) le) (keeps-gives (L base) tt)) (keeps-gives (L base) Built))))))

  mutual
    -- of an object that is as new as the bound
    list-keeps : (base : List ℕ) (t : SourceType) (e : Core) → is_list t e ≡ true → (p : Place) → m ≤ p.object → Keeps (L base) (meaning.value again P e (Some p))
    list-keeps base t (core.list es rest) ok p le =
        let u : SourceType = element (plain t) in
        let parts = both (are_elements u es) (is_filling rest) (both (is_row t) (are_elements u es && is_filling rest) ok).1 in
        list-of base es rest p le (λ v. elements-keep base u es parts.0 0 p v le)
        (λ q le. filling-keeps base rest parts.1 q)
    list-keeps base t e ok p le = never ok

    elements-keep : (base : List ℕ) (t : SourceType) (es : Cores) → are_elements t es ≡ true → (i : ℕ) (p : Place) (v : SourceType) → m ≤ p.object → Keeps (L base) (meaning.elements again P es i p v)
    elements-keep base t none ok i p v le = keeps-gives (L base) tt
    elements-keep base t (core.more e es) ok i p v le =
        let parts = both (is_element t e) (are_elements t es) ok in
        let q : Place = inner (element_part v i) p in
        keeps-next (L base) _ (meaning.elements again P es (suc i) p v)
        (item-keeps base (is_array v && costs_tick e P.classes (element (plain v))) e q
        (or-else (is_initial e) (is_list t e) parts.0 (λ initial. initial-keeps base e initial q) (λ is. list-keeps base t e is q le)))
        (elements-keep base t es parts.1 (suc i) p v le)

  pub element-keeps : (base : List ℕ) (t : SourceType) (e : Core) → is_element t e ≡ true → (p : Place) → m ≤ p.object → Keeps (L base) (meaning.value again P e (Some p))
  element-keeps base t e ok p le = or-else (is_initial e) (is_list t e) ok (λ initial. initial-keeps base e initial p) (λ is. list-keeps base t e is p le)

  declared-keeps : (base : List ℕ) (i : ℕ) (t : SourceType) (e : Core) → ((p : Place) → m ≤ p.object → Keeps (L base) (meaning.value again P e (Some p)))
      → Keeps (L base) (does.does again P (core.declare i t e))
  declared-keeps base i t e k =
      keeps-next (L base) (does.declares again P i t e) (gives Falls)
      (makes-then (L base) (λ (o : ℕ). m ≤ o) (new_local i t) _ (makes-new m before base i t)
      (λ o le. keeps-next (L base) _ (frame_changed (lists_in_scope o)) (settled-keeps base e (root o) (k (root o) le)) (keeps-scoped m before base o le)))
      (keeps-gives (L base) Falls)

  -- ---- how statements end

  falling-keeps : (base : List ℕ) (next : Act Flow) → Keeps (L base) next → (flow : Flow) → Keeps (L base) (falling next flow)
  falling-keeps base next k Falls = k
  falling-keeps base next k flow = keeps-gives (L base) flow

  turning-keeps : (base : List ℕ) (next : Act Flow) → Keeps (L base) next → (flow : Flow) → Keeps (L base) (turning next flow)
  turning-keeps base next k Falls = k
  turning-keeps base next k Continues = k
  turning-keeps base next k Breaks = keeps-gives (L base) Falls
  turning-keeps base next k (Returns v) = keeps-gives (L base) (Returns v)

  leaving-keeps : (base : List ℕ) (flow : Flow) → Keeps (L base) (leaving flow)
  leaving-keeps base Breaks = keeps-gives (L base) Falls
  leaving-keeps base flow = keeps-gives (L base) flow

  pub holds-keeps : (base : List ℕ) (q : MaybeCore) → is_condition q ≡ true → Keeps (L base) (does.holds again P q)
  holds-keeps base absent ok = keeps-gives (L base) true
  holds-keeps base (given e) ok =
      keeps-full m before base again P classless (meaning.value again P e None >>= truth_of)
      (keeps-then (L base) (meaning.value again P e None) truth_of (value-keeps base e ok None) (λ v. keeps-pure (L base) (truth_of v) (pure-truth_of v)))

  step-keeps : (base : List ℕ) (q : MaybeCore) → is_condition q ≡ true → (next : Act Flow) → Keeps (L base) next → Keeps (L base) (does.step_and again P q next)
  step-keeps base absent ok next k = k
  step-keeps base (given e) ok next k =
      keeps-next (L base) (full_expression again P (meaning.value again P e None)) next
      (keeps-full m before base again P classless (meaning.value again P e None) (value-keeps base e ok None)) k

  pub used-full : (base : List ℕ) (e : Core) → is_value e ≡ true → Keeps (L base) (full_expression again P (meaning.value again P e None >>= used))
  used-full base e ok =
      keeps-full m before base again P classless (meaning.value again P e None >>= used)
      (keeps-then (L base) (meaning.value again P e None) used (value-keeps base e ok None) (λ v. keeps-pure (L base) (used v) (pure-used v)))

  result-keeps : (base : List ℕ) (e : Core) → is_value e ≡ true → Keeps (L base) (does.result_of again P e)
  result-keeps base e ok = keeps-at (L base) _ (λ s. by s.frame.result)
    where
      by : (o : Option Place) → Keeps (L base) (elim o as (λ _. Act Value) [
        | None ↦ full_expression again P (meaning.value again P e None >>= used)
        | Some p ↦ full_expression again P (meaning.value again P e (Some p) >>= settle P.classes p) >> gives Built
      ])
      by None = used-full base e ok
      by (Some p) =
          keeps-next (L base) (full_expression again P (meaning.value again P e (Some p) >>= settle P.classes p)) (gives Built)
          (settled-keeps base e p (value-keeps base e ok (Some p))) (keeps-gives (L base) Built)

  mutual
    passes-keep : (s : Core) (base : List ℕ) → Keeps (L base) (passes s)
    passes-keep (core.declare i t core.blank) base =
        makes-then (L base) (λ (o : ℕ). m ≤ o) (new_local i t) _ (makes-new m before base i t) (λ o le. keeps-scoped m before base o le)
    passes-keep (core.declare i t e) base = keeps-malformed (L base)
    passes-keep (core.sequence es) base = passes-keep-all es base
    passes-keep s base = keeps-gives (L base) tt

    passes-keep-all : (es : Cores) (base : List ℕ) → Keeps (L base) (passes_all es)
    passes-keep-all none base = keeps-gives (L base) tt
    passes-keep-all (core.more s es) base = keeps-next (L base) (passes s) (passes_all es) (passes-keep s base) (passes-keep-all es base)

  -- ---- statements

  abbrev Lasts : Core → Type 0
  Lasts st = (base : List ℕ) → Keeps (L base) (does.does again P st)

  mutual
    pub statement-lasts : (st : Core) (n : ℕ) → is_statement n st ≡ true → Lasts st
    statement-lasts (core.full e) n ok base =
        keeps-next (L base) (full_expression again P (meaning.value again P e None)) (gives Falls)
        (keeps-full m before base again P classless (meaning.value again P e None) (start-keeps base e ok None)) (keeps-gives (L base) Falls)
    statement-lasts (core.block es) n ok base = keeps-scope m before again P classless (does.does_all again P es) (all-last es n ok []) base
    statement-lasts (core.sequence es) n ok base = all-last es n ok base
    statement-lasts (core.declare i t e) n ok base =
        or-else (is_element t e) (is_held i e) (both (nat_le n i) (is_element t e || is_held i e) ok).1 (λ started. declared-keeps base i t e (element-keeps base t e started))
        (λ held. declared-keeps base i t e (λ p le. held-keeps base i e held p))
    statement-lasts (core.branch c a b) n ok base =
        let forms = both (is_value c) (is_statement n a && is_statement_or (next_local n a) b) ok in
        let arms = both (is_statement n a) (is_statement_or (next_local n a) b) forms.1 in
        keeps-then (L base) (does.holds again P (given c)) _ (holds-keeps base (given c) forms.0)
        (λ t. keeps-when (L base) t (does.does again P a) (does.does_maybe again P b)
        (statement-lasts a n arms.0 base) (maybe-lasts b (next_local n a) arms.1 base))
    statement-lasts (core.loop how q e s) n ok base =
        let forms = both (is_condition q) (is_condition e && is_statement n s) ok in
        let inner = both (is_condition e) (is_statement n s) forms.1 in
        let next : Act Flow = again (turn (core.loop how q e s)) in
        let turned : Keeps (L base) next = rests.turns how q e s n ok m before base in
        let body_lasts : Keeps (L base) (in_scope again P (does.does again P s)) = keeps-scope m before again P classless (does.does again P s) (statement-lasts s n inner.1 []) base in
        let tested : (t : Bool) → Keeps (L base) (when t next (gives Falls)) = λ t. keeps-when (L base) t next (gives Falls) turned (keeps-gives (L base) Falls) in
        keeps-next (L base) tick _ (keeps-tick (L base))
        (keeps-when (L base) (tests_first how) _ _
        (keeps-then (L base) (does.holds again P q) _ (holds-keeps base q forms.0)
        (λ t. keeps-when (L base) t _ (gives Falls)
        (keeps-then (L base) (in_scope again P (does.does again P s)) _ body_lasts (turning-keeps base _ (step-keeps base e inner.0 next turned))) (keeps-gives (L base) Falls)))
        (keeps-then (L base) (in_scope again P (does.does again P s)) _ body_lasts
        (turning-keeps base _ (keeps-then (L base) (does.holds again P q) _ (holds-keeps base q forms.0) tested))))
    statement-lasts (core.switch e es) n ok base =
        let forms = both (is_value e) (are_cases n es) ok in
        keeps-then (L base) (full_expression again P (meaning.value again P e None >>= used) >>= number_of) _
        (keeps-then (L base) (full_expression again P (meaning.value again P e None >>= used)) number_of (used-full base e forms.0)
        (λ v. keeps-pure (L base) (number_of v) (pure-number_of v)))
        (λ z. keeps-then (L base) (in_scope again P (when (has_case z es) (does.from_case again P z es) (when (has_default es) (does.from_default again P es) (gives Falls)))) leaving
        (keeps-scope m before again P classless _
        (keeps-when (L []) (has_case z es) (does.from_case again P z es) _ (case-lasts z es n forms.1)
        (keeps-when (L []) (has_default es) (does.from_default again P es) (gives Falls) (default-lasts es n forms.1) (keeps-gives (L []) Falls))) base)
        (leaving-keeps base))
    statement-lasts core.leave n ok base = keeps-gives (L base) Breaks
    statement-lasts core.continue n ok base = keeps-gives (L base) Continues
    statement-lasts (core.give absent) n ok base = keeps-gives (L base) _
    statement-lasts (core.give (given e)) n ok base =
        keeps-then (L base) (does.result_of again P e) _ (result-keeps base e ok) (λ v. keeps-gives (L base) (Returns v))
    statement-lasts st n ok base = never ok

    maybe-lasts : (o : MaybeCore) (n : ℕ) → is_statement_or n o ≡ true → (base : List ℕ) → Keeps (L base) (does.does_maybe again P o)
    maybe-lasts absent n ok base = keeps-gives (L base) Falls
    maybe-lasts (given s) n ok base = statement-lasts s n ok base

    all-last : (es : Cores) (n : ℕ) → are_statements n es ≡ true → (base : List ℕ) → Keeps (L base) (does.does_all again P es)
    all-last none n ok base = keeps-gives (L base) Falls
    all-last (core.more s es) n ok base =
        let forms = both (is_statement n s) (are_statements (next_local n s) es) ok in
        keeps-then (L base) (does.does again P s) (falling (does.does_all again P es)) (statement-lasts s n forms.0 base)
        (falling-keeps base (does.does_all again P es) (all-last es (next_local n s) forms.1 base))

    -- the statements and labels of a switch
    cases-last : (es : Cores) (n : ℕ) → are_cases n es ≡ true → Keeps (L []) (does.does_all again P es)
    cases-last none n ok = keeps-gives (L []) Falls
    cases-last (core.more s es) n ok =
        let forms = both (is_label s || is_statement n s) (are_cases (next_local n s) es) ok in
        keeps-then (L []) (does.does again P s) (falling (does.does_all again P es))
        (or-else (is_label s) (is_statement n s) forms.0 (label-lasts s) (λ is. statement-lasts s n is []))
        (falling-keeps [] (does.does_all again P es) (cases-last es (next_local n s) forms.1))

    label-lasts : (s : Core) → is_label s ≡ true → Keeps (L []) (does.does again P s)
    label-lasts (core.case_label z) ok = keeps-gives (L []) Falls
    label-lasts core.default_label ok = keeps-gives (L []) Falls
    label-lasts s ok = never ok

    case-lasts : (z : ℤ) (es : Cores) (n : ℕ) → are_cases n es ≡ true → Keeps (L []) (does.from_case again P z es)
    case-lasts z none n ok = keeps-gives (L []) Falls
    case-lasts z (core.more (core.case_label y) es) n ok =
        keeps-when (L []) (int_le y z && int_le z y) (does.does_all again P es) (does.from_case again P z es) (cases-last es n ok) (case-lasts z es n ok)
    case-lasts z (core.more s es) n ok =
        keeps-next (L []) (passes s) (does.from_case again P z es) (passes-keep s [])
        (case-lasts z es (next_local n s) (both (is_label s || is_statement n s) (are_cases (next_local n s) es) ok).1)

    default-lasts : (es : Cores) (n : ℕ) → are_cases n es ≡ true → Keeps (L []) (does.from_default again P es)
    default-lasts none n ok = keeps-gives (L []) Falls
    default-lasts (core.more core.default_label es) n ok = cases-last es n ok
    default-lasts (core.more s es) n ok =
        keeps-next (L []) (passes s) (does.from_default again P es) (passes-keep s [])
        (default-lasts es (next_local n s) (both (is_label s || is_statement n s) (are_cases (next_local n s) es) ok).1)

-- ---- functions, for each bound of ticks

ended-keeps : (Q : State → Type 0) (b : Bool) (flow : Flow) → Keeps Q (ended_well b flow)
ended-keeps Q true Falls = record { by = λ s w q. tt }
ended-keeps Q true flow = keeps-gives Q tt
ended-keeps Q false flow = keeps-gives Q tt

abbrev body_by : calling.Again → Program → Function → List ℕ → Role → Act Flow
body_by again P f args role =
    state >>= (λ s. begins P.classes role s.frame.this
    >> (in_scope again P (does.does again P f.body)
    >>= (λ flow. ended_well (is_class (result f.type)) flow
    >> (unbuilds again P role s.frame.this >> (for_all (reverse args) (end_object again P) >> (ends P.classes role s.frame.this s >> gives flow))))))

body-keeps : (again : calling.Again) (P : Program) → P.classes ≡ [] → Rests again P → (f : Function) → f.role ≡ plain_function → (n : ℕ) → is_statement n f.body ≡ true
    → (m : ℕ) (before : ℕ → Object) (args : List ℕ) → Newer m args → Keeps (Lasting m before []) (run_body again P f args)
body-keeps again P classless rests f role n ok m before args new =
    let Q : State → Type 0 = Lasting m before [] in
    subst (λ role. Keeps Q (body_by again P f args role)) (sym role)
    (keeps-at Q _ (λ s.
    keeps-next Q done _ (keeps-gives Q tt)
    (keeps-then Q (in_scope again P (does.does again P f.body)) _ (keeps-scope m before again P classless (does.does again P f.body) (statement-lasts again P classless rests m before f.body n ok []) [])
    (λ flow. keeps-next Q (ended_well (is_class (result f.type)) flow) _ (ended-keeps Q (is_class (result f.type)) flow)
    (keeps-next Q done _ (keeps-gives Q tt)
    (keeps-next Q (for_all (reverse args) (end_object again P)) _ (keeps-ends m before [] again P classless (reverse args) (newer-reverse m args new))
    (keeps-next Q done (gives flow) (keeps-gives Q tt) (keeps-gives Q flow))))))))

pub rests-at : (P : Program) → P.classes ≡ [] → ((name : Name) (f : Function) → function_named P name ≡ Some f → (f.role ≡ plain_function) × (is_statement (length (parameters f.type)) f.body ≡ true))
    → (n : ℕ) → Rests (runs P n) P
rests-at P classless built zero = record {
  bodies = λ name f found m before args new. record { by = λ s w q. tt };
  turns = λ how q e s n ok m before base. record { by = λ s w q. tt };
}
rests-at P classless built (suc n) = record {
  bodies = λ name f found m before args new.
      let parts = built name f found in
      body-keeps (runs P n) P classless (rests-at P classless built n) f parts.0 (length (parameters f.type)) parts.1 m before args new;
  turns = λ how q e s l ok m before base. statement-lasts (runs P n) P classless (rests-at P classless built n) m before (core.loop how q e s) l ok base;
}
