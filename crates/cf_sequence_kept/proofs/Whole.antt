-- Every expression: each register is set before it is used, and holds there what is taken.
use Rattle.std.proofs.Common.{◌≡◌, inr, ℕ, suc, ◌+◌, ◌<◌, Bool, true, false, ◌&&◌, ◌||◌, not, if◌then◌else◌, List, [], ◌∷◌, ◌++◌, length, refl, ap, ◌∙◌, arith}
use Rattle.std.specs.Prelude.{pos, Option, Some, None}
use Rattle.cf_base.specs.declared.kind.Kind.TheVariants.{Char, Int}
use Rattle.cf_base.specs.Integers.{fits}
use Rattle.cf_base.proofs.Tests.{both}
use Rattle.cf_core.specs.Types.{SourceType, integer, pointer, array, plain as unqualified, parameters, result, is_class}
use Rattle.cf_core.specs.Classes.{Class}
use Rattle.cf_core.specs.Core as core
use Rattle.cf_core.specs.Core.{Core, Cores, no_temporary, none, absent}
use Rattle.cf_core.specs.Nodes.{nodes, nodes_all}
use Rattle.cf_core.specs.Places.{is_reference}
use Rattle.cf_core.specs.Typing.{Scope, is_function, same_type, of_value, of_place, of_result, is_condition, is_expression, is_right_operand, pointed, either, converts}
use Rattle.cf_core.specs.Typed.{typing, typings, last_typing, typing_maybe, fit, on_object, read_type, pointed_place, address_type, decayed_type, stepped, void_pointer}
use Rattle.cf_plain.specs.Plain.{Register, Plains, act, set, more}
use Rattle.cf_plain.specs.Plain as plain
use Rattle.cf_plain_kept.specs.Kept as kept
use Rattle.cf_plain_kept.specs.Kept.{Kept, no_value, an_integer, a_place, an_object, Keeping, keep, value_of, suits, given, named, pointed_call, kept_by}
use Rattle.cf_sequence.specs.Built.{is_value, are_values, are_arguments, is_chain}
use Rattle.cf_sequence.specs.Made.{added, width, numbers}
use Rattle.cf_sequence.specs.Expressions.{Full, flag, Destination, destination, value, values, arguments, settled, builds, result_register}
use Rattle.cf_sequence.proofs.Calling.{never}
use Rattle.cf_sequence.proofs.SameTypes.{same-itself}
use Rattle.cf_sequence_kept.proofs.Spans.{Span, Stays, stays, stays-then, Room, room-left, room-right, room-above, room-behind, room-within, mark-within}
use Rattle.cf_sequence_kept.proofs.Suits.{names-place}
use Rattle.cf_sequence_kept.proofs.Related.{of-number, of-place, of-name, of-result, of-allowed, of-bind, called-suits, called-kept, called-tested}
use Rattle.cf_sequence_kept.proofs.Values.{keep-at, keep-below, keep-above, flag-stays, runs, set-runs, act-runs, use-runs, Keeps, leaf, named-keeps, read-keeps, address-keeps, dereference-keeps, decay-keeps, from-void-keeps}
use Rattle.cf_sequence_kept.proofs.Expressions.{and-keeps, or-keeps, conditional-keeps, index-keeps, pointers-keep, operate-keeps, convert-keeps, unary-keeps, not-keeps, store-keeps}
use Rattle.cf_sequence_kept.proofs.Steps.{update-keeps, prefix-keeps, postfix-keeps}
use Rattle.cf_sequence_valid.proofs.Serves.{Serves, as_value, as_start, allowed-is, allowed-serves, by-place, by-type, by-pointed, conditions-serve, expressions-serve, right-serves, index-serves, pointer-serves, either-serves, store-serves, update-serves, converts-serve, bind-serves, called-serves}
use Rattle.cf_sequence_valid.proofs.Values as locals_of

negated : (b : Bool) → not b ≡ true → b ≡ false
negated true e = never e
negated false e = refl

-- an expression gives its value
pub value-put : (e : Core) → is_value e ≡ true → builds e ≡ false
value-put core.blank ok = never ok
value-put core.zeros ok = never ok
value-put (core.string bytes) ok = never ok
value-put (core.build name t args) ok = never ok
value-put (core.copy t e args) ok = never ok
value-put (core.each e) ok = never ok
value-put (core.list es rest) ok = never ok
value-put (core.virtual_call f t e args) ok = never ok
value-put (core.pointer_call absent e t args) ok = negated (is_class (result t)) (both (not (is_class (result t))) (is_chain t && (is_value e && are_arguments args)) ok).0
value-put (core.pointer_call (core.given o) e t args) ok = never ok
value-put (core.call name t absent args) ok = negated (is_class (result t)) (both (not (is_class (result t))) (is_chain t && are_arguments args) ok).0
value-put (core.call name t (core.given e) args) ok = never ok
value-put e ok = refl

pub settled-put : (e : Core) → is_value e ≡ true → (p n : Register) (rest : Plains) → settled e p n rest ≡ more (act (plain.first p n)) rest
settled-put e ok p n rest = ap (λ b. if b then rest else more (act (plain.first p n)) rest) (value-put e ok)

module _ (locals : List SourceType) (R : SourceType) (span : Span) (classes : List Class) (scope : Scope) (keeps : locals_of.Kept scope locals) where
  -- code that leaves the registers below n as they are
  pub record Passes (n : ℕ) (g : Keeping) (code : Plains → Plains) : Type 0 where
    pub now : Keeping
    pub below : (r : ℕ) → r < n → Stays span r (g r) (now r)
    pub goes : (rest : Plains) → runs locals R (code rest) g ≡ runs locals R rest now

  no-result : (t : SourceType) (into : Option Destination) → is_class (result t) ≡ false → result_register t into ≡ None
  no-result t None e = refl
  no-result t (Some d) e = ap (λ b. if b then Some d.register else None) e

  mutual
    pub keeps-value : (e : Core) → is_value e ≡ true → Serves (typing scope e) → (x : Full) (into : Option Destination) (n k : ℕ) (g : Keeping) → Room locals span x n k (added (nodes e))
        → Keeps locals R span (typing scope e) n g (value classes x e into n k)
    keeps-value (core.number z) ok s x into n k g room = leaf locals R span (typing scope (core.number z)) n g (plain.number z) (an_integer (λ j. fits j z)) refl (of-number z)
    keeps-value (core.local i) ok s x into n k g room = named-keeps locals R span classes scope keeps i n g s
    keeps-value (core.text j bytes) ok s x into n k g room =
        let t : SourceType = array (integer Char) (length bytes) in leaf locals R span (typing scope (core.text j bytes)) n g (plain.text j bytes) (a_place t) refl (of-place t (a_place t) (same-itself t))
    keeps-value (core.static_object name t) ok s x into n k g room =
        let m = of-name t in leaf locals R span (typing scope (core.static_object name t)) n g (plain.static_object name t) m.kept m.is m.related
    keeps-value (core.function name t) ok s x into n k g room =
        let function_type = allowed-is (is_function t) (of_place t) s in
        leaf locals R span (typing scope (core.function name t)) n g (plain.function name t) (a_place t) refl (of-allowed (is_function t) (of_place t) (a_place t) function_type (of-place t (a_place t) (same-itself t)))
    keeps-value (core.read e) ok s x into n k g room =
        read-keeps locals R span classes scope keeps (value classes x e None n k) (keeps-value e ok (by-place (typing scope e) (read_type scope) refl s) x None n k g room) s
    keeps-value (core.address e) ok s x into n k g room =
        address-keeps locals R span classes scope keeps (value classes x e None n k) (keeps-value e ok (by-place (typing scope e) (address_type scope) refl s) x None n k g room) s
    keeps-value (core.dereference e) ok s x into n k g room =
        dereference-keeps locals R span classes scope keeps (value classes x e None n k) (keeps-value e ok (by-pointed (typing scope e) (pointed_place scope) refl s) x None n k g room) s
    keeps-value (core.decay e) ok s x into n k g room =
        decay-keeps locals R span classes scope keeps (value classes x e None n k) (keeps-value e ok (by-place (typing scope e) (decayed_type scope) refl s) x None n k g room) s
    keeps-value (core.from_void t e) ok s x into n k g room =
        from-void-keeps locals R span classes scope keeps (value classes x e None n k)
        (keeps-value e ok (by-type (typing scope e) (λ o. void_pointer scope (pointed o)) refl (allowed-is (void_pointer scope (pointed (typing scope e).type)) (of_value (pointer t)) s)) x None n k g room) t s
    keeps-value (core.index a b) ok s x into n k g room =
        let parts = both (is_value a) (is_value b) ok in
        let serve = index-serves scope (typing scope a) (typing scope b) s in
        index-keeps locals R span classes scope keeps a b (keeps-value a parts.0 serve.0) (keeps-value b parts.1 serve.1) s x into n k g room
    keeps-value (core.pointer_operate op a b) ok s x into n k g room =
        let parts = both (is_value a) (is_value b) ok in
        let serve = pointer-serves op (typing scope a) (typing scope b) s in
        pointers-keep locals R span classes scope keeps op a b (keeps-value a parts.0 serve.0) (keeps-value b parts.1 serve.1) s x into n k g room
    keeps-value (core.convert t e) ok s x into n k g room =
        convert-keeps locals R span classes scope keeps t e (keeps-value e ok (converts-serve (unqualified t) (typing scope e) (allowed-is (converts (unqualified t) (typing scope e)) _ s))) s x into n k g room
    keeps-value (core.operate op kind a b) ok s x into n k g room =
        let parts = both (is_value a) (is_value b) ok in
        let fits_left = (typing scope a).value (integer kind) in
        let serve = both fits_left (is_right_operand op kind (typing scope b)) (allowed-is (fits_left && is_right_operand op kind (typing scope b)) _ s) in
        operate-keeps locals R span classes scope keeps op kind a b (keeps-value a parts.0 (as_value (integer kind) serve.0)) (keeps-value b parts.1 (right-serves op kind (typing scope b) serve.1)) s x into n k g room
    keeps-value (core.unary op kind e) ok s x into n k g room =
        unary-keeps locals R span classes scope keeps op kind e (keeps-value e ok (as_value (integer kind) (allowed-is ((typing scope e).value (integer kind)) (of_value (integer kind)) s))) s x into n k g room
    keeps-value (core.logical_not e) ok s x into n k g room =
        not-keeps locals R span classes scope keeps e (keeps-value e ok (conditions-serve (typing scope e) (allowed-is (is_condition (typing scope e)) (of_value (integer Int)) s))) s x into n k g room
    keeps-value (core.logical_and a b) ok s x into n k g room =
        let parts = both (is_value a) (is_value b) ok in
        let there = allowed-is (is_condition (typing scope a) && is_condition (typing scope b)) (of_value (integer Int)) s in
        let test = both (is_condition (typing scope a)) (is_condition (typing scope b)) there in
        and-keeps locals R span classes scope keeps a b (keeps-value a parts.0 (conditions-serve (typing scope a) test.0)) (keeps-value b parts.1 (conditions-serve (typing scope b) test.1)) there x into n k g room
    keeps-value (core.logical_or a b) ok s x into n k g room =
        let parts = both (is_value a) (is_value b) ok in
        let there = allowed-is (is_condition (typing scope a) && is_condition (typing scope b)) (of_value (integer Int)) s in
        let test = both (is_condition (typing scope a)) (is_condition (typing scope b)) there in
        or-keeps locals R span classes scope keeps a b (keeps-value a parts.0 (conditions-serve (typing scope a) test.0)) (keeps-value b parts.1 (conditions-serve (typing scope b) test.1)) there x into n k g room
    keeps-value (core.conditional c a b) ok s x into n k g room =
        let parts = both (is_value c) (is_value a && is_value b) ok in
        let arms = both (is_value a) (is_value b) parts.1 in
        let there = allowed-is (is_condition (typing scope c)) (either (typing scope a) (typing scope b)) s in
        let serve = either-serves (typing scope a) (typing scope b) (allowed-serves (is_condition (typing scope c)) (either (typing scope a) (typing scope b)) s) in
        conditional-keeps locals R span classes scope keeps c a b (keeps-value c parts.0 (conditions-serve (typing scope c) there)) (keeps-value a arms.0 serve.0) (keeps-value b arms.1 serve.1) s x into n k g room
    keeps-value (core.comma es) ok s x into n k g room = keeps-values es ok s x n k g room
    keeps-value (core.store a b) ok s x into n k g room =
        let parts = both (is_value a) (is_value b) ok in
        let serve = store-serves scope (typing scope a) (typing scope b) s in
        store-keeps locals R span classes scope keeps a b (keeps-value a parts.0 serve.0) (keeps-value b parts.1 serve.1) s x into n k g room
    keeps-value (core.update a change b) ok s x into n k g room =
        let parts = both (is_value a) (is_value b) ok in
        let serve = update-serves scope change (typing scope a) (typing scope b) s in
        update-keeps locals R span classes scope a b change (keeps-value a parts.0 serve.0) (keeps-value b parts.1 serve.1) s x into n k g room
    keeps-value (core.step false change e) ok s x into n k g room =
        prefix-keeps locals R span classes scope e change (keeps-value e ok (by-place (typing scope e) (stepped scope false change) refl s)) s x into n k g room
    keeps-value (core.step true change e) ok s x into n k g room =
        postfix-keeps locals R span classes scope e change (keeps-value e ok (by-place (typing scope e) (stepped scope true change) refl s)) s x into n k g room
    keeps-value (core.temporary t e) ok s x into n k g room =
        let parts = both (not (is_reference t)) (is_value e) ok in
        let starts : (typing scope e).start t ≡ true = allowed-is ((typing scope e).start t) (of_place t) s in
        let one : Kept = an_integer (λ j. fits j (pos 1)) in
        let first : Keeping = keep g (suc n) (an_object k t) in
        let second : Keeping = keep first n (a_place t) in
        let mark : Register = flag x k in
        let p = keeps-value e parts.1 (as_start t starts) x (destination (suc n) t) (suc (suc n)) (suc k) second (room-within locals span x n k t (added (nodes e)) room) in
        let marked = mark-within locals span x n k t (added (nodes e)) room in
        let object_there : p.now (suc n) ≡ Some (an_object k t) =
        Stays.same (p.below (suc n) (omega arith)) (inr marked.behind) ∙ keep-above first n (suc n) (a_place t) (omega arith) ∙ keep-at g (suc n) (an_object k t) in
        let place_there : p.now n ≡ Some (a_place t) = Stays.same (p.below n (omega arith)) (inr room.top) ∙ keep-at first n (a_place t) in
        record {
          kept = a_place t;
          now = keep p.now mark one;
          related = of-allowed ((typing scope e).start t) (of_place t) (a_place t) starts (of-place t (a_place t) (same-itself t));
          at = keep-above p.now mark n one marked.below ∙ place_there;
          below = λ r lt.
              stays-then (stays (keep-below first n r (a_place t) lt ∙ keep-below g (suc n) r (an_object k t) (omega arith)))
              (stays-then (p.below r (omega arith)) (flag-stays span p.now mark r (λ j. fits j (pos 1)) marked.low marked.top));
          goes = λ rest.
              let last : Plains = more (set mark (plain.number (pos 1))) rest in
              let code : Plains = value classes x e (destination (suc n) t) (suc (suc n)) (suc k) (settled e (suc n) (suc (suc n)) last) in
              set-runs locals R g (suc n) (plain.declare k t) (an_object k t) (more (set n (plain.local k)) code) refl
              ∙ set-runs locals R first n (plain.local k) (a_place t) code (ap named room.stand.0 ∙ names-place t parts.0)
              ∙ p.goes (settled e (suc n) (suc (suc n)) last)
              ∙ ap (λ ss. runs locals R ss p.now) (settled-put e parts.1 (suc n) (suc (suc n)) last)
              ∙ act-runs locals R p.now (plain.first (suc n) (suc (suc n))) no_value last
              (ap (λ o. kept.begun o (p.now (suc (suc n)))) object_there ∙ ap (kept.begun (Some (an_object k t))) p.at ∙ ap (λ b. given b no_value) (p.related.start t starts))
              ∙ set-runs locals R p.now mark (plain.number (pos 1)) one rest refl;
        }
    keeps-value (core.bind no_temporary e) ok s x into n k g room =
        let p = keeps-value e ok (bind-serves scope (typing scope e) s) x None n k g room in
        record { kept = p.kept; now = p.now; related = of-bind scope (typing scope e) p.kept p.related; at = p.at; below = p.below; goes = p.goes }
    keeps-value (core.call name t absent args) ok s x into n k g room =
        let forms = both (not (is_class (result t))) (is_chain t && are_arguments args) ok in
        let scalar = negated (is_class (result t)) forms.0 in
        let called = is_function t && on_object scope (typing_maybe scope absent) in
        let good = allowed-is (called && fit scope (parameters t) (typings scope args)) (of_result (result t)) s in
        let fits_all = (both called (fit scope (parameters t) (typings scope args)) good).1 in
        let p = passes-arguments (parameters t) args (both (is_chain t) (are_arguments args) forms.1).1 fits_all x n k (k + length (parameters t) + 0) g (room-behind locals span x n k (parameters t) (added (nodes_all args)) room) in
        let call_is : kept_by locals R p.now (plain.call name t None (numbers k (parameters t)) (result_register t into)) ≡ Some (value_of (result t)) =
        ap (λ o. kept_by locals R p.now (plain.call name t None (numbers k (parameters t)) o)) (no-result t into scalar) in
        record {
          kept = value_of (result t);
          now = keep p.now n (value_of (result t));
          related = of-allowed (called && fit scope (parameters t) (typings scope args)) (of_result (result t)) (value_of (result t)) good (of-result (result t) scalar);
          at = keep-at p.now n (value_of (result t));
          below = λ r lt. stays-then (p.below r lt) (stays (keep-below p.now n r (value_of (result t)) lt));
          goes = λ rest.
              let last : Plains = more (set n (plain.call name t None (numbers k (parameters t)) (result_register t into))) rest in
              act-runs locals R g (plain.function name t) (a_place t) (arguments classes x (parameters t) args n k (k + length (parameters t) + 0) last) refl ∙ p.goes last
              ∙ set-runs locals R p.now n (plain.call name t None (numbers k (parameters t)) (result_register t into)) (value_of (result t)) rest call_is;
        }
    keeps-value (core.pointer_call absent e t args) ok s x into n k g room =
        let forms = both (not (is_class (result t))) (is_chain t && (is_value e && are_arguments args)) ok in
        let parts = both (is_value e) (are_arguments args) (both (is_chain t) (is_value e && are_arguments args) forms.1).1 in
        let scalar = negated (is_class (result t)) forms.0 in
        let called = (typing scope e).value (pointer t) || same_type (typing scope e).place t in
        let good = allowed-is (called && fit scope (parameters t) (typings scope args)) (of_result (result t)) s in
        let fits_all = both called (fit scope (parameters t) (typings scope args)) good in
        let l : ℕ = k + length (parameters t) + 0 in
        let behind = room-behind locals span x n k (parameters t) (added (nodes e ++ nodes_all args)) room in
        let p = keeps-value e parts.0 (called-serves t (typing scope e) fits_all.0) x None n l g (room-left locals span x n l (nodes e) (nodes_all args) behind) in
        let holds = called-suits (typing scope e) p.kept p.related t fits_all.0 in
        let q = passes-arguments (parameters t) args parts.1 fits_all.1 x (suc n) k (l + width e) p.now (room-right locals span x n l (suc n) (omega arith) (nodes e) (nodes_all args) behind) in
        let call = plain.pointer_call None n t (numbers k (parameters t)) (result_register t into) in
        let call_is : kept_by locals R q.now call ≡ Some (value_of (result t)) =
        ap (λ o. kept_by locals R q.now (plain.pointer_call None n t (numbers k (parameters t)) o)) (no-result t into scalar)
        ∙ ap (pointed_call t) (Stays.same (q.below n (omega arith)) (inr room.top) ∙ p.at) ∙ called-kept t p.kept holds in
        record {
          kept = value_of (result t);
          now = keep q.now n (value_of (result t));
          related = of-allowed (called && fit scope (parameters t) (typings scope args)) (of_result (result t)) (value_of (result t)) good (of-result (result t) scalar);
          at = keep-at q.now n (value_of (result t));
          below = λ r lt. stays-then (p.below r lt) (stays-then (q.below r (omega arith)) (stays (keep-below q.now n r (value_of (result t)) lt)));
          goes = λ rest.
              let last : Plains = more (set n call) rest in
              use-runs locals R span (value classes x e None n l) p (called-tested t p.kept holds) (arguments classes x (parameters t) args (suc n) k (l + width e) last) ∙ q.goes last
              ∙ set-runs locals R q.now n call (value_of (result t)) rest call_is;
        }
    keeps-value e ok s x into n k g room = never ok

    keeps-values : (es : Cores) → are_values es ≡ true → Serves (last_typing scope es) → (x : Full) (n k : ℕ) (g : Keeping) → Room locals span x n k (added (nodes_all es))
        → Keeps locals R span (last_typing scope es) n g (values classes x es n k)
    keeps-values none ok s x n k g room = never ok
    keeps-values (core.more e none) ok s x n k g room = keeps-value e ok s x None n k g (room-left locals span x n k (nodes e) [] room)
    keeps-values (core.more e (core.more f es)) ok s x n k g room =
        let parts = both (is_value e) (are_values (core.more f es)) ok in
        let there = allowed-is (is_expression (typing scope e)) (last_typing scope (core.more f es)) s in
        let last = allowed-serves (is_expression (typing scope e)) (last_typing scope (core.more f es)) s in
        let p = keeps-value e parts.0 (expressions-serve (typing scope e) there) x None n k g (room-left locals span x n k (nodes e) (nodes_all (core.more f es)) room) in
        let q = keeps-values (core.more f es) parts.1 last x n (k + width e) p.now (room-right locals span x n k n (omega arith) (nodes e) (nodes_all (core.more f es)) room) in
        record {
          kept = q.kept;
          now = q.now;
          related = of-allowed (is_expression (typing scope e)) (last_typing scope (core.more f es)) q.kept there q.related;
          at = q.at;
          below = λ r lt. stays-then (p.below r lt) (q.below r lt);
          goes = λ rest. p.goes (values classes x (core.more f es) n (k + width e) rest) ∙ q.goes rest;
        }

    passes-arguments : (ts : List SourceType) (es : Cores) → are_arguments es ≡ true → fit scope ts (typings scope es) ≡ true → (x : Full) (n i k : ℕ) (g : Keeping) → Room locals span x n k (added (nodes_all es))
        → Passes n g (arguments classes x ts es n i k)
    passes-arguments [] none ok fits_all x n i k g room = record { now = g; below = λ r lt. stays refl; goes = λ rest. refl }
    passes-arguments [] (core.more e es) ok fits_all x n i k g room = never fits_all
    passes-arguments (t ∷ ts) none ok fits_all x n i k g room = never fits_all
    passes-arguments (t ∷ ts) (core.more e es) ok fits_all x n i k g room =
        let parts = both (is_value e) (are_arguments es) ok in
        let starts = both ((typing scope e).start t) (fit scope ts (typings scope es)) fits_all in
        let first : Keeping = keep g n (an_object i t) in
        let p = keeps-value e parts.0 (as_start t starts.0) x (destination n t) (suc n) k first
        (room-above locals span x n k (suc n) (omega arith) (added (nodes e)) (room-left locals span x n k (nodes e) (nodes_all es) room)) in
        let q = passes-arguments ts es parts.1 starts.1 x n (suc i) (k + width e) p.now (room-right locals span x n k n (omega arith) (nodes e) (nodes_all es) room) in
        let up : n < suc n = omega arith in
        let object_there : p.now n ≡ Some (an_object i t) = Stays.same (p.below n up) (inr room.top) ∙ keep-at g n (an_object i t) in
        record {
          now = q.now;
          below = λ r lt.
              let near : r < suc n = omega (arith, lt) in stays-then (stays (keep-below g n r (an_object i t) lt)) (stays-then (p.below r near) (q.below r lt));
          goes = λ rest.
              let others : Plains = arguments classes x ts es n (suc i) (k + width e) rest in
              set-runs locals R g n (plain.declare i t) (an_object i t) (value classes x e (destination n t) (suc n) k (settled e n (suc n) others)) refl
              ∙ p.goes (settled e n (suc n) others)
              ∙ ap (λ ss. runs locals R ss p.now) (settled-put e parts.0 n (suc n) others)
              ∙ act-runs locals R p.now (plain.first n (suc n)) no_value others
              (ap (λ o. kept.begun o (p.now (suc n))) object_there ∙ ap (kept.begun (Some (an_object i t))) p.at ∙ ap (λ b. given b no_value) (p.related.start t starts.0))
              ∙ q.goes rest;
        }
