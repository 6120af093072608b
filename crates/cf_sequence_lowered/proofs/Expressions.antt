-- Expressions: what is so of each of their nodes makes their plain statements pass.
use Rattle.std.proofs.Common.{◌≡◌, ℕ, suc, ◌+◌, ◌<◌, true, false, ◌&&◌, not, List, [], ◌∷◌, ◌++◌, length, refl, arith}
use Rattle.std.specs.Prelude.{ℤ, pos, Option, None}
use Rattle.cf_base.proofs.Tests.{both}
use Rattle.cf_core.specs.Types.{SourceType, parameters, result, is_class}
use Rattle.cf_core.specs.Classes.{Class}
use Rattle.cf_core.specs.Core as core
use Rattle.cf_core.specs.Core.{Core, Cores, no_temporary, none, absent}
use Rattle.cf_core.specs.Nodes.{nodes, nodes_all}
use Rattle.cf_core.specs.Places.{is_reference}
use Rattle.cf_plain.specs.Plain.{Register, Action, Plains, act, set, branch, nothing, more}
use Rattle.cf_plain.specs.Plain as plain
use Rattle.cf_sequence.specs.Built.{is_value, are_values, are_arguments, is_chain}
use Rattle.cf_sequence.specs.Made.{makes, width, numbers}
use Rattle.cf_sequence.specs.Expressions.{Full, flag, Destination, destination, value, values, arguments, settled, result_register, used}
use Rattle.cf_sequence.proofs.Calling.{never}
use Rattle.cf_sequence_lowered.proofs.Each.{Each, each-left, each-right}
use Rattle.cf_sequence_lowered.proofs.Rooms.{Room, low, lower, lowest, room-parts, room-left, room-right, room-third, room-behind, room-next, flag-low}
use Rattle.cf_sequence_lowered.proofs.Suits.{Suits, Declared}
use Rattle.cf_sequence_lowered.proofs.Walk.{Fine, fine-none, fine-then, fine-set, fine-act, fine-branch, fine-settled, fine-one, fine-operands}

module _ (T : Action → Type 0) (L : List ℤ → Type 0) (U : Core → Type 0) (B p : ℕ) (suits : Suits T L U p) (classes : List Class) where
  abbrev Keeps : ℕ → (Plains → Plains) → Type 0
  Keeps d code = Fine T L B d code

  abbrev pub Good : Core → Type 0
  Good e = (d : ℕ) (x : Full) (into : Option Destination) (n k : ℕ) → Room B p x n k (nodes e) → Fine T L B d (value classes x e into n k)

  abbrev AllGood : Cores → Type 0
  AllGood es = (d : ℕ) (x : Full) (n k : ℕ) → Room B p x n k (nodes_all es) → Fine T L B d (values classes x es n k)

  abbrev ArgumentsGood : List SourceType → Cores → Type 0
  ArgumentsGood ts es = (d : ℕ) (x : Full) (n i k : ℕ) → n < B → Room B p x (suc n) k (nodes_all es) → Fine T L B d (arguments classes x ts es n i k)

  -- two operands, and then more
  binary : (e a b : Core) (d : ℕ) (x : Full) (n k : ℕ) (last : Plains → Plains) → makes e ≡ [] → Good a → Good b → Room B p x n k (e ∷ nodes a ++ nodes b) → Keeps d last
      → Keeps d (λ rest. value classes x a None n k (used n (value classes x b None (suc n) (k + width a) (last rest))))
  binary e a b d x n k last empty good_a good_b r q =
      let ab = nodes a ++ nodes b in
      fine-operands T L B d (value classes x a None n k) (value classes x b None (suc n) (k + width a)) last n (suits.neutral (plain.truth n) refl)
      (good_a d x None n k (room-left B p x k n (nodes a) (nodes b) (room-parts B p x k n n e ab empty (omega arith) r)))
      (good_b d x None (suc n) (k + width a) (room-right B p x k (suc n) (nodes a) (nodes b) (room-parts B p x k n (suc n) e ab empty (omega arith) r))) q

  -- an operand, and then an action in the same register
  unary : (e a : Core) (d : ℕ) (x : Full) (n k : ℕ) (last : Action) → makes e ≡ [] → Good a → Room B p x n k (e ∷ nodes a) → T last
      → Keeps d (λ rest. value classes x a None n k (more (set n last) rest))
  unary e a d x n k last empty good r t =
      fine-one T L B d (value classes x a None n k) n last (good d x None n k (room-parts B p x k n n e (nodes a) empty (omega arith) r)) (lowest B p x k n e (nodes a) r) t

  -- a test, and then a branch on it
  branched : (e a : Core) (es : List Core) (d : ℕ) (x : Full) (n k : ℕ) (ss ts : Plains) → makes e ≡ [] → Good a → Room B p x n k (e ∷ nodes a ++ es)
      → Keeps d (λ rest. more (branch n ss ts) rest)
      → Keeps d (λ rest. value classes x a None n k (more (set n (plain.truth n)) (more (branch n ss ts) rest)))
  branched e a es d x n k ss ts empty good r q =
      fine-then T L B d (value classes x a None n k) (λ rest. more (set n (plain.truth n)) (more (branch n ss ts) rest))
      (good d x None n k (room-left B p x k n (nodes a) es (room-parts B p x k n n e (nodes a ++ es) empty (omega arith) r)))
      (fine-then T L B d (λ rest. more (set n (plain.truth n)) rest) (λ rest. more (branch n ss ts) rest)
      (fine-set T L B d n (plain.truth n) (lowest B p x k n e (nodes a ++ es) r) (suits.neutral (plain.truth n) refl)) q)

  -- the second operand of `&&` and `||`
  second : (e a b : Core) (d : ℕ) (x : Full) (n k : ℕ) → makes e ≡ [] → Good b → Room B p x n k (e ∷ nodes a ++ nodes b)
      → Keeps d (λ rest. value classes x b None n (k + width a) (more (set n (plain.truth n)) rest))
  second e a b d x n k empty good r =
      let ab = nodes a ++ nodes b in
      fine-one T L B d (value classes x b None n (k + width a)) n (plain.truth n)
      (good d x None n (k + width a) (room-right B p x k n (nodes a) (nodes b) (room-parts B p x k n n e ab empty (omega arith) r)))
      (lowest B p x k n e ab r) (suits.neutral (plain.truth n) refl)

  choice : (q a b : Core) (d : ℕ) (x : Full) (n k : ℕ) → Good q → Good a → Good b → Room B p x n k (core.conditional q a b ∷ nodes q ++ nodes a ++ nodes b)
      → Keeps d (λ rest. value classes x q None n k (more (set n (plain.truth n))
      (more (branch n (value classes x a None n (k + width q) nothing) (value classes x b None n (k + width q + width a) nothing)) rest)))
  choice q a b d x n k first left right r =
      let e = core.conditional q a b in
      let qab = nodes q ++ nodes a ++ nodes b in
      let inside = room-parts B p x k n n e qab refl (omega arith) r in
      let begin = room-left B p x k n (nodes q ++ nodes a) (nodes b) inside in
      let yes = value classes x a None n (k + width q) nothing in
      let no = value classes x b None n (k + width q + width a) nothing in
      fine-then T L B d (value classes x q None n k) (λ rest. more (set n (plain.truth n)) (more (branch n yes no) rest))
      (first d x None n k (room-left B p x k n (nodes q) (nodes a) begin))
      (fine-then T L B d (λ rest. more (set n (plain.truth n)) rest) (λ rest. more (branch n yes no) rest)
      (fine-set T L B d n (plain.truth n) (lowest B p x k n e qab r) (suits.neutral (plain.truth n) refl))
      (fine-branch T L B d n yes no
      (Fine.pass (left d x None n (k + width q) (room-right B p x k n (nodes q) (nodes a) begin)) nothing tt)
      (Fine.pass (right d x None n (k + width q + width a) (room-third B p x k n (nodes q) (nodes a) (nodes b) inside)) nothing tt)))

  mutual
    pub good-value : (e : Core) → is_value e ≡ true → Each U (nodes e) → Good e
    good-value (core.number z) ok u d x into n k r = fine-set T L B d n (plain.number z) (lowest B p x k n (core.number z) [] r) (suits.number z u.0)
    good-value (core.local i) ok u d x into n k r = fine-set T L B d n (plain.local i) (lowest B p x k n (core.local i) [] r) (suits.neutral (plain.local i) refl)
    good-value (core.text j bytes) ok u d x into n k r = fine-set T L B d n (plain.text j bytes) (lowest B p x k n (core.text j bytes) [] r) (suits.text j bytes u.0)
    good-value (core.static_object name t) ok u d x into n k r =
        fine-set T L B d n (plain.static_object name t) (lowest B p x k n (core.static_object name t) [] r) (suits.static_object name t u.0)
    good-value (core.function name t) ok u d x into n k r = fine-set T L B d n (plain.function name t) (lowest B p x k n (core.function name t) [] r) (suits.function name t u.0)
    good-value (core.read e) ok u d x into n k r = unary (core.read e) e d x n k (plain.read n) refl (good-value e ok u.1) r (suits.neutral (plain.read n) refl)
    good-value (core.address e) ok u d x into n k r =
        fine-then T L B d (value classes x e None n k) (used n)
        (good-value e ok u.1 d x None n k (room-parts B p x k n n (core.address e) (nodes e) refl (omega arith) r)) (fine-act T L B d (plain.truth n) (suits.neutral (plain.truth n) refl))
    good-value (core.dereference e) ok u d x into n k r = unary (core.dereference e) e d x n k (plain.dereference n) refl (good-value e ok u.1) r (suits.neutral (plain.dereference n) refl)
    good-value (core.decay e) ok u d x into n k r = unary (core.decay e) e d x n k (plain.decay n) refl (good-value e ok u.1) r (suits.neutral (plain.decay n) refl)
    good-value (core.from_void t e) ok u d x into n k r = unary (core.from_void t e) e d x n k (plain.from_void t n) refl (good-value e ok u.1) r (suits.from_void t e n u.0)
    good-value (core.index a b) ok u d x into n k r =
        let parts = both (is_value a) (is_value b) ok in
        binary (core.index a b) a b d x n k (λ rest. more (set n (plain.index n (suc n))) rest) refl (good-value a parts.0 (each-left U (nodes a) (nodes b) u.1))
        (good-value b parts.1 (each-right U (nodes a) (nodes b) u.1)) r
        (fine-set T L B d n (plain.index n (suc n)) (lowest B p x k n (core.index a b) (nodes a ++ nodes b) r) (suits.neutral (plain.index n (suc n)) refl))
    good-value (core.pointer_operate op a b) ok u d x into n k r =
        let parts = both (is_value a) (is_value b) ok in
        binary (core.pointer_operate op a b) a b d x n k (λ rest. more (set n (plain.pointer_operate op n (suc n))) rest) refl (good-value a parts.0 (each-left U (nodes a) (nodes b) u.1))
        (good-value b parts.1 (each-right U (nodes a) (nodes b) u.1)) r
        (fine-set T L B d n (plain.pointer_operate op n (suc n)) (lowest B p x k n (core.pointer_operate op a b) (nodes a ++ nodes b) r)
        (suits.neutral (plain.pointer_operate op n (suc n)) refl))
    good-value (core.convert t e) ok u d x into n k r = unary (core.convert t e) e d x n k (plain.convert t n) refl (good-value e ok u.1) r (suits.convert t e n u.0)
    good-value (core.operate op kind a b) ok u d x into n k r =
        let parts = both (is_value a) (is_value b) ok in
        binary (core.operate op kind a b) a b d x n k (λ rest. more (set n (plain.operate op kind n (suc n))) rest) refl (good-value a parts.0 (each-left U (nodes a) (nodes b) u.1))
        (good-value b parts.1 (each-right U (nodes a) (nodes b) u.1)) r
        (fine-set T L B d n (plain.operate op kind n (suc n)) (lowest B p x k n (core.operate op kind a b) (nodes a ++ nodes b) r) (suits.operate op kind a b n (suc n) u.0))
    good-value (core.unary op kind e) ok u d x into n k r = unary (core.unary op kind e) e d x n k (plain.unary op kind n) refl (good-value e ok u.1) r (suits.unary op kind e n u.0)
    good-value (core.logical_not e) ok u d x into n k r = unary (core.logical_not e) e d x n k (plain.logical_not n) refl (good-value e ok u.1) r (suits.neutral (plain.logical_not n) refl)
    good-value (core.logical_and a b) ok u d x into n k r =
        let parts = both (is_value a) (is_value b) ok in
        let right = value classes x b None n (k + width a) (more (set n (plain.truth n)) nothing) in
        branched (core.logical_and a b) a (nodes b) d x n k right nothing refl (good-value a parts.0 (each-left U (nodes a) (nodes b) u.1)) r
        (fine-branch T L B d n right nothing
        (Fine.pass (second (core.logical_and a b) a b d x n k refl (good-value b parts.1 (each-right U (nodes a) (nodes b) u.1)) r) nothing tt) tt)
    good-value (core.logical_or a b) ok u d x into n k r =
        let parts = both (is_value a) (is_value b) ok in
        let right = value classes x b None n (k + width a) (more (set n (plain.truth n)) nothing) in
        branched (core.logical_or a b) a (nodes b) d x n k nothing right refl (good-value a parts.0 (each-left U (nodes a) (nodes b) u.1)) r
        (fine-branch T L B d n nothing right tt
        (Fine.pass (second (core.logical_or a b) a b d x n k refl (good-value b parts.1 (each-right U (nodes a) (nodes b) u.1)) r) nothing tt))
    good-value (core.conditional q a b) ok u d x into n k r =
        let parts = both (is_value q) (is_value a && is_value b) ok in
        let arms = both (is_value a) (is_value b) parts.1 in
        let first = each-left U (nodes q ++ nodes a) (nodes b) u.1 in
        choice q a b d x n k (good-value q parts.0 (each-left U (nodes q) (nodes a) first)) (good-value a arms.0 (each-right U (nodes q) (nodes a) first))
        (good-value b arms.1 (each-right U (nodes q ++ nodes a) (nodes b) u.1)) r
    good-value (core.comma es) ok u d x into n k r = good-values es ok u.1 d x n k (room-parts B p x k n n (core.comma es) (nodes_all es) refl (omega arith) r)
    good-value (core.store a b) ok u d x into n k r =
        let parts = both (is_value a) (is_value b) ok in
        binary (core.store a b) a b d x n k (λ rest. more (act (plain.store n (suc n))) rest) refl (good-value a parts.0 (each-left U (nodes a) (nodes b) u.1))
        (good-value b parts.1 (each-right U (nodes a) (nodes b) u.1)) r (fine-act T L B d (plain.store n (suc n)) (suits.neutral (plain.store n (suc n)) refl))
    good-value (core.update a change b) ok u d x into n k r =
        let parts = both (is_value a) (is_value b) ok in
        let e = core.update a change b in
        let ab = nodes a ++ nodes b in
        binary e a b d x n k
        (λ rest. used (suc n) (more (set (suc (suc n)) (plain.read n)) (more (set (suc n) (plain.changed change (suc (suc n)) (suc n))) (more (act (plain.store n (suc n))) rest)))) refl
        (good-value a parts.0 (each-left U (nodes a) (nodes b) u.1)) (good-value b parts.1 (each-right U (nodes a) (nodes b) u.1)) r
        (record {
          pass = λ rest good. (
            suits.neutral (plain.truth (suc n)) refl,
            (
              (low B p x k n e ab r, suits.neutral (plain.read n) refl),
              ((lower B p x k n e ab r, suits.update a b change (suc (suc n)) (suc n) u.0), (suits.neutral (plain.store n (suc n)) refl, good)),
            ),
          );
          labelled = λ rest. refl;
        })
    good-value (core.step false change e) ok u d x into n k r =
        let s = core.step false change e in
        fine-then T L B d (value classes x e None n k)
        (λ rest. more (set (suc n) (plain.read n)) (more (set (suc (suc n)) (plain.number (pos 1))) (more (set (suc n) (plain.changed change (suc n) (suc (suc n)))) (more (act (plain.store n (suc n))) rest))))
        (good-value e ok u.1 d x None n k (room-parts B p x k n n s (nodes e) refl (omega arith) r))
        (record {
          pass = λ rest good. (
            (lower B p x k n s (nodes e) r, suits.neutral (plain.read n) refl),
            (
              (low B p x k n s (nodes e) r, suits.counter 1),
              ((lower B p x k n s (nodes e) r, suits.step false change e (suc n) (suc (suc n)) u.0), (suits.neutral (plain.store n (suc n)) refl, good)),
            ),
          );
          labelled = λ rest. refl;
        })
    good-value (core.step true change e) ok u d x into n k r =
        let s = core.step true change e in
        fine-then T L B d (value classes x e None (suc n) k)
        (λ rest. more (set n (plain.read (suc n))) (more (set (suc (suc n)) (plain.number (pos 1))) (more (set (suc (suc n)) (plain.changed change n (suc (suc n)))) (more (act (plain.store (suc n) (suc (suc n)))) rest))))
        (good-value e ok u.1 d x None (suc n) k (room-parts B p x k n (suc n) s (nodes e) refl (omega arith) r))
        (record {
          pass = λ rest good. (
            (lowest B p x k n s (nodes e) r, suits.neutral (plain.read (suc n)) refl),
            (
              (low B p x k n s (nodes e) r, suits.counter 1),
              ((low B p x k n s (nodes e) r, suits.step true change e n (suc (suc n)) u.0), (suits.neutral (plain.store (suc n) (suc (suc n))) refl, good)),
            ),
          );
          labelled = λ rest. refl;
        })
    good-value (core.temporary t e) ok u d x into n k r =
        let s = core.temporary t e in
        let is : is_value e ≡ true = (both (not (is_reference t)) (is_value e) ok).1 in
        let first : Plains → Plains = value classes x e (destination (suc n) t) (suc (suc n)) (suc k) in
        let last : Plains → Plains = λ rest. more (set (flag x k) (plain.number (pos 1))) rest in
        let inside : Plains → Plains = λ rest. first (settled e (suc n) (suc (suc n)) (last rest)) in
        fine-then T L B d (λ rest. more (set (suc n) (plain.declare k t)) rest) (λ rest. more (set n (plain.local k)) (inside rest))
        (fine-set T L B d (suc n) (plain.declare k t) (lower B p x k n s (nodes e) r) (suits.temporary t e k u.0).0)
        (fine-then T L B d (λ rest. more (set n (plain.local k)) rest) inside
        (fine-set T L B d n (plain.local k) (lowest B p x k n s (nodes e) r) (suits.neutral (plain.local k) refl))
        (fine-then T L B d first (λ rest. settled e (suc n) (suc (suc n)) (last rest))
        (good-value e is u.1 d x (destination (suc n) t) (suc (suc n)) (suc k) (room-next B p x k n (suc (suc n)) s (nodes e) refl (omega arith) r))
        (fine-then T L B d (settled e (suc n) (suc (suc n))) last
        (fine-settled T L B d e (suc n) (suc (suc n)) (suits.neutral (plain.first (suc n) (suc (suc n))) refl))
        (fine-set T L B d (flag x k) (plain.number (pos 1)) (flag-low B p x k n s (nodes e) refl r) (suits.counter 1)))))
    good-value (core.bind no_temporary e) ok u d x into n k r = good-value e ok u.1 d x None n k (room-parts B p x k n n (core.bind no_temporary e) (nodes e) refl (omega arith) r)
    good-value (core.call name t absent args) ok u d x into n k r =
        let given_args = (both (is_chain t) (are_arguments args) (both (not (is_class (result t))) (is_chain t && are_arguments args) ok).1).1 in
        let s = core.call name t absent args in
        let l : ℕ = k + length (parameters t) + 0 in
        let call = plain.call name t None (numbers k (parameters t)) (result_register t into) in
        fine-then T L B d (λ rest. more (act (plain.function name t)) rest) (λ rest. arguments classes x (parameters t) args n k l (more (set n call) rest))
        (fine-act T L B d (plain.function name t) (suits.called name t args u.0))
        (fine-one T L B d (arguments classes x (parameters t) args n k l) n call
        (good-arguments (parameters t) args (suits.passed name t args u.0) given_args u.1 d x n k l (lowest B p x k n s (nodes_all args) r)
        (room-behind B p x k n (suc n) s (nodes_all args) (omega arith) r))
        (lowest B p x k n s (nodes_all args) r) (suits.call name t args k (result_register t into) u.0 (Room.behind r)))
    good-value (core.pointer_call absent e t args) ok u d x into n k r =
        let forms = both (not (is_class (result t))) (is_chain t && (is_value e && are_arguments args)) ok in
        let parts = both (is_value e) (are_arguments args) (both (is_chain t) (is_value e && are_arguments args) forms.1).1 in
        let s = core.pointer_call absent e t args in
        let es = nodes e ++ nodes_all args in
        let l : ℕ = k + length (parameters t) + 0 in
        let call = plain.pointer_call None n t (numbers k (parameters t)) (result_register t into) in
        let passed : Plains → Plains = arguments classes x (parameters t) args (suc n) k (l + width e) in
        fine-then T L B d (value classes x e None n l) (λ rest. used n (passed (more (set n call) rest)))
        (good-value e parts.0 (each-left U (nodes e) (nodes_all args) u.1) d x None n l (room-left B p x l n (nodes e) (nodes_all args) (room-behind B p x k n n s es (omega arith) r)))
        (fine-then T L B d (used n) (λ rest. passed (more (set n call) rest)) (fine-act T L B d (plain.truth n) (suits.neutral (plain.truth n) refl))
        (fine-one T L B d passed n call
        (good-arguments (parameters t) args (suits.passed_on e t args u.0) parts.1 (each-right U (nodes e) (nodes_all args) u.1) d x (suc n) k (l + width e)
        (lower B p x k n s es r) (room-right B p x l (suc (suc n)) (nodes e) (nodes_all args) (room-behind B p x k n (suc (suc n)) s es (omega arith) r)))
        (lowest B p x k n s es r) (suits.pointer_call e t args n k (result_register t into) u.0 (Room.behind r))))
    good-value e ok u d x into n k r = never ok

    good-values : (es : Cores) → are_values es ≡ true → Each U (nodes_all es) → AllGood es
    good-values none ok u d x n k r = never ok
    good-values (core.more e none) ok u d x n k r = good-value e ok (each-left U (nodes e) [] u) d x None n k (room-left B p x k n (nodes e) [] r)
    good-values (core.more e (core.more f es)) ok u d x n k r =
        let parts = both (is_value e) (are_values (core.more f es)) ok in
        let others = core.more f es in
        fine-then T L B d (value classes x e None n k) (values classes x others n (k + width e))
        (good-value e parts.0 (each-left U (nodes e) (nodes_all others) u) d x None n k (room-left B p x k n (nodes e) (nodes_all others) r))
        (good-values (core.more f es) parts.1 (each-right U (nodes e) (nodes_all others) u) d x n (k + width e) (room-right B p x k n (nodes e) (nodes_all others) r))

    good-arguments : (ts : List SourceType) (es : Cores) → Each (Declared T L U p) ts → are_arguments es ≡ true → Each U (nodes_all es) → ArgumentsGood ts es
    good-arguments [] none made ok u d x n i k lt r = fine-none T L B d
    good-arguments [] (core.more e es) made ok u d x n i k lt r = fine-none T L B d
    good-arguments (t ∷ ts) none made ok u d x n i k lt r = fine-none T L B d
    good-arguments (t ∷ ts) (core.more e es) made ok u d x n i k lt r =
        let parts = both (is_value e) (are_arguments es) ok in
        let rest_of : Plains → Plains = arguments classes x ts es n (suc i) (k + width e) in
        fine-then T L B d (λ rest. more (set n (plain.declare i t)) rest) (λ rest. value classes x e (destination n t) (suc n) k (settled e n (suc n) (rest_of rest)))
        (fine-set T L B d n (plain.declare i t) lt (made.0 i))
        (fine-then T L B d (value classes x e (destination n t) (suc n) k) (λ rest. settled e n (suc n) (rest_of rest))
        (good-value e parts.0 (each-left U (nodes e) (nodes_all es) u) d x (destination n t) (suc n) k (room-left B p x k (suc n) (nodes e) (nodes_all es) r))
        (fine-then T L B d (settled e n (suc n)) rest_of (fine-settled T L B d e n (suc n) (suits.neutral (plain.first n (suc n)) refl))
        (good-arguments ts es made.1 parts.1 (each-right U (nodes e) (nodes_all es) u) d x n (suc i) (k + width e) lt (room-right B p x k (suc n) (nodes e) (nodes_all es) r))))
