-- The temporaries of a full expression: their flags are registers that are free, and their ends pass.
use Rattle.std.proofs.Common.{◌≡◌, ℕ, suc, ◌+◌, ◌<◌, Bool, true, false, ◌&&◌, not, List, [], ◌∷◌, ◌++◌, length, reverse, refl, arith}
use Rattle.std.specs.Prelude.{ℤ, pos}
use Rattle.cf_base.proofs.Tests.{both}
use Rattle.cf_core.specs.Types.{parameters, result, is_class}
use Rattle.cf_core.specs.Core as core
use Rattle.cf_core.specs.Core.{Core, Cores, no_temporary, none, absent}
use Rattle.cf_core.specs.Nodes.{nodes, nodes_all}
use Rattle.cf_core.specs.Places.{is_reference}
use Rattle.cf_plain.specs.Plain.{Register, Action, Plains, act, set, branch, nothing, more}
use Rattle.cf_plain.specs.Plain as plain
use Rattle.cf_sequence.specs.Built.{is_value, are_values, are_arguments, is_chain}
use Rattle.cf_sequence.specs.Made.{Local, Temporary, temporaries, temporaries_all, makes, width}
use Rattle.cf_sequence.specs.Expressions.{Full, flag, flags, ended, finished}
use Rattle.cf_sequence.proofs.Calling.{never}
use Rattle.cf_sequence_lowered.proofs.Each.{Each, each-two, each-left, each-right, each-reversed}
use Rattle.cf_sequence_lowered.proofs.Rooms.{Room, room-parts, room-left, room-right, room-third, room-behind, room-next, flag-low}
use Rattle.cf_sequence_lowered.proofs.Suits.{Suits, Own}
use Rattle.cf_sequence_lowered.proofs.Walk.{Fine, fine-none, fine-then, fine-set, fine-act, fine-branch}

module _ (T : Action → Type 0) (L : List ℤ → Type 0) (U : Core → Type 0) (B p : ℕ) (suits : Suits T L U p) where
  abbrev Flagged : Full → Temporary → Type 0
  Flagged x t = Own T L U p t.local × (flag x t.local.number < B)

  pub fine-finished : (d : ℕ) (xs : List Local) → Each (Own T L U p) xs → Fine T L B d (finished xs)
  fine-finished d [] u = fine-none T L B d
  fine-finished d (x ∷ xs) u =
      fine-then T L B d (λ rest. more (act (plain.finish x.type x.number)) rest) (finished xs) (fine-act T L B d (plain.finish x.type x.number) u.0.1) (fine-finished d xs u.1)

  pub fine-flags : (d : ℕ) (x : Full) (ts : List Temporary) → Each (Flagged x) ts → Fine T L B d (flags x ts)
  fine-flags d x [] u = fine-none T L B d
  fine-flags d x (t ∷ ts) u = by t.in_branch (fine-flags d x ts u.1)
    where
      by : (l : Bool) → Fine T L B d (flags x ts)
          → Fine T L B d (λ rest. elim l [ true ↦ more (set (flag x t.local.number) (plain.number (pos 0))) (flags x ts rest) | false ↦ flags x ts rest ])
      by true q =
          fine-then T L B d (λ rest. more (set (flag x t.local.number) (plain.number (pos 0))) rest) (flags x ts)
          (fine-set T L B d (flag x t.local.number) (plain.number (pos 0)) u.0.1 (suits.counter 0)) q
      by false q = q

  pub fine-ended : (d : ℕ) (x : Full) (ts : List Temporary) → Each (Flagged x) ts → Fine T L B d (ended x ts)
  fine-ended d x [] u = fine-none T L B d
  fine-ended d x (t ∷ ts) u = by t.in_branch (fine-finished d (t.local ∷ []) (u.0.0, tt)) (fine-ended d x ts u.1)
    where
      by : (l : Bool) → Fine T L B d (finished (t.local ∷ [])) → Fine T L B d (ended x ts) → Fine T L B d (λ rest. elim l [
        | true ↦ more (branch (flag x t.local.number) (finished (t.local ∷ []) nothing) nothing) (ended x ts rest)
        | false ↦ finished (t.local ∷ []) (ended x ts rest)
      ])
      by true q r =
          fine-then T L B d (λ rest. more (branch (flag x t.local.number) (finished (t.local ∷ []) nothing) nothing) rest) (ended x ts)
          (fine-branch T L B d (flag x t.local.number) (finished (t.local ∷ []) nothing) nothing (Fine.pass q nothing tt) tt) r
      by false q r = fine-then T L B d (finished (t.local ∷ [])) (ended x ts) q r

  -- those of two operands
  ends-two : (b c : Bool) (e a o : Core) (x : Full) (n k : ℕ) → makes e ≡ [] → Room B p x n k (e ∷ nodes a ++ nodes o)
      → (Room B p x n k (nodes a) → Each (Flagged x) (temporaries b a k)) → (Room B p x n (k + width a) (nodes o) → Each (Flagged x) (temporaries c o (k + width a)))
      → Each (Flagged x) (temporaries b a k ++ temporaries c o (k + width a))
  ends-two b c e a o x n k empty r f g =
      let inside = room-parts B p x k n n e (nodes a ++ nodes o) empty (omega arith) r in
      each-two (Flagged x) (temporaries b a k) (temporaries c o (k + width a)) (f (room-left B p x k n (nodes a) (nodes o) inside)) (g (room-right B p x k n (nodes a) (nodes o) inside))

  ends-one : (b : Bool) (e a : Core) (x : Full) (n k : ℕ) → makes e ≡ [] → Room B p x n k (e ∷ nodes a) → (Room B p x n k (nodes a) → Each (Flagged x) (temporaries b a k))
      → Each (Flagged x) (temporaries b a k)
  ends-one b e a x n k empty r f = f (room-parts B p x k n n e (nodes a) empty (omega arith) r)

  mutual
    pub ends : (e : Core) → is_value e ≡ true → Each U (nodes e) → (b : Bool) (x : Full) (n k : ℕ) → Room B p x n k (nodes e) → Each (Flagged x) (temporaries b e k)
    ends (core.number z) ok u b x n k r = tt
    ends (core.local i) ok u b x n k r = tt
    ends (core.text j bytes) ok u b x n k r = tt
    ends (core.static_object name t) ok u b x n k r = tt
    ends (core.function name t) ok u b x n k r = tt
    ends (core.read e) ok u b x n k r = ends-one b (core.read e) e x n k refl r (ends e ok u.1 b x n k)
    ends (core.address e) ok u b x n k r = ends-one b (core.address e) e x n k refl r (ends e ok u.1 b x n k)
    ends (core.dereference e) ok u b x n k r = ends-one b (core.dereference e) e x n k refl r (ends e ok u.1 b x n k)
    ends (core.decay e) ok u b x n k r = ends-one b (core.decay e) e x n k refl r (ends e ok u.1 b x n k)
    ends (core.from_void t e) ok u b x n k r = ends-one b (core.from_void t e) e x n k refl r (ends e ok u.1 b x n k)
    ends (core.convert t e) ok u b x n k r = ends-one b (core.convert t e) e x n k refl r (ends e ok u.1 b x n k)
    ends (core.unary op t e) ok u b x n k r = ends-one b (core.unary op t e) e x n k refl r (ends e ok u.1 b x n k)
    ends (core.logical_not e) ok u b x n k r = ends-one b (core.logical_not e) e x n k refl r (ends e ok u.1 b x n k)
    ends (core.step l c e) ok u b x n k r = ends-one b (core.step l c e) e x n k refl r (ends e ok u.1 b x n k)
    ends (core.bind no_temporary e) ok u b x n k r = ends-one b (core.bind no_temporary e) e x n k refl r (ends e ok u.1 b x n k)
    ends (core.temporary t e) ok u b x n k r =
        let is : is_value e ≡ true = (both (not (is_reference t)) (is_value e) ok).1 in
        each-two (Flagged x) (temporaries b e (suc k)) (record { local = record { number = k; type = t }; in_branch = b } ∷ [])
        (ends e is u.1 b x n (suc k) (room-next B p x k n n (core.temporary t e) (nodes e) refl (omega arith) r))
        ((suits.temporary t e k u.0, flag-low B p x k n (core.temporary t e) (nodes e) refl r), tt)
    ends (core.index a o) ok u b x n k r =
        let q = both (is_value a) (is_value o) ok in
        ends-two b b (core.index a o) a o x n k refl r (ends a q.0 (each-left U (nodes a) (nodes o) u.1) b x n k) (ends o q.1 (each-right U (nodes a) (nodes o) u.1) b x n (k + width a))
    ends (core.pointer_operate op a o) ok u b x n k r =
        let q = both (is_value a) (is_value o) ok in
        ends-two b b (core.pointer_operate op a o) a o x n k refl r (ends a q.0 (each-left U (nodes a) (nodes o) u.1) b x n k) (ends o q.1 (each-right U (nodes a) (nodes o) u.1) b x n (k + width a))
    ends (core.operate op t a o) ok u b x n k r =
        let q = both (is_value a) (is_value o) ok in
        ends-two b b (core.operate op t a o) a o x n k refl r (ends a q.0 (each-left U (nodes a) (nodes o) u.1) b x n k) (ends o q.1 (each-right U (nodes a) (nodes o) u.1) b x n (k + width a))
    ends (core.store a o) ok u b x n k r =
        let q = both (is_value a) (is_value o) ok in
        ends-two b b (core.store a o) a o x n k refl r (ends a q.0 (each-left U (nodes a) (nodes o) u.1) b x n k) (ends o q.1 (each-right U (nodes a) (nodes o) u.1) b x n (k + width a))
    ends (core.update a c o) ok u b x n k r =
        let q = both (is_value a) (is_value o) ok in
        ends-two b b (core.update a c o) a o x n k refl r (ends a q.0 (each-left U (nodes a) (nodes o) u.1) b x n k) (ends o q.1 (each-right U (nodes a) (nodes o) u.1) b x n (k + width a))
    ends (core.logical_and a o) ok u b x n k r =
        let q = both (is_value a) (is_value o) ok in
        ends-two b true (core.logical_and a o) a o x n k refl r (ends a q.0 (each-left U (nodes a) (nodes o) u.1) b x n k) (ends o q.1 (each-right U (nodes a) (nodes o) u.1) true x n (k + width a))
    ends (core.logical_or a o) ok u b x n k r =
        let q = both (is_value a) (is_value o) ok in
        ends-two b true (core.logical_or a o) a o x n k refl r (ends a q.0 (each-left U (nodes a) (nodes o) u.1) b x n k) (ends o q.1 (each-right U (nodes a) (nodes o) u.1) true x n (k + width a))
    ends (core.conditional q a o) ok u b x n k r =
        let is = both (is_value q) (is_value a && is_value o) ok in
        let arms = both (is_value a) (is_value o) is.1 in
        let first = each-left U (nodes q ++ nodes a) (nodes o) u.1 in
        let inside = room-parts B p x k n n (core.conditional q a o) (nodes q ++ nodes a ++ nodes o) refl (omega arith) r in
        let begin = room-left B p x k n (nodes q ++ nodes a) (nodes o) inside in
        each-two (Flagged x) (temporaries b q k ++ temporaries true a (k + width q)) (temporaries true o (k + width q + width a))
        (each-two (Flagged x) (temporaries b q k) (temporaries true a (k + width q)) (ends q is.0 (each-left U (nodes q) (nodes a) first) b x n k (room-left B p x k n (nodes q) (nodes a) begin))
        (ends a arms.0 (each-right U (nodes q) (nodes a) first) true x n (k + width q) (room-right B p x k n (nodes q) (nodes a) begin)))
        (ends o arms.1 (each-right U (nodes q ++ nodes a) (nodes o) u.1) true x n (k + width q + width a) (room-third B p x k n (nodes q) (nodes a) (nodes o) inside))
    ends (core.comma es) ok u b x n k r = values-end es ok u.1 b x n k (room-parts B p x k n n (core.comma es) (nodes_all es) refl (omega arith) r)
    ends (core.call name t absent args) ok u b x n k r =
        arguments-end args (both (is_chain t) (are_arguments args) (both (not (is_class (result t))) (is_chain t && are_arguments args) ok).1).1 u.1 b x n (k + length (parameters t) + 0)
        (room-behind B p x k n n (core.call name t absent args) (nodes_all args) (omega arith) r)
    ends (core.pointer_call absent e t args) ok u b x n k r =
        let is = both (is_value e) (are_arguments args) (both (is_chain t) (is_value e && are_arguments args) (both (not (is_class (result t))) (is_chain t && (is_value e && are_arguments args)) ok).1).1 in
        let l : ℕ = k + length (parameters t) + 0 in
        let behind = room-behind B p x k n n (core.pointer_call absent e t args) (nodes e ++ nodes_all args) (omega arith) r in
        each-two (Flagged x) (temporaries b e l) (temporaries_all b args (l + width e)) (ends e is.0 (each-left U (nodes e) (nodes_all args) u.1) b x n l (room-left B p x l n (nodes e) (nodes_all args) behind))
        (arguments-end args is.1 (each-right U (nodes e) (nodes_all args) u.1) b x n (l + width e) (room-right B p x l n (nodes e) (nodes_all args) behind))
    ends e ok u b x n k r = never ok

    values-end : (es : Cores) → are_values es ≡ true → Each U (nodes_all es) → (b : Bool) (x : Full) (n k : ℕ) → Room B p x n k (nodes_all es) → Each (Flagged x) (temporaries_all b es k)
    values-end none ok u b x n k r = tt
    values-end (core.more e none) ok u b x n k r =
        each-two (Flagged x) (temporaries b e k) [] (ends e ok (each-left U (nodes e) [] u) b x n k (room-left B p x k n (nodes e) [] r)) tt
    values-end (core.more e (core.more f es)) ok u b x n k r =
        let q = both (is_value e) (are_values (core.more f es)) ok in
        let others = core.more f es in
        each-two (Flagged x) (temporaries b e k) (temporaries_all b others (k + width e))
        (ends e q.0 (each-left U (nodes e) (nodes_all others) u) b x n k (room-left B p x k n (nodes e) (nodes_all others) r))
        (values-end (core.more f es) q.1 (each-right U (nodes e) (nodes_all others) u) b x n (k + width e) (room-right B p x k n (nodes e) (nodes_all others) r))

    arguments-end : (es : Cores) → are_arguments es ≡ true → Each U (nodes_all es) → (b : Bool) (x : Full) (n k : ℕ) → Room B p x n k (nodes_all es)
        → Each (Flagged x) (temporaries_all b es k)
    arguments-end none ok u b x n k r = tt
    arguments-end (core.more e es) ok u b x n k r =
        let q = both (is_value e) (are_arguments es) ok in
        each-two (Flagged x) (temporaries b e k) (temporaries_all b es (k + width e))
        (ends e q.0 (each-left U (nodes e) (nodes_all es) u) b x n k (room-left B p x k n (nodes e) (nodes_all es) r))
        (arguments-end es q.1 (each-right U (nodes e) (nodes_all es) u) b x n (k + width e) (room-right B p x k n (nodes e) (nodes_all es) r))

  -- those of a full expression, the newest first
  pub ends-reversed : (e : Core) → is_value e ≡ true → Each U (nodes e) → (x : Full) (n k : ℕ) → Room B p x n k (nodes e) → Each (Flagged x) (reverse (temporaries false e k))
  ends-reversed e ok u x n k r = each-reversed (Flagged x) (temporaries false e k) (ends e ok u false x n k r)
