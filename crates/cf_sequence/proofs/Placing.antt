-- Where the temporaries of an expression are: their locals are among those that sequencing adds for it.
use Rattle.std.proofs.Common.{◌≡◌, ℕ, suc, ◌+◌, Bool, true, not, ◌&&◌, List, [], ◌∷◌, ◌++◌, length, length-append, arith}
use Rattle.cf_base.proofs.Tests.{both}
use Rattle.cf_core.specs.Types.{parameters, result, is_class}
use Rattle.cf_core.specs.Core as core
use Rattle.cf_core.specs.Core.{Core, Cores, no_temporary, none, absent}
use Rattle.cf_core.specs.Nodes.{nodes, nodes_all}
use Rattle.cf_core.specs.Places.{is_reference}
use Rattle.cf_sequence.specs.Built.{is_value, are_values, are_arguments, is_chain}
use Rattle.cf_sequence.specs.Made.{Temporary, temporaries, temporaries_all, added, width}
use Rattle.cf_sequence.proofs.Calling.{never}
use Rattle.cf_sequence.proofs.Kept.{added-two}
use Rattle.cf_sequence.proofs.Temporaries.{Placed, placed-append, placed-wider, placed-branch}

-- those of two parts
pub placed-two : (b : Bool) (xs ys : List Core) (k : ℕ) (ts us : List Temporary) → Placed b k (k + length (added xs)) ts
    → Placed b (k + length (added xs)) (k + length (added xs) + length (added ys)) us → Placed b k (k + length (added (xs ++ ys))) (ts ++ us)
placed-two b xs ys k ts us p q =
    let l : ℕ = k + length (added xs) in
    let m : ℕ = k + length (added (xs ++ ys)) in
    let e = added-two xs ys in
    placed-append b k m ts us (placed-wider b k k l m ts (omega arith) (omega arith) p)
    (placed-wider b k l (l + length (added ys)) m us (omega arith) (omega arith) q)

mutual
  pub placing : (e : Core) → is_value e ≡ true → (b : Bool) (k : ℕ) → Placed b k (k + width e) (temporaries b e k)
  placing (core.number z) ok b k = tt
  placing (core.local i) ok b k = tt
  placing (core.text j bytes) ok b k = tt
  placing (core.static_object name t) ok b k = tt
  placing (core.function name t) ok b k = tt
  placing (core.read e) ok b k = placing e ok b k
  placing (core.convert t e) ok b k = placing e ok b k
  placing (core.address e) ok b k = placing e ok b k
  placing (core.dereference e) ok b k = placing e ok b k
  placing (core.decay e) ok b k = placing e ok b k
  placing (core.from_void t e) ok b k = placing e ok b k
  placing (core.unary op t e) ok b k = placing e ok b k
  placing (core.logical_not e) ok b k = placing e ok b k
  placing (core.step p c e) ok b k = placing e ok b k
  placing (core.bind no_temporary e) ok b k = placing e ok b k
  placing (core.index e f) ok b k =
      let p = both (is_value e) (is_value f) ok in placed-two b (nodes e) (nodes f) k _ _ (placing e p.0 b k) (placing f p.1 b (k + width e))
  placing (core.pointer_operate op e f) ok b k =
      let p = both (is_value e) (is_value f) ok in placed-two b (nodes e) (nodes f) k _ _ (placing e p.0 b k) (placing f p.1 b (k + width e))
  placing (core.operate op t e f) ok b k =
      let p = both (is_value e) (is_value f) ok in placed-two b (nodes e) (nodes f) k _ _ (placing e p.0 b k) (placing f p.1 b (k + width e))
  placing (core.store e f) ok b k =
      let p = both (is_value e) (is_value f) ok in placed-two b (nodes e) (nodes f) k _ _ (placing e p.0 b k) (placing f p.1 b (k + width e))
  placing (core.update e c f) ok b k =
      let p = both (is_value e) (is_value f) ok in placed-two b (nodes e) (nodes f) k _ _ (placing e p.0 b k) (placing f p.1 b (k + width e))
  placing (core.logical_and e f) ok b k =
      let p = both (is_value e) (is_value f) ok in
      placed-two b (nodes e) (nodes f) k _ _ (placing e p.0 b k) (placed-branch b _ _ _ (placing f p.1 true (k + width e)))
  placing (core.logical_or e f) ok b k =
      let p = both (is_value e) (is_value f) ok in
      placed-two b (nodes e) (nodes f) k _ _ (placing e p.0 b k) (placed-branch b _ _ _ (placing f p.1 true (k + width e)))
  placing (core.conditional c e f) ok b k =
      let p = both (is_value c) (is_value e && is_value f) ok in
      let arms = both (is_value e) (is_value f) p.1 in
      let l : ℕ = k + width c + width e in
      let same = added-two (nodes c) (nodes e) in
      placed-two b (nodes c ++ nodes e) (nodes f) k (temporaries b c k ++ temporaries true e (k + width c)) (temporaries true f l)
      (placed-two b (nodes c) (nodes e) k _ _ (placing c p.0 b k) (placed-branch b _ _ _ (placing e arms.0 true (k + width c))))
      (placed-wider b (k + length (added (nodes c ++ nodes e))) l (l + width f) (k + length (added (nodes c ++ nodes e)) + length (added (nodes f))) (temporaries true f l)
      (omega arith) (omega arith) (placed-branch b l (l + width f) (temporaries true f l) (placing f arms.1 true l)))
  placing (core.comma es) ok b k = placing-values es ok b k
  placing (core.call name t absent args) ok b k =
      let l : ℕ = k + length (parameters t) + 0 in
      let many = length-append (parameters t) (added (nodes_all args)) in
      placed-wider b k l (l + length (added (nodes_all args))) (k + width (core.call name t absent args)) (temporaries_all b args l) (omega arith) (omega arith)
      (placing-arguments args (both (is_chain t) (are_arguments args) (both (not (is_class (result t))) (is_chain t && are_arguments args) ok).1).1 b l)
  placing (core.pointer_call absent e t args) ok b k =
      let p = both (is_value e) (are_arguments args) (both (is_chain t) (is_value e && are_arguments args) (both (not (is_class (result t))) (is_chain t && (is_value e && are_arguments args)) ok).1).1 in
      let l : ℕ = k + length (parameters t) + 0 in
      let many = length-append (parameters t) (added (nodes e ++ nodes_all args)) in
      placed-wider b k l (l + length (added (nodes e ++ nodes_all args))) (k + width (core.pointer_call absent e t args)) (temporaries b e l ++ temporaries_all b args (l + width e)) (omega arith) (omega arith)
      (placed-two b (nodes e) (nodes_all args) l _ _ (placing e p.0 b l) (placing-arguments args p.1 b (l + width e)))
  placing (core.temporary t e) ok b k =
      let p = both (not (is_reference t)) (is_value e) ok in
      placed-append b k (k + suc (width e)) (temporaries b e (suc k)) (record { local = record { number = k; type = t }; in_branch = b } ∷ [])
      (placed-wider b k (suc k) (suc k + width e) (k + suc (width e)) (temporaries b e (suc k)) (omega arith) (omega arith) (placing e p.1 b (suc k)))
      ((omega arith), (omega arith), (λ e. e), tt)
  placing e ok b k = never ok

  pub placing-values : (es : Cores) → are_values es ≡ true → (b : Bool) (k : ℕ) → Placed b k (k + length (added (nodes_all es))) (temporaries_all b es k)
  placing-values none ok b k = tt
  placing-values (core.more e none) ok b k = placed-two b (nodes e) [] k (temporaries b e k) [] (placing e ok b k) tt
  placing-values (core.more e (core.more f es)) ok b k =
      let p = both (is_value e) (are_values (core.more f es)) ok in
      placed-two b (nodes e) (nodes_all (core.more f es)) k _ _ (placing e p.0 b k) (placing-values (core.more f es) p.1 b (k + width e))

  pub placing-arguments : (es : Cores) → are_arguments es ≡ true → (b : Bool) (k : ℕ) → Placed b k (k + length (added (nodes_all es))) (temporaries_all b es k)
  placing-arguments none ok b k = tt
  placing-arguments (core.more e es) ok b k =
      let p = both (is_value e) (are_arguments es) ok in
      placed-two b (nodes e) (nodes_all es) k _ _ (placing e p.0 b k) (placing-arguments es p.1 b (k + width e))
