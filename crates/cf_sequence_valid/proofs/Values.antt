-- Expressions: the plain statements of a valid one are valid, and the locals that it adds have complete types.
use Rattle.std.proofs.Common.{◌≡◌, ℕ, suc, ◌+◌, Bool, true, false, ◌&&◌, ◌||◌, not, List, [], ◌∷◌, ◌++◌, length, refl, ap, ◌∙◌, subst, arith}
use Rattle.std.specs.Prelude.{pos, Option, Some, None, slice_get, nat_lt}
use Rattle.std.specs.List.{list_all}
use Rattle.std.proofs.lemmas.Option.{slice_get_within}
use Rattle.std.proofs.lemmas.Bool.{lt-ltb}
use Rattle.std.proofs.lemmas.List.Concat.{flat_map-append}
use Rattle.std.proofs.lemmas.List.Folds.{list_all-append}
use Rattle.cf_base.proofs.Tests.{both, all_of}
use Rattle.cf_core.specs.Types.{SourceType, integer, pointer, plain as unqualified, parameters, result, is_class}
use Rattle.cf_core.specs.Classes.{Class}
use Rattle.cf_core.specs.Core as core
use Rattle.cf_core.specs.Core.{Core, Cores, no_temporary, none, absent}
use Rattle.cf_core.specs.Nodes.{nodes, nodes_all}
use Rattle.cf_core.specs.Places.{is_reference}
use Rattle.cf_core.specs.Typing.{Scope, is_function, same_type, of_name, is_condition, is_expression, pointed, is_right_operand, either, converts}
use Rattle.cf_core.specs.Typed.{typing, typings, last_typing, typing_maybe, fit, on_object, read_type, pointed_place, address_type, decayed_type, stepped, void_pointer}
use Rattle.cf_core.specs.Valid.{is_complete}
use Rattle.cf_plain.specs.Plain.{Register, Plains, act, set, branch, nothing, more}
use Rattle.cf_plain.specs.Plain as plain
use Rattle.cf_plain.specs.Valid.{action_fits}
use Rattle.cf_sequence.specs.Built.{is_value, are_values, are_arguments, is_chain}
use Rattle.cf_sequence.specs.Made.{added, makes, width, numbers}
use Rattle.cf_sequence.specs.Expressions.{Full, flag, Destination, destination, value, values, arguments, settled, result_register, used}
use Rattle.cf_sequence.proofs.Calling.{never}
use Rattle.cf_sequence_valid.proofs.Complete.{expression-starts}
use Rattle.cf_sequence_valid.proofs.Complete as complete
use Rattle.cf_sequence_valid.proofs.Fine.{Fine, fine-none, fine-then, fine-set, fine-act, fine-branch, fine-used, fine-settled, fine-operands}
use Rattle.cf_sequence_valid.proofs.Serves.{Serves, as_value, as_start, nothing-serves, allowed-is, allowed-serves, by-place, by-pointed, by-type, conditions-serve, expressions-serve, right-serves, index-serves, pointer-serves, either-serves, store-serves, update-serves, converts-serve, bind-serves, called-serves}
use Rattle.cf_sequence_valid.proofs.Stands.{Stand, stand-first, stand-second, stand-left, stand-right, stand-third, of-itself, numbers-fit}

-- what a function's nodes may name stands among its locals
pub record Kept (scope : Scope) (locals : List SourceType) : Type 0 where
  pub kept : (i : ℕ) (t : SourceType) → slice_get scope.locals i ≡ Some t → slice_get locals i ≡ Some t

module _ (classes : List Class) (scope : Scope) (locals : List SourceType) (keeps : Kept scope locals) where
  abbrev pub are_complete : List SourceType → Bool
  are_complete ts = list_all (is_complete scope.classes) ts

  -- its plain statements are valid, and what it adds is complete
  pub record Good (e : Core) : Type 0 where
    pub complete : are_complete (added (nodes e)) ≡ true
    pub code : (b c : Bool) (x : Full) (into : Option Destination) (n k : ℕ) → Stand locals k (added (nodes e)) → Fine locals b c (value classes x e into n k)

  pub record AllGood (es : Cores) : Type 0 where
    pub complete : are_complete (added (nodes_all es)) ≡ true
    pub code : (b c : Bool) (x : Full) (n k : ℕ) → Stand locals k (added (nodes_all es)) → Fine locals b c (values classes x es n k)

  pub record ArgumentsGood (ts : List SourceType) (es : Cores) : Type 0 where
    pub objects : are_complete ts ≡ true
    pub complete : are_complete (added (nodes_all es)) ≡ true
    pub code : (b c : Bool) (x : Full) (n i k : ℕ) → Stand locals i ts → Stand locals k (added (nodes_all es)) → Fine locals b c (arguments classes x ts es n i k)

  pub complete-two : (xs ys : List Core) → are_complete (added xs) ≡ true → are_complete (added ys) ≡ true → are_complete (added (xs ++ ys)) ≡ true
  complete-two xs ys p q =
      ap are_complete (flat_map-append makes xs ys) ∙ list_all-append (is_complete scope.classes) (added xs) (added ys)
      ∙ all_of (are_complete (added xs)) (are_complete (added ys)) p q

  -- the local of a name
  named-there : (i : ℕ) → Serves (of_name (slice_get scope.locals i)) → nat_lt i (length locals) ≡ true
  named-there i s = by (slice_get scope.locals i) refl s
    where
      by : (o : Option SourceType) → slice_get scope.locals i ≡ o → Serves (of_name o) → nat_lt i (length locals) ≡ true
      by None e s = nothing-serves s
      by (Some t) e s = lt-ltb i (length locals) (slice_get_within locals i t (keeps.kept i t e))

  -- one operand, and then an action that names no local
  one : (e : Core) → Good e → (a : Register → plain.Action) → ((n : Register) → action_fits locals (a n) ≡ true)
      → (b c : Bool) (x : Full) (n k : ℕ) → Stand locals k (added (nodes e)) → Fine locals b c (λ rest. value classes x e None n k (more (set n (a n)) rest))
  one e good a fits b c x n k st =
      fine-then locals (value classes x e None n k) (λ rest. more (set n (a n)) rest) (good.code b c x None n k st) (fine-set locals n (a n) (fits n))

  -- two operands, the left one used first, and then more
  two : (e f : Core) → Good e → Good f → (b c : Bool) (x : Full) (n k : ℕ) (last : Plains → Plains) → Fine locals b c last
      → Stand locals k (added (nodes e ++ nodes f)) → Fine locals b c (λ rest. value classes x e None n k (used n (value classes x f None (suc n) (k + width e) (last rest))))
  two e f p q b c x n k last then st =
      fine-operands locals (value classes x e None n k) (value classes x f None (suc n) (k + width e)) last n
      (p.code b c x None n k (stand-left locals k (nodes e) (nodes f) st)) (q.code b c x None (suc n) (k + width e) (stand-right locals k (nodes e) (nodes f) st)) then

  -- a second operand in a branch
  second : (e f : Core) → Good e → Good f → (b c : Bool) (x : Full) (n k : ℕ) → Stand locals k (added (nodes e ++ nodes f))
      → Fine locals b c (λ rest. value classes x f None n (k + width e) (more (set n (plain.truth n)) rest))
  second e f p q b c x n k st = one f q plain.truth (λ n. refl) b c x n (k + width e) (stand-right locals k (nodes e) (nodes f) st)

  -- the operands of `&&` and `||`
  conditions : (a b : Core) → Serves (typing scope (core.logical_and a b)) → Serves (typing scope a) × Serves (typing scope b)
  conditions a b s =
      let test = both (is_condition (typing scope a)) (is_condition (typing scope b)) (allowed-is (is_condition (typing scope a) && is_condition (typing scope b)) _ s) in
      (conditions-serve (typing scope a) test.0, conditions-serve (typing scope b) test.1)

  mutual
    pub good-value : (e : Core) → is_value e ≡ true → Serves (typing scope e) → Good e
    good-value (core.number z) ok s = record { complete = refl; code = λ b c x into n k st. fine-set locals n (plain.number z) refl }
    good-value (core.local i) ok s = record { complete = refl; code = λ b c x into n k st. fine-set locals n (plain.local i) (named-there i s) }
    good-value (core.text j bytes) ok s = record { complete = refl; code = λ b c x into n k st. fine-set locals n (plain.text j bytes) refl }
    good-value (core.static_object name t) ok s = record { complete = refl; code = λ b c x into n k st. fine-set locals n (plain.static_object name t) refl }
    good-value (core.function name t) ok s = record { complete = refl; code = λ b c x into n k st. fine-set locals n (plain.function name t) refl }
    good-value (core.read e) ok s =
        let good = good-value e ok (by-place (typing scope e) (read_type scope) refl s) in
        record { complete = good.complete; code = λ b c x into n k st. one e good plain.read (λ n. refl) b c x n k st }
    good-value (core.address e) ok s =
        let good = good-value e ok (by-place (typing scope e) (address_type scope) refl s) in
        record {
          complete = good.complete;
          code = λ b c x into n k st. fine-then locals (value classes x e None n k) (used n) (good.code b c x None n k st) (fine-used locals n);
        }
    good-value (core.dereference e) ok s =
        let good = good-value e ok (by-pointed (typing scope e) (pointed_place scope) refl s) in
        record { complete = good.complete; code = λ b c x into n k st. one e good plain.dereference (λ n. refl) b c x n k st }
    good-value (core.decay e) ok s =
        let good = good-value e ok (by-place (typing scope e) (decayed_type scope) refl s) in
        record { complete = good.complete; code = λ b c x into n k st. one e good plain.decay (λ n. refl) b c x n k st }
    good-value (core.from_void t e) ok s =
        let good = good-value e ok (by-type (typing scope e) (λ o. void_pointer scope (pointed o)) refl (allowed-is (void_pointer scope (pointed (typing scope e).type)) _ s)) in
        record { complete = good.complete; code = λ b c x into n k st. one e good (plain.from_void t) (λ n. refl) b c x n k st }
    good-value (core.index a b) ok s =
        let parts = both (is_value a) (is_value b) ok in
        let serve = index-serves scope (typing scope a) (typing scope b) s in
        let p = good-value a parts.0 serve.0 in
        let q = good-value b parts.1 serve.1 in
        record {
          complete = complete-two (nodes a) (nodes b) p.complete q.complete;
          code = λ l c x into n k st. two a b p q l c x n k (λ rest. more (set n (plain.index n (suc n))) rest) (fine-set locals n (plain.index n (suc n)) refl) st;
        }
    good-value (core.pointer_operate op a b) ok s =
        let parts = both (is_value a) (is_value b) ok in
        let serve = pointer-serves op (typing scope a) (typing scope b) s in
        let p = good-value a parts.0 serve.0 in
        let q = good-value b parts.1 serve.1 in
        record {
          complete = complete-two (nodes a) (nodes b) p.complete q.complete;
          code = λ l c x into n k st. two a b p q l c x n k (λ rest. more (set n (plain.pointer_operate op n (suc n))) rest) (fine-set locals n (plain.pointer_operate op n (suc n)) refl) st;
        }
    good-value (core.convert t e) ok s =
        let good = good-value e ok (converts-serve (unqualified t) (typing scope e) (allowed-is (converts (unqualified t) (typing scope e)) _ s)) in
        record { complete = good.complete; code = λ b c x into n k st. one e good (plain.convert t) (λ n. refl) b c x n k st }
    good-value (core.operate op kind a b) ok s =
        let parts = both (is_value a) (is_value b) ok in
        let fits = (typing scope a).value (integer kind) in
        let serve = both fits (is_right_operand op kind (typing scope b)) (allowed-is (fits && is_right_operand op kind (typing scope b)) _ s) in
        let p = good-value a parts.0 (as_value (integer kind) serve.0) in
        let q = good-value b parts.1 (right-serves op kind (typing scope b) serve.1) in
        record {
          complete = complete-two (nodes a) (nodes b) p.complete q.complete;
          code = λ l c x into n k st. two a b p q l c x n k (λ rest. more (set n (plain.operate op kind n (suc n))) rest) (fine-set locals n (plain.operate op kind n (suc n)) refl) st;
        }
    good-value (core.unary op kind e) ok s =
        let good = good-value e ok (as_value (integer kind) (allowed-is ((typing scope e).value (integer kind)) _ s)) in
        record { complete = good.complete; code = λ b c x into n k st. one e good (plain.unary op kind) (λ n. refl) b c x n k st }
    good-value (core.logical_not e) ok s =
        let good = good-value e ok (conditions-serve (typing scope e) (allowed-is (is_condition (typing scope e)) _ s)) in
        record { complete = good.complete; code = λ b c x into n k st. one e good plain.logical_not (λ n. refl) b c x n k st }
    good-value (core.logical_and a b) ok s =
        let parts = both (is_value a) (is_value b) ok in
        let serve = conditions a b s in
        let p = good-value a parts.0 serve.0 in
        let q = good-value b parts.1 serve.1 in
        record {
          complete = complete-two (nodes a) (nodes b) p.complete q.complete;
          code = λ l c x into n k st.
              let right = value classes x b None n (k + width a) (more (set n (plain.truth n)) nothing) in
              fine-then locals (value classes x a None n k) (λ rest. more (set n (plain.truth n)) (more (branch n right nothing) rest))
              (p.code l c x None n k (stand-left locals k (nodes a) (nodes b) st))
              (fine-then locals (λ rest. more (set n (plain.truth n)) rest) (λ rest. more (branch n right nothing) rest) (fine-set locals n (plain.truth n) refl)
              (fine-branch locals n right nothing (Fine.fit (second a b p q l c x n k st) nothing refl) refl));
        }
    good-value (core.logical_or a b) ok s =
        let parts = both (is_value a) (is_value b) ok in
        let serve = conditions a b s in
        let p = good-value a parts.0 serve.0 in
        let q = good-value b parts.1 serve.1 in
        record {
          complete = complete-two (nodes a) (nodes b) p.complete q.complete;
          code = λ l c x into n k st.
              let right = value classes x b None n (k + width a) (more (set n (plain.truth n)) nothing) in
              fine-then locals (value classes x a None n k) (λ rest. more (set n (plain.truth n)) (more (branch n nothing right) rest))
              (p.code l c x None n k (stand-left locals k (nodes a) (nodes b) st))
              (fine-then locals (λ rest. more (set n (plain.truth n)) rest) (λ rest. more (branch n nothing right) rest) (fine-set locals n (plain.truth n) refl)
              (fine-branch locals n nothing right refl (Fine.fit (second a b p q l c x n k st) nothing refl)));
        }
    good-value (core.conditional q a b) ok s =
        let parts = both (is_value q) (is_value a && is_value b) ok in
        let arms = both (is_value a) (is_value b) parts.1 in
        let test = is_condition (typing scope q) in
        let serve = either-serves (typing scope a) (typing scope b) (allowed-serves test (either (typing scope a) (typing scope b)) s) in
        let first = good-value q parts.0 (conditions-serve (typing scope q) (allowed-is test (either (typing scope a) (typing scope b)) s)) in
        let left = good-value a arms.0 serve.0 in
        let right = good-value b arms.1 serve.1 in
        record {
          complete = complete-two (nodes q ++ nodes a) (nodes b) (complete-two (nodes q) (nodes a) first.complete left.complete) right.complete;
          code = λ l c x into n k st.
              let begin = stand-left locals k (nodes q ++ nodes a) (nodes b) st in
              let yes = value classes x a None n (k + width q) nothing in
              let no = value classes x b None n (k + width q + width a) nothing in
              fine-then locals (value classes x q None n k) (λ rest. more (set n (plain.truth n)) (more (branch n yes no) rest))
              (first.code l c x None n k (stand-left locals k (nodes q) (nodes a) begin))
              (fine-then locals (λ rest. more (set n (plain.truth n)) rest) (λ rest. more (branch n yes no) rest) (fine-set locals n (plain.truth n) refl)
              (fine-branch locals n yes no (Fine.fit (left.code l c x None n (k + width q) (stand-right locals k (nodes q) (nodes a) begin)) nothing refl)
              (Fine.fit (right.code l c x None n (k + width q + width a) (stand-third locals k (nodes q) (nodes a) (nodes b) st)) nothing refl)));
        }
    good-value (core.comma es) ok s =
        let good = good-values es ok s in record { complete = good.complete; code = λ b c x into n k st. good.code b c x n k st }
    good-value (core.store a b) ok s =
        let parts = both (is_value a) (is_value b) ok in
        let serve = store-serves scope (typing scope a) (typing scope b) s in
        let p = good-value a parts.0 serve.0 in
        let q = good-value b parts.1 serve.1 in
        record {
          complete = complete-two (nodes a) (nodes b) p.complete q.complete;
          code = λ l c x into n k st. two a b p q l c x n k (λ rest. more (act (plain.store n (suc n))) rest) (fine-act locals (plain.store n (suc n)) refl) st;
        }
    good-value (core.update a change b) ok s =
        let parts = both (is_value a) (is_value b) ok in
        let serve = update-serves scope change (typing scope a) (typing scope b) s in
        let p = good-value a parts.0 serve.0 in
        let q = good-value b parts.1 serve.1 in
        record {
          complete = complete-two (nodes a) (nodes b) p.complete q.complete;
          code = λ l c x into n k st.
              two a b p q l c x n k
              (λ rest. used (suc n) (more (set (suc (suc n)) (plain.read n)) (more (set (suc n) (plain.changed change (suc (suc n)) (suc n))) (more (act (plain.store n (suc n))) rest))))
              (record { fit = λ rest ok. ok; labelled = λ rest e ok. ok; cases = λ z rest. refl; default = λ rest. refl; differ = λ rest. refl }) st;
        }
    good-value (core.step false change e) ok s =
        let good = good-value e ok (by-place (typing scope e) (stepped scope false change) refl s) in
        record {
          complete = good.complete;
          code = λ b c x into n k st.
              fine-then locals (value classes x e None n k)
              (λ rest. more (set (suc n) (plain.read n)) (more (set (suc (suc n)) (plain.number (pos 1))) (more (set (suc n) (plain.changed change (suc n) (suc (suc n)))) (more (act (plain.store n (suc n))) rest))))
              (good.code b c x None n k st) (record { fit = λ rest ok. ok; labelled = λ rest e ok. ok; cases = λ z rest. refl; default = λ rest. refl; differ = λ rest. refl });
        }
    good-value (core.step true change e) ok s =
        let good = good-value e ok (by-place (typing scope e) (stepped scope true change) refl s) in
        record {
          complete = good.complete;
          code = λ b c x into n k st.
              fine-then locals (value classes x e None (suc n) k)
              (λ rest. more (set n (plain.read (suc n))) (more (set (suc (suc n)) (plain.number (pos 1))) (more (set (suc (suc n)) (plain.changed change n (suc (suc n)))) (more (act (plain.store (suc n) (suc (suc n)))) rest))))
              (good.code b c x None (suc n) k st) (record { fit = λ rest ok. ok; labelled = λ rest e ok. ok; cases = λ z rest. refl; default = λ rest. refl; differ = λ rest. refl });
        }
    good-value (core.temporary t e) ok s =
        let is : is_value e ≡ true = (both (not (is_reference t)) (is_value e) ok).1 in
        let starts : (typing scope e).start t ≡ true = allowed-is ((typing scope e).start t) _ s in
        let good = good-value e is (as_start t starts) in
        record {
          complete = all_of (is_complete scope.classes t) (are_complete (added (nodes e))) (complete.Starts.starts (expression-starts scope.classes scope e is) t starts) good.complete;
          code = λ b c x into n k st.
              let first : Plains → Plains = value classes x e (destination (suc n) t) (suc (suc n)) (suc k) in
              let last : Plains → Plains = λ rest. more (set (flag x k) (plain.number (pos 1))) rest in
              let inner : Plains → Plains = λ rest. first (settled e (suc n) (suc (suc n)) (last rest)) in
              fine-then locals (λ rest. more (set (suc n) (plain.declare k t)) rest) (λ rest. more (set n (plain.local k)) (inner rest)) (fine-set locals (suc n) (plain.declare k t) (of-itself locals k t st.0))
              (fine-then locals (λ rest. more (set n (plain.local k)) rest) inner (fine-set locals n (plain.local k) (lt-ltb k (length locals) (slice_get_within locals k t st.0)))
              (fine-then locals first (λ rest. settled e (suc n) (suc (suc n)) (last rest)) (good.code b c x (destination (suc n) t) (suc (suc n)) (suc k) st.1)
              (fine-then locals (settled e (suc n) (suc (suc n))) last (fine-settled locals e (suc n) (suc (suc n))) (fine-set locals (flag x k) (plain.number (pos 1)) refl))));
        }
    good-value (core.bind no_temporary e) ok s =
        let good = good-value e ok (bind-serves scope (typing scope e) s) in record { complete = good.complete; code = λ b c x into n k st. good.code b c x None n k st }
    good-value (core.call name t absent args) ok s =
        let given_args = (both (is_chain t) (are_arguments args) (both (not (is_class (result t))) (is_chain t && are_arguments args) ok).1).1 in
        let called = is_function t && on_object scope (typing_maybe scope absent) in
        let fits = (both called (fit scope (parameters t) (typings scope args)) (allowed-is (called && fit scope (parameters t) (typings scope args)) _ s)).1 in
        let good = good-arguments (parameters t) args given_args fits in
        record {
          complete =
              list_all-append (is_complete scope.classes) (parameters t) (added (nodes_all args))
              ∙ all_of (are_complete (parameters t)) (are_complete (added (nodes_all args))) good.objects good.complete;
          code = λ b c x into n k st.
              let last : Plains → Plains = λ rest. more (set n (plain.call name t None (numbers k (parameters t)) (result_register t into))) rest in
              let objects = stand-first locals k (parameters t) (added (nodes_all args)) st in
              let behind : Stand locals (k + length (parameters t) + 0) (added (nodes_all args)) =
              let e : k + length (parameters t) ≡ k + length (parameters t) + 0 = omega arith in
              subst (λ i. Stand locals i (added (nodes_all args))) e (stand-second locals k (parameters t) (added (nodes_all args)) st) in
              fine-then locals (λ rest. more (act (plain.function name t)) rest) (λ rest. arguments classes x (parameters t) args n k (k + length (parameters t) + 0) (last rest)) (fine-act locals (plain.function name t) refl)
              (fine-then locals (arguments classes x (parameters t) args n k (k + length (parameters t) + 0)) last (good.code b c x n k (k + length (parameters t) + 0) objects behind)
              (fine-set locals n (plain.call name t None (numbers k (parameters t)) (result_register t into)) (numbers-fit locals k (parameters t) objects)));
        }
    good-value (core.pointer_call absent e t args) ok s =
        let forms = both (not (is_class (result t))) (is_chain t && (is_value e && are_arguments args)) ok in
        let parts = both (is_value e) (are_arguments args) (both (is_chain t) (is_value e && are_arguments args) forms.1).1 in
        let called = (typing scope e).value (pointer t) || same_type (typing scope e).place t in
        let fits = both called (fit scope (parameters t) (typings scope args)) (allowed-is (called && fit scope (parameters t) (typings scope args)) _ s) in
        let first = good-value e parts.0 (called-serves t (typing scope e) fits.0) in
        let good = good-arguments (parameters t) args parts.1 fits.1 in
        record {
          complete =
              list_all-append (is_complete scope.classes) (parameters t) (added (nodes e ++ nodes_all args))
              ∙ all_of (are_complete (parameters t)) (are_complete (added (nodes e ++ nodes_all args))) good.objects (complete-two (nodes e) (nodes_all args) first.complete good.complete);
          code = λ b c x into n k st.
              let l : ℕ = k + length (parameters t) + 0 in
              let call = plain.pointer_call None n t (numbers k (parameters t)) (result_register t into) in
              let given : Plains → Plains = arguments classes x (parameters t) args (suc n) k (l + width e) in
              let last : Plains → Plains = λ rest. more (set n call) rest in
              let objects = stand-first locals k (parameters t) (added (nodes e ++ nodes_all args)) st in
              let behind : Stand locals l (added (nodes e ++ nodes_all args)) =
              let here : k + length (parameters t) ≡ l = omega arith in
              subst (λ i. Stand locals i (added (nodes e ++ nodes_all args))) here (stand-second locals k (parameters t) (added (nodes e ++ nodes_all args)) st) in
              fine-then locals (value classes x e None n l) (λ rest. used n (given (last rest))) (first.code b c x None n l (stand-left locals l (nodes e) (nodes_all args) behind))
              (fine-then locals (used n) (λ rest. given (last rest)) (fine-used locals n)
              (fine-then locals given last (good.code b c x (suc n) k (l + width e) objects (stand-right locals l (nodes e) (nodes_all args) behind))
              (fine-set locals n call (numbers-fit locals k (parameters t) objects))));
        }
    good-value e ok s = never ok

    good-values : (es : Cores) → are_values es ≡ true → Serves (last_typing scope es) → AllGood es
    good-values none ok s = never ok
    good-values (core.more e none) ok s =
        let good = good-value e ok s in
        record {
          complete = complete-two (nodes e) [] good.complete refl;
          code = λ b c x n k st. good.code b c x None n k (stand-left locals k (nodes e) [] st);
        }
    good-values (core.more e (core.more f es)) ok s =
        let parts = both (is_value e) (are_values (core.more f es)) ok in
        let there = allowed-is (is_expression (typing scope e)) (last_typing scope (core.more f es)) s in
        let last = allowed-serves (is_expression (typing scope e)) (last_typing scope (core.more f es)) s in
        let first = good-value e parts.0 (expressions-serve (typing scope e) there) in
        let others = good-values (core.more f es) parts.1 last in
        record {
          complete = complete-two (nodes e) (nodes_all (core.more f es)) first.complete others.complete;
          code = λ b c x n k st.
              fine-then locals (value classes x e None n k) (values classes x (core.more f es) n (k + width e))
              (first.code b c x None n k (stand-left locals k (nodes e) (nodes_all (core.more f es)) st))
              (others.code b c x n (k + width e) (stand-right locals k (nodes e) (nodes_all (core.more f es)) st));
        }

    good-arguments : (ts : List SourceType) (es : Cores) → are_arguments es ≡ true → fit scope ts (typings scope es) ≡ true → ArgumentsGood ts es
    good-arguments [] none ok fits = record { objects = refl; complete = refl; code = λ b c x n i k at st. fine-none locals }
    good-arguments [] (core.more e es) ok fits = never fits
    good-arguments (t ∷ ts) none ok fits = never fits
    good-arguments (t ∷ ts) (core.more e es) ok fits =
        let parts = both (is_value e) (are_arguments es) ok in
        let starts = both ((typing scope e).start t) (fit scope ts (typings scope es)) fits in
        let first = good-value e parts.0 (as_start t starts.0) in
        let others = good-arguments ts es parts.1 starts.1 in
        record {
          objects = all_of (is_complete scope.classes t) (are_complete ts) (complete.Starts.starts (expression-starts scope.classes scope e parts.0) t starts.0) others.objects;
          complete = complete-two (nodes e) (nodes_all es) first.complete others.complete;
          code = λ b c x n i k at st.
              let rest_of : Plains → Plains = arguments classes x ts es n (suc i) (k + width e) in
              fine-then locals (λ rest. more (set n (plain.declare i t)) rest) (λ rest. value classes x e (destination n t) (suc n) k (settled e n (suc n) (rest_of rest)))
              (fine-set locals n (plain.declare i t) (of-itself locals i t at.0))
              (fine-then locals (value classes x e (destination n t) (suc n) k) (λ rest. settled e n (suc n) (rest_of rest))
              (first.code b c x (destination n t) (suc n) k (stand-left locals k (nodes e) (nodes_all es) st))
              (fine-then locals (settled e n (suc n)) rest_of (fine-settled locals e n (suc n))
              (others.code b c x n (suc i) (k + width e) at.1 (stand-right locals k (nodes e) (nodes_all es) st))));
        }
