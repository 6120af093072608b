-- Expressions: each register is set before it is used and holds there what is taken, and the value's register holds what the expression is.
use Rattle.std.proofs.Common.{◌≡◌, ℕ, suc, ◌+◌, ◌≤◌, ◌<◌, true, ◌&&◌, if◌then◌else◌, List, ◌++◌, refl, ap, ◌∙◌, arith}
use Rattle.std.specs.Prelude.{Option, Some, None}
use Rattle.cf_base.specs.declared.kind.Kind.TheVariants.{Int}
use Rattle.cf_base.proofs.Tests.{both}
use Rattle.cf_core.specs.Types.{SourceType, integer, plain as unqualified}
use Rattle.cf_core.specs.Classes.{Class}
use Rattle.cf_core.specs.Core as core
use Rattle.cf_core.specs.Core.{Core, Cores, Change, no_temporary, none, absent}
use Rattle.cf_core.specs.Nodes.{nodes}
use Rattle.cf_core.specs.Places.{is_scalar}
use Rattle.cf_core.specs.Typing.{Scope, Typing, allowed, of_value, of_place, is_zero, is_condition, is_right_operand, operated_type, either, converts}
use Rattle.cf_core.specs.Typed.{typing, stored}
use Rattle.cf_plain.specs.Plain.{Register, Action, Plains, act, set, branch, nothing, more}
use Rattle.cf_plain.specs.Plain as plain
use Rattle.cf_plain_kept.specs.Kept as kept
use Rattle.cf_plain_kept.specs.Kept.{Kept, no_value, a_place, Keeping, keep, of_kind, a_truth, value_of, suits, both_kept, common, moved_kept, integer_in, has_kind, converted, tested, given, operated, changed_kept, read_kept, kept_by, after_all}
use Rattle.cf_sequence.specs.Made.{added, width}
use Rattle.cf_sequence.specs.Expressions.{Full, Destination, value, used}
use Rattle.cf_sequence_kept.proofs.Suits.{same-turned, suits-same, own-suits, pointed-to, integer-kept, integer-tested}
use Rattle.cf_sequence_kept.proofs.Related.{Relates, of-value, of-null, of-place, of-allowed, conditions-kept, has-kind, Joined, either-joins, of-either}
use Rattle.cf_sequence_kept.proofs.Spans.{in_both, Span, Stays, stays, stays-then, stays-both, Room, room-left, room-right, room-third}
use Rattle.cf_sequence_kept.proofs.Operands.{Gives, index-tested, index-gives, operate-gives, converts-gives, converted-plain, pointer-tested, pointer-gives}
use Rattle.cf_sequence_kept.proofs.Values.{runs, act-runs, Keeps, one, pair, two, on-both}
use Rattle.cf_sequence_valid.proofs.Serves.{Serves, nothing-serves, allowed-is, allowed-serves}
use Rattle.cf_sequence_valid.proofs.Values as locals_of

module _ (locals : List SourceType) (R : SourceType) (span : Span) where
  -- two operands and an action on both
  binary : {x y : Typing} (z : Typing) {n : ℕ} {g : Keeping} (F G : Plains → Plains) (p : Keeps locals R span x n g F) → tested (Some p.kept) ≡ Some a_truth → (q : Keeps locals R span y (suc n) p.now G)
      → span.top ≤ n → (a : Action) (F2 : Option Kept → Option Kept → Option Kept) → ((g : Keeping) → kept_by locals R g a ≡ F2 (g n) (g (suc n))) → Gives (F2 (Some p.kept) (Some q.kept)) z
      → Keeps locals R span z n g (λ rest. F (used n (G (more (set n a) rest))))
  binary z {n} F G p t q top a F2 same v =
      let w = pair locals R span F G p t q top in
      two locals R span z (λ rest. F (used n (G rest))) w a v.kept (same w.now ∙ on-both locals R span (λ rest. F (used n (G rest))) w F2 ∙ v.is) v.related

  -- 0 or 1 by a test
  abbrev pub truth-of : {x : Typing} {n : ℕ} {g : Keeping} (F : Plains → Plains) (p : Keeps locals R span x n g F) → tested (Some p.kept) ≡ Some a_truth
      → Keeps locals R span (of_value (integer Int)) n g (λ rest. F (more (set n (plain.truth n)) rest))
  truth-of {x} {n} F p t = one locals R span (of_value (integer Int)) F p (plain.truth n) a_truth (ap tested p.at ∙ t) (of-value (integer Int) a_truth refl)

  -- a branch by what stands in the register, where both ways give a value there
  branch-keeps : (x y z : Typing) {n : ℕ} {g : Keeping} (w : Typing) (F : Plains → Plains) (p : Keeps locals R span w n g F) (left_code right_code : Plains) (one_way two_way : Keeping) (h k : Kept)
      → integer_in (Some p.kept) ≡ true → runs locals R left_code p.now ≡ Some one_way → runs locals R right_code p.now ≡ Some two_way
      → one_way n ≡ Some h → two_way n ≡ Some k → ((r : ℕ) → r < n → Stays span r (p.now r) (one_way r)) → ((r : ℕ) → r < n → Stays span r (p.now r) (two_way r))
      → (j : Joined h k) → Relates z j.kept → Keeps locals R span z n g (λ rest. F (more (branch n left_code right_code) rest))
  branch-keeps x y z {n} {g} w F p left_code right_code one_way two_way h k int first second at_one at_two below_one below_two j r = record {
    kept = j.kept;
    now = common one_way two_way;
    related = r;
    at = ap (λ o. in_both o (two_way n)) at_one ∙ ap (in_both (Some h)) at_two ∙ j.is;
    below = λ q lt. stays-then (p.below q lt) (stays-both (below_one q lt) (below_two q lt));
    goes = λ rest.
        p.goes (more (branch n left_code right_code) rest)
        ∙ ap (λ b. then_rest rest (if b then kept.joined locals R (runs locals R left_code p.now) (runs locals R right_code p.now) else None)) (ap integer_in p.at ∙ int)
        ∙ ap (λ o. then_rest rest (kept.joined locals R o (runs locals R right_code p.now))) first
        ∙ ap (λ o. then_rest rest (kept.joined locals R (Some one_way) o)) second;
  }
    where
      then_rest : Plains → Option Keeping → Option Keeping
      then_rest rest o = elim o as (λ _. Option Keeping) [ None ↦ None | Some h ↦ after_all locals R rest h ]

  module _ (classes : List Class) (scope : Scope) (keeps : locals_of.Kept scope locals) where
    abbrev pub Value : Core → Type 0
    Value e = (x : Full) (into : Option Destination) (n k : ℕ) (g : Keeping) → Room locals span x n k (added (nodes e)) → Keeps locals R span (typing scope e) n g (value classes x e into n k)

    -- `&&` and `||`: the second operand is evaluated in a branch
    pub and-keeps : (a b : Core) → Value a → Value b → is_condition (typing scope a) && is_condition (typing scope b) ≡ true → Value (core.logical_and a b)
    and-keeps a b va vb ok x into n k g room =
        let t = both (is_condition (typing scope a)) (is_condition (typing scope b)) ok in
        let F = value classes x a None n k in
        let p = va x None n k g (room-left locals span x n k (nodes a) (nodes b) room) in
        let c = truth-of F p (conditions-kept (typing scope a) p.kept p.related t.0) in
        let G = value classes x b None n (k + width a) in
        let q = vb x None n (k + width a) c.now (room-right locals span x n k n (omega arith) (nodes a) (nodes b) room) in
        let d = truth-of G q (conditions-kept (typing scope b) q.kept q.related t.1) in
        branch-keeps (typing scope a) (typing scope b) (allowed (is_condition (typing scope a) && is_condition (typing scope b)) (of_value (integer Int))) (of_value (integer Int))
        (λ rest. F (more (set n (plain.truth n)) rest)) c (G (more (set n (plain.truth n)) nothing)) nothing d.now c.now a_truth a_truth refl (d.goes nothing) refl d.at c.at d.below
        (λ r lt. stays refl) (record { kept = a_truth; is = refl; suits_both = λ t p q. p })
        (of-allowed (is_condition (typing scope a) && is_condition (typing scope b)) (of_value (integer Int)) a_truth ok (of-value (integer Int) a_truth refl))

    pub or-keeps : (a b : Core) → Value a → Value b → is_condition (typing scope a) && is_condition (typing scope b) ≡ true → Value (core.logical_or a b)
    or-keeps a b va vb ok x into n k g room =
        let t = both (is_condition (typing scope a)) (is_condition (typing scope b)) ok in
        let F = value classes x a None n k in
        let p = va x None n k g (room-left locals span x n k (nodes a) (nodes b) room) in
        let c = truth-of F p (conditions-kept (typing scope a) p.kept p.related t.0) in
        let G = value classes x b None n (k + width a) in
        let q = vb x None n (k + width a) c.now (room-right locals span x n k n (omega arith) (nodes a) (nodes b) room) in
        let d = truth-of G q (conditions-kept (typing scope b) q.kept q.related t.1) in
        branch-keeps (typing scope a) (typing scope b) (allowed (is_condition (typing scope a) && is_condition (typing scope b)) (of_value (integer Int))) (of_value (integer Int))
        (λ rest. F (more (set n (plain.truth n)) rest)) c nothing (G (more (set n (plain.truth n)) nothing)) c.now d.now a_truth a_truth refl refl (d.goes nothing) c.at d.at
        (λ r lt. stays refl) d.below (record { kept = a_truth; is = refl; suits_both = λ t p q. p })
        (of-allowed (is_condition (typing scope a) && is_condition (typing scope b)) (of_value (integer Int)) a_truth ok (of-value (integer Int) a_truth refl))

    pub conditional-keeps : (c a b : Core) → Value c → Value a → Value b → Serves (typing scope (core.conditional c a b)) → Value (core.conditional c a b)
    conditional-keeps c a b vc va vb s x into n k g room =
        let test = is_condition (typing scope c) in
        let ok = allowed-is test (either (typing scope a) (typing scope b)) s in
        let F = value classes x c None n k in
        let begin = room-left locals span x n k (nodes c ++ nodes a) (nodes b) room in
        let p = vc x None n k g (room-left locals span x n k (nodes c) (nodes a) begin) in
        let t = truth-of F p (conditions-kept (typing scope c) p.kept p.related ok) in
        let q = va x None n (k + width c) t.now (room-right locals span x n k n (omega arith) (nodes c) (nodes a) begin) in
        let r = vb x None n (k + width c + width a) t.now (room-third locals span x n k n (omega arith) (nodes c) (nodes a) (nodes b) room) in
        let j = either-joins (typing scope a) (typing scope b) q.kept r.kept q.related r.related (allowed-serves test (either (typing scope a) (typing scope b)) s) in
        branch-keeps (typing scope a) (typing scope b) (allowed test (either (typing scope a) (typing scope b))) (of_value (integer Int)) (λ rest. F (more (set n (plain.truth n)) rest)) t
        (value classes x a None n (k + width c) nothing) (value classes x b None n (k + width c + width a) nothing) q.now r.now q.kept r.kept refl (q.goes nothing) (r.goes nothing) q.at r.at q.below r.below
        j (of-allowed test (either (typing scope a) (typing scope b)) j.kept ok (of-either (typing scope a) (typing scope b) q.kept r.kept q.related r.related j))

    pub index-keeps : (a b : Core) → Value a → Value b → Serves (typing scope (core.index a b)) → Value (core.index a b)
    index-keeps a b va vb s x into n k g room =
        let p = va x None n k g (room-left locals span x n k (nodes a) (nodes b) room) in
        let q = vb x None (suc n) (k + width a) p.now (room-right locals span x n k (suc n) (omega arith) (nodes a) (nodes b) room) in
        binary (typing scope (core.index a b)) (value classes x a None n k) (value classes x b None (suc n) (k + width a)) p
        (index-tested (typing scope a) (typing scope b) p.kept q.kept p.related q.related scope s) q room.top (plain.index n (suc n)) moved_kept (λ g. refl)
        (index-gives (typing scope a) (typing scope b) p.kept q.kept p.related q.related scope s)

    pub pointers-keep : (op : _) (a b : Core) → Value a → Value b → Serves (typing scope (core.pointer_operate op a b)) → Value (core.pointer_operate op a b)
    pointers-keep op a b va vb s x into n k g room =
        let p = va x None n k g (room-left locals span x n k (nodes a) (nodes b) room) in
        let q = vb x None (suc n) (k + width a) p.now (room-right locals span x n k (suc n) (omega arith) (nodes a) (nodes b) room) in
        binary (typing scope (core.pointer_operate op a b)) (value classes x a None n k) (value classes x b None (suc n) (k + width a)) p
        (pointer-tested (typing scope a) (typing scope b) p.kept q.kept p.related q.related op s) q room.top (plain.pointer_operate op n (suc n)) (kept.pointer_operated op) (λ g. refl)
        (pointer-gives (typing scope a) (typing scope b) p.kept q.kept p.related q.related op s)

    pub operate-keeps : (op : _) (kind : _) (a b : Core) → Value a → Value b → Serves (typing scope (core.operate op kind a b)) → Value (core.operate op kind a b)
    operate-keeps op kind a b va vb s x into n k g room =
        let p = va x None n k g (room-left locals span x n k (nodes a) (nodes b) room) in
        let q = vb x None (suc n) (k + width a) p.now (room-right locals span x n k (suc n) (omega arith) (nodes a) (nodes b) room) in
        let fits_left = (both ((typing scope a).value (integer kind)) (is_right_operand op kind (typing scope b)) (allowed-is ((typing scope a).value (integer kind) && is_right_operand op kind (typing scope b)) (of_value (operated_type op kind)) s)).0 in
        binary (typing scope (core.operate op kind a b)) (value classes x a None n k) (value classes x b None (suc n) (k + width a)) p
        (integer-tested p.kept (integer-kept kind p.kept (p.related.value (integer kind) fits_left))) q room.top (plain.operate op kind n (suc n)) (operated op kind) (λ g. refl)
        (operate-gives (typing scope a) (typing scope b) p.kept q.kept p.related q.related op kind s)

    pub convert-keeps : (t : SourceType) (e : Core) → Value e → Serves (typing scope (core.convert t e)) → Value (core.convert t e)
    convert-keeps t e ve s x into n k g room =
        let ok = allowed-is (converts (unqualified t) (typing scope e)) _ s in
        let p = ve x None n k g room in
        let v = converts-gives (typing scope e) p.kept p.related (unqualified t) ok in
        one locals R span (typing scope (core.convert t e)) (value classes x e None n k) p (plain.convert t n) v.kept
        (ap (converted t) p.at ∙ converted-plain t p.kept ∙ v.is)
        (of-allowed (converts (unqualified t) (typing scope e)) _ v.kept ok (of-null (is_zero (typing scope e).number) (unqualified t) v.kept v.suits_type))

    pub unary-keeps : (op : _) (kind : _) (e : Core) → Value e → Serves (typing scope (core.unary op kind e)) → Value (core.unary op kind e)
    unary-keeps op kind e ve s x into n k g room =
        let ok = allowed-is ((typing scope e).value (integer kind)) (of_value (integer kind)) s in
        let p = ve x None n k g room in
        one locals R span (typing scope (core.unary op kind e)) (value classes x e None n k) p (plain.unary op kind n) (of_kind kind)
        (ap (λ o. given (has_kind kind o) (of_kind kind)) p.at ∙ ap (λ b. given b (of_kind kind)) (has-kind kind (typing scope e) p.kept p.related ok))
        (of-allowed ((typing scope e).value (integer kind)) (of_value (integer kind)) (of_kind kind) ok (of-value (integer kind) (of_kind kind) (own-suits (integer kind))))

    pub not-keeps : (e : Core) → Value e → Serves (typing scope (core.logical_not e)) → Value (core.logical_not e)
    not-keeps e ve s x into n k g room =
        let ok = allowed-is (is_condition (typing scope e)) (of_value (integer Int)) s in
        let p = ve x None n k g room in
        one locals R span (typing scope (core.logical_not e)) (value classes x e None n k) p (plain.logical_not n) a_truth
        (ap tested p.at ∙ conditions-kept (typing scope e) p.kept p.related ok)
        (of-allowed (is_condition (typing scope e)) (of_value (integer Int)) a_truth ok (of-value (integer Int) a_truth refl))

    pub store-keeps : (a b : Core) → Value a → Value b → Serves (typing scope (core.store a b)) → Value (core.store a b)
    store-keeps a b va vb s x into n k g room = by (typing scope a).place refl s
      where
        F : Plains → Plains
        F = value classes x a None n k

        G : Plains → Plains
        G = value classes x b None (suc n) (k + width a)

        by : (o : Option SourceType) → (typing scope a).place ≡ o → Serves (stored scope o (typing scope b))
            → Keeps locals R span (stored scope o (typing scope b)) n g (λ rest. F (used n (G (more (act (plain.store n (suc n))) rest))))
        by None e s = nothing-serves s
        by (Some t) e s =
            let p = va x None n k g (room-left locals span x n k (nodes a) (nodes b) room) in
            let q = vb x None (suc n) (k + width a) p.now (room-right locals span x n k (suc n) (omega arith) (nodes a) (nodes b) room) in
            let ok = allowed-is (is_scalar t && (typing scope b).value t) (of_place t) s in
            let d = pointed-to t p.kept (p.related.place t e) in
            let w = pair locals R span F G p (ap (λ h. tested (Some h)) d.is) q room.top in
            let suit = suits-same t d.to q.kept (same-turned d.to t d.same) (q.related.value t (both (is_scalar t) ((typing scope b).value t) ok).1) in
            record {
              kept = p.kept;
              now = w.now;
              related = of-allowed (is_scalar t && (typing scope b).value t) (of_place t) p.kept ok (of-place t p.kept (p.related.place t e));
              at = w.left;
              below = w.below;
              goes = λ rest.
                  w.goes (more (act (plain.store n (suc n))) rest)
                  ∙ act-runs locals R w.now (plain.store n (suc n)) no_value rest
                  (on-both locals R span (λ rest. F (used n (G rest))) w kept.stored ∙ ap (λ h. kept.stored (Some h) (Some q.kept)) d.is ∙ ap (λ b. given b no_value) suit);
            }
