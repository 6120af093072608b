-- Changes in place: each register is set before it is used, and holds there what is taken (5.2.5, 5.3, 5.17).
use Rattle.std.proofs.Common.{◌≡◌, ℕ, suc, ◌+◌, ◌<◌, true, false, List, refl, ap, ◌∙◌, arith}
use Rattle.std.specs.Prelude.{pos, Option, Some, None}
use Rattle.cf_base.specs.Integers.{fits}
use Rattle.cf_core.specs.Types.{SourceType, plain as unqualified}
use Rattle.cf_core.specs.Classes.{Class}
use Rattle.cf_core.specs.Core as core
use Rattle.cf_core.specs.Core.{Core, Change}
use Rattle.cf_core.specs.Nodes.{nodes}
use Rattle.cf_core.specs.Typing.{Scope, of_value, of_number, of_place, changes}
use Rattle.cf_core.specs.Typed.{typing, changed_in_place, stepped}
use Rattle.cf_plain.specs.Plain.{Register, Plains, act, set, more}
use Rattle.cf_plain.specs.Plain as plain
use Rattle.cf_plain_kept.specs.Kept as kept
use Rattle.cf_plain_kept.specs.Kept.{Kept, no_value, an_integer, a_place, Keeping, keep, value_of, suits, tested, given, read_kept, changed_kept, a_truth}
use Rattle.cf_sequence.specs.Made.{added, width}
use Rattle.cf_sequence.specs.Expressions.{Full, Destination, value, used}
use Rattle.cf_sequence_kept.proofs.Suits.{scalar-kept, Pointed, pointed-to, plain-suits, values-suit}
use Rattle.cf_sequence_kept.proofs.Spans.{Span, stays, stays-then, Room, room-left, room-right, room-above}
use Rattle.cf_sequence_kept.proofs.Related.{of-value, of-number, of-place, of-allowed}
use Rattle.cf_sequence_kept.proofs.Operands.{change-tested, change-gives}
use Rattle.cf_sequence_kept.proofs.Values.{keep-at, keep-below, keep-above, runs, set-runs, act-runs, Keeps, pair}
use Rattle.cf_sequence_valid.proofs.Serves.{Serves, nothing-serves, allowed-is}

module _ (locals : List SourceType) (R : SourceType) (span : Span) where
  -- a new value to a place of its type
  stored-runs : (g : Keeping) (i j : Register) (h k : Kept) (t : SourceType) (d : Pointed t h) → g i ≡ Some h → g j ≡ Some k → suits d.to k ≡ true
      → (rest : Plains) → runs locals R (more (act (plain.store i j)) rest) g ≡ runs locals R rest g
  stored-runs g i j h k t d at_place at_value suit rest =
      act-runs locals R g (plain.store i j) no_value rest
      (ap (λ o. kept.stored o (g j)) (at_place ∙ ap Some d.is) ∙ ap (kept.stored (Some (a_place d.to))) at_value ∙ ap (λ b. given b no_value) suit)

  module _ (classes : List Class) (scope : Scope) where
    abbrev Value : Core → Type 0
    Value e = (x : Full) (into : Option Destination) (n k : ℕ) (g : Keeping) → Room locals span x n k (added (nodes e)) → Keeps locals R span (typing scope e) n g (value classes x e into n k)

    pub update-keeps : (a b : Core) (c : Change) → Value a → Value b → Serves (typing scope (core.update a c b)) → Value (core.update a c b)
    update-keeps a b c va vb s x into n k g room = by (typing scope a).place refl s
      where
        F : Plains → Plains
        F = value classes x a None n k

        G : Plains → Plains
        G = value classes x b None (suc n) (k + width a)

        last : Plains → Plains
        last rest = used (suc n) (more (set (suc (suc n)) (plain.read n)) (more (set (suc n) (plain.changed c (suc (suc n)) (suc n))) (more (act (plain.store n (suc n))) rest)))

        by : (o : Option SourceType) → (typing scope a).place ≡ o → Serves (changed_in_place scope o (changes c o (typing scope b)))
            → Keeps locals R span (changed_in_place scope o (changes c o (typing scope b))) n g (λ rest. F (used n (G (used (suc n) (more (set (suc (suc n)) (plain.read n)) (more (set (suc n) (plain.changed c (suc (suc n)) (suc n))) (more (act (plain.store n (suc n))) rest)))))))
        by None e s = nothing-serves s
        by (Some t) e s =
            let ok = allowed-is (changes c (Some t) (typing scope b)) (of_place t) s in
            let p = va x None n k g (room-left locals span x n k (nodes a) (nodes b) room) in
            let q = vb x None (suc n) (k + width a) p.now (room-right locals span x n k (suc n) (omega arith) (nodes a) (nodes b) room) in
            let d = pointed-to t p.kept (p.related.place t e) in
            let w = pair locals R span F G p (ap (λ h. tested (Some h)) d.is) q room.top in
            let ch = change-gives (typing scope b) q.kept q.related c t d.to d.same ok in
            let one_up : n < suc n = omega arith in
            let two_up : suc n < suc (suc n) = omega arith in
            let far_up : n < suc (suc n) = omega arith in
            let first : Keeping = keep w.now (suc (suc n)) (value_of d.to) in
            let second : Keeping = keep first (suc n) ch.kept in
            let place_first : first n ≡ Some p.kept = keep-below w.now (suc (suc n)) n (value_of d.to) far_up ∙ w.left in
            let place_second : second n ≡ Some p.kept = keep-below first (suc n) n ch.kept one_up ∙ place_first in
            record {
              kept = p.kept;
              now = second;
              related = of-allowed (changes c (Some t) (typing scope b)) (of_place t) p.kept ok (of-place t p.kept (p.related.place t e));
              at = place_second;
              below = λ r lt.
                  let near : r < suc n = omega (arith, lt) in
                  let far : r < suc (suc n) = omega (arith, lt) in
                  stays-then (w.below r lt) (stays (keep-below first (suc n) r ch.kept near ∙ keep-below w.now (suc (suc n)) r (value_of d.to) far));
              goes = λ rest.
                  let more_store : Plains = more (act (plain.store n (suc n))) rest in
                  let more_change : Plains = more (set (suc n) (plain.changed c (suc (suc n)) (suc n))) more_store in
                  let more_read : Plains = more (set (suc (suc n)) (plain.read n)) more_change in
                  w.goes (used (suc n) more_read)
                  ∙ act-runs locals R w.now (plain.truth (suc n)) a_truth more_read (ap tested w.right ∙ change-tested (typing scope b) q.kept q.related c (Some t) ok)
                  ∙ set-runs locals R w.now (suc (suc n)) (plain.read n) (value_of d.to) more_change (ap read_kept (w.left ∙ ap Some d.is) ∙ scalar-kept d.to ch.scalar)
                  ∙ set-runs locals R first (suc n) (plain.changed c (suc (suc n)) (suc n)) ch.kept more_store
                  (ap (λ o. changed_kept c o (first (suc n))) (keep-at w.now (suc (suc n)) (value_of d.to))
                  ∙ ap (changed_kept c (Some (value_of d.to))) (keep-below w.now (suc (suc n)) (suc n) (value_of d.to) two_up ∙ w.right) ∙ ch.is)
                  ∙ stored-runs second n (suc n) p.kept ch.kept t d place_second (keep-at first (suc n) ch.kept) ch.suits_place rest;
            }

    -- `++x` and `--x`
    pub prefix-keeps : (e : Core) (c : Change) → Value e → Serves (typing scope (core.step false c e)) → Value (core.step false c e)
    prefix-keeps e c ve s x into n k g room = by (typing scope e).place refl s
      where
        F : Plains → Plains
        F = value classes x e None n k

        by : (o : Option SourceType) → (typing scope e).place ≡ o → Serves (stepped scope false c o)
            → Keeps locals R span (stepped scope false c o) n g (λ rest. F (more (set (suc n) (plain.read n)) (more (set (suc (suc n)) (plain.number (pos 1))) (more (set (suc n) (plain.changed c (suc n) (suc (suc n)))) (more (act (plain.store n (suc n))) rest)))))
        by None e s = nothing-serves s
        by (Some t) e s =
            let ok = allowed-is (changes c (Some t) (of_number (pos 1))) (of_place t) s in
            let p = ve x None n k g room in
            let one : Kept = an_integer (λ j. fits j (pos 1)) in
            let d = pointed-to t p.kept (p.related.place t e) in
            let ch = change-gives (of_number (pos 1)) one (of-number (pos 1)) c t d.to d.same ok in
            let one_up : n < suc n = omega arith in
            let two_up : suc n < suc (suc n) = omega arith in
            let far_up : n < suc (suc n) = omega arith in
            let first : Keeping = keep p.now (suc n) (value_of d.to) in
            let second : Keeping = keep first (suc (suc n)) one in
            let third : Keeping = keep second (suc n) ch.kept in
            let place_third : third n ≡ Some p.kept =
            keep-below second (suc n) n ch.kept one_up ∙ keep-below first (suc (suc n)) n one far_up ∙ keep-below p.now (suc n) n (value_of d.to) one_up ∙ p.at in
            record {
              kept = p.kept;
              now = third;
              related = of-allowed (changes c (Some t) (of_number (pos 1))) (of_place t) p.kept ok (of-place t p.kept (p.related.place t e));
              at = place_third;
              below = λ r lt.
                  let near : r < suc n = omega (arith, lt) in
                  let far : r < suc (suc n) = omega (arith, lt) in
                  stays-then (p.below r lt) (stays (keep-below second (suc n) r ch.kept near ∙ keep-below first (suc (suc n)) r one far ∙ keep-below p.now (suc n) r (value_of d.to) near));
              goes = λ rest.
                  let more_store : Plains = more (act (plain.store n (suc n))) rest in
                  let more_change : Plains = more (set (suc n) (plain.changed c (suc n) (suc (suc n)))) more_store in
                  let more_one : Plains = more (set (suc (suc n)) (plain.number (pos 1))) more_change in
                  p.goes (more (set (suc n) (plain.read n)) more_one)
                  ∙ set-runs locals R p.now (suc n) (plain.read n) (value_of d.to) more_one (ap read_kept (p.at ∙ ap Some d.is) ∙ scalar-kept d.to ch.scalar)
                  ∙ set-runs locals R first (suc (suc n)) (plain.number (pos 1)) one more_change refl
                  ∙ set-runs locals R second (suc n) (plain.changed c (suc n) (suc (suc n))) ch.kept more_store
                  (ap (λ o. changed_kept c o (second (suc (suc n)))) (keep-below first (suc (suc n)) (suc n) one two_up ∙ keep-at p.now (suc n) (value_of d.to))
                  ∙ ap (changed_kept c (Some (value_of d.to))) (keep-at first (suc (suc n)) one) ∙ ch.is)
                  ∙ stored-runs third n (suc n) p.kept ch.kept t d place_third (keep-at second (suc n) ch.kept) ch.suits_place rest;
            }

    -- `x++` and `x--`
    pub postfix-keeps : (e : Core) (c : Change) → Value e → Serves (typing scope (core.step true c e)) → Value (core.step true c e)
    postfix-keeps e c ve s x into n k g room = by (typing scope e).place refl s
      where
        F : Plains → Plains
        F = value classes x e None (suc n) k

        by : (o : Option SourceType) → (typing scope e).place ≡ o → Serves (stepped scope true c o)
            → Keeps locals R span (stepped scope true c o) n g (λ rest. F (more (set n (plain.read (suc n))) (more (set (suc (suc n)) (plain.number (pos 1))) (more (set (suc (suc n)) (plain.changed c n (suc (suc n)))) (more (act (plain.store (suc n) (suc (suc n)))) rest)))))
        by None at s = nothing-serves s
        by (Some t) at s =
            let ok = allowed-is (changes c (Some t) (of_number (pos 1))) (of_value (unqualified t)) s in
            let p = ve x None (suc n) k g (room-above locals span x n k (suc n) (omega arith) (added (nodes e)) room) in
            let one : Kept = an_integer (λ j. fits j (pos 1)) in
            let d = pointed-to t p.kept (p.related.place t at) in
            let ch = change-gives (of_number (pos 1)) one (of-number (pos 1)) c t d.to d.same ok in
            let one_up : n < suc n = omega arith in
            let two_up : suc n < suc (suc n) = omega arith in
            let far_up : n < suc (suc n) = omega arith in
            let first : Keeping = keep p.now n (value_of d.to) in
            let second : Keeping = keep first (suc (suc n)) one in
            let third : Keeping = keep second (suc (suc n)) ch.kept in
            let value_second : second n ≡ Some (value_of d.to) = keep-below first (suc (suc n)) n one far_up ∙ keep-at p.now n (value_of d.to) in
            let place_third : third (suc n) ≡ Some p.kept =
            keep-below second (suc (suc n)) (suc n) ch.kept two_up ∙ keep-below first (suc (suc n)) (suc n) one two_up ∙ keep-above p.now n (suc n) (value_of d.to) one_up ∙ p.at in
            record {
              kept = value_of d.to;
              now = third;
              related = of-allowed (changes c (Some t) (of_number (pos 1))) (of_value (unqualified t)) (value_of d.to) ok
                  (of-value (unqualified t) (value_of d.to) (plain-suits t (value_of d.to) (values-suit d.to t d.same)));
              at = keep-below second (suc (suc n)) n ch.kept far_up ∙ value_second;
              below = λ r lt.
                  let near : r < suc n = omega (arith, lt) in
                  let far : r < suc (suc n) = omega (arith, lt) in
                  stays-then (p.below r near) (stays (keep-below second (suc (suc n)) r ch.kept far ∙ keep-below first (suc (suc n)) r one far ∙ keep-below p.now n r (value_of d.to) lt));
              goes = λ rest.
                  let more_store : Plains = more (act (plain.store (suc n) (suc (suc n)))) rest in
                  let more_change : Plains = more (set (suc (suc n)) (plain.changed c n (suc (suc n)))) more_store in
                  let more_one : Plains = more (set (suc (suc n)) (plain.number (pos 1))) more_change in
                  p.goes (more (set n (plain.read (suc n))) more_one)
                  ∙ set-runs locals R p.now n (plain.read (suc n)) (value_of d.to) more_one (ap read_kept (p.at ∙ ap Some d.is) ∙ scalar-kept d.to ch.scalar)
                  ∙ set-runs locals R first (suc (suc n)) (plain.number (pos 1)) one more_change refl
                  ∙ set-runs locals R second (suc (suc n)) (plain.changed c n (suc (suc n))) ch.kept more_store
                  (ap (λ o. changed_kept c o (second (suc (suc n)))) value_second ∙ ap (changed_kept c (Some (value_of d.to))) (keep-at first (suc (suc n)) one) ∙ ch.is)
                  ∙ stored-runs third (suc n) (suc (suc n)) p.kept ch.kept t d place_third (keep-at second (suc (suc n)) ch.kept) ch.suits_place rest;
            }
