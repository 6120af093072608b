-- Statements have what they need where control comes to them, by induction on their tree: from what is open before them to what is open behind.
use Rattle.std.proofs.Common.{◌≡◌, ℕ, suc, ◌≤◌, ◌<◌, max, Bool, true, false, ◌&&◌, ◌==◌, List, [], refl, sym, ◌∙◌, ap, subst, arith, inr}
use Rattle.std.specs.Prelude.{map, ℤ, Option, Some, None, is_some}
use Rattle.cf_base.proofs.Tests.{both}
use Rattle.cf_core.specs.Types.{SourceType}
use Rattle.cf_plain.specs.Plain.{Register, Plain, Plains, act, set, branch, loop, switch, case_label, default_label, leave, continue, give, nothing, more}
use Rattle.cf_plain.specs.Valid.{labels_differ}
use Rattle.cf_plain_kept.specs.Kept as plain
use Rattle.cf_lower.specs.Kept.{Keeping, Locals, nothing_kept, sets, all_set, untouched, after, after_all}
use Rattle.cf_lower.specs.Functions.{nesting, all_nesting}
use Rattle.cf_lower_kept.specs.Opened.{Opened, falls, away, Ways, no_label, only_if, is_at, settled, comes_to, keeping_or, declared_at, stands_before, where_set, where_unset, prepared, opens, all_open, from_label}
use Rattle.cf_lower_kept.specs.Ready.{ready, all_ready}
use Rattle.cf_lower_kept.specs.Told.{AllTold, AllJoin, TellsLess}
use Rattle.cf_lower_kept.proofs.Turns.{all-join, turn-tells}
use Rattle.cf_lower_turns.specs.Around.{Around, function, turns, stepped, step, cases, depth_of, left_to, gone_on_to}
use Rattle.cf_lower_turns.specs.Scene.{Scene}
use Rattle.cf_lower_bounds.specs.Points.{Point, point_at, point_never, local_count}
use Rattle.cf_lower_bounds.specs.Bounds.{LiesWithin, NeededTo}
use Rattle.cf_lower_place.specs.InPlace.{is_number, switches, in_place, all_in_place, items_in_place}
use Rattle.cf_lower_needed.specs.Leading.{point_of, is_right, no_ways, LeavesLead}
use Rattle.cf_lower_needed.proofs.Tells.{or-left, or-right, Tells, tells-behind, tells-within, tells-at, untouched-less, untouched-gone, loop-less, loop-gone}
use Rattle.cf_lower_needed.proofs.Opens.{open-set, open-unset}
use Rattle.cf_lower_needed.proofs.Points.{right-left, right-right, comes-right, from-never, to-settled, comes-within, within-left, within-right}
use Rattle.cf_lower_needed.proofs.Places.{number-there, switches-there, one-builds-none, all-build-none, stands_alone, ways_behind, only-if, then_open, then-right, next-open, next-both, ready-next, told-next}
use Rattle.cf_lower_needed.proofs.Around.{StatementNeeds, ItemsNeed, Through, passed-itself, flags-left, flags-right, flags-one, Outs, Reaches, LeadsTo, leads-on-from, leads-out, Context, context-fewer, context-first, context-behind}
use Rattle.cf_lower_needed.proofs.Dead.{loop-outs, stepped-outs, step-outs, cases-outs, first-outs, rest-outs, dead-one, dead-list}
use Rattle.cf_lower_needed.proofs.Steps.{LabelsAt, labels-all, ways_in, from-prepared, through, label-step, label-dead}
use Rattle.cf_lower_needed.proofs.Labels.{has_label, choose, alone-or, labels-open}
use Rattle.cf_lower_needed.proofs.Declared.{points_behind, points-there, both-through}

module _ (z : Scene) (n : ℕ) (fits : Keeping → Plain → Bool) (leads : LeavesLead z n fits) where
  abbrev L : Locals
  L = z.inside.locals

  abbrev T : List SourceType
  T = L.types

  abbrev Rt : SourceType
  Rt = z.inside.result

  -- ---- what stands around the body of a loop, and of a switch

  abbrev in_turns : List Opened → Ways
  in_turns ys = record { breaks = Some ys; continues = Some ys; labels = no_label }

  abbrev in_step : List Opened → Ways
  in_step ys = record { breaks = Some ys; continues = None; labels = no_label }

  -- the point of a loop's turns, for what sets no more than the loop
  turn-reaches : (h : Keeping) (xs : List Opened) (ss ts : Plains) → AllJoin h → (U : Register → Bool) → ((r : Register) → U r ≡ true → sets L r (loop ss ts) ≡ true)
      → Reaches z (map settled xs) (point_at (after L (loop ss ts) h) (map settled xs)) (after L (loop ss ts) h) U
  turn-reaches h xs ss ts joins U in_loop = record {
    kept = after L (loop ss ts) h;
    base = xs;
    opened = refl;
    is = refl;
    tells = record { joins = all-join L (more (loop ss ts) nothing) h joins; less = λ r. inr refl; gone = λ r e. loop-gone L h ss ts r (in_loop r e) };
  }

  module _ (around : Around Point) (h : Keeping) (w : Ways) (b c : Bool) (xs : List Opened) (ss ts : Plains) where
    abbrev turn_kept : Keeping
    turn_kept = after L (loop ss ts) h

    abbrev turn_point : Point
    turn_point = point_at turn_kept (map settled xs)

    in-body : (r : Register) → all_set L r ss ≡ true → sets L r (loop ss ts) ≡ true
    in-body r e = or-left (all_set L r ss) (all_set L r ts) e

    in-end : (r : Register) → all_set L r ts ≡ true → sets L r (loop ss ts) ≡ true
    in-end r e = or-right (all_set L r ss) (all_set L r ts) e

    -- the body of a loop, by what stands around it and where its `continue` leads
    body-context : (inner : Around Point) → Outs z inner true true (all_nesting ss) → left_to inner ≡ Some turn_point → gone_on_to inner ≡ Some turn_point
        → Context z around h w b c (λ r. sets L r (loop ss ts)) (nesting (loop ss ts))
        → Context z inner turn_kept (in_turns (map settled xs)) true true (λ r. all_set L r ss) (all_nesting ss)
    body-context inner outs left gone x =
        let there = turn-reaches h xs ss ts x.joins (λ r. all_set L r ss) in-body in
        record {
          joins = all-join L (more (loop ss ts) nothing) h x.joins;
          outs = outs;
          left = subst (λ p. LeadsTo z (Some (map settled xs)) p turn_kept (λ r. all_set L r ss)) (sym left) there;
          gone = subst (λ p. LeadsTo z (Some (map settled xs)) p turn_kept (λ r. all_set L r ss)) (sym gone) there;
        }

    step-context : Outs z (step turn_point around) true false (all_nesting ts) → Context z around h w b c (λ r. sets L r (loop ss ts)) (nesting (loop ss ts))
        → Context z (step turn_point around) turn_kept (in_step (map settled xs)) true false (λ r. all_set L r ts) (all_nesting ts)
    step-context outs x = record {
      joins = all-join L (more (loop ss ts) nothing) h x.joins;
      outs = outs;
      left = turn-reaches h xs ss ts x.joins (λ r. all_set L r ts) in-end;
      gone = tt;
    }

    -- what a turn has set is told of no more behind it
    body-less : AllJoin h → all_in_place L fits true true ss turn_kept ≡ true → TellsLess (after_all L ss turn_kept) turn_kept
    body-less joins e =
        turn-tells L ss turn_kept (all-join L (more (loop ss ts) nothing) h joins) (all-build-none L fits ss true true turn_kept e) (λ r i. loop-gone L h ss ts r (in-body r i))

    step-less : AllJoin h → all_in_place L fits true false ts turn_kept ≡ true → TellsLess (after_all L ts turn_kept) turn_kept
    step-less joins e =
        turn-tells L ts turn_kept (all-join L (more (loop ss ts) nothing) h joins) (all-build-none L fits ts true false turn_kept e) (λ r i. loop-gone L h ss ts r (in-end r i))

  module _ (around : Around Point) (h : Keeping) (w : Ways) (b c : Bool) (xs : List Opened) (r : Register) (ss : Plains)
      (x : Context z around h w b c (λ q. sets L q (switch r ss)) (nesting (switch r ss))) where
    abbrev label_kept : Keeping
    label_kept = untouched L h ss

    abbrev label_point : Point
    label_point = point_at label_kept (map settled xs)

    switch-context : (labels : Option ℤ → Option (List Opened))
        → Context z (cases label_point around) label_kept (ways_in (map settled xs) w.continues labels) true c (λ q. all_set L q ss) (all_nesting ss)
    switch-context labels = record {
      joins = all-join L (more (switch r ss) nothing) h x.joins;
      outs = cases-outs z n fits around b c label_point (all_nesting ss) x.outs;
      left = record {
        kept = label_kept;
        base = xs;
        opened = refl;
        is = refl;
        tells = record { joins = all-join L (more (switch r ss) nothing) h x.joins; less = λ q. inr refl; gone = λ q e. untouched-gone L h ss q e };
      };
      gone = leads-on-from z w.continues (gone_on_to around) h label_kept (λ q. sets L q (switch r ss)) (λ q. all_set L q ss)
          (λ i t. tells-within L i h (switch r ss) refl t) x.gone;
    }

    switch-tells : Tells L label_kept label_kept (λ q. all_set L q ss)
    switch-tells = record { joins = all-join L (more (switch r ss) nothing) h x.joins; less = λ q. inr refl; gone = λ q e. untouched-gone L h ss q e }

  -- ---- a statement and what is behind it

  -- the labels of a switch, behind a statement
  context-rest : (around : Around Point) (k : Keeping) (w : Ways) (c : Bool) (s : Plain) (ss : Plains)
      → Context z around k w true c (λ r. all_set L r (more s ss)) (all_nesting (more s ss)) → Context z around k w true c (λ r. all_set L r ss) (all_nesting ss)
  context-rest around k w c s ss at =
      context-fewer z around k w true c (λ r. all_set L r (more s ss)) (λ r. all_set L r ss) (all_nesting (more s ss)) (all_nesting ss) at
      (λ r i. or-right (sets L r s) (all_set L r ss) i) (flags-right (depth_of around) (nesting s) (all_nesting ss) z.body.flags.bound at.outs.flags)

  module _ (s : Plain) (ss : Plains) (around : Around Point) where
    list-step : (g : plain.Keeping) (h : Keeping) (w : Ways) (xs : List Opened) (b c : Bool) → AllTold L g h → all_ready T Rt (more s ss) g ≡ true
        → all_in_place L fits b c (more s ss) h ≡ true → Context z around h w b c (λ r. all_set L r (more s ss)) (all_nesting (more s ss))
        → is_right (all_open T Rt (more s ss) g w xs) ≡ true → (q : Point) → LiesWithin z (point_of (after_all L (more s ss) h) (all_open T Rt (more s ss) g w xs)) q
        → stands_alone s ss ≡ true
        → (ready T Rt s g ≡ true → in_place L fits b c s h ≡ true → Context z around h w b c (λ r. sets L r s) (nesting s)
        → is_right (opens T Rt s g w (prepared s ss xs)) ≡ true
        → StatementNeeds z n s around (point_at h (prepared s ss xs)) (point_of (after L s h) (opens T Rt s g w (prepared s ss xs))))
        → ((next : plain.Keeping) (i : Keeping) (ys : List Opened) → AllTold L next i → all_ready T Rt ss next ≡ true → all_in_place L fits b c ss i ≡ true
        → Context z around i w b c (λ r. all_set L r ss) (all_nesting ss) → is_right (all_open T Rt ss next w ys) ≡ true
        → LiesWithin z (point_of (after_all L ss i) (all_open T Rt ss next w ys)) q → NeededTo z n ss around (point_at i ys) q)
        → NeededTo z n (more s ss) around (point_at h xs) q
    list-step g h w xs b c told re e x right q within alone one rest =
        let two = both (in_place L fits b c s h) (all_in_place L fits b c ss (after L s h)) e in
        let rs = ready-next T Rt s ss g re in
        let next = keeping_or (plain.after T Rt s g) in
        let opened = next-open T Rt s ss g w xs alone in
        let behind = opens T Rt s g w (prepared s ss xs) in
        let fine = then-right T Rt behind ss next w (subst (λ o. is_right o ≡ true) opened right) in
        through z n around s h xs behind (λ p. NeededTo z n ss around p q)
        (from-prepared z n around s ss h xs (point_of (after L s h) behind) (one rs.0 two.0 (context-first z around h w b c s ss x) fine)) fine
        (λ k. dead-list z n fits ss around (after L s h) b c two.1 (rest-outs z n fits around b c s ss x.outs) q)
        (λ ys k.
        let same = opened ∙ ap (λ o. then_open T Rt o ss next w) k in
        rest next (after L s h) ys (told-next L Rt s g h told rs.0) rs.1 two.1 (context-behind z around h w b c s ss (one-builds-none L fits s b c h two.0) x)
        (subst (λ o. is_right o ≡ true) same right) (subst (λ o. LiesWithin z (point_of (after_all L ss (after L s h)) o) q) same within))

    item-step : (k : Keeping) (base : List Opened) (w : Ways) (points : Option ℤ → Point) (g : plain.Keeping) (h : Keeping) (xs : List Opened) (c : Bool)
        → LabelsAt k w.labels points → AllTold L g h → all_ready T Rt (more s ss) g ≡ true
        → in_place L fits true c s h && items_in_place L fits c ss k (after L s h) ≡ true
        → Context z around h w true c (λ r. all_set L r (more s ss)) (all_nesting (more s ss))
        → Context z around k w true c (λ r. all_set L r (more s ss)) (all_nesting (more s ss)) → Tells L k h (λ r. all_set L r (more s ss))
        → comes_to (map settled base) (all_open T Rt (more s ss) g w xs) ≡ true → stands_alone s ss ≡ true
        → (ready T Rt s g ≡ true → in_place L fits true c s h ≡ true → Context z around h w true c (λ r. sets L r s) (nesting s)
        → is_right (opens T Rt s g w (prepared s ss xs)) ≡ true
        → StatementNeeds z n s around (point_at h (prepared s ss xs)) (point_of (after L s h) (opens T Rt s g w (prepared s ss xs))))
        → ((next : plain.Keeping) (i : Keeping) → all_ready T Rt ss next ≡ true → items_in_place L fits c ss k i ≡ true
        → Context z around k w true c (λ r. all_set L r ss) (all_nesting ss) → Tells L k i (λ r. all_set L r ss)
        → comes_to (map settled base) (from_label T Rt ss w) ≡ true → ItemsNeed z n ss around points (point_never i) (point_at k (map settled base)))
        → ((next : plain.Keeping) (i : Keeping) (ys : List Opened) → AllTold L next i → all_ready T Rt ss next ≡ true → items_in_place L fits c ss k i ≡ true
        → Context z around i w true c (λ r. all_set L r ss) (all_nesting ss) → Context z around k w true c (λ r. all_set L r ss) (all_nesting ss)
        → Tells L k i (λ r. all_set L r ss) → comes_to (map settled base) (all_open T Rt ss next w ys) ≡ true
        → ItemsNeed z n ss around points (point_at i ys) (point_at k (map settled base)))
        → Through z n (after L s h) (λ p. StatementNeeds z n s around (point_at h xs) p) (λ p. ItemsNeed z n ss around points p (point_at k (map settled base)))
    item-step k base w points g h xs c labels told re e x at tells comes alone one dead live =
        let two = both (in_place L fits true c s h) (items_in_place L fits c ss k (after L s h)) e in
        let rs = ready-next T Rt s ss g re in
        let next = keeping_or (plain.after T Rt s g) in
        let opened = next-open T Rt s ss g w xs alone in
        let all = comes-right (map settled base) (all_open T Rt (more s ss) g w xs) comes in
        let there = opens T Rt s g w (prepared s ss xs) in
        let fine = then-right T Rt there ss next w (subst (λ i. is_right i ≡ true) opened all) in
        let none = one-builds-none L fits s true c h two.0 in
        let less = context-rest around k w c s ss at in
        let behind = tells-behind L k h s ss none tells in
        through z n around s h xs there (λ p. ItemsNeed z n ss around points p (point_at k (map settled base)))
        (from-prepared z n around s ss h xs (point_of (after L s h) there) (one rs.0 two.0 (context-first z around h w true c s ss x) fine)) fine
        (λ i. dead next (after L s h) rs.1 two.1 less behind
        (subst (λ a. comes_to (map settled base) a ≡ true) (opened ∙ ap (λ a. then_open T Rt a ss next w) i) comes))
        (λ ys i. live next (after L s h) ys (told-next L Rt s g h told rs.0) rs.1 two.1 (context-behind z around h w true c s ss none x) less behind
        (subst (λ a. comes_to (map settled base) a ≡ true) (opened ∙ ap (λ a. then_open T Rt a ss next w) i) comes))

  -- ---- a switch, and the one that it declares for

  abbrev between : Keeping → Register → Plains → Keeping
  between h p ss = after L (switch p ss) h

  abbrev behind_both : Keeping → Register → Register → Plains → Plains → Keeping
  behind_both h p r ss ts = after L (switch r ts) (between h p ss)

  abbrev told_behind : plain.Keeping → Register → Register → Plains → Plains → plain.Keeping
  told_behind g p r ss ts = keeping_or (plain.after T Rt (switch r ts) (keeping_or (plain.after T Rt (switch p ss) g)))

  module _ (around : Around Point) (g : plain.Keeping) (h : Keeping) (w : Ways) (xs : List Opened) (b c : Bool) (p r : Register) (ss ts rest : Plains) where
    record BothFacts : Type 0 where
      pub some : (l : Option ℤ) → has_label l ts ≡ true → is_some (declared_at ss (map settled xs) l) ≡ true
      pub first_on : switches (h p) ss ≡ true
      pub differ : labels_differ [] ss ≡ true
      pub place : items_in_place L fits c ss (between h p ss) (between h p ss) ≡ true
      pub second_on : switches (between h p ss r) ts ≡ true
      pub room : depth_of around < z.body.flags.bound
      pub inner_ready : all_ready T Rt ts plain.nothing_set ≡ true
      pub inner_place : items_in_place L fits c ts (behind_both h p r ss ts) (behind_both h p r ss ts) ≡ true
      pub inside : Context z (cases (point_at (behind_both h p r ss ts) (map settled xs)) around) (behind_both h p r ss ts) (ways_behind w ss (map settled xs)) true c
          (λ q. all_set L q ts) (all_nesting ts)
      pub tells : Tells L (behind_both h p r ss ts) (behind_both h p r ss ts) (λ q. all_set L q ts)
      pub comes : comes_to (map settled xs) (all_open T Rt ts plain.nothing_set (ways_behind w ss (map settled xs)) (map settled xs)) ≡ true
      pub told : AllTold L (told_behind g p r ss ts) (behind_both h p r ss ts)
      pub ready : all_ready T Rt rest (told_behind g p r ss ts) ≡ true
      pub opened : all_open T Rt (more (switch p ss) (more (switch r ts) rest)) g w xs ≡ all_open T Rt rest (told_behind g p r ss ts) w (map settled xs)
      pub context : Context z around (behind_both h p r ss ts) w b c (λ q. all_set L q rest) (all_nesting rest)

    both-facts : AllTold L g h → all_ready T Rt (more (switch p ss) (more (switch r ts) rest)) g ≡ true → in_place L fits b c (switch p ss) h ≡ true
        → in_place L fits b c (switch r ts) (between h p ss) ≡ true
        → Context z around h w b c (λ q. all_set L q (more (switch p ss) (more (switch r ts) rest))) (all_nesting (more (switch p ss) (more (switch r ts) rest)))
        → (p == r) && stands_before ss ts ≡ true → is_right (all_open T Rt (more (switch p ss) (more (switch r ts) rest)) g w xs) ≡ true → BothFacts
    both-facts told re e f x stand right =
        let k1 = between h p ss in
        let k2 = behind_both h p r ss ts in
        let g1 = keeping_or (plain.after T Rt (switch p ss) g) in
        let ways = ways_behind w ss (map settled xs) in
        let one = both (switches (h p) ss) (labels_differ [] ss && items_in_place L fits c ss k1 k1) e in
        let first = both (labels_differ [] ss) (items_in_place L fits c ss k1 k1) one.1 in
        let two = both (switches (k1 r) ts) (labels_differ [] ts && items_in_place L fits c ts k2 k2) f in
        let second = both (labels_differ [] ts) (items_in_place L fits c ts k2 k2) two.1 in
        let rs = ready-next T Rt (switch p ss) (more (switch r ts) rest) g re in
        let us = ready-next T Rt (switch r ts) rest g1 rs.1 in
        let there = next-both T Rt p r ss ts rest g w xs stand right in
        let x0 = context-first z around h w b c (switch p ss) (more (switch r ts) rest) x in
        let x1 = context-behind z around h w b c (switch p ss) (more (switch r ts) rest) refl x in
        let x2 = context-first z around k1 w b c (switch r ts) rest x1 in
        record {
          some = λ l has. labels-open T Rt ways l ts plain.nothing_set (map settled xs) (comes-right (map settled xs) (all_open T Rt ts plain.nothing_set ways (map settled xs)) there.0) has;
          first_on = one.0;
          differ = first.0;
          place = first.1;
          second_on = two.0;
          room = flags-one (depth_of around) (all_nesting ss) z.body.flags.bound x0.outs.flags;
          inner_ready = us.0;
          inner_place = second.1;
          inside = switch-context around k1 w b c xs r ts x2 (declared_at ss (map settled xs));
          tells = switch-tells around k1 w b c xs r ts x2;
          comes = there.0;
          told = told-next L Rt (switch r ts) g1 k1 (told-next L Rt (switch p ss) g h told rs.0) us.0;
          ready = us.1;
          opened = there.1;
          context = context-behind z around k1 w b c (switch r ts) rest refl x1;
        }

  -- ---- by induction

  mutual
    one-needed : (s : Plain) (around : Around Point) (g : plain.Keeping) (h : Keeping) (w : Ways) (xs : List Opened) (b c : Bool) → AllTold L g h → ready T Rt s g ≡ true
        → in_place L fits b c s h ≡ true → Context z around h w b c (λ r. sets L r s) (nesting s) → is_right (opens T Rt s g w xs) ≡ true
        → StatementNeeds z n s around (point_at h xs) (point_of (after L s h) (opens T Rt s g w xs))
    one-needed (act a) around g h w xs b c told re e x right = leads around g h w xs told (act a) e right
    one-needed (set r a) around g h w xs b c told re e x right = leads around g h w xs told (set r a) e right
    one-needed (give r) around g h w xs b c told re e x right = leads around g h w xs told (give r) e right
    one-needed (branch r ss ts) around g h w xs b c told re e x right =
        let one = both (is_number (h r)) (all_in_place L fits b c ss h && all_in_place L fits b c ts h) e in
        let two = both (all_in_place L fits b c ss h) (all_in_place L fits b c ts h) one.1 in
        let rs = both (all_ready T Rt ss g) (all_ready T Rt ts g) re in
        let i = all_open T Rt ss g w (where_set r xs) in
        let j = all_open T Rt ts g w (where_unset r xs) in
        let q = point_of (after L (branch r ss ts) h) (opens T Rt (branch r ss ts) g w xs) in
        let m = max (all_nesting ss) (all_nesting ts) in (
          number-there (h r) one.0,
          record {
            if_set = point_at h (where_set r xs);
            if_unset = point_at h (where_unset r xs);
            kept_set = refl;
            kept_unset = refl;
            enters_set = λ d f s t n e i at. record { here = at.here; frame = at.frame; standing = open-set (local_count z) f s r n e i xs at.standing };
            enters_unset = λ d f s t n e i at. record { here = at.here; frame = at.frame; standing = open-unset (local_count z) f s r n e i xs at.standing };
            first = list-needed ss around g h w (where_set r xs) b c told rs.0 two.0
                (context-fewer z around h w b c (λ p. sets L p (branch r ss ts)) (λ p. all_set L p ss) m (all_nesting ss) x
                (λ p k. or-left (all_set L p ss) (all_set L p ts) k) (flags-left (depth_of around) (all_nesting ss) (all_nesting ts) z.body.flags.bound x.outs.flags))
                (right-left i j right) q (within-left z (after_all L ss h) (after_all L ts h) i j right);
            second = list-needed ts around g h w (where_unset r xs) b c told rs.1 two.1
                (context-fewer z around h w b c (λ p. sets L p (branch r ss ts)) (λ p. all_set L p ts) m (all_nesting ts) x
                (λ p k. or-right (all_set L p ss) (all_set L p ts) k) (flags-right (depth_of around) (all_nesting ss) (all_nesting ts) z.body.flags.bound x.outs.flags))
                (right-right i j right) q (within-right z (after_all L ss h) (after_all L ts h) i j right);
          },
        )
    one-needed (loop ss nothing) around g h w xs b c told re e x right =
        let ys = map settled xs in
        let k = after L (loop ss nothing) h in
        let m = point_at k ys in
        let two = both (all_in_place L fits true true ss k) (all_in_place L fits true false nothing k) e in
        let rs = both (all_ready T Rt ss plain.nothing_set) (all_ready T Rt nothing plain.nothing_set) re in
        let i = all_open T Rt ss plain.nothing_set (in_turns ys) ys in
        let j = all_open T Rt nothing plain.nothing_set (in_step ys) ys in
        let tested = only-if (comes_to ys i && comes_to ys j) (falls ys) right in
        let comes = both (comes_to ys i) (comes_to ys j) tested in
        subst (λ t. StatementNeeds z n (loop ss nothing) around (point_at h xs) (point_of k (only_if t (falls ys)))) (sym tested) (
          to-settled z h k xs (loop-less L h ss nothing),
          list-needed ss (turns m around) plain.nothing_set k (in_turns ys) ys true true (λ r. tt) rs.0 two.0
              (body-context around h w b c xs ss nothing (turns m around) (loop-outs z n fits around b c m (all_nesting ss) x.outs) refl refl x)
              (comes-right ys i comes.0) m (comes-within z xs (after_all L ss k) k i comes.0 (body-less around h w b c xs ss nothing x.joins two.0)),
        )
    one-needed (loop ss (more t ts)) around g h w xs b c told re e x right =
        let ys = map settled xs in
        let k = after L (loop ss (more t ts)) h in
        let m = point_at k ys in
        let two = both (all_in_place L fits true true ss k) (all_in_place L fits true false (more t ts) k) e in
        let rs = both (all_ready T Rt ss plain.nothing_set) (all_ready T Rt (more t ts) plain.nothing_set) re in
        let i = all_open T Rt ss plain.nothing_set (in_turns ys) ys in
        let j = all_open T Rt (more t ts) plain.nothing_set (in_step ys) ys in
        let tested = only-if (comes_to ys i && comes_to ys j) (falls ys) right in
        let comes = both (comes_to ys i) (comes_to ys j) tested in
        subst (λ d. StatementNeeds z n (loop ss (more t ts)) around (point_at h xs) (point_of k (only_if d (falls ys)))) (sym tested) (
          to-settled z h k xs (loop-less L h ss (more t ts)),
          (
            flags-one (depth_of around) (all_nesting ss) z.body.flags.bound
                (flags-left (depth_of around) (suc (all_nesting ss)) (all_nesting (more t ts)) z.body.flags.bound x.outs.flags),
            (
              list-needed ss (stepped m around) plain.nothing_set k (in_turns ys) ys true true (λ r. tt) rs.0 two.0
                  (body-context around h w b c xs ss (more t ts) (stepped m around)
                  (stepped-outs z n fits around b c m (all_nesting ss) (all_nesting (more t ts)) x.outs) refl refl x)
                  (comes-right ys i comes.0) m (comes-within z xs (after_all L ss k) k i comes.0 (body-less around h w b c xs ss (more t ts) x.joins two.0)),
              list-needed (more t ts) (step m around) plain.nothing_set k (in_step ys) ys true false (λ r. tt) rs.1 two.1
                  (step-context around h w b c xs ss (more t ts) (step-outs z n fits around b c m (all_nesting ss) (all_nesting (more t ts)) x.outs) x)
                  (comes-right ys j comes.1) m
                  (comes-within z xs (after_all L (more t ts) k) k j comes.1 (step-less around h w b c xs ss (more t ts) x.joins two.1)),
            ),
          ),
        )
    one-needed (switch r ss) around g h w xs b c told re e x right =
        let ys = map settled xs in
        let k = untouched L h ss in
        let m = point_at k ys in
        let one = both (switches (h r) ss) (labels_differ [] ss && items_in_place L fits c ss k k) e in
        let two = both (labels_differ [] ss) (items_in_place L fits c ss k k) one.1 in
        let inner = ways_in ys w.continues (λ l. Some ys) in
        let tested = only-if (comes_to ys (all_open T Rt ss plain.nothing_set inner ys)) (falls ys) right in
        let inside = switch-context around h w b c xs r ss x (λ l. Some ys) in
        let into = to-settled z h k xs (untouched-less L h ss) in
        subst (λ t. StatementNeeds z n (switch r ss) around (point_at h xs) (point_of k (only_if t (falls ys)))) (sym tested) (
          switches-there (h r) ss one.0,
          (
            flags-one (depth_of around) (all_nesting ss) z.body.flags.bound x.outs.flags,
            record {
              labels = λ l. m;
              kept_at = λ l. refl;
              enters = λ d f s t y i at. into d f s t at;
              passed = passed-itself z n ss m;
              front = m;
              kept_front = refl;
              items = items-needed ss (cases m around) k xs inner (λ l. m) plain.nothing_set k ys c (labels-all k xs) (λ q. tt) re two.1 inside inside
                  (switch-tells around h w b c xs r ss x) tested;
            },
          ),
        )
    one-needed leave around g h w xs b c told re e x right =
        leads-out z n w.breaks (left_to around) h (λ r. false) xs (leads-on-from z w.breaks (left_to around) h h (λ r. sets L r leave) (λ r. false) (λ k t. t) x.left)
        (only-if (is_at w.breaks xs) away right)
    one-needed continue around g h w xs b c told re e x right =
        leads-out z n w.continues (gone_on_to around) h (λ r. false) xs
        (leads-on-from z w.continues (gone_on_to around) h h (λ r. sets L r continue) (λ r. false) (λ k t. t) x.gone) (only-if (is_at w.continues xs) away right)
    one-needed s around g h w xs b c told re e x right = absurd (let k = e in cc)

    pub list-needed : (ss : Plains) (around : Around Point) (g : plain.Keeping) (h : Keeping) (w : Ways) (xs : List Opened) (b c : Bool) → AllTold L g h
        → all_ready T Rt ss g ≡ true → all_in_place L fits b c ss h ≡ true → Context z around h w b c (λ r. all_set L r ss) (all_nesting ss)
        → is_right (all_open T Rt ss g w xs) ≡ true → (q : Point) → LiesWithin z (point_of (after_all L ss h) (all_open T Rt ss g w xs)) q
        → NeededTo z n ss around (point_at h xs) q
    list-needed nothing around g h w xs b c told re e x right q within = within
    list-needed (more (switch p ss) (more (switch r ts) rest)) around g h w xs b c told re e x right q within =
        choose ((p == r) && stands_before ss ts)
        (λ k.
        let i = behind_both h p r ss ts in
        let one = both (in_place L fits b c (switch p ss) h) (all_in_place L fits b c (more (switch r ts) rest) (between h p ss)) e in
        let two = both (in_place L fits b c (switch r ts) (between h p ss)) (all_in_place L fits b c rest i) one.1 in
        let y = both-facts around g h w xs b c p r ss ts rest told re one.0 two.0 x k right in
        both-through z n fits leads around h xs p r ss ts c k y.some y.first_on y.differ y.place y.second_on y.room (λ o. NeededTo z n rest around o q)
        (items-needed ts (cases (point_at i (map settled xs)) around) i xs (ways_behind w ss (map settled xs)) (points_behind z n fits leads around h xs p r ss ts c k y.some)
        plain.nothing_set i (map settled xs) c (points-there z n fits leads around h xs p r ss ts c k y.some) (λ o. tt) y.inner_ready y.inner_place y.inside y.inside y.tells y.comes)
        (list-needed rest around (told_behind g p r ss ts) i w (map settled xs) b c y.told y.ready two.1 y.context (subst (λ o. is_right o ≡ true) y.opened right) q
        (subst (λ o. LiesWithin z (point_of (after_all L rest i) o) q) y.opened within)))
        (λ k.
        list-step (switch p ss) (more (switch r ts) rest) around g h w xs b c told re e x right q within (alone-or p r ss ts rest k)
        (λ y place context fine. one-needed (switch p ss) around g h w xs b c told y place context fine)
        (λ next i ys told ready place context fine there. list-needed (more (switch r ts) rest) around next i w ys b c told ready place context fine q there))
    list-needed (more s ss) around g h w xs b c told re e x right q within =
        list-step s ss around g h w xs b c told re e x right q within refl (λ y place context fine. one-needed s around g h w (prepared s ss xs) b c told y place context fine)
        (λ next i ys told ready place context fine there. list-needed ss around next i w ys b c told ready place context fine q there)

    -- the labels and statements of a switch, where control comes to what is open
    items-needed : (ss : Plains) (around : Around Point) (k : Keeping) (base : List Opened) (w : Ways) (points : Option ℤ → Point) (g : plain.Keeping) (h : Keeping)
        (xs : List Opened) (c : Bool) → LabelsAt k w.labels points → AllTold L g h → all_ready T Rt ss g ≡ true → items_in_place L fits c ss k h ≡ true
        → Context z around h w true c (λ r. all_set L r ss) (all_nesting ss) → Context z around k w true c (λ r. all_set L r ss) (all_nesting ss)
        → Tells L k h (λ r. all_set L r ss) → comes_to (map settled base) (all_open T Rt ss g w xs) ≡ true
        → ItemsNeed z n ss around points (point_at h xs) (point_at k (map settled base))
    items-needed nothing around k base w points g h xs c labels told re e x at tells comes = comes-within z base h k (falls xs) comes tells.less
    items-needed (more (case_label y) ss) around k base w points g h xs c labels told re e x at tells comes =
        let rest = context-behind z around k w true c (case_label y) ss refl at in
        label-step z n around ss k h (map settled base) w points labels (Some y) (point_at k (map settled base))
        (λ zs there i. items-needed ss around k base w points plain.nothing_set k zs c labels (λ r. tt) re e rest rest (tells-at L k h (λ r. all_set L r ss) tells) i)
        xs tells.less (w.labels (Some y)) refl comes
    items-needed (more default_label ss) around k base w points g h xs c labels told re e x at tells comes =
        let rest = context-behind z around k w true c default_label ss refl at in
        label-step z n around ss k h (map settled base) w points labels None (point_at k (map settled base))
        (λ zs there i. items-needed ss around k base w points plain.nothing_set k zs c labels (λ r. tt) re e rest rest (tells-at L k h (λ r. all_set L r ss) tells) i)
        xs tells.less (w.labels None) refl comes
    items-needed (more (switch p ss) (more (switch r ts) rest)) around k base w points g h xs c labels told re e x at tells comes =
        choose ((p == r) && stands_before ss ts)
        (λ s.
        let i = behind_both h p r ss ts in
        let right = comes-right (map settled base) (all_open T Rt (more (switch p ss) (more (switch r ts) rest)) g w xs) comes in
        let one = both (in_place L fits true c (switch p ss) h) (items_in_place L fits c (more (switch r ts) rest) k (between h p ss)) e in
        let two = both (in_place L fits true c (switch r ts) (between h p ss)) (items_in_place L fits c rest k i) one.1 in
        let y = both-facts around g h w xs true c p r ss ts rest told re one.0 two.0 x s right in
        both-through z n fits leads around h xs p r ss ts c s y.some y.first_on y.differ y.place y.second_on y.room
        (λ o. ItemsNeed z n rest around points o (point_at k (map settled base)))
        (items-needed ts (cases (point_at i (map settled xs)) around) i xs (ways_behind w ss (map settled xs)) (points_behind z n fits leads around h xs p r ss ts c s y.some)
        plain.nothing_set i (map settled xs) c (points-there z n fits leads around h xs p r ss ts c s y.some) (λ o. tt) y.inner_ready y.inner_place y.inside y.inside y.tells y.comes)
        (items-needed rest around k base w points (told_behind g p r ss ts) i (map settled xs) c labels y.told y.ready two.1 y.context
        (context-rest around k w c (switch r ts) rest (context-rest around k w c (switch p ss) (more (switch r ts) rest) at))
        (tells-behind L k (between h p ss) (switch r ts) rest refl (tells-behind L k h (switch p ss) (more (switch r ts) rest) refl tells))
        (subst (λ o. comes_to (map settled base) o ≡ true) y.opened comes)))
        (λ s. item-step (switch p ss) (more (switch r ts) rest) around k base w points g h xs c labels told re e x at tells comes (alone-or p r ss ts rest s)
        (λ y place context fine. one-needed (switch p ss) around g h w xs true c told y place context fine)
        (λ next i ready place fine less dead. items-dead (more (switch r ts) rest) around k base w points next i c labels ready place fine less dead)
        (λ next i ys told ready place context fine less live.
        items-needed (more (switch r ts) rest) around k base w points next i ys c labels told ready place context fine less live))
    items-needed (more s ss) around k base w points g h xs c labels told re e x at tells comes =
        item-step s ss around k base w points g h xs c labels told re e x at tells comes refl
        (λ y place context fine. one-needed s around g h w (prepared s ss xs) true c told y place context fine)
        (λ next i ready place fine less dead. items-dead ss around k base w points next i c labels ready place fine less dead)
        (λ next i ys told ready place context fine less live. items-needed ss around k base w points next i ys c labels told ready place context fine less live)

    -- and where it does not come, up to the next label
    items-dead : (ss : Plains) (around : Around Point) (k : Keeping) (base : List Opened) (w : Ways) (points : Option ℤ → Point) (g : plain.Keeping) (h : Keeping) (c : Bool)
        → LabelsAt k w.labels points → all_ready T Rt ss g ≡ true → items_in_place L fits c ss k h ≡ true
        → Context z around k w true c (λ r. all_set L r ss) (all_nesting ss) → Tells L k h (λ r. all_set L r ss)
        → comes_to (map settled base) (from_label T Rt ss w) ≡ true
        → ItemsNeed z n ss around points (point_never h) (point_at k (map settled base))
    items-dead nothing around k base w points g h c labels re e at tells comes = from-never z h (point_at k (map settled base))
    items-dead (more (case_label y) ss) around k base w points g h c labels re e at tells comes =
        let rest = context-behind z around k w true c (case_label y) ss refl at in
        label-dead z n around ss k h (map settled base) w points labels (Some y) (point_at k (map settled base))
        (λ zs there i. items-needed ss around k base w points plain.nothing_set k zs c labels (λ r. tt) re e rest rest (tells-at L k h (λ r. all_set L r ss) tells) i)
        (w.labels (Some y)) refl comes
    items-dead (more default_label ss) around k base w points g h c labels re e at tells comes =
        let rest = context-behind z around k w true c default_label ss refl at in
        label-dead z n around ss k h (map settled base) w points labels None (point_at k (map settled base))
        (λ zs there i. items-needed ss around k base w points plain.nothing_set k zs c labels (λ r. tt) re e rest rest (tells-at L k h (λ r. all_set L r ss) tells) i)
        (w.labels None) refl comes
    items-dead (more s ss) around k base w points g h c labels re e at tells comes =
        let two = both (in_place L fits true c s h) (items_in_place L fits c ss k (after L s h)) e in
        let rs = ready-next T Rt s ss g re in
        record {
          point = point_never (after L s h);
          kept_there = refl;
          first = dead-one z n fits s around h true c two.0 (first-outs z n fits around true c s ss at.outs);
          second = items-dead ss around k base w points (keeping_or (plain.after T Rt s g)) (after L s h) c labels rs.1 two.1 (context-rest around k w c s ss at)
              (tells-behind L k h s ss (one-builds-none L fits s true c h two.0) tells) comes;
        }

  -- ---- a function

  nothing-joins : AllJoin nothing_kept
  nothing-joins r = refl

  pub function-needed : (ss : Plains) (xs : List Opened) → all_nesting ss ≤ z.body.flags.bound → all_ready T Rt ss plain.nothing_set ≡ true
      → all_in_place L fits false false ss nothing_kept ≡ true → comes_to [] (all_open T Rt ss plain.nothing_set no_ways xs) ≡ true
      → NeededTo z n ss function (point_at nothing_kept xs) (point_at (after_all L ss nothing_kept) [])
  function-needed ss xs flags re e comes =
      list-needed ss function plain.nothing_set nothing_kept no_ways xs false false (λ r. tt) re e
      (record {
        joins = nothing-joins;
        outs = record { flags = omega (arith, flags); may_leave = λ i. absurd (let k = i in cc); may_go_on = λ i. absurd (let k = i in cc) };
        left = tt;
        gone = tt;
      })
      (comes-right [] (all_open T Rt ss plain.nothing_set no_ways xs) comes) (point_at (after_all L ss nothing_kept) [])
      (comes-within z [] (after_all L ss nothing_kept) (after_all L ss nothing_kept) (all_open T Rt ss plain.nothing_set no_ways xs) comes (λ r. inr refl))
