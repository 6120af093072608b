-- Where control does not come statements need little: branches and switches go by numbers, and `break` and `continue` lead somewhere.
use Rattle.std.proofs.Common.{◌≡◌, ℕ, suc, max, Bool, true, false, ◌&&◌, [], refl}
use Rattle.cf_base.proofs.Tests.{both}
use Rattle.cf_plain.specs.Valid.{labels_differ}
use Rattle.cf_plain.specs.Plain.{Plain, Plains, act, set, branch, loop, switch, case_label, default_label, leave, continue, give, nothing, more}
use Rattle.cf_lower.specs.Kept.{Keeping, Locals, untouched, after}
use Rattle.cf_lower.specs.Functions.{nesting, all_nesting}
use Rattle.cf_lower_turns.specs.Around.{Around, turns, stepped, step, cases, depth_of, left_to, gone_on_to}
use Rattle.cf_lower_turns.specs.Scene.{Scene}
use Rattle.cf_lower_bounds.specs.Points.{Point, point_never}
use Rattle.cf_lower_bounds.specs.Bounds.{NeededTo}
use Rattle.cf_lower_place.specs.InPlace.{is_number, switches, in_place, all_in_place, items_in_place}
use Rattle.cf_lower_needed.proofs.Points.{from-never}
use Rattle.cf_lower_needed.proofs.Places.{number-there, switches-there}
use Rattle.cf_lower_needed.proofs.Around.{StatementNeeds, ItemsNeed, passed-itself, never-out, flags-left, flags-right, flags-more, flags-one, Outs, outs-with}

module _ (z : Scene) (n : ℕ) (fits : Keeping → Plain → Bool) where
  abbrev L : Locals
  L = z.inside.locals

  -- the bodies of loops and switches, at such a point
  pub loop-outs : (around : Around Point) (b c : Bool) (p : Point) (m : ℕ) → Outs z around b c m → Outs z (turns p around) true true m
  loop-outs around b c p m outs = record { flags = outs.flags; may_leave = λ e. refl; may_go_on = λ e. refl }

  pub stepped-outs : (around : Around Point) (b c : Bool) (p : Point) (m k : ℕ) → Outs z around b c (max (suc m) k) → Outs z (stepped p around) true true m
  stepped-outs around b c p m k outs = record {
    flags = flags-more (depth_of around) m z.body.flags.bound (flags-left (depth_of around) (suc m) k z.body.flags.bound outs.flags);
    may_leave = λ e. refl;
    may_go_on = λ e. refl;
  }

  pub step-outs : (around : Around Point) (b c : Bool) (p : Point) (m k : ℕ) → Outs z around b c (max (suc m) k) → Outs z (step p around) true false k
  step-outs around b c p m k outs = record {
    flags = flags-right (depth_of around) (suc m) k z.body.flags.bound outs.flags;
    may_leave = λ e. refl;
    may_go_on = λ e. absurd (let i = e in cc);
  }

  pub cases-outs : (around : Around Point) (b c : Bool) (p : Point) (m : ℕ) → Outs z around b c (suc m) → Outs z (cases p around) true c m
  cases-outs around b c p m outs = record {
    flags = flags-more (depth_of around) m z.body.flags.bound outs.flags;
    may_leave = λ e. refl;
    may_go_on = outs.may_go_on;
  }

  pub first-outs : (around : Around Point) (b c : Bool) (s : Plain) (ss : Plains) → Outs z around b c (all_nesting (more s ss)) → Outs z around b c (nesting s)
  first-outs around b c s ss outs =
      outs-with z around b c (all_nesting (more s ss)) (nesting s) outs (flags-left (depth_of around) (nesting s) (all_nesting ss) z.body.flags.bound outs.flags)

  pub rest-outs : (around : Around Point) (b c : Bool) (s : Plain) (ss : Plains) → Outs z around b c (all_nesting (more s ss)) → Outs z around b c (all_nesting ss)
  rest-outs around b c s ss outs =
      outs-with z around b c (all_nesting (more s ss)) (all_nesting ss) outs (flags-right (depth_of around) (nesting s) (all_nesting ss) z.body.flags.bound outs.flags)

  mutual
    pub dead-one : (s : Plain) (around : Around Point) (h : Keeping) (b c : Bool) → in_place L fits b c s h ≡ true → Outs z around b c (nesting s)
        → StatementNeeds z n s around (point_never h) (point_never (after L s h))
    dead-one (act a) around h b c e outs = λ k le g s t w at. absurd at.standing
    dead-one (set r a) around h b c e outs = λ k le g s t w at. absurd at.standing
    dead-one (branch r ss ts) around h b c e outs =
        let one = both (is_number (h r)) (all_in_place L fits b c ss h && all_in_place L fits b c ts h) e in
        let two = both (all_in_place L fits b c ss h) (all_in_place L fits b c ts h) one.1 in
        let q = point_never (after L (branch r ss ts) h) in
        let m = max (all_nesting ss) (all_nesting ts) in (
          number-there (h r) one.0,
          record {
            if_set = point_never h;
            if_unset = point_never h;
            kept_set = refl;
            kept_unset = refl;
            enters_set = λ d g s t n e i at. at;
            enters_unset = λ d g s t n e i at. at;
            first = dead-list ss around h b c two.0
                (outs-with z around b c m (all_nesting ss) outs (flags-left (depth_of around) (all_nesting ss) (all_nesting ts) z.body.flags.bound outs.flags)) q;
            second = dead-list ts around h b c two.1
                (outs-with z around b c m (all_nesting ts) outs (flags-right (depth_of around) (all_nesting ss) (all_nesting ts) z.body.flags.bound outs.flags)) q;
          },
        )
    dead-one (loop ss nothing) around h b c e outs =
        let k = after L (loop ss nothing) h in
        let m = point_never k in
        let two = both (all_in_place L fits true true ss k) (all_in_place L fits true false nothing k) e in
        (from-never z h m, dead-list ss (turns m around) k true true two.0 (loop-outs around b c m (all_nesting ss) outs) m)
    dead-one (loop ss (more t ts)) around h b c e outs =
        let k = after L (loop ss (more t ts)) h in
        let m = point_never k in
        let two = both (all_in_place L fits true true ss k) (all_in_place L fits true false (more t ts) k) e in (
          from-never z h m,
          (
            flags-one (depth_of around) (all_nesting ss) z.body.flags.bound
                (flags-left (depth_of around) (suc (all_nesting ss)) (all_nesting (more t ts)) z.body.flags.bound outs.flags),
            (
              dead-list ss (stepped m around) k true true two.0 (stepped-outs around b c m (all_nesting ss) (all_nesting (more t ts)) outs) m,
              dead-list (more t ts) (step m around) k true false two.1 (step-outs around b c m (all_nesting ss) (all_nesting (more t ts)) outs) m,
            ),
          ),
        )
    dead-one (switch r ss) around h b c e outs =
        let k = untouched L h ss in
        let m = point_never k in
        let one = both (switches (h r) ss) (labels_differ [] ss && items_in_place L fits c ss k k) e in
        let two = both (labels_differ [] ss) (items_in_place L fits c ss k k) one.1 in (
          switches-there (h r) ss one.0,
          (
            flags-one (depth_of around) (all_nesting ss) z.body.flags.bound outs.flags,
            record {
              labels = λ l. m;
              kept_at = λ l. refl;
              enters = λ d g s t y i at. absurd at.standing;
              passed = passed-itself z n ss m;
              front = m;
              kept_front = refl;
              items = dead-items ss (cases m around) k k c two.1 (cases-outs around b c m (all_nesting ss) outs) m;
            },
          ),
        )
    dead-one leave around h b c e outs = never-out z n h (left_to around) (outs.may_leave e)
    dead-one continue around h b c e outs = never-out z n h (gone_on_to around) (outs.may_go_on e)
    dead-one (give r) around h b c e outs = λ k le g s t w at. absurd at.standing
    dead-one s around h b c e outs = absurd (let k = e in cc)

    pub dead-list : (ss : Plains) (around : Around Point) (h : Keeping) (b c : Bool) → all_in_place L fits b c ss h ≡ true → Outs z around b c (all_nesting ss) → (q : Point)
        → NeededTo z n ss around (point_never h) q
    dead-list nothing around h b c e outs q = from-never z h q
    dead-list (more s ss) around h b c e outs q =
        let two = both (in_place L fits b c s h) (all_in_place L fits b c ss (after L s h)) e in
        record {
          point = point_never (after L s h);
          kept_there = refl;
          first = dead-one s around h b c two.0 (first-outs around b c s ss outs);
          second = dead-list ss around (after L s h) b c two.1 (rest-outs around b c s ss outs) q;
        }

    dead-items : (ss : Plains) (around : Around Point) (k h : Keeping) (c : Bool) → items_in_place L fits c ss k h ≡ true → Outs z around true c (all_nesting ss) → (q : Point)
        → ItemsNeed z n ss around (λ l. point_never k) (point_never h) q
    dead-items nothing around k h c e outs q = from-never z h q
    dead-items (more (case_label y) ss) around k h c e outs q =
        (from-never z h (point_never k), dead-items ss around k k c e (rest-outs around true c (case_label y) ss outs) q)
    dead-items (more default_label ss) around k h c e outs q =
        (from-never z h (point_never k), dead-items ss around k k c e (rest-outs around true c default_label ss outs) q)
    dead-items (more s ss) around k h c e outs q =
        let two = both (in_place L fits true c s h) (items_in_place L fits c ss k (after L s h)) e in
        record {
          point = point_never (after L s h);
          kept_there = refl;
          first = dead-one s around h true c two.0 (first-outs around true c s ss outs);
          second = dead-items ss around k (after L s h) c two.1 (rest-outs around true c s ss outs) q;
        }
