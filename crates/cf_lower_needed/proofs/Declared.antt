-- A switch that declares what labels of a switch behind it pass, by the number in the register of both (6.7): at each label what it declares so far is open where the register holds
-- its number, and behind it what goes by the number is.
use Rattle.std.proofs.Common.{◌≡◌, ℕ, ◌<◌, Bool, true, false, ◌&&◌, not, ◌==◌, if◌then◌else◌, List, [], ◌∷◌, refl, sym, ◌∙◌, ap, subst, inl, inr}
use Rattle.std.specs.Prelude.{map, ℤ, int_le, Option, Some, None, is_some, ◌⊎◌}
use Rattle.cf_base.proofs.Tests.{both}
use Rattle.cf_base.specs.Event.{Ended, Ticks, Depth, Undefined}
use Rattle.cf_base.specs.World.{Ran, Went, Stops, and_then}
use Rattle.cf_core.specs.Types.{SourceType}
use Rattle.cf_core.specs.Store as source
use Rattle.cf_core.specs.Run.{State, Did, Gives, Exits, Malformed, onward, gives}
use Rattle.cf_plain.specs.Plain.{Register, Action, declare, Plain, Plains, act, switch, case_label, default_label, leave, nothing, more}
use Rattle.cf_plain.specs.Acts.{Registers, acts}
use Rattle.cf_plain.specs.Running.{Flow, Falls, calls, does, has_case}
use Rattle.cf_plain.specs.Valid.{has_default, labels_differ}
use Rattle.cf_plain_kept.specs.Kept as plain
use Rattle.cc_whole_mean.specs.Flow as c
use Rattle.cf_lower.specs.Kept.{Keeping, Locals, after}
use Rattle.cf_lower.specs.Statements.{lowered}
use Rattle.cf_lower_kept.specs.Opened.{Opened, open_one, falls, only_if, is_listed, declared_in, declared_among, settled, is_the_label, declared, declared_at, stands_before}
use Rattle.cf_lower_kept.specs.Told.{TellsLess}
use Rattle.cf_lower_kept.proofs.Types.{same-number}
use Rattle.cf_lower_leaves.proofs.Narrowing.{narrows}
use Rattle.cf_lower_steps.specs.Flows.{Simulates}
use Rattle.cf_lower_turns.specs.Around.{Around, cases, depth_of, inside_at}
use Rattle.cf_lower_turns.specs.Scene.{Scene, fixed_in, again_at, list_at}
use Rattle.cf_lower_bounds.specs.Needs.{label_of}
use Rattle.cf_lower_bounds.specs.Points.{Point, point_at, point_never, point_by, OpenIf, Open, OpenBy, local_count}
use Rattle.cf_lower_bounds.specs.Bounds.{EndsAt, LiesWithin, LeafRunsTo}
use Rattle.cf_lower_bounds.proofs.Labels.{number-itself}
use Rattle.cf_lower_bounds.proofs.Lists.{open-listed}
use Rattle.cf_lower_bounds.proofs.Standing.{lies-within, lies-within-by}
use Rattle.cf_lower_place.specs.InPlace.{switches, items_in_place}
use Rattle.cf_lower_needed.specs.Leading.{point_of, is_right, no_ways, LeavesLead}
use Rattle.cf_lower_needed.proofs.Tells.{or-left, untouched-less}
use Rattle.cf_lower_needed.proofs.Opens.{open-settled}
use Rattle.cf_lower_needed.proofs.Points.{from-never}
use Rattle.cf_lower_needed.proofs.Places.{switches-there}
use Rattle.cf_lower_needed.proofs.Around.{StatementNeeds, ItemsNeed, Passed, Through}
use Rattle.cf_lower_needed.proofs.Steps.{LabelsAt, some-list, settled-twice}
use Rattle.cf_lower_needed.proofs.Labels.{has_label, same_label, same-itself, same-label-is, if-false, choose, same-tests, either-label, past-other, label-case, label-default, has-behind, differs-behind, differ-behind, declared-here, declared-behind, declared-has}

-- ---- an action leaves the registers as they are

sim-falls : (Q S : Flow → State → c.Flow → Type 0) (g : Registers) (x : Ran (Did source.Value)) (y : Ran c.Flow)
    → ((s : State) (flow : c.Flow) → Q (Falls g) s flow → S (Falls g) s flow)
    → Simulates Q (and_then x (λ did w. onward did (λ (v : source.Value). gives (Falls g)) w)) y
    → Simulates S (and_then x (λ did w. onward did (λ (v : source.Value). gives (Falls g)) w)) y
sim-falls Q S g (Went (Gives v s) w) y next h = record { by = record { value = h.by.value; run = h.by.run; related = next s h.by.value h.by.related } }
sim-falls Q S g (Went (Exits z s) w) y next h = record { by = h.by }
sim-falls Q S g (Went Malformed w) y next h = record { by = tt }
sim-falls Q S g (Stops (Undefined what) trace) y next h = record { by = h.by }
sim-falls Q S g (Stops (Ended status) trace) y next h = record { by = h.by }
sim-falls Q S g (Stops Ticks trace) y next h = record { by = h.by }
sim-falls Q S g (Stops Depth trace) y next h = record { by = h.by }

-- where no default stands a number of no case passes by
pub passed-by : (z : Scene) (n : ℕ) (us : Plains) (p q : Point) → (has_default [] us ≡ false → LiesWithin z p q) → Passed z n us p q
passed-by z n nothing p q f = f refl
passed-by z n (more default_label us) p q f = tt
passed-by z n (more s us) p q f = passed-by z n us p q f

none-some : {xs : List Opened} → None ≡ Some xs → ⊥
none-some e = cc

some-number : {a b : ℤ} → Some (source.Number a) ≡ Some (source.Number b) → a ≡ b
some-number e = cc

pub not-both : (b : Bool) → b ≡ true → b ≡ false → ⊥
not-both true e h = absurd (let i = h in cc)
not-both false e h = absurd (let i = e in cc)

-- ---- what is declared, and where

abbrev pub or_else : List Opened → Option (List Opened) → List Opened
or_else ys None = ys
or_else ys (Some zs) = zs

abbrev pub fresh : ℕ → Opened
fresh i = open_one i None false

-- what is open at a label
abbrev pub opened_at : Plains → List Opened → Option ℤ → List Opened
opened_at ss ys l = or_else ys (declared_at ss ys l)

opens-fresh : (b : Bool) (o : Option (List Opened)) (last : List Opened) → (if b then None else o) ≡ Some last → (b ≡ false) × (o ≡ Some last)
opens-fresh true o last e = absurd (none-some e)
opens-fresh false o last e = (refl, e)

declared-settled : (us : Plains) (zs last : List Opened) → map settled zs ≡ zs → declared us zs ≡ Some last → map settled last ≡ last
declared-settled (more (act (declare i t)) us) zs last same e =
    let one = opens-fresh (is_listed i zs) (declared us (fresh i ∷ zs)) last e in
    declared-settled us (fresh i ∷ zs) last (ap (λ os. fresh i ∷ os) same) one.1
declared-settled (more leave us) zs last same e = subst (λ os. map settled os ≡ os) (some-list e) same
declared-settled us zs last same e = absurd (none-some e)

declared-at-settled : (us : Plains) (ys : List Opened) (l : Option ℤ) (last : List Opened) → map settled ys ≡ ys → declared_at us ys l ≡ Some last → map settled last ≡ last
declared-at-settled nothing ys l last same e = absurd (none-some e)
declared-at-settled (more s us) ys l last same e =
    choose (is_the_label l s) (λ here. declared-settled us ys last same (sym (declared-here l s us ys here) ∙ e))
    (λ other. declared-at-settled us ys l last same (sym (declared-behind l s us ys other) ∙ e))

nothing-has : {A : Type 0} (l : Option ℤ) → has_label l nothing ≡ true → A
nothing-has None e = absurd (let k = e in cc)
nothing-has (Some y) e = absurd (let k = e in cc)

either-way : {A B C : Type 0} → A ⊎ B → (A → C) → (B → C) → C
either-way (inl a) f g = f a
either-way (inr b) f g = g b

-- each label stands in the switch behind too
before-has : (l : Option ℤ) (ts us : Plains) → stands_before us ts ≡ true → has_label l us ≡ true → has_label l ts ≡ true
before-has l ts nothing e has = nothing-has l has
before-has l ts (more (case_label y) us) e has =
    let two = both (has_case y ts) (stands_before us ts) e in
    either-way (either-label l (case_label y) us has) (λ here. subst (λ m. has_label m ts ≡ true) (sym (label-case l y here)) two.0)
    (λ later. before-has l ts us two.1 later)
before-has l ts (more default_label us) e has =
    let two = both (has_default [] ts) (stands_before us ts) e in
    either-way (either-label l default_label us has) (λ here. subst (λ m. has_label m ts ≡ true) (sym (label-default l here)) two.0)
    (λ later. before-has l ts us two.1 later)
before-has l ts (more (act (declare i t)) us) e has = before-has l ts us e (past-other l (act (declare i t)) us refl has)
before-has l ts (more leave us) e has = before-has l ts us e (past-other l leave us refl has)
before-has l ts us e has = absurd (let k = e in cc)

module _ (z : Scene) (n : ℕ) where
  -- ---- an action at points by number

  abbrev LeadsIf : Around Point → Keeping → Action → Option (List Opened) → Option (List Opened) → Type 0
  LeadsIf around k a None y = Unit {0}
  LeadsIf around k a (Some xs) None = ⊥
  LeadsIf around k a (Some xs) (Some ys) = LeafRunsTo z n around (point_at k xs) (act a) (point_at k ys)

  leads-by-number : (around : Around Point) (k : Keeping) (r : Register) (f h : ℤ → Option (List Opened)) (a : Action) → ((m : ℤ) → LeadsIf around k a (f m) (h m))
      → LeafRunsTo z n around (point_by k r f) (act a) (point_by k r h)
  leads-by-number around k r f h a leads j le g s t w at input = by (f at.standing.number) (h at.standing.number) refl at.standing.stands (leads at.standing.number)
    where
      by : (x y : Option (List Opened)) → h at.standing.number ≡ y → OpenIf (local_count z) x g s → LeadsIf around k a x y
          → Simulates (EndsAt z around (point_by k r h)) (does (again_at z j) z.program (act a) g s w)
          (list_at z j (lowered (act a) (inside_at z.inside around) k) t w)
      by None y e stands l = absurd stands
      by (Some xs) None e stands l = absurd l
      by (Some xs) (Some ys) e stands l =
          sim-falls (EndsAt z around (point_at k ys)) (EndsAt z around (point_by k r h)) g (acts (calls (again_at z j)) z.program g a s w)
          (list_at z j (lowered (act a) (inside_at z.inside around) k) t w)
          (λ u flow b. record {
            after = b.after;
            is = b.is;
            related = record {
              here = b.related.here;
              frame = b.related.frame;
              standing = record {
                number = at.standing.number;
                holds = at.standing.holds;
                stands = subst (λ o. OpenIf (local_count z) o g u) (sym e) b.related.standing;
              };
            };
          })
          (l j le g s t w (record { here = at.here; frame = at.frame; standing = stands }) input)

  module _ (fits : Keeping → Plain → Bool) (leads : LeavesLead z n fits) (around : Around Point) (r : Register) (k : Keeping) (ss ts : Plains) (ys : List Opened) where
    abbrev L : Locals
    L = z.inside.locals

    abbrev for_label : Option ℤ → List Opened → ℤ → Option (List Opened)
    for_label l zs m = if same_label l (label_of m ss) then Some zs else None

    -- at a label, where it has declared so much
    abbrev pub at_label : Option ℤ → List Opened → Point
    at_label l zs = point_by k r (for_label l zs)

    -- behind all
    abbrev pub behind_all : Point
    behind_all = point_by k r (λ m. Some (opened_at ss ys (label_of m ss)))

    abbrev inner : Around Point
    inner = cases behind_all around

    abbrev labels : Option ℤ → Point
    labels l = at_label l ys

    left-within : (l : Option ℤ) (zs : List Opened) → opened_at ss ys l ≡ zs → LiesWithin z (at_label l zs) behind_all
    left-within l zs there =
        lies-within z (at_label l zs) behind_all
        (record { registers = narrows (fixed_in z) z.body k k (λ q. inr refl); standing = λ g s o. record { number = o.number; holds = o.holds; stands = by g s o.number o.stands } })
      where
        by : (g : Registers) (s : State) (m : ℤ) → OpenIf (local_count z) (for_label l zs m) g s → Open (local_count z) (opened_at ss ys (label_of m ss)) g s
        by g s m stands = test (same_label l (label_of m ss)) refl stands
          where
            test : (b : Bool) → same_label l (label_of m ss) ≡ b → OpenIf (local_count z) (if b then Some zs else None) g s
                → Open (local_count z) (opened_at ss ys (label_of m ss)) g s
            test true e o =
                subst (λ i. Open (local_count z) (opened_at ss ys i) g s) (same-label-is l (label_of m ss) e)
                (subst (λ us. Open (local_count z) us g s) (sym there) o)
            test false e o = absurd o

    declare-leads : (l : Option ℤ) (zs : List Opened) (i : ℕ) (t : SourceType) → fits k (act (declare i t)) ≡ true → is_listed i zs ≡ false
        → LeafRunsTo z n inner (at_label l zs) (act (declare i t)) (at_label l (fresh i ∷ zs))
    declare-leads l zs i t fit new =
        leads-by-number inner k r (for_label l zs) (for_label l (fresh i ∷ zs)) (declare i t) (λ m. by (same_label l (label_of m ss)))
      where
        one : LeafRunsTo z n inner (point_at k zs) (act (declare i t)) (point_at k (fresh i ∷ zs))
        one =
            subst (λ us. LeafRunsTo z n inner (point_at k zs) (act (declare i t)) (point_at k us)) (if-false (is_listed i zs) (map (declared_in i None t) zs) (fresh i ∷ zs) new)
            (subst (λ b. LeafRunsTo z n inner (point_at k zs) (act (declare i t)) (point_of k (only_if (not b) (falls (declared_among i None t zs))))) (open-listed i zs new)
            (leads inner plain.nothing_set k no_ways zs (λ q. tt) (act (declare i t)) fit
            (subst (λ b. is_right (only_if (not b) (falls (declared_among i None t zs))) ≡ true) (sym (open-listed i zs new)) refl)))

        by : (b : Bool) → LeadsIf inner k (declare i t) (if b then Some zs else None) (if b then Some (fresh i ∷ zs) else None)
        by true = one
        by false = tt

    -- ---- its labels and what they declare

    -- what is left of it: each label declares what it does in the whole, and comes to an end
    pub record Left (c : Bool) (us : Plains) : Type 0 where
      pub same : (l : Option ℤ) → has_label l us ≡ true → declared_at ss ys l ≡ declared_at us ys l
      pub some : (l : Option ℤ) → has_label l us ≡ true → is_some (declared_at ss ys l) ≡ true
      pub differ : labels_differ [] us ≡ true
      pub before : stands_before us ts ≡ true
      pub place : items_in_place L fits c us k k ≡ true

    left-behind : (c : Bool) (s : Plain) (us : Plains) → Left c (more s us) → stands_before us ts ≡ true → items_in_place L fits c us k k ≡ true → Left c us
    left-behind c s us left before place = record {
      same = λ l e. left.same l (has-behind l s us e) ∙ declared-behind l s us ys (differs-behind l s us left.differ e);
      some = λ l e. left.some l (has-behind l s us e);
      differ = differ-behind s us left.differ;
      before = before;
      place = place;
    }

    -- a label where control comes to it
    record Starts (l : Option ℤ) (us : Plains) : Type 0 where
      pub last : List Opened
      pub is : declared us ys ≡ Some last
      pub opened : opened_at ss ys l ≡ last

    starts : (c : Bool) (l : Option ℤ) (s : Plain) (us : Plains) → Left c (more s us) → has_label l (more s us) ≡ true → is_the_label l s ≡ true → Starts l us
    starts c l s us left has here = by (declared_at ss ys l) refl (left.some l has)
      where
        by : (o : Option (List Opened)) → declared_at ss ys l ≡ o → is_some o ≡ true → Starts l us
        by None e there = absurd (let i = there in cc)
        by (Some last) e there = record {
          last = last;
          is = sym (declared-here l s us ys here) ∙ sym (left.same l has) ∙ e;
          opened = ap (or_else ys) e;
        }

    mutual
      live-items : (us : Plains) (c : Bool) (l : Option ℤ) (zs last : List Opened) → Left c us → declared us zs ≡ Some last → opened_at ss ys l ≡ last
          → ItemsNeed z n us inner labels (at_label l zs) behind_all
      live-items (more (act (declare i t)) us) c l zs last left e there =
          let one = opens-fresh (is_listed i zs) (declared us (fresh i ∷ zs)) last e in
          let two = both (fits k (act (declare i t))) (items_in_place L fits c us k k) left.place in
          record {
            point = at_label l (fresh i ∷ zs);
            kept_there = refl;
            first = declare-leads l zs i t two.0 one.0;
            second = live-items us c l (fresh i ∷ zs) last (left-behind c (act (declare i t)) us left left.before two.1) one.1 there;
          }
      live-items (more leave us) c l zs last left e there = record {
        point = point_never k;
        kept_there = refl;
        first = left-within l zs (there ∙ sym (some-list e));
        second = dead-items us c (left-behind c leave us left left.before (both true (items_in_place L fits c us k k) left.place).1);
      }
      live-items us c l zs last left e there = absurd (none-some e)

      dead-items : (us : Plains) (c : Bool) → Left c us → ItemsNeed z n us inner labels (point_never k) behind_all
      dead-items nothing c left = from-never z k behind_all
      dead-items (more (case_label y) us) c left =
          let here = or-left (int_le y y && int_le y y) (has_case y us) (number-itself y) in
          let start = starts c (Some y) (case_label y) us left here (number-itself y) in
          let rest = left-behind c (case_label y) us left (both (has_case y ts) (stands_before us ts) left.before).1 left.place in
          (from-never z k (labels (Some y)), live-items us c (Some y) ys start.last rest start.is start.opened)
      dead-items (more default_label us) c left =
          let start = starts c None default_label us left refl refl in
          let rest = left-behind c default_label us left (both (has_default [] ts) (stands_before us ts) left.before).1 left.place in
          (from-never z k (labels None), live-items us c None ys start.last rest start.is start.opened)
      dead-items (more (act (declare i t)) us) c left =
          let two = both (fits k (act (declare i t))) (items_in_place L fits c us k k) left.place in
          record {
            point = point_never k;
            kept_there = refl;
            first = λ j le g s t w at. absurd at.standing;
            second = dead-items us c (left-behind c (act (declare i t)) us left left.before two.1);
          }
      dead-items (more leave us) c left = record {
        point = point_never k;
        kept_there = refl;
        first = from-never z k behind_all;
        second = dead-items us c (left-behind c leave us left left.before (both true (items_in_place L fits c us k k) left.place).1);
      }
      dead-items us c left = absurd (let i = left.before in cc)

    -- ---- both switches

    -- where there is no default, none is declared
    no-default : has_default [] ss ≡ false → opened_at ss ys None ≡ ys
    no-default none = by (declared_at ss ys None) refl
      where
        by : (o : Option (List Opened)) → declared_at ss ys None ≡ o → or_else ys o ≡ ys
        by None e = refl
        by (Some zs) e = absurd (not-both (has_default [] ss) (declared-has None ss ys (ap is_some e)) none)

    -- the first, from where these are open
    pub first-needed : (c : Bool) (h : Keeping) (xs : List Opened) → TellsLess h k
        → ((g : Registers) (s : State) → Open (local_count z) xs g s → Open (local_count z) ys g s) → switches (h r) ss ≡ true → depth_of around < z.body.flags.bound
        → Left c ss → StatementNeeds z n (switch r ss) around (point_at h xs) behind_all
    first-needed c h xs less into on room left = (
      switches-there (h r) ss on,
      (
        room,
        record {
          labels = labels;
          kept_at = λ l. refl;
          enters = λ d g s t m e at.
              lies-within-by z r m (point_at h xs) (labels (label_of m ss))
              (record {
                registers = narrows (fixed_in z) z.body h k less;
                standing = λ f u e o. record {
                  number = m;
                  holds = e;
                  stands = subst (λ b. OpenIf (local_count z) (if b then Some ys else None) f u) (sym (same-itself (label_of m ss))) (into f u o);
                };
              }) d g s t e at;
          passed = passed-by z n ss (labels None) behind_all (λ none. left-within None ys (no-default none));
          front = point_never k;
          kept_front = refl;
          items = dead-items ss c left;
        },
      ),
    )

    -- the second, from where what goes by the number is open
    module _ (q : Register) (same : r ≡ q) (before : stands_before ss ts ≡ true) (k2 : Keeping) (less : TellsLess k k2)
        (some : (l : Option ℤ) → has_label l ts ≡ true → is_some (declared_at ss ys l) ≡ true) where
      abbrev points : Option ℤ → Point
      points l = point_at k2 (opened_at ss ys l)

      labels-same : (m : ℤ) → label_of m ss ≡ label_of m ts
      labels-same m =
          ap (λ b. if b then Some m else None)
          (same-tests (has_case m ss) (has_case m ts) (λ e. before-has (Some m) ts ss before e) (λ e. declared-has (Some m) ss ys (some (Some m) e)))

      opened-there : (m : ℤ) (g : Registers) (s : State) → g q ≡ Some (source.Number m) → OpenBy (local_count z) r (λ i. Some (opened_at ss ys (label_of i ss))) g s
          → Open (local_count z) (opened_at ss ys (label_of m ts)) g s
      opened-there m g s e o =
          subst (λ l. Open (local_count z) (opened_at ss ys l) g s) (labels-same m)
          (subst (λ i. Open (local_count z) (opened_at ss ys (label_of i ss)) g s) (some-number (sym o.holds ∙ ap g same ∙ e)) o.stands)

      none-there : has_default [] ts ≡ false → has_default [] ss ≡ false
      none-there none = choose (has_default [] ss) (λ e. absurd (not-both (has_default [] ts) (before-has None ts ss before e) none)) (λ e. e)

      pub second-needed : switches (k q) ts ≡ true → depth_of around < z.body.flags.bound
          → ItemsNeed z n ts (cases (point_at k2 ys) around) points (point_at k2 ys) (point_at k2 ys) → StatementNeeds z n (switch q ts) around behind_all (point_at k2 ys)
      second-needed on room items = (
        switches-there (k q) ts on,
        (
          room,
          record {
            labels = points;
            kept_at = λ l. refl;
            enters = λ d g s t m e at.
                lies-within-by z q m behind_all (points (label_of m ts))
                (record { registers = narrows (fixed_in z) z.body k k2 less; standing = λ f u e o. opened-there m f u e o }) d g s t e at;
            passed = passed-by z n ts (points None) (point_at k2 ys)
                (λ none. subst (λ us. LiesWithin z (point_at k2 us) (point_at k2 ys)) (sym (no-default (none-there none))) (λ d g s t at. at));
            front = point_at k2 ys;
            kept_front = refl;
            items = items;
          },
        ),
      )

  -- both, where these are open, and what follows them
  module _ (fits : Keeping → Plain → Bool) (leads : LeavesLead z n fits) (around : Around Point) (h : Keeping) (xs : List Opened) (q r : Register) (ss ts : Plains) (c : Bool)
      (both_stand : (q == r) && stands_before ss ts ≡ true)
      (some : (l : Option ℤ) → has_label l ts ≡ true → is_some (declared_at ss (map settled xs) l) ≡ true) where
    abbrev first_kept : Keeping
    first_kept = after z.inside.locals (switch q ss) h

    abbrev second_kept : Keeping
    second_kept = after z.inside.locals (switch r ts) first_kept

    abbrev pub points_behind : Option ℤ → Point
    points_behind l = point_at second_kept (opened_at ss (map settled xs) l)

    pub points-there : LabelsAt second_kept (declared_at ss (map settled xs)) points_behind
    points-there = record {
      settled_there = λ l zs e. declared-at-settled ss (map settled xs) l zs (settled-twice xs) e;
      is = λ l zs e. ap (λ o. point_at second_kept (or_else (map settled xs) o)) e;
    }

    pub both-through : switches (h q) ss ≡ true → labels_differ [] ss ≡ true → items_in_place z.inside.locals fits c ss first_kept first_kept ≡ true
        → switches (first_kept r) ts ≡ true → depth_of around < z.body.flags.bound → (Rest : Point → Type 0)
        → ItemsNeed z n ts (cases (point_at second_kept (map settled xs)) around) points_behind (point_at second_kept (map settled xs)) (point_at second_kept (map settled xs))
        → Rest (point_at second_kept (map settled xs))
        → Through z n first_kept (λ p. StatementNeeds z n (switch q ss) around (point_at h xs) p)
        (λ p. Through z n (after z.inside.locals (switch r ts) p.kept) (λ o. StatementNeeds z n (switch r ts) around p o) Rest)
    both-through on differ place second_on room Rest items rest =
        let two = both (q == r) (stands_before ss ts) both_stand in
        record {
          point = behind_all fits leads around q first_kept ss ts (map settled xs);
          kept_there = refl;
          first = first-needed fits leads around q first_kept ss ts (map settled xs) c h xs (untouched-less z.inside.locals h ss)
              (λ g s o. open-settled (local_count z) g s xs o) on room
              (record {
                same = λ l e. refl;
                some = λ l e. some l (before-has l ts ss two.1 e);
                differ = differ;
                before = two.1;
                place = place;
              });
          second = record {
            point = point_at second_kept (map settled xs);
            kept_there = refl;
            first = second-needed fits leads around q first_kept ss ts (map settled xs) r (same-number q r two.0) two.1 second_kept
                (untouched-less z.inside.locals first_kept ts) some second_on room items;
            second = rest;
          };
        }
