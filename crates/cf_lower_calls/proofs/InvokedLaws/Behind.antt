-- What stands behind a call: the caller as before, but for the objects of the arguments.
use Rattle.std.proofs.Common.{◌≡◌, ℕ, ◌<◌, ◌≤◌, Bool, true, false, ◌==◌, List, [], ◌∷◌, length, refl, sym, ◌∙◌, ap, subst, arith, ◌⊎◌, inl, inr}
use Rattle.std.specs.Prelude.{Some, None}
use Rattle.cf_core.specs.Types.{Name, result as result_type}
use Rattle.cf_core.specs.Core.{Function}
use Rattle.cf_core.specs.Store as source
use Rattle.cf_core.specs.Run.{State, with_frame}
use Rattle.cf_core.specs.Calls.{frame_of, local_count as core_count}
use Rattle.cf_core.specs.Objects.{static_number}
use Rattle.cf_lower_layout.specs.Sorts.{sort_of}
use Rattle.cf_plain.specs.Acts.{Registers}
use Rattle.cf_plain_frames.specs.Since.{is_among, Since}
use Rattle.cc_whole_memory.specs.declared.value.Value.{Value}
use Rattle.cc_whole_mean.specs.Flow as c
use Rattle.cc_whole_mean.specs.Flow.{ending_state}
use Rattle.cf_lower.specs.Kept.{Keeping}
use Rattle.cf_lower_kept.specs.Opened.{Opened, is_open, closed_all}
use Rattle.cf_lower_relate.specs.Map.{Map, Stage, hidden, shown, ended, is_ended, is_hidden, is_shown}
use Rattle.cf_lower_turns.specs.Here.{Here}
use Rattle.cf_lower_turns.specs.Scene.{Scene, fixed_in}
use Rattle.cf_lower_calls.specs.Evaluated.Arguments.{entered_all}
use Rattle.cf_lower_calls.specs.Returns.Called.{CameBack}
use Rattle.cf_lower_calls.proofs.ReturnsLaws.Caller.{here-again}
use Rattle.cf_lower_points.specs.BoundsPoints.{Stands, IsOpen, AllOpen, Open, InFrame, local_count}
use Rattle.cf_lower_calls.specs.Invoked.Invoking.{programs_of, Invokes, InvokedBefore}
use Rattle.cf_lower_calls.proofs.InvokedLaws.Arguments.{one-of, object-among, passed-below}
use Rattle.cf_lower_calls.proofs.InvokedLaws.Closing.{OthersOpen, all-closed, was-closed}
use Rattle.cf_lower_calls.proofs.InvokedLaws.Entry.{values, entry-map, apart-from-first}
use Rattle.cf_lower_calls.proofs.InvokedLaws.LowerPoints.{GoesOn, parts-again}

-- what stands is shown, if it is not hidden
stands-shown : (st : Stage) → is_hidden st ≡ false → is_ended st ≡ false → is_shown st ≡ true
stands-shown hidden h k = absurd (let q = h in cc)
stands-shown shown h k = refl
stands-shown ended h k = absurd (let q = k in cc)

shown-visible : (st : Stage) → is_shown st ≡ true → is_hidden st ≡ false
shown-visible hidden h = absurd (let q = h in cc)
shown-visible shown h = refl
shown-visible ended h = absurd (let q = h in cc)

true-false : {b : Bool} → b ≡ true → b ≡ false → ⊥
true-false h k = absurd (cc)

module _ (z : Scene) (d : ℕ) (h : Keeping) (f : Function) (is : List ℕ) (needs : Invokes z f is) (g : Registers) (s : State) (u : c.State)
    (here : Here (fixed_in z) z.body h d g s u) (frame : InFrame z s) (os : List ℕ) (before : InvokedBefore z is os s) where
  abbrev E : Map
  E = entered_all os u.memory.next here.map

  abbrev vs : List Value
  vs = (values z d h f is needs g s u here os before).values

  abbrev entered_state : ℕ → State
  entered_state i = with_frame (frame_of f.name (core_count f) os None None i) s

  bounded : (i o : ℕ) → i < local_count z → s.frame.locals i ≡ Some o → o < s.next
  bounded i o lt k = let known = (here.between.locals.objects i o lt k).known in let count = here.between.rel.count in omega (arith, known, count)

  -- no object is that of two locals
  alone : (i j o : ℕ) → i < local_count z → j < local_count z → s.frame.locals i ≡ Some o → s.frame.locals j ≡ Some o → (s.object o).is_gone ≡ false → j ≡ i
  alone i j o li lj ei ej live =
      let one = here.between.locals.objects i o li ei in
      let two = here.between.locals.objects j o lj ej in
      let there : is_ended (here.map.stage o) ≡ false = sym (here.between.rel.gone o one.known) ∙ live in
      (here.between.locals.blocks j lj).alone i li (sym (two.block there) ∙ one.block there)

  module _ (i : ℕ) (v : source.Value) (x : State) (flow : c.Flow) (back : CameBack (fixed_in z) z.body.texts E u.memory s os (sort_of (result_type f.type)) v x flow)
      (since : Since (entered_state i) os x) where
    abbrev pub behind : State
    behind = with_frame s.frame x

    -- an argument's object is gone: it stood in a block of the function's own
    argument-gone : (o : ℕ) → is_among o os ≡ true → o < s.next → (x.object o).is_gone ≡ true
    argument-gone o among lt = by_test (x.object o).is_gone refl
      where
        known : o < E.count
        known = let a = (entry-map z d h f is needs g s u here os before).count in let b = here.between.rel.count in omega (arith, a, b, lt)

        by_test : (b : Bool) → (x.object o).is_gone ≡ b → (x.object o).is_gone ≡ true
        by_test true k = k
        by_test false k =
            let em = entry-map z d h f is needs g s u here os before in
            let more : o < back.map.count = (let a = back.grows.count in omega (arith, a, known)) in
            let live : is_ended (back.map.stage o) ≡ false = sym (back.rel.gone o more) ∙ k in
            let visible = shown-visible (E.stage o) (em.shown o among) in
            let there = stands-shown (back.map.stage o) (back.grows.visible o known visible) live in
            let block = back.grows.block o known visible there in
            let home = back.homes o more live in
            let later = em.block o among in
            absurd (omega (arith, block, home, later))

    -- what had ended has, and the arguments have
    gone-behind : (o : ℕ) → o < s.next → (s.object o).is_gone ≡ true → (b : Bool) → is_among o os ≡ b → (x.object o).is_gone ≡ true
    gone-behind o lt over true q = argument-gone o q lt
    gone-behind o lt over false q = since.kept o lt q ∙ over

    -- what stood stands, but for the arguments
    apart : (j : ℕ) → is_among j is ≡ false → (k : Stands (local_count z) j s) → (b : Bool) → is_among k.object os ≡ b → is_among k.object os ≡ false
    apart j fresh k false q = q
    apart j fresh k true q =
        let a = one-of s is os k.object before.there q in
        let lj : a.local < local_count z = passed-below z.body.own.locals is a.local needs.passed a.among in
        let same : a.local ≡ j = alone j a.local k.object k.below lj k.there a.there.local k.stands in
        absurd (true-false (subst (λ i. is_among i is ≡ true) same a.among) fresh)

    -- objects keep their types
    type-behind : (o : ℕ) → o < s.next → (x.object o).type ≡ (s.object o).type
    type-behind o lt =
        let em = entry-map z d h f is needs g s u here os before in
        let a = em.count in
        let b = here.between.rel.count in
        let old : o < here.map.count = omega (arith, b, lt) in
        let known : o < E.count = omega (arith, a, old) in
        let more : o < back.map.count = (let c = back.grows.count in omega (arith, c, known)) in
        back.rel.type o more ∙ back.grows.type o known ∙ em.grows.type o old ∙ sym (here.between.rel.type o old)

    abbrev stands-behind : (j : ℕ) → is_among j is ≡ false → Stands (local_count z) j s → Stands (local_count z) j behind
    stands-behind j fresh k = record {
      below = k.below;
      object = k.object;
      there = k.there;
      stands = since.kept k.object (bounded j k.object k.below k.there) (apart j fresh k (is_among k.object os) refl) ∙ k.stands;
    }

    goes-behind : (j : ℕ) → is_among j is ≡ false → GoesOn (local_count z) j s behind
    goes-behind j fresh k =
        ((stands-behind j fresh k).there, ((stands-behind j fresh k).stands, type-behind k.object (bounded j k.object k.below k.there)))

    module _ (r : Registers) where
      others : (ys : List Opened) → AllOpen (local_count z) ys r s → OthersOpen (local_count z) r behind is ys
      others [] k = tt
      others (y ∷ ys) k = (λ fresh. one fresh, others ys k.1)
        where
          one : is_among y.local is ≡ false → IsOpen (local_count z) y r behind
          one fresh = record {
            way = k.0.way;
            told = k.0.told;
            there = λ e. stands-behind y.local fresh (k.0.there e);
            over = λ e o lo q. gone-behind o (bounded y.local o lo q) (k.0.over e o lo q) (is_among o os) refl;
            begun = λ q e. let b = k.0.begun q e in record { one = stands-behind y.local fresh b.one; place = b.place };
            value = λ e.
                let v = k.0.value e in
                record {
                  one = stands-behind y.local fresh v.one;
                  value = since.valued v.one.object (bounded y.local v.one.object v.one.below v.one.there) v.value;
                };
            flag = k.0.flag;
            parts = λ q. parts-again (local_count z) y.local q (y.places q) r r s behind (goes-behind y.local fresh) refl (k.0.parts q);
            last = k.0.last;
          }

      pub open-behind : (ys : List Opened) → Open (local_count z) ys r s → Open (local_count z) (closed_all is ys) r behind
      open-behind ys open_here = record {
        each = all-closed (local_count z) r behind is ys (others ys open_here.each);
        over = λ j o lj fresh k. by_closed j o lj k (was-closed is ys j fresh);
      }
        where
          by_closed : (j o : ℕ) → j < local_count z → s.frame.locals j ≡ Some o → ((is_among j is ≡ true) ⊎ (is_open j ys ≡ false)) → (x.object o).is_gone ≡ true
          by_closed j o lj k (inl among) = argument-gone o (object-among s is os before.there j o among k) (bounded j o lj k)
          by_closed j o lj k (inr none) = gone-behind o (bounded j o lj k) (open_here.over j o lj none k) (is_among o os) refl

    pub frame-behind : InFrame z behind
    frame-behind = record {
      function = frame.function;
      depth = frame.depth;
      statics = λ name o q. record {
        stands = since.kept o (static-below name o q) (static-apart name o q (is_among o os) refl) ∙ (frame.statics name o q).stands;
        apart = (frame.statics name o q).apart;
      };
    }
      where
        static-below : (name : Name) (o : ℕ) → static_number z.program name ≡ Some o → o < s.next
        static-below name o q =
            let known = (needs.statics name o q).known in
            let grown = here.grows.count in
            let count = here.between.rel.count in
            omega (arith, known, grown, count)

        static-apart : (name : Name) (o : ℕ) → static_number z.program name ≡ Some o → (b : Bool) → is_among o os ≡ b → is_among o os ≡ false
        static-apart name o q false k = k
        static-apart name o q true k = let a = one-of s is os o before.there k in absurd ((frame.statics name o q).apart a.local a.there.local)

    abbrev pub here-behind : Here (fixed_in z) z.body h d g behind (ending_state (length vs) u.memory.next back.after)
    here-behind = here-again (fixed_in z) z.body h d g s u here os E (entry-map z d h f is needs g s u here os before)
        (apart-from-first z d h f is needs g s u here os before) (sort_of (result_type f.type)) v x flow back (length vs)
