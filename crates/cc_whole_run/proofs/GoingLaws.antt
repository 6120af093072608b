-- How the run of a whole program goes, as facts about moments and streams.
use Rattle.std.proofs.Common.{◌≡◌, ℕ, ◌+◌, ◌-◌, ◌^◌, min, ◌<◌, ◌≤◌, true, false, List, [], ◌∷◌, ◌++◌, IsTrue, Option, Some, None, Ok, refl, ap, sym, ◌∙◌, arith, subst, append_assoc, append-nil, inl, inr, ◌⊎◌}
use Rattle.cf_base.specs.Rose.{Rose}
use Rattle.cf_base.specs.Stream.{Stream, IsFront, AddsFront}
use Rattle.cf_base.specs.Event.{Event, Enter, In, Out, End as EndOf, Ended as EndedAt, Ticks, Depth, in_bytes, out_bytes}
use Rattle.cf_base.specs.World.{Outcome}
use Rattle.cc_whole_step.specs.declared.moment.Moment.{Moment}
use Rattle.cc_whole_step.specs.Running.{total, answered, taken}
use Rattle.cc_whole_step.specs.Comes.{StepsOn, StepsTaking, EndsAs, end_of}
use Rattle.cc_whole_step.specs.declared.moment.End.{End as Ended}
use Rattle.cc_whole_step.specs.declared.moment.End.TheVariants as step_end
use Rattle.cf_streams.specs.declared.tally.Tally.{Tally}
use Rattle.cf_streams.specs.Streams.{Streams, streams, Carried, entered_count}
use Rattle.cf_streams.specs.Taking.{Answers, Took, MetEnd, TookNot}
use Rattle.cf_streams.proofs.Bytes.{out_bytes-append, in_bytes-append, same-count, next-count, quiet-bytes, flag, left_in, left-told, left-none, front-of-one}
use Rattle.cc_whole_run.specs.Run.{Whole, IsInNext, InputFailed, OutputFailed, Broken, LeavesAt}
use Rattle.cc_whole_run.specs.Going.{outside, Going, run_end}
use Rattle.cc_whole_run.proofs.Grows.{grows-total}

-- The first moment.
pub going-starts : (means : List ℕ → Outcome) (n : ℕ) (m : Moment) (a : Streams) (t : Tally) → t.entered ≡ 0 → t.at_end ≡ false
    → ((input : List ℕ) → means input ≡ total n m (outside input [])) → m.ticks < n → Going means n m a a t
going-starts means n m a t none unmet same below = record {
  events = [];
  same = λ rest h. same rest;
  below = below;
  held = λ h. refl;
  none_left = λ h k. let no : t.at_end ≡ true = h in absurd (cc);
  put = λ h. sym (append-nil a.out.bytes);
  told = record { input = λ h. h; out = λ h. h };
  counts = record { input = refl; out = refl };
  counted = none;
}

-- A step that shows nothing.
pub going-on : (means : List ℕ → Outcome) (n : ℕ) (m new : Moment) (a b : Streams) (t : Tally) → Going means n m a b t → StepsOn total None m new → Going means n new a b t
going-on means n m new a b t g h = record {
  events = g.events;
  same = λ rest k. g.same rest k ∙ h.same n (outside rest g.events) g.below;
  below = let x : m.ticks < n = g.below in let y : new.ticks ≤ m.ticks = h.ticks in omega arith;
  held = g.held;
  none_left = g.none_left;
  put = g.put;
  told = g.told;
  counts = g.counts;
  counted = g.counted;
}

-- A function is entered.
pub going-enters : (means : List ℕ → Outcome) (n : ℕ) (m new : Moment) (a b : Streams) (t u : Tally) (name : List ℕ) → Going means n m a b t → StepsOn total (Some (Enter name)) m new
    → u.entered ≡ min (t.entered + 1) (2 ^ 64 - 1) → u.at_end ≡ t.at_end → Going means n new a b u
going-enters means n m new a b t u name g h counted same_end = record {
  events = g.events ++ Enter name ∷ [];
  same = λ rest k. ap means (quiet-bytes g.events (Enter name) rest refl) ∙ g.same rest (λ x. k (same_end ∙ x)) ∙ h.same n (outside rest g.events) g.below;
  below = let x : m.ticks < n = g.below in let y : new.ticks ≤ m.ticks = h.ticks in omega arith;
  held = λ k. g.held k ∙ sym (quiet-bytes g.events (Enter name) b.input.bytes refl);
  none_left = λ k. g.none_left (sym same_end ∙ k);
  put = λ k. g.put k ∙ ap (λ l. a.out.bytes ++ l) (sym (out_bytes-append g.events (Enter name ∷ []) ∙ append-nil (out_bytes g.events)));
  told = g.told;
  counts = g.counts;
  counted = counted ∙ ap (λ k. min (k + 1) (2 ^ 64 - 1)) g.counted ∙ next-count g.events name;
}

-- A byte is put.
pub going-puts : (means : List ℕ → Outcome) (n : ℕ) (m new : Moment) (a b : Streams) (c : Stream) (t : Tally) (byte : ℕ) → Going means n m a b t → StepsOn total (Some (Out byte)) m new
    → (IsTrue c.told → IsTrue b.out.told) → (IsTrue c.told → c.bytes ≡ b.out.bytes ++ byte ∷ []) → c.faults ≡ b.out.faults → Going means n new a (streams b.input c) t
going-puts means n m new a b c t byte g h told put faults = record {
  events = g.events ++ Out byte ∷ [];
  same = λ rest k. ap means (quiet-bytes g.events (Out byte) rest refl) ∙ g.same rest k ∙ h.same n (outside rest g.events) g.below;
  below = let x : m.ticks < n = g.below in let y : new.ticks ≤ m.ticks = h.ticks in omega arith;
  held = λ k. g.held k ∙ sym (quiet-bytes g.events (Out byte) b.input.bytes refl);
  none_left = g.none_left;
  put = λ k. put k ∙ ap (λ l. l ++ byte ∷ []) (g.put (told k)) ∙ append_assoc a.out.bytes (out_bytes g.events) (byte ∷ [])
      ∙ ap (λ l. a.out.bytes ++ l) (sym (out_bytes-append g.events (Out byte ∷ [])));
  told = record { input = g.told.input; out = λ k. g.told.out (told k) };
  counts = record { input = g.counts.input; out = faults ∙ g.counts.out };
  counted = g.counted ∙ same-count g.events (Out byte ∷ []) refl;
}

-- A byte is taken.
pub going-takes : (means : List ℕ → Outcome) (n : ℕ) (m new : Moment) (a b : Streams) (c : Stream) (t u : Tally) (byte : ℕ) → Going means n m a b t → StepsTaking total m new
    → Took b.input c byte t.at_end u.at_end → u.entered ≡ t.entered → Going means n (answered (Some byte) new) a (streams c b.out) u
going-takes means n m new a b c t u byte g h took same_count = record {
  events = g.events ++ In (Some byte) ∷ [];
  same = λ rest k. ap means (more rest)
      ∙ g.same (byte ∷ rest) (λ x. let no : t.at_end ≡ true = x in let unmet : t.at_end ≡ false = took.unmet in absurd (cc))
      ∙ h.same n (outside (byte ∷ rest) g.events) g.below;
  below = let x : m.ticks < n = g.below in let y : new.ticks ≤ m.ticks = h.ticks in omega arith;
  held = λ k. g.held k ∙ ap (λ l. in_bytes g.events ++ l) (took.bytes (g.told.input k)) ∙ sym (more c.bytes);
  none_left = λ x y. let no : u.at_end ≡ true = x in let still : u.at_end ≡ false = took.still in absurd (cc);
  put = λ k. g.put k ∙ ap (λ l. a.out.bytes ++ l) (sym (out_bytes-append g.events (In (Some byte) ∷ []) ∙ append-nil (out_bytes g.events)));
  told = record { input = λ k. took.told (g.told.input k); out = g.told.out };
  counts = record { input = took.faults ∙ g.counts.input; out = g.counts.out };
  counted = same_count ∙ g.counted ∙ same-count g.events (In (Some byte) ∷ []) refl;
}
  where
    more : (rest : List ℕ) → in_bytes (g.events ++ In (Some byte) ∷ []) ++ rest ≡ in_bytes g.events ++ (byte ∷ rest)
    more rest = ap (λ l. l ++ rest) (in_bytes-append g.events (In (Some byte) ∷ [])) ∙ append_assoc (in_bytes g.events) (byte ∷ []) rest

-- The end of the input is met.

pub going-met : (means : List ℕ → Outcome) (n : ℕ) (m new : Moment) (a b : Streams) (c : Stream) (t u : Tally) → Going means n m a b t → StepsTaking total m new
    → MetEnd b.input c t.at_end u.at_end → u.entered ≡ t.entered → Going means n (answered None new) a (streams c b.out) u
going-met means n m new a b c t u g h met same_count = record {
  events = g.events ++ In None ∷ [];
  same = λ rest k. ap (λ l. means (in_bytes (g.events ++ In None ∷ []) ++ l)) (k met.met)
      ∙ ap means (quiet-bytes g.events (In None) [] refl)
      ∙ g.same [] (λ x. refl)
      ∙ h.same n (outside [] g.events) g.below
      ∙ ap (λ l. total n (answered None new) (outside l (g.events ++ In None ∷ []))) (sym (k met.met));
  below = let x : m.ticks < n = g.below in let y : new.ticks ≤ m.ticks = h.ticks in omega arith;
  held = λ k. g.held k ∙ ap (λ l. in_bytes g.events ++ l) (sym (kept (g.told.input k) (flag t.at_end))) ∙ sym (quiet-bytes g.events (In None) c.bytes refl);
  none_left = λ x k. gone k (flag t.at_end);
  put = λ k. g.put k ∙ ap (λ l. a.out.bytes ++ l) (sym (out_bytes-append g.events (In None ∷ []) ∙ append-nil (out_bytes g.events)));
  told = record { input = λ k. met.told (g.told.input k); out = g.told.out };
  counts = record { input = met.faults ∙ g.counts.input; out = g.counts.out };
  counted = same_count ∙ g.counted ∙ same-count g.events (In None ∷ []) refl;
}
  where
    kept : IsTrue b.input.told → (t.at_end ≡ true) ⊎ (t.at_end ≡ false) → c.bytes ≡ b.input.bytes
    kept k (inl before) = ap (λ (x : Stream). x.bytes) (met.left before)
    kept k (inr unmet) = (met.none unmet k).1 ∙ sym (met.none unmet k).0

    gone : IsTrue a.input.told → (t.at_end ≡ true) ⊎ (t.at_end ≡ false) → c.bytes ≡ []
    gone k (inl before) = ap (λ (x : Stream). x.bytes) (met.left before) ∙ g.none_left before k
    gone k (inr unmet) = (met.none unmet (g.told.input k)).1

at_stop : (means : List ℕ → Outcome) (n : ℕ) (m : Moment) (a b : Streams) (t : Tally) → (g : Going means n m a b t)
    → means (in_bytes g.events ++ left_in a.input.told b.input.bytes) ≡ total n m (outside (left_in a.input.told b.input.bytes) g.events)
at_stop means n m a b t g = g.same (left_in a.input.told b.input.bytes) (λ x. left-none a.input.told b.input.bytes (g.none_left x))

carried : (means : List ℕ → Outcome) (n : ℕ) (m : Moment) (a b : Streams) (t : Tally) → (g : Going means n m a b t)
    → Carried g.events (in_bytes g.events ++ left_in a.input.told b.input.bytes) a b
carried means n m a b t g = record {
  held = λ k. g.held k ∙ ap (λ l. in_bytes g.events ++ l) (sym (left-told a.input.told b.input.bytes k));
  taken = λ k. ap (λ l. in_bytes g.events ++ l) (left-told a.input.told b.input.bytes k);
  put = g.put;
  told = g.told;
}

front : (means : List ℕ → Outcome) (n : ℕ) (m : Moment) (a b : Streams) (t : Tally) → (g : Going means n m a b t)
    → IsFront g.events (means (in_bytes g.events ++ left_in a.input.told b.input.bytes)).trace
front means n m a b t g = subst (λ (c : Outcome). IsFront g.events c.trace) (sym (at_stop means n m a b t g))
    (grows-total n m (outside (left_in a.input.told b.input.bytes) g.events))

-- Want of memory.
pub going-broken : (means : List ℕ → Outcome) (n : ℕ) (m : Moment) (a b : Streams) (t : Tally) → Going means n m a b t → Broken means a b
going-broken means n m a b t g = record {
  front = record { input = in_bytes g.events ++ left_in a.input.told b.input.bytes; events = g.events; carried = carried means n m a b t g; front = front means n m a b t g };
  counts = g.counts;
}

-- The run ends.
pub going-whole : (means : List ℕ → Outcome) (n : ℕ) (m : Moment) (a b : Streams) (t : Tally) (e : EndOf) → Going means n m a b t → EndsAs total e m → Whole means a b t.entered e
unfolding at_stop
going-whole means n m a b t e g h =
    let input = in_bytes g.events ++ left_in a.input.told b.input.bytes in
    let is : means input ≡ record { end = e; trace = g.events } = at_stop means n m a b t g ∙ h.same n (outside (left_in a.input.told b.input.bytes) g.events) g.below in
    let trace : (means input).trace ≡ g.events = ap (λ (c : Outcome). c.trace) is in
    record {
      input = input;
      carried = subst (λ (events : List Event). Carried events input a b) (sym trace) (carried means n m a b t g);
      ends = ap (λ (c : Outcome). c.end) is;
      counted = g.counted ∙ ap entered_count (sym trace);
      counts = g.counts;
    }

-- A byte is not put.

module _ (means : List ℕ → Outcome) (n : ℕ) (m new : Moment) (a b : Streams) (c : Stream) (t : Tally) (byte : ℕ) (g : Going means n m a b t) (h : StepsOn total (Some (Out byte)) m new) (told : IsTrue c.told → IsTrue b.out.told) (rose : Rose b.out.faults c.faults) where
  with-byte : (IsTrue c.told → c.bytes ≡ b.out.bytes ++ byte ∷ []) → OutputFailed means a (streams b.input c) t.entered
  with-byte put =
      let events = g.events ++ Out byte ∷ [] in
      let rest = left_in a.input.told b.input.bytes in
      record {
        front = record {
          input = in_bytes g.events ++ rest;
          events = events;
          carried = record {
            held = (carried means n m a b t g).held;
            taken = λ k. (carried means n m a b t g).taken k ∙ sym (quiet-bytes g.events (Out byte) b.input.bytes refl);
            put = λ k. put k ∙ ap (λ l. l ++ byte ∷ []) (g.put (told k)) ∙ append_assoc a.out.bytes (out_bytes g.events) (byte ∷ [])
                ∙ ap (λ l. a.out.bytes ++ l) (sym (out_bytes-append g.events (Out byte ∷ [])));
            told = record { input = g.told.input; out = λ k. g.told.out (told k) };
          };
          front = subst (λ (d : Outcome). IsFront events d.trace) (sym (at_stop means n m a b t g ∙ h.same n (outside rest g.events) g.below)) (grows-total n new (outside rest events));
        };
        counted = g.counted ∙ same-count g.events (Out byte ∷ []) refl;
        rose = subst (λ k. Rose k c.faults) g.counts.out rose;
        input = g.counts.input;
      }

  without-byte : (IsTrue c.told → c.bytes ≡ b.out.bytes) → OutputFailed means a (streams b.input c) t.entered
  without-byte put = record {
    front = record {
      input = in_bytes g.events ++ left_in a.input.told b.input.bytes;
      events = g.events;
      carried = record {
        held = (carried means n m a b t g).held;
        taken = (carried means n m a b t g).taken;
        put = λ k. put k ∙ g.put (told k);
        told = record { input = g.told.input; out = λ k. g.told.out (told k) };
      };
      front = front means n m a b t g;
    };
    counted = g.counted;
    rose = subst (λ k. Rose k c.faults) g.counts.out rose;
    input = g.counts.input;
  }

  pub going-not_put : (IsTrue c.told → AddsFront (byte ∷ []) b.out.bytes c.bytes) → OutputFailed means a (streams b.input c) t.entered
  going-not_put put = go (flag c.told)
    where
      parts : (x : AddsFront (byte ∷ []) b.out.bytes c.bytes) → (x.front ≡ []) ⊎ (x.front ≡ byte ∷ []) → OutputFailed means a (streams b.input c) t.entered
      parts x (inl none) = without-byte (λ k. x.added ∙ ap (λ l. b.out.bytes ++ l) none ∙ append-nil b.out.bytes)
      parts x (inr one) = with-byte (λ k. x.added ∙ ap (λ l. b.out.bytes ++ l) one)

      go : (c.told ≡ true) ⊎ (c.told ≡ false) → OutputFailed means a (streams b.input c) t.entered
      go (inl k) = let x = put k in parts x (front-of-one byte x.front x.is_front.rest x.is_front.joined)
      go (inr silent) = without-byte (λ k. let yes : c.told ≡ true = k in absurd (cc))

-- A byte is not taken.

next-in : (n : ℕ) (new : Moment) (rest : List ℕ) (events : List Event) → IsInNext events (taken n new (outside rest events)).trace
next-in n new [] events =
    let h = grows-total n (answered None new) (outside [] (events ++ In None ∷ [])) in
    record { byte = None; rest = h.rest; joined = h.joined ∙ append_assoc events (In None ∷ []) h.rest }
next-in n new (byte ∷ rest) events =
    let h = grows-total n (answered (Some byte) new) (outside rest (events ++ In (Some byte) ∷ [])) in
    record { byte = Some byte; rest = h.rest; joined = h.joined ∙ append_assoc events (In (Some byte) ∷ []) h.rest }

pub going-not_taken : (means : List ℕ → Outcome) (n : ℕ) (m new : Moment) (a b : Streams) (c : Stream) (t u : Tally) → Going means n m a b t → StepsTaking total m new
    → TookNot b.input c t.at_end u.at_end → u.entered ≡ t.entered → InputFailed means a (streams c b.out) u.entered
unfolding next-in
going-not_taken means n m new a b c t u g h not same_count =
    let rest = left_in a.input.told c.bytes in
    let input = in_bytes g.events ++ rest in
    let unmet : IsTrue t.at_end → rest ≡ [] = λ x. (let no : t.at_end ≡ true = x in let unmet : t.at_end ≡ false = not.unmet in absurd (cc)) in
    let here : means input ≡ total n m (outside rest g.events) = g.same rest unmet in
    let is : means input ≡ taken n new (outside rest g.events) = here ∙ h.same n (outside rest g.events) g.below in
    record {
      front = record {
        input = input;
        events = g.events;
        carried = record {
          held = λ k. g.held k ∙ ap (λ l. in_bytes g.events ++ l) (sym (not.bytes (g.told.input k)) ∙ sym (left-told a.input.told c.bytes k));
          taken = λ k. ap (λ l. in_bytes g.events ++ l) (left-told a.input.told c.bytes k);
          put = g.put;
          told = record { input = λ k. not.told (g.told.input k); out = g.told.out };
        };
        front = subst (λ (d : Outcome). IsFront g.events d.trace) (sym here) (grows-total n m (outside rest g.events));
      };
      next = subst (λ (d : Outcome). IsInNext g.events d.trace) (sym is) (next-in n new rest g.events);
      counted = same_count ∙ g.counted;
      rose = subst (λ k. Rose k c.faults) g.counts.input not.rose;
      out = g.counts.out;
    }

-- What is taken.
pub going-answers : (means : List ℕ → Outcome) (n : ℕ) (m new : Moment) (a b : Streams) (c : Stream) (t u : Tally) (byte : Option ℕ) → Going means n m a b t → StepsTaking total m new
    → Answers b.input c t.at_end u.at_end (Ok byte) → u.entered ≡ t.entered → Going means n (answered byte new) a (streams c b.out) u
going-answers means n m new a b c t u None g h met same_count = going-met means n m new a b c t u g h met same_count
going-answers means n m new a b c t u (Some byte) g h took same_count = going-takes means n m new a b c t u byte g h took same_count

-- A step that ends the run.
pub going-ends : (means : List ℕ → Outcome) (n : ℕ) (m : Moment) (a b : Streams) (t : Tally) (e : Ended) → Going means n m a b t → EndsAs total (end_of e) m → LeavesAt means a b t.entered (run_end e)
unfolding going-whole
going-ends means n m a b t (step_end.Ended status) g h = going-whole means n m a b t (EndedAt status) g h
going-ends means n m a b t step_end.Ticks g h = going-whole means n m a b t Ticks g h
going-ends means n m a b t step_end.Depth g h = going-whole means n m a b t Depth g h

-- Nothing was done.
pub broken-none : (means : List ℕ → Outcome) (a : Streams) → Broken means a a
broken-none means a = record {
  front = record {
    input = a.input.bytes;
    events = [];
    carried = record { held = λ k. refl; taken = λ k. refl; put = λ k. sym (append-nil a.out.bytes); told = record { input = λ k. k; out = λ k. k } };
    front = record { rest = (means a.input.bytes).trace; joined = refl };
  };
  counts = record { input = refl; out = refl };
}

-- A program without `main`.
pub whole-none : (means : List ℕ → Outcome) (a : Streams) (e : EndOf) → ((input : List ℕ) → means input ≡ record { end = e; trace = [] }) → Whole means a a 0 e
whole-none means a e is =
    let trace : (means a.input.bytes).trace ≡ [] = ap (λ (c : Outcome). c.trace) (is a.input.bytes) in
    record {
      input = a.input.bytes;
      carried = subst (λ (events : List Event). Carried events a.input.bytes a a) (sym trace)
          (record { held = λ k. refl; taken = λ k. refl; put = λ k. sym (append-nil a.out.bytes); told = record { input = λ k. k; out = λ k. k } });
      ends = ap (λ (c : Outcome). c.end) (is a.input.bytes);
      counted = ap entered_count (sym trace);
      counts = record { input = refl; out = refl };
    }
