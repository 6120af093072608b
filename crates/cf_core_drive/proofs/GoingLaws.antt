-- How the run of a whole program goes, as facts about states and streams.
use Rattle.std.proofs.Common.{◌≡◌, ℕ, ◌+◌, ◌-◌, ◌^◌, min, true, false, List, [], ◌∷◌, ◌++◌, IsTrue, Option, Some, None, Ok, refl, ap, sym, ◌∙◌, subst, append_assoc, append-nil, inl, inr, ◌⊎◌}
use Rattle.cf_base.specs.Rose.{Rose}
use Rattle.cf_base.specs.Stream.{Stream, AddsFront}
use Rattle.cf_base.specs.Event.{Event, Enter, In, Out, End as EndOf, in_bytes, out_bytes}
use Rattle.cf_run_tree.specs.declared.program.Program.{Program}
use Rattle.cf_core_run.specs.declared.state.Machine.{Machine}
use Rattle.cf_core_run.specs.Nearer.{Below, steps_left}
use Rattle.cf_core_drive.specs.declared.types.End.{End}
use Rattle.cf_core_drive.specs.declared.types.Tally.{Tally}
use Rattle.cf_core_drive.specs.Run.{Streams, streams, Carried, Whole, InputFailed, OutputFailed, Broken, Meaningless, Ahead, Meaning}
use Rattle.cf_core_drive.specs.Going.{Going, Nears, Counts, PutByte, PutNot, Took, MetEnd, TookNot, Answers}
use Rattle.cf_core_drive.proofs.Bytes.{out_bytes-append, in_bytes-append, same-count, next-count, quiet-bytes, flag, left_in, left-told, left-none, front-of-one}

-- A turn that shows something gets nearer whatever comes of that.
pub answers-nearer : (p : Program) (old new : Machine) (e : Option End) → Below p old.ticks (steps_left p old) new → Nears p old new (Ok e)
answers-nearer p old new None h = h
answers-nearer p old new (Some e) h = tt

module _ (ahead : Ahead) (means : Meaning) where
  -- The first state.
  pub going-starts : (m : Machine) (a : Streams) (t : Tally) → t.entered ≡ 0 → t.at_end ≡ false → ((input : List ℕ) → means input ≡ ahead m input []) → Going ahead means m a a t
  going-starts m a t none unmet same = record {
    events = [];
    same = λ rest h. same rest;
    held = λ h. refl;
    none_left = λ h k. let no : t.at_end ≡ true = h in absurd (cc);
    put = λ h. sym (append-nil a.out.bytes);
    told = record { input = λ h. h; out = λ h. h };
    counts = record { input = refl; out = refl };
    counted = none;
  }

  -- A step that shows nothing.
  pub going-on : (m new : Machine) (a b : Streams) (t : Tally) → Going ahead means m a b t → ((rest : List ℕ) (events : List Event) → ahead m rest events ≡ ahead new rest events)
      → Going ahead means new a b t
  going-on m new a b t g h = record {
    events = g.events;
    same = λ rest k. g.same rest k ∙ h rest g.events;
    held = g.held;
    none_left = g.none_left;
    put = g.put;
    told = g.told;
    counts = g.counts;
    counted = g.counted;
  }

  -- A function is entered.
  pub going-enters : (m new : Machine) (a b : Streams) (t u : Tally) (name : List ℕ) → Going ahead means m a b t
      → ((rest : List ℕ) (events : List Event) → ahead m rest events ≡ ahead new rest (events ++ Enter name ∷ [])) → Counts t u → Going ahead means new a b u
  going-enters m new a b t u name g h counts = record {
    events = g.events ++ Enter name ∷ [];
    same = λ rest k. ap means (quiet-bytes g.events (Enter name) rest refl) ∙ g.same rest (λ x. k (counts.at_end ∙ x)) ∙ h rest g.events;
    held = λ k. g.held k ∙ sym (quiet-bytes g.events (Enter name) b.input.bytes refl);
    none_left = λ k. g.none_left (sym counts.at_end ∙ k);
    put = λ k. g.put k ∙ ap (λ l. a.out.bytes ++ l) (sym (out_bytes-append g.events (Enter name ∷ []) ∙ append-nil (out_bytes g.events)));
    told = record { input = g.told.input; out = g.told.out };
    counts = record { input = g.counts.input; out = g.counts.out };
    counted = counts.entered ∙ ap (λ k. min (k + 1) (2 ^ 64 - 1)) g.counted ∙ next-count g.events name;
  }

  -- A byte is put.
  pub going-puts : (m new : Machine) (a b : Streams) (c : Stream) (t : Tally) (byte : ℕ) → Going ahead means m a b t
      → ((rest : List ℕ) (events : List Event) → ahead m rest events ≡ ahead new rest (events ++ Out byte ∷ [])) → PutByte byte b.out c → Going ahead means new a (streams b.input c) t
  going-puts m new a b c t byte g h put = record {
    events = g.events ++ Out byte ∷ [];
    same = λ rest k. ap means (quiet-bytes g.events (Out byte) rest refl) ∙ g.same rest k ∙ h rest g.events;
    held = λ k. g.held k ∙ sym (quiet-bytes g.events (Out byte) b.input.bytes refl);
    none_left = g.none_left;
    put = λ k. put.bytes k ∙ ap (λ l. l ++ byte ∷ []) (g.put (put.told k)) ∙ append_assoc a.out.bytes (out_bytes g.events) (byte ∷ [])
        ∙ ap (λ l. a.out.bytes ++ l) (sym (out_bytes-append g.events (Out byte ∷ [])));
    told = record { input = g.told.input; out = λ k. g.told.out (put.told k) };
    counts = record { input = g.counts.input; out = put.faults ∙ g.counts.out };
    counted = g.counted ∙ same-count g.events (Out byte ∷ []) refl;
  }

  -- A byte is taken.
  pub going-takes : (m new : Machine) (a b : Streams) (c : Stream) (t u : Tally) (byte : ℕ) → Going ahead means m a b t
      → ((rest : List ℕ) (events : List Event) → ahead m (byte ∷ rest) events ≡ ahead new rest (events ++ In (Some byte) ∷ []))
      → Took b.input c byte t.at_end u.at_end → u.entered ≡ t.entered → Going ahead means new a (streams c b.out) u
  going-takes m new a b c t u byte g h took same_count = record {
    events = g.events ++ In (Some byte) ∷ [];
    same = λ rest k. ap means (more rest)
        ∙ g.same (byte ∷ rest) (λ x. let no : t.at_end ≡ true = x in let unmet : t.at_end ≡ false = took.unmet in absurd (cc))
        ∙ h rest g.events;
    held = λ k. g.held k ∙ ap (λ l. in_bytes g.events ++ l) (took.bytes (g.told.input k)) ∙ sym (more c.bytes);
    none_left = λ x y. let no : u.at_end ≡ true = x in let still : u.at_end ≡ false = took.still in absurd (cc);
    put = λ k. g.put k ∙ ap (λ l. a.out.bytes ++ l) (sym (out_bytes-append g.events (In (Some byte) ∷ []) ∙ append-nil (out_bytes g.events)));
    told = record { input = λ k. took.told (g.told.input k); out = g.told.out };
    counts = record { input = took.faults ∙ g.counts.input; out = g.counts.out };
    counted = same_count ∙ g.counted ∙ same-count g.events (In (Some byte) ∷ []) refl;
  }
    where
      more : (rest : List ℕ) → in_bytes (g.events ++ In (Some byte) ∷ []) ++ rest ≡ in_bytes g.events ++ (byte ∷ rest)
      more rest = ap (λ l. l ++ rest) (in_bytes-append g.events (In (Some byte) ∷ [])) ∙ append_assoc (in_bytes g.events) (byte ∷ []) rest

  -- The end of the input is met.
  pub going-met : (m new : Machine) (a b : Streams) (c : Stream) (t u : Tally) → Going ahead means m a b t
      → ((events : List Event) → ahead m [] events ≡ ahead new [] (events ++ In None ∷ []))
      → MetEnd b.input c t.at_end u.at_end → u.entered ≡ t.entered → Going ahead means new a (streams c b.out) u
  going-met m new a b c t u g h met same_count = record {
    events = g.events ++ In None ∷ [];
    same = λ rest k. ap (λ l. means (in_bytes (g.events ++ In None ∷ []) ++ l)) (k met.met)
        ∙ ap means (quiet-bytes g.events (In None) [] refl)
        ∙ g.same [] (λ x. refl)
        ∙ h g.events
        ∙ ap (λ l. ahead new l (g.events ++ In None ∷ [])) (sym (k met.met));
    held = λ k. g.held k ∙ ap (λ l. in_bytes g.events ++ l) (sym (kept (g.told.input k) (flag t.at_end))) ∙ sym (quiet-bytes g.events (In None) c.bytes refl);
    none_left = λ x k. gone k (flag t.at_end);
    put = λ k. g.put k ∙ ap (λ l. a.out.bytes ++ l) (sym (out_bytes-append g.events (In None ∷ []) ∙ append-nil (out_bytes g.events)));
    told = record { input = λ k. met.told (g.told.input k); out = g.told.out };
    counts = record { input = met.faults ∙ g.counts.input; out = g.counts.out };
    counted = same_count ∙ g.counted ∙ same-count g.events (In None ∷ []) refl;
  }
    where
      kept : IsTrue b.input.told → (t.at_end ≡ true) ⊎ (t.at_end ≡ false) → c.bytes ≡ b.input.bytes
      kept k (inl before) = ap (λ (x : Stream). x.bytes) (met.left before)
      kept k (inr unmet) = (met.none unmet k).1 ∙ sym (met.none unmet k).0

      gone : IsTrue a.input.told → (t.at_end ≡ true) ⊎ (t.at_end ≡ false) → c.bytes ≡ []
      gone k (inl before) = ap (λ (x : Stream). x.bytes) (met.left before) ∙ g.none_left before k
      gone k (inr unmet) = (met.none unmet (g.told.input k)).1

  -- What is taken.
  pub going-answers : (m new : Machine) (a b : Streams) (c : Stream) (t u : Tally) (byte : Option ℕ) → Going ahead means m a b t
      → ((x : ℕ) → byte ≡ Some x → (rest : List ℕ) (events : List Event) → ahead m (x ∷ rest) events ≡ ahead new rest (events ++ In (Some x) ∷ []))
      → (byte ≡ None → (events : List Event) → ahead m [] events ≡ ahead new [] (events ++ In None ∷ []))
      → Answers b.input c t.at_end u.at_end (Ok byte) → u.entered ≡ t.entered → Going ahead means new a (streams c b.out) u
  going-answers m new a b c t u None g some none met same_count = going-met m new a b c t u g (none refl) met same_count
  going-answers m new a b c t u (Some byte) g some none took same_count = going-takes m new a b c t u byte g (some byte refl) took same_count

  at_stop : (m : Machine) (a b : Streams) (t : Tally) → (g : Going ahead means m a b t)
      → means (in_bytes g.events ++ left_in a.input.told b.input.bytes) ≡ ahead m (left_in a.input.told b.input.bytes) g.events
  at_stop m a b t g = g.same (left_in a.input.told b.input.bytes) (λ x. left-none a.input.told b.input.bytes (g.none_left x))

  carried : (m : Machine) (a b : Streams) (t : Tally) → (g : Going ahead means m a b t)
      → Carried g.events (in_bytes g.events ++ left_in a.input.told b.input.bytes) a b
  carried m a b t g = record {
    held = λ k. g.held k ∙ ap (λ l. in_bytes g.events ++ l) (sym (left-told a.input.told b.input.bytes k));
    taken = λ k. ap (λ l. in_bytes g.events ++ l) (left-told a.input.told b.input.bytes k);
    put = g.put;
    told = g.told;
  }

  -- The run is given up.
  pub going-broken : (m : Machine) (a b : Streams) (t : Tally) → Going ahead means m a b t → Broken ahead means a b
  going-broken m a b t g = record {
    front = record { input = in_bytes g.events ++ left_in a.input.told b.input.bytes; rest = left_in a.input.told b.input.bytes; events = g.events; state = m; carried = carried m a b t g; front = at_stop m a b t g };
    counts = g.counts;
  }

  pub going-none : (m : Machine) (a b : Streams) (t : Tally) → Going ahead means m a b t → ((rest : List ℕ) (events : List Event) → ahead m rest events ≡ None) → Meaningless ahead means a b
  going-none m a b t g h = record {
    broken = record {
      front = record { input = in_bytes g.events ++ left_in a.input.told b.input.bytes; rest = left_in a.input.told b.input.bytes; events = g.events; state = m; carried = carried m a b t g; front = at_stop m a b t g };
      counts = g.counts;
    };
    none = at_stop m a b t g ∙ h (left_in a.input.told b.input.bytes) g.events;
  }

  -- The run ends.
  pub going-whole : (m : Machine) (a b : Streams) (t : Tally) (e : EndOf) → Going ahead means m a b t
      → ((rest : List ℕ) (events : List Event) → ahead m rest events ≡ Some (record { end = e; trace = events })) → Whole means a b t.entered e
  going-whole m a b t e g h = record {
    input = in_bytes g.events ++ left_in a.input.told b.input.bytes;
    trace = g.events;
    is = at_stop m a b t g ∙ h (left_in a.input.told b.input.bytes) g.events;
    carried = carried m a b t g;
    counted = g.counted;
    counts = g.counts;
  }

  -- A byte is not put.

  module _ (m new : Machine) (a b : Streams) (c : Stream) (t : Tally) (byte : ℕ) (g : Going ahead means m a b t) (h : (rest : List ℕ) (events : List Event) → ahead m rest events ≡ ahead new rest (events ++ Out byte ∷ [])) (put : PutNot byte b.out c) where
    with-byte : (IsTrue c.told → c.bytes ≡ b.out.bytes ++ byte ∷ []) → OutputFailed ahead means a (streams b.input c) t.entered
    with-byte bytes =
        let events = g.events ++ Out byte ∷ [] in
        let rest = left_in a.input.told b.input.bytes in
        record {
          front = record {
            input = in_bytes g.events ++ rest;
            rest = rest;
            events = events;
            state = new;
            carried = record {
              held = (carried m a b t g).held;
              taken = λ k. (carried m a b t g).taken k ∙ sym (quiet-bytes g.events (Out byte) b.input.bytes refl);
              put = λ k. bytes k ∙ ap (λ l. l ++ byte ∷ []) (g.put (put.told k)) ∙ append_assoc a.out.bytes (out_bytes g.events) (byte ∷ [])
                  ∙ ap (λ l. a.out.bytes ++ l) (sym (out_bytes-append g.events (Out byte ∷ [])));
              told = record { input = g.told.input; out = λ k. g.told.out (put.told k) };
            };
            front = at_stop m a b t g ∙ h rest g.events;
          };
          counted = g.counted ∙ same-count g.events (Out byte ∷ []) refl;
          rose = subst (λ k. Rose k c.faults) g.counts.out put.rose;
          input = g.counts.input;
        }

    without-byte : (IsTrue c.told → c.bytes ≡ b.out.bytes) → OutputFailed ahead means a (streams b.input c) t.entered
    without-byte bytes = record {
      front = record {
        input = in_bytes g.events ++ left_in a.input.told b.input.bytes;
        rest = left_in a.input.told b.input.bytes;
        events = g.events;
        state = m;
        carried = record {
          held = (carried m a b t g).held;
          taken = (carried m a b t g).taken;
          put = λ k. bytes k ∙ g.put (put.told k);
          told = record { input = g.told.input; out = λ k. g.told.out (put.told k) };
        };
        front = at_stop m a b t g;
      };
      counted = g.counted;
      rose = subst (λ k. Rose k c.faults) g.counts.out put.rose;
      input = g.counts.input;
    }

    pub going-not_put : OutputFailed ahead means a (streams b.input c) t.entered
    going-not_put = go (flag c.told)
      where
        parts : (x : AddsFront (byte ∷ []) b.out.bytes c.bytes) → (x.front ≡ []) ⊎ (x.front ≡ byte ∷ []) → OutputFailed ahead means a (streams b.input c) t.entered
        parts x (inl none) = without-byte (λ k. x.added ∙ ap (λ l. b.out.bytes ++ l) none ∙ append-nil b.out.bytes)
        parts x (inr one) = with-byte (λ k. x.added ∙ ap (λ l. b.out.bytes ++ l) one)

        go : (c.told ≡ true) ⊎ (c.told ≡ false) → OutputFailed ahead means a (streams b.input c) t.entered
        go (inl k) = let x = put.bytes k in parts x (front-of-one byte x.front x.is_front.rest x.is_front.joined)
        go (inr silent) = without-byte (λ k. let yes : c.told ≡ true = k in absurd (cc))

  -- A byte is not taken.
  pub going-not_taken : (m : Machine) (a b : Streams) (c : Stream) (t u : Tally) → Going ahead means m a b t
      → TookNot b.input c t.at_end u.at_end → u.entered ≡ t.entered → InputFailed ahead means a (streams c b.out) u.entered
  going-not_taken m a b c t u g not same_count =
      let rest = left_in a.input.told c.bytes in
      record {
        front = record {
          input = in_bytes g.events ++ rest;
          rest = rest;
          events = g.events;
          state = m;
          carried = record {
            held = λ k. g.held k ∙ ap (λ l. in_bytes g.events ++ l) (sym (not.bytes (g.told.input k)) ∙ sym (left-told a.input.told c.bytes k));
            taken = λ k. ap (λ l. in_bytes g.events ++ l) (left-told a.input.told c.bytes k);
            put = g.put;
            told = record { input = λ k. not.told (g.told.input k); out = g.told.out };
          };
          front = g.same rest (λ x. (let no : t.at_end ≡ true = x in let unmet : t.at_end ≡ false = not.unmet in absurd (cc)));
        };
        counted = same_count ∙ g.counted;
        rose = subst (λ k. Rose k c.faults) g.counts.input not.rose;
        out = g.counts.out;
      }
