-- What the flush behind a run does to what the run left.
use Rattle.std.proofs.Common.{◌≡◌, ◌∙◌, ℕ, List, [], sym, IsTrue, append-nil, arith, inl, inr, ◌⊎◌}
use Rattle.cf_base.specs.World.{Outcome as Meant}
use Rattle.cf_base.specs.Rose.{Rose}
use Rattle.cf_base.specs.Stream.{Stream}
use Rattle.cf_base.specs.Event.{Event, End as EndOf}
use Rattle.cf_streams.specs.Streams.{Streams, streams, StillTold, Carried, SameCounts}
use Rattle.cc_whole_run.specs.declared.types.End.{End}
use Rattle.cc_whole_run.specs.declared.types.End.TheVariants as ended
use Rattle.cc_whole_run.specs.Run.{Whole, Front, LeavesAt}
use Rattle.cfront.specs.declared.outcome.Outcome.{Outcome}
use Rattle.cfront.specs.declared.outcome.Outcome.TheVariants as answer
use Rattle.cfront.specs.Run.{outcome_of, RunsTo, OutputFault, FlushDone, FlushFailed}

rose_again : (a b c : ℕ) → Rose b c → b ≡ a → Rose a c
rose_again a b c rose same = rw (← same) rose

rose_twice : (a b c : ℕ) → Rose a b → Rose b c → Rose a c
rose_twice a b c first second = omega arith

module _ (means : List ℕ → Meant) (old : Streams) (input out flushed : Stream)
    (told : IsTrue flushed.told → IsTrue out.told) (bytes : IsTrue flushed.told → flushed.bytes ≡ out.bytes) where
  told_on : StillTold old (streams input out) → StillTold old (streams input flushed)
  told_on t = record { input = t.input; out = λ x. t.out (told x) }

  carried_on : (events : List Event) (given : List ℕ) → Carried events given old (streams input out) → Carried events given old (streams input flushed)
  carried_on events given c = record {
    held = c.held;
    taken = c.taken;
    put = λ t. bytes t ∙ c.put (told t);
    told = told_on c.told;
  }

  front_on : Front means old (streams input out) → Front means old (streams input flushed)
  front_on f = record { input = f.input; events = f.events; carried = carried_on f.events f.input f.carried; front = f.front }

  whole_on : (count : ℕ) (end : EndOf) → flushed.faults ≡ out.faults → Whole means old (streams input out) count end
      → Whole means old (streams input flushed) count end
  whole_on count end faults w = record {
    input = w.input;
    carried = carried_on _ w.input w.carried;
    ends = w.ends;
    counted = w.counted;
    counts = record { input = w.counts.input; out = faults ∙ w.counts.out };
  }

  whole_failed : (count : ℕ) (end : EndOf) → Rose out.faults flushed.faults → Whole means old (streams input out) count end
      → OutputFault means old (streams input flushed) count
  whole_failed count end rose w = record {
    front = record { input = w.input; events = _; carried = carried_on _ w.input w.carried; front = record { rest = []; joined = sym (append-nil _) } };
    counted = w.counted;
    rose = rose_again _ _ _ rose w.counts.out;
  }

pub flush_done : (means : List ℕ → Meant) (old : Streams) (input out flushed : Stream) (count : ℕ) (end : End) (after : Outcome)
    → LeavesAt means old (streams input out) count end → FlushDone (outcome_of end) after out flushed
    → RunsTo means old (streams input flushed) count after
unfolding front_on
flush_done means old input out flushed count (ended.Ended status) after left f = rw f.same (record {
  left = whole_on means old input out flushed f.told f.bytes count _ f.faults left;
  handed_on = f.handed_on;
})
flush_done means old input out flushed count ended.Ticks after left f = rw f.same (record {
  left = whole_on means old input out flushed f.told f.bytes count _ f.faults left;
  handed_on = f.handed_on;
})
flush_done means old input out flushed count ended.Depth after left f = rw f.same (record {
  left = whole_on means old input out flushed f.told f.bytes count _ f.faults left;
  handed_on = f.handed_on;
})
flush_done means old input out flushed count (ended.Undefined act) after left f = rw f.same (record {
  left = whole_on means old input out flushed f.told f.bytes count _ f.faults left;
  handed_on = f.handed_on;
})
flush_done means old input out flushed count ended.SourceFault after left f = rw f.same (record {
  left = record {
    front = front_on means old input out flushed f.told f.bytes left.front;
    next = left.next;
    counted = left.counted;
    rose = left.rose;
    out = f.faults ∙ left.out;
  };
  handed_on = f.handed_on;
})
flush_done means old input out flushed count ended.SinkFault after left f = rw f.same (record {
  front = front_on means old input out flushed f.told f.bytes left.front;
  counted = left.counted;
  rose = rw f.faults left.rose;
})

pub flush_failed : (means : List ℕ → Meant) (old : Streams) (input out flushed : Stream) (count : ℕ) (end : End) (after : Outcome)
    → LeavesAt means old (streams input out) count end → FlushFailed after out flushed
    → RunsTo means old (streams input flushed) count after
unfolding front_on
flush_failed means old input out flushed count (ended.Ended status) after left f =
    rw f.fault (whole_failed means old input out flushed f.told f.bytes count _ f.rose left)
flush_failed means old input out flushed count ended.Ticks after left f =
    rw f.fault (whole_failed means old input out flushed f.told f.bytes count _ f.rose left)
flush_failed means old input out flushed count ended.Depth after left f =
    rw f.fault (whole_failed means old input out flushed f.told f.bytes count _ f.rose left)
flush_failed means old input out flushed count (ended.Undefined act) after left f =
    rw f.fault (whole_failed means old input out flushed f.told f.bytes count _ f.rose left)
flush_failed means old input out flushed count ended.SourceFault after left f = rw f.fault (record {
  front = front_on means old input out flushed f.told f.bytes left.front;
  counted = left.counted;
  rose = rose_again _ _ _ f.rose left.out;
})
flush_failed means old input out flushed count ended.SinkFault after left f = rw f.fault (record {
  front = front_on means old input out flushed f.told f.bytes left.front;
  counted = left.counted;
  rose = rose_twice _ _ _ left.rose f.rose;
})

-- what a run leaves tells as before, and so does what the flush leaves
pub leaves_tells : (means : List ℕ → Meant) (old new : Streams) (count : ℕ) (end : End) → LeavesAt means old new count end
    → StillTold old new
leaves_tells means old new count (ended.Ended status) left = left.carried.told
leaves_tells means old new count ended.Ticks left = left.carried.told
leaves_tells means old new count ended.Depth left = left.carried.told
leaves_tells means old new count (ended.Undefined act) left = left.carried.told
leaves_tells means old new count ended.SourceFault left = left.front.carried.told
leaves_tells means old new count ended.SinkFault left = left.front.carried.told

pub flush_tells : (old : Streams) (input out flushed : Stream) (before after : Outcome) → StillTold old (streams input out)
    → FlushDone before after out flushed ⊎ FlushFailed after out flushed → StillTold old (streams input flushed)
flush_tells old input out flushed before after t (inl done) = record { input = t.input; out = λ x. t.out (done.told x) }
flush_tells old input out flushed before after t (inr failed) = record { input = t.input; out = λ x. t.out (failed.told x) }

-- a run that the output ended
pub sink_failed : (means : List ℕ → Meant) (old new : Streams) (count : ℕ) → LeavesAt means old new count ended.SinkFault → RunsTo means old new count answer.SinkFault
sink_failed means old new count left = record { front = left.front; counted = left.counted; rose = left.rose }
