-- What the run of a file's program does is what the file means.
use Rattle.std.proofs.Common.{◌≡◌, ◌∙◌, ℕ, Bool, true, false, List, [], ◌∷◌, Option, Some, Ok, Err, Result, refl, sym, subst, IsTrue, inl, inr, if◌then◌else◌}
use Rattle.cf_base.specs.Agree.{Agree, AgreesFrom}
use Rattle.cf_base.specs.Event.{Event, End as EndOf, Ended, Ticks, Depth, Undefined}
use Rattle.cf_base.specs.World.{Outcome as Meant}
use Rattle.cf_streams.specs.Streams.{Streams, Carried}
use Rattle.cc_whole.specs.declared.unit.CUnit.{CUnit}
use Rattle.cc_whole.specs.declared.unit.CProgram.{CProgram}
use Rattle.cc_whole_link.specs.Link.{Links, Refusal}
use Rattle.cc_whole_linked.specs.Limited.{LinksWithin, linked, past_the_limit, limited, passes_static}
use Rattle.cc_whole_memory.specs.Store.{act_number}
use Rattle.cc_whole_outcome.specs.CMean.{CMean, none, more}
use Rattle.cc_whole_run.specs.declared.types.Limits.{Limits}
use Rattle.cc_whole_run.specs.Run.{Whole, meant}
use Rattle.cf_compile.specs.Means.{KeepsMeaning}
use Rattle.cf_core.specs.FromUnit.{Unit as CoreUnit}
use Rattle.cfront.specs.declared.outcome.Outcome.{Outcome}
use Rattle.cfront.specs.declared.outcome.Outcome.TheVariants as answer
use Rattle.cfront.specs.Answer.{is_fault}
use Rattle.cfront.specs.Meant.{ProgramMeans, EndsAs, DidAll, WentOn, DoesAsMeant, RunsAreMeant, RunsDoAsMeant}
use Rattle.cfront.specs.Outside.{streams_of}
use Rattle.cfront.specs.Run.{RunsTo}

-- ---- linking within the limit is linking

module _ (units : List CUnit) (program : CProgram) where
  in_limit : (b : Bool) (p : CProgram) → linked program ≡ (if b then past_the_limit else linked p) → p ≡ program
  in_limit true p e = absurd (cc)
  in_limit false p e = cc

  of_made : (made : Result CProgram Refusal) → Links units made → linked program ≡ limited made → Links units (Ok program)
  of_made (Err r) links e = absurd (cc)
  of_made (Ok p) links e = subst (λ x. Links units (Ok x)) (in_limit (passes_static p) p e) links

  pub links_so : LinksWithin units (linked program) → Links units (Ok program)
  links_so within = of_made within.made within.links within.answers

-- ---- the program of a unit means what its core does

module _ (source : CoreUnit) (unit : CUnit) (text : List ℕ) (program : CProgram) (limits : Limits) (keeps : KeepsMeaning source unit text)
    (within : LinksWithin (unit ∷ []) (linked program)) where
  outcome_of_text : (input : List ℕ) → CMean (text ∷ []) input limits.heap limits.depth limits.ticks (meant program limits input)
  outcome_of_text input = record {
    units = unit ∷ [];
    program = program;
    read = more text unit [] [] keeps.spelled keeps.valid none;
    linked = links_so (unit ∷ []) program within;
    runs = refl;
  }

  pub program_means : ProgramMeans source program limits
  program_means input bytes = keeps.meant input bytes limits.heap limits.depth limits.ticks (meant program limits input) (outcome_of_text input)

pub runs_are_meant : RunsAreMeant
runs_are_meant file limits old new outcome ran =
    let t = ran.made.stands.translated in program_means t.source ran.made.unit t.text ran.program limits t.keeps ran.made.linked

-- ---- a run does what the source means

-- the answer of a run of the program for its end; where that is an act without a meaning any answer will do
abbrev AnsweredBy : EndOf → Outcome → Type 0
AnsweredBy (Ended status) outcome = outcome ≡ answer.Ended status
AnsweredBy Ticks outcome = outcome ≡ answer.Ticks
AnsweredBy Depth outcome = outcome ≡ answer.Depth
AnsweredBy (Undefined act) outcome = Unit {0}

module _ (m c : Meant) (input : List ℕ) (old new : Streams) (outcome : Outcome) (carried : Carried c.trace input old new) (answered : AnsweredBy c.end outcome) where
  did_all : (end : EndOf) → (AnsweredBy end outcome → EndsAs end outcome) → m.end ≡ end → c ≡ record { end = end; trace = m.trace } → DoesAsMeant m input old new outcome
  did_all end ends e same = inl (record {
    carried = subst (λ (x : Meant). Carried x.trace input old new) same carried;
    ends = subst (λ x. EndsAs x outcome) (sym e) (ends (subst (λ (x : Meant). AnsweredBy x.end outcome) same answered));
  })

  by_end : (end : EndOf) → m.end ≡ end → AgreesFrom end m.trace c → DoesAsMeant m input old new outcome
  by_end (Ended status) e same = did_all (Ended status) (λ a. a) e same
  by_end Ticks e same = did_all Ticks (λ a. a) e same
  by_end Depth e same = did_all Depth (λ a. a) e same
  by_end (Undefined act) e begins =
      inr (record { act = act; undefined = e; events = c.trace; carried = carried; front = record { rest = begins.rest; joined = begins.parts } })

module _ (m : Meant) (means : List ℕ → Meant) (old new : Streams) (told : IsTrue old.input.told) (agree : Agree m (means old.input.bytes)) where
  whole : (count : ℕ) (end : EndOf) (outcome : Outcome) → AnsweredBy end outcome → Whole means old new count end → DoesAsMeant m old.input.bytes old new outcome
  whole count end outcome answered w =
      let same : w.input ≡ old.input.bytes = sym (w.carried.held told) in
      by_end m (means old.input.bytes) old.input.bytes old new outcome
      (subst (λ x. Carried (means x).trace x old new) same w.carried)
      (subst (λ x. AnsweredBy (means x).end outcome) same (subst (λ x. AnsweredBy x outcome) (sym w.ends) answered))
      m.end refl agree.by

  pub run_does : (count : ℕ) (outcome : Outcome) → RunsTo means old new count outcome → is_fault outcome ≡ false → DoesAsMeant m old.input.bytes old new outcome
  run_does count (answer.Ended status) to no_fault = whole count (Ended status) (answer.Ended status) refl to.left
  run_does count answer.Ticks to no_fault = whole count Ticks answer.Ticks refl to.left
  run_does count answer.Depth to no_fault = whole count Depth answer.Depth refl to.left
  run_does count (answer.Undefined act) to no_fault = whole count (Undefined (act_number act)) (answer.Undefined act) tt to.left
  run_does count answer.Usage to no_fault = absurd to
  run_does count (answer.Refused number rule at) to no_fault = absurd to
  run_does count (answer.LinkRefused rule name) to no_fault = absurd to
  run_does count (answer.Limit number limit) to no_fault = absurd to
  run_does count (answer.Frames product) to no_fault = absurd to
  run_does count answer.FileFault to no_fault = absurd to
  run_does count answer.SourceFault to no_fault = absurd (cc)
  run_does count answer.SinkFault to no_fault = absurd (cc)

pub runs_do_as_meant : RunsDoAsMeant
runs_do_as_meant file limits old new outcome ran no_fault told bytes =
    let m = runs_are_meant file limits old new outcome ran old.input.bytes bytes in
    record {
      meant = m.meant;
      means = m.means;
      does = run_does m.meant (meant ran.program limits) (streams_of old) (streams_of new) told m.agrees ran.runs.entered outcome ran.runs.runs no_fault;
    }
