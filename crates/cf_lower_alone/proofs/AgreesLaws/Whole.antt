-- One file linked alone does what its source means, where its functions pass the tests and constants are set alike.
use Rattle.std.proofs.Common.{◌≡◌, ℕ, List, [], map, ℤ, Option, Some, None, ap, sym, subst}
use Rattle.std.specs.Prelude.{codes}
use Rattle.cf_base.specs.World.{World, Ran, world_at}
use Rattle.cf_core.specs.Core as source
use Rattle.cf_core.specs.Store.{Value, Missing, Number}
use Rattle.cf_core.specs.Run.{Did, Act, ◌>>=◌, ◌>>◌, done, for_all}
use Rattle.cf_core.specs.Calls as core
use Rattle.cf_core.specs.Calls.{Program, enter, run_named}
use Rattle.cf_core.specs.Program.{first_state, status_of}
use Rattle.cf_plain.specs.Plain.{PlainFile}
use Rattle.cf_plain.specs.Program.{set_constant, main_run}
use Rattle.cf_plain.specs.Joined.{program_of, files_mean}
use Rattle.cf_plain.specs.Running.{header, calls}
use Rattle.cf_plain.specs.Running as plain
use Rattle.cf_plain_finished.specs.Finished.{Always, Keeps, NoneFinished}
use Rattle.cf_plain_finished.proofs.Acts.{always-then, keeps-gives, keeps-malformed, keeps-next, keeps-then}
use Rattle.cf_plain_finished.proofs.Statements.{named-kept}
use Rattle.cc_whole.specs.declared.unit.CProgram.{CProgram}
use Rattle.cc_whole.specs.Plain.{Function, Item, items_of, functions_of}
use Rattle.cc_whole_memory.specs.declared.store.Storage.TheVariants as storage
use Rattle.cc_whole_memory.specs.Blocks.{born}
use Rattle.cc_whole_mean.specs.Callee.{function_named}
use Rattle.cc_whole_mean.specs.Flow as c
use Rattle.cc_whole_mean.specs.Flow.{in_memory, Called}
use Rattle.cc_whole_mean.specs.Start as c_start
use Rattle.cc_whole_mean.specs.Start.{start, c_mean}
use Rattle.cc_whole_registered.specs.Registered.{NothingRegistered, RegistersNothing}
use Rattle.cf_lower_steps.specs.Flows.{Simulates}
use Rattle.cf_lower_place.specs.Input.{IsInput}
use Rattle.cf_lower_program.specs.Agrees.{AgreesWith, ProgramAgrees}
use Rattle.cf_lower_calls.specs.Returns.Called.{Programs, FunctionsAlike}
use Rattle.cf_lower_tested.specs.Tested.{AllTested}
use Rattle.cf_lower_tested.proofs.Functions.{tested-alike}
use Rattle.cf_lower_alone.specs.Linked.{calls_of_helpers, main_function}
use Rattle.cf_lower_alone.specs.Programs.{programs, FitTogether}
use Rattle.cf_lower_alone.specs.Added.{main_name, MainEnds, ConstantsAlike}
use Rattle.cf_lower_alone.proofs.MainLaws.Outcome.{started, c-outcome, agrees}
use Rattle.cf_lower_alone.proofs.MainLaws.Whole.{MainFits, c-all, main-alike}

keeps-status : (v : Value) → Keeps NoneFinished (status_of v)
keeps-status (Number z) = keeps-gives NoneFinished z
keeps-status Missing = keeps-gives NoneFinished _
keeps-status v = keeps-malformed NoneFinished

module _ (files : List PlainFile) (program : CProgram) where
  abbrev B : Programs
  B = programs files program

  abbrev items : List Item
  items = items_of program.items

  abbrev first : c.State
  first = c_start.first_state items

  module _ (fit : FitTogether B) (tested : AllTested B) (mains : (f : source.Function) → core.function_named B.program main_name ≡ Some f → MainFits B f)
      (none : (program_of files).initialisers ≡ []) (helpers : List Function) (found : function_named (functions_of items) (codes "main") ≡ Some (main_function helpers))
      (constants : ConstantsAlike B (program_of files).constants (calls_of_helpers helpers) first) (registers : RegistersNothing items) where
    initialisers : B.program.initialisers ≡ []
    initialisers = ap (map header) none

    module _ (input : List ℕ) (is_input : IsInput input) (heap depth n : ℕ) where
      abbrev w : World
      w = world_at n input heap

      abbrev again : core.Again
      again = calls (plain.runs B.program B.functions n)

      alike : FunctionsAlike B n
      alike = tested-alike B fit.fitting fit.lowered fit.joined tested n

      abbrev x : Ran (Did ℤ)
      x = main_run (plain.runs B.program B.functions n) B.program (program_of files).constants (first_state B.program depth) w

      abbrev u : c.State
      u = in_memory first (born storage.Local 4 first.memory)

      abbrev y : Ran c.Flow
      y = c-all B n alike mains (program_of files).constants (calls_of_helpers helpers) initialisers first.memory.next depth u w

      same : Simulates MainEnds x y
      same =
          main-alike B n alike mains (program_of files).constants (calls_of_helpers helpers) initialisers first.memory.next depth u w is_input
          (constants.alike n depth w is_input)

      abbrev last : Act ℤ
      last = run_named again B.program main_name [] None None >>= (λ v. status_of v)

      last-kept : Keeps NoneFinished last
      last-kept =
          keeps-then NoneFinished (run_named again B.program main_name [] None None) (λ v. status_of v)
          (named-kept B.program fit.fitting.none B.functions fit.fitting.simple n main_name []) keeps-status

      rest-kept : Keeps NoneFinished (for_all B.program.initialisers (λ f. enter again f [] None None >> done) >> last)
      rest-kept =
          subst (λ fs. Keeps NoneFinished (for_all fs (λ f. enter again f [] None None >> done) >> last)) (sym initialisers)
          (keeps-next NoneFinished done last (keeps-gives NoneFinished tt) last-kept)

      none-finished : Always NoneFinished x
      none-finished =
          always-then NoneFinished (for_all (program_of files).constants (set_constant (plain.runs B.program B.functions n) B.program) (first_state B.program depth) w)
          (λ _. for_all B.program.initialisers (λ f. enter again f [] None None >> done) >> last) (constants.kept n depth w) (λ _. rest-kept)

      c-run : Option Function → Ran Called
      c-run o = start B.c_program n o depth first w

      nothing : NothingRegistered (started B.c_program depth n first.memory.next first.memory.next y)
      nothing = subst (λ o. NothingRegistered (start B.c_program n o depth first w)) found (registers n depth w)

      pub one-agrees : AgreesWith (files_mean files input heap depth n) (c_mean program input heap depth n)
      one-agrees =
          subst (λ o. AgreesWith (files_mean files input heap depth n) (c-outcome B.c_program depth n first.memory.next first.memory.next (start B.c_program n o depth first w)))
          (sym found) (agrees B.c_program depth n first.memory.next first.memory.next again B.program x y same none-finished nothing)

    pub program-agrees : ProgramAgrees files program
    program-agrees input is heap depth n = one-agrees input is heap depth n
