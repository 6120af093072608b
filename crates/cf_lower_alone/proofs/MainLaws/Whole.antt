-- What runs before the source's `main`, and it, in both.
use Rattle.std.proofs.Common.{◌≡◌, ℕ, suc, false, List, [], ◌∷◌, ◌++◌, length, ℤ, Option, Some, None, refl, ap, ◌∙◌, arith}
use Rattle.std.proofs.lemmas.Bool.Decides.{nat_tests}
use Rattle.std.specs.Prelude.{nat_eq}
use Rattle.cf_base.specs.World.{World, Ran, Went, Stops, and_then}
use Rattle.cf_core.specs.Types.{SourceType, parameters, result as result_type}
use Rattle.cf_core.specs.Core.{Function}
use Rattle.cf_core.specs.Run.{State, Did, Malformed, Act, ◌>>=◌, ◌>>◌, done, for_all, valid}
use Rattle.cf_core.specs.Calls as core
use Rattle.cf_core.specs.Calls.{Program, function_named, enter, enter_found}
use Rattle.cf_core.specs.Program.{first_state, status_of}
use Rattle.cf_lower_layout.specs.Sorts.{number, sort_of}
use Rattle.cf_plain.specs.Program.{PlainSetting, set_constant, main_run}
use Rattle.cf_plain.specs.Running.{calls}
use Rattle.cf_plain.specs.Running as plain
use Rattle.cf_base.specs.declared.kind.Kind.{Kind}
use Rattle.cc_whole.specs.Plain as c_tree
use Rattle.cc_whole.specs.Plain.{Statement, in_order}
use Rattle.cc_whole_mean.specs.Flow as c
use Rattle.cc_whole_mean.specs.Flow.{falling}
use Rattle.cc_whole_mean.specs.Mean as mean
use Rattle.cc_whole_mean.specs.Scope.{Scope}
use Rattle.cc_whole_mean.proofs.Growth.{grows-runs, grows-helps, grows-does_all, grows-falling}
use Rattle.cf_lower_steps.specs.Flows.{Simulates}
use Rattle.cf_lower_place.specs.Input.{IsInput}
use Rattle.cf_lower_bounds.proofs.Inputs.{takes-does_all, takes-helps, takes-runs, sim-on}
use Rattle.cf_lower_turns.proofs.Following.{sim-as, sim-of}
use Rattle.cf_lower_calls.specs.Returns.Called.{Programs, Pair, FunctionsAlike}
use Rattle.cf_lower_alone.specs.Added.{main_name, last_statements, main_scope, MainEnds, ReadyBehind}
use Rattle.cf_lower_alone.proofs.MainLaws.Status.{IsInt}
use Rattle.cf_lower_alone.proofs.MainLaws.Entering.{core_again, c_again, helps, c-last, source-last, main-called}

-- ---- statements behind statements

module _ (again helps : mean.Again) (p : mean.Program) (scope : Scope) (depth : ℕ) where
  abbrev all : List Statement → c.State → World → Ran c.Flow
  all ss t w = mean.does_all again helps p false (in_order ss) scope depth t w

  falls-then : (ss : c.State → World → Ran c.Flow) (rest : c.State → World → Ran c.Flow) (flow : c.Flow) (w : World)
      → falling (λ t w. and_then (ss t w) (falling rest)) flow w ≡ and_then (falling ss flow w) (falling rest)
  falls-then ss rest (c.Falls t) w = refl
  falls-then ss rest (c.Breaks t) w = refl
  falls-then ss rest (c.Continues t) w = refl
  falls-then ss rest (c.Returns v t) w = refl
  falls-then ss rest (c.Exits z t) w = refl

  goes-then : (x : Ran c.Flow) (ss rest : c.State → World → Ran c.Flow)
      → and_then x (falling (λ t w. and_then (ss t w) (falling rest))) ≡ and_then (and_then x (falling ss)) (falling rest)
  goes-then (Went flow w) ss rest = falls-then ss rest flow w
  goes-then (Stops end trace) ss rest = refl

  pub all-then : (xs ys : List Statement) (t : c.State) (w : World) → all (xs ++ ys) t w ≡ and_then (all xs t w) (falling (λ t w. all ys t w))
  all-then [] ys t w = refl
  all-then (x ∷ xs) ys t w =
      ap (λ go. and_then (mean.does again helps p false x scope depth t w) (falling go)) (λ j t w. all-then xs ys t w j)
      ∙ goes-then (mean.does again helps p false x scope depth t w) (λ t w. all xs t w) (λ t w. all ys t w)

-- ---- the source's `main`, if there is one

none-long : (n : ℕ) → nat_eq 0 (suc n) ≡ false
none-long n = grind (arith, nat_tests)

-- what is known of the function of that name: it is in both, and gives an int
pub record MainFits (B : Programs) (f : Function) : Type 0 where
  pub callee : c_tree.Function
  pub pair : Pair B f callee
  pub named : f.name ≡ main_name
  pub kind : Kind
  pub gives_int : sort_of (result_type f.type) ≡ Some (number kind)
  pub int : IsInt kind

module _ (B : Programs) (n : ℕ) (alike : FunctionsAlike B n) (fits : (f : Function) → function_named B.program main_name ≡ Some f → MainFits B f)
    (settings : List PlainSetting) (before : List Statement) (initialisers : B.program.initialisers ≡ []) where
  abbrev again : core.Again
  again = core_again B n alike

  -- where there are parameters, or there is no such function, the run is none that valid files make
  main-there : (b depth : ℕ) (s : State) (flow : c.Flow) (w : World) → IsInput w.input → (behind : ReadyBehind B depth b s flow)
      → Simulates MainEnds (source-last B n alike s w) (c-last B n alike b depth behind.after w)
  main-there b depth s flow w input behind = go (function_named B.program main_name) refl
    where
      by-parameters : (f : Function) → function_named B.program main_name ≡ Some f → (ts : List SourceType) → parameters f.type ≡ ts
          → Simulates MainEnds (source-last B n alike s w) (c-last B n alike b depth behind.after w)
      by-parameters f found [] none =
          let x = fits f found in
          main-called B n alike f x.callee x.pair x.named none x.kind x.gives_int x.int behind.map s behind.after behind.ready b depth behind.place behind.levels w input
      by-parameters f found (t ∷ ts) some =
          sim-of MainEnds (Went Malformed w) (source-last B n alike s w) (c-last B n alike b depth behind.after w)
          (ap (λ o. (enter_found again o [] None None >>= (λ v. status_of v)) s w) found
          ∙ ap (λ b. ((valid b >> enter again f [] None None) >>= (λ v. status_of v)) s w) (ap (λ n. nat_eq 0 n) (ap length some) ∙ none-long (length ts))) (record { by = tt })

      go : (o : Option Function) → function_named B.program main_name ≡ o → Simulates MainEnds (source-last B n alike s w) (c-last B n alike b depth behind.after w)
      go None is =
          sim-of MainEnds ((enter_found again None [] None None >>= (λ v. status_of v)) s w) (source-last B n alike s w) (c-last B n alike b depth behind.after w)
          (ap (λ o. (enter_found again o [] None None >>= (λ v. status_of v)) s w) is) (record { by = tt })
      go (Some f) is = by-parameters f is (parameters f.type) refl

  -- ---- all of it

  abbrev source-first : ℕ → World → Ran (Did (Unit {0}))
  source-first depth w = for_all settings (set_constant (plain.runs B.program B.functions n) B.program) (first_state B.program depth) w

  abbrev c-first : ℕ → ℕ → c.State → World → Ran c.Flow
  c-first b depth u w =
      mean.does_all (c_again B n alike) (helps B n alike) B.c_program false (in_order before) (main_scope B.c_program.names b) depth u w

  abbrev source-rest : Act ℤ
  source-rest = for_all B.program.initialisers (λ f. enter again f [] None None >> done) >> source-last B n alike

  rest-is : (s : State) (w : World) → source-rest s w ≡ source-last B n alike s w
  rest-is s w = ap (λ fs. (for_all fs (λ f. enter again f [] None None >> done) >> source-last B n alike) s w) initialisers

  abbrev pub c-all : ℕ → ℕ → c.State → World → Ran c.Flow
  c-all b depth u w =
      mean.does_all (c_again B n alike) (helps B n alike) B.c_program false (in_order (before ++ last_statements)) (main_scope B.c_program.names b) depth u w

  pub main-alike : (b depth : ℕ) (u : c.State) (w : World) → IsInput w.input → Simulates (λ a s flow. ReadyBehind B depth b s flow) (source-first depth w) (c-first b depth u w)
      → Simulates MainEnds (main_run (plain.runs B.program B.functions n) B.program settings (first_state B.program depth) w) (c-all b depth u w)
  main-alike b depth u w input sim =
      sim-as MainEnds (main_run (plain.runs B.program B.functions n) B.program settings (first_state B.program depth) w)
      (and_then (c-first b depth u w) (falling (λ t w. c-last B n alike b depth t w))) (c-all b depth u w)
      (all-then (c_again B n alike) (helps B n alike) B.c_program (main_scope B.c_program.names b) depth before last_statements u w)
      (sim-on (λ a s flow. ReadyBehind B depth b s flow) MainEnds w.input (source-first depth w) (c-first b depth u w) (λ a. source-rest)
      (falling (λ t w. c-last B n alike b depth t w))
      (takes-does_all (c_again B n alike) (helps B n alike) (takes-runs B.c_program n) (takes-helps B.c_program (c_again B n alike) (takes-runs B.c_program n) false) B.c_program
      false (in_order before) (main_scope B.c_program.names b) depth u w) input sim
      (λ a s flow w input behind.
      sim-as MainEnds (source-rest s w) (c-last B n alike b depth behind.after w) (falling (λ t w. c-last B n alike b depth t w) flow w)
      (ap (λ flow. falling (λ t w. c-last B n alike b depth t w) flow w) behind.is)
      (sim-of MainEnds (source-last B n alike s w) (source-rest s w) (c-last B n alike b depth behind.after w) (rest-is s w) (main-there b depth s flow w input behind)))
      (λ z t w. refl)
      (λ flow w. grows-falling (λ t w. c-last B n alike b depth t w)
      (λ t w. grows-does_all (c_again B n alike) (helps B n alike) (grows-runs B.c_program n) (grows-helps B.c_program (c_again B n alike) (grows-runs B.c_program n) false)
      B.c_program false (in_order last_statements) (main_scope B.c_program.names b) depth t w) flow w))
