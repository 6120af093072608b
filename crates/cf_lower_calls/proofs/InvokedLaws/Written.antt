-- The C's run of a call by name: the function is entered.
use Rattle.std.proofs.Common.{◌≡◌, ℕ, Bool, true, false, ◌==◌, if◌then◌else◌, List, length, refl, sym, ◌∙◌, ap}
use Rattle.std.specs.Prelude.{Option, Some, None, Result, Ok}
use Rattle.cf_base.specs.Event.{Enter}
use Rattle.cf_base.specs.World.{World, Ran, and_then, spend, deeper, show}
use Rattle.cf_core.specs.Types.{Name}
use Rattle.cc_whole.specs.Known.{is_helper, is_main}
use Rattle.cc_whole.specs.Plain as c_tree
use Rattle.cc_whole.specs.Plain.{Expression, by_name}
use Rattle.cc_whole_memory.specs.declared.value.Value.{Value}
use Rattle.cc_whole_mean.specs.declared.named.Target.{Target}
use Rattle.cc_whole_mean.specs.Callee.{Callee, own, callee_named}
use Rattle.cc_whole_mean.specs.Flow.{State, Flow, tried, Called}
use Rattle.cc_whole_mean.specs.Library.{wrong}
use Rattle.cc_whole_mean.specs.Mean.{Program, Again, run_function, enter_helper, enter_function, enter, called, go_back, targeted, does}
use Rattle.cc_whole_mean.specs.Scope.{Scope}
use Rattle.cc_whole_mean.specs.Values.{values_of}

module _ (again helps : Again) (p : Program) (helper : Bool) (scope : Scope) (depth : ℕ) (s : State) (w : World) (f : c_tree.Function) (name : Name) (es : List Expression)
    (vs : List Value) (values : values_of es scope s.memory ≡ Ok vs) (found : callee_named p.functions name ≡ Ok (own f)) (named : f.prototype.name ≡ name)
    (no_main : is_main name ≡ false) (no_helper : is_helper name ≡ false) (count : length f.prototype.parameters == length vs ≡ true) where
  abbrev entered : Ran Called
  entered = spend w (λ w. deeper depth w (λ d. run_function (again false) p.names f vs d s (show (Enter name) w)))

  pub function-entered : called again helps p helper (own f) vs depth s w ≡ entered
  function-entered =
      ap (λ b. if b then wrong w else (if length f.prototype.parameters == length vs then enter again helps p.names helper f vs depth s w else wrong w))
      (ap is_main named ∙ no_main)
      ∙ ap (λ b. if b then enter again helps p.names helper f vs depth s w else wrong w) count
      ∙ ap (λ b. if b then enter_helper helper helps p.names f vs depth s w else enter_function again p.names f vs depth s w) (ap is_helper named ∙ no_helper)
      ∙ ap (λ i. spend w (λ w. deeper depth w (λ d. run_function (again false) p.names f vs d s (show (Enter i) w)))) named

  pub call-runs : (place : Option c_tree.Place) (at : Option Target) → targeted place scope s.memory ≡ Ok at
      → does again helps p helper (c_tree.call place (by_name name) es) scope depth s w ≡ and_then entered (λ r w. go_back at r w)
  call-runs place at target =
      ap (λ x. tried x w (λ at. tried (values_of es scope s.memory) w (λ vs. tried (callee_named p.functions name) w
      (λ c. and_then (called again helps p helper c vs depth s w) (λ r w. go_back at r w))))) target
      ∙ ap (λ x. tried x w (λ vs. tried (callee_named p.functions name) w (λ c. and_then (called again helps p helper c vs depth s w) (λ r w. go_back at r w)))) values
      ∙ ap (λ x. tried x w (λ c. and_then (called again helps p helper c vs depth s w) (λ r w. go_back at r w))) found
      ∙ ap (λ x. and_then x (λ r w. go_back at r w)) function-entered
