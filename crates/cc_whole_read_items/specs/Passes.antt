-- What a pass of reading ensures.
use Rattle.std.specs.Prelude.{ℕ, ◌-◌, List, Result, Ok, Err}
use Rattle.cc_whole_tokens.specs.declared.token.Token.{Token}
use Rattle.cc_whole.specs.declared.unit.CItem.{CItem}
use Rattle.cc_whole_reading.specs.declared.stop.Stop.{Stop}
use Rattle.cc_whole_reading.specs.declared.stop.Stop.TheVariants as stop
use Rattle.cc_whole_reading.specs.Parse.{Reads}
use Rattle.cc_whole_read_items.specs.declared.tokens.ItemsErr.{ItemsErr}
use Rattle.cc_whole_read_items.specs.declared.tokens.ItemsErr.TheVariants as error

-- what is read, whatever is left
abbrev pub ReadsWhole : {A : Type 0} → Result (A × List Token) Stop → Result A Stop → Type 0
ReadsWhole read r = (new : List Token) × Reads read r new

-- what the second pass tells: only the first stops at a constant
abbrev pub second_answer : ℕ → Result (List CItem) Stop → ItemsErr
second_answer n (Ok items) = error.Wide
second_answer n (Err (stop.NotC left)) = error.NotC (n - left)
second_answer n (Err (stop.Unfit left)) = error.Wide
second_answer n (Err stop.Memory) = error.Memory
