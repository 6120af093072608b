-- What a function that reads gives, beside a reading function on lists of tokens.
use Rattle.std.specs.Prelude.{◌≡◌, List, Option, Some, None, Result, Ok, Err}
use Rattle.cf_base.specs.declared.memory.Memory.{Memory}
use Rattle.cf_tokens.specs.declared.token.Token.{Token}
use Rattle.cf_syntax.specs.Parse.{Parse}
use Rattle.cf_parse_expr.specs.declared.stop.Stop.{Stop}
use Rattle.cf_parse_expr.specs.declared.stop.Stop.TheVariants as stop

-- it stops with `Nothing` exactly where there is nothing to read, and for want of memory anywhere
abbrev pub StopsAs : {A : Type 0} → Option (A × List Token) → Stop → Type 0
StopsAs read stop.Nothing = read ≡ None
StopsAs read stop.Memory = Unit {0}

abbrev pub Reads : {A : Type 0} → Option (A × List Token) → Result A Stop → List Token → Type 0
Reads read (Ok a) new = read ≡ Some (a, new)
Reads read (Err e) new = StopsAs read e

-- the same of what reads something everywhere
abbrev pub Always : {A : Type 0} → Option (A × List Token) → Result A Memory → List Token → Type 0
Always read (Ok a) new = read ≡ Some (a, new)
Always read (Err e) new = Unit {0}

-- what goes on from a value that was read first, or else another reading
abbrev pub tried : {A B : Type 0} → Option (A × List Token) → (A → Parse B) → Option (B × List Token) → Option (B × List Token)
tried None f other = other
tried (Some q) f other = f q.0 q.1
