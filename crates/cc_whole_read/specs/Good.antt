-- Tokens as a text has them: names are names, and strings have bytes.
use Rattle.std.specs.Prelude.{nat_lt, Bool, true, List}
use Rattle.std.specs.List.{list_all}
use Rattle.cc_whole_tokens.specs.declared.token.Token.{Token}
use Rattle.cc_whole_tokens.specs.declared.token.Token.TheVariants as token
use Rattle.cc_whole_tokens.specs.Token.{is_name}

abbrev pub good : Token → Bool
good (token.Name name) = is_name name
good (token.Text bytes) = list_all (λ b. nat_lt b 256) bytes
good t = true

abbrev pub all_good : List Token → Bool
all_good ts = list_all good ts
