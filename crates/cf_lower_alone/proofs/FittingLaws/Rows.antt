-- The literals of programs.
use Rattle.std.proofs.Common.{◌≡◌, List, [], ◌∷◌, refl}
use Rattle.std.specs.Prelude.{Some, None, false, codes}
use Rattle.std.specs.Fmt.{digits}
use Rattle.cf_base.specs.declared.kind.Kind.TheVariants.{Int}
use Rattle.cf_core.specs.Types.{Name, SourceType, integer, takes, gives}
use Rattle.cf_core.specs.Core.{plain_function}
use Rattle.cf_plain.specs.Plain.{Plains, nothing, more, set, give, text, call, PlainFunction}
use Rattle.cc_whole_mean.specs.declared.named.Named.TheVariants as meant
use Rattle.cc_whole_mean.specs.declared.named.Shape.TheVariants.{Array as array}
use Rattle.cc_whole_mean.specs.Scope.{bind, no_names}
use Rattle.cf_lower_alone.specs.Programs.{texts_in}

abbrev int : SourceType
int = integer Int

abbrev function_of : Name → SourceType → List SourceType → Plains → PlainFunction
function_of name t locals ss = record {
  name = name;
  role = plain_function;
  type = t;
  locals = locals;
  body = ss;
  is_shared = false;
  is_local = false;
}

-- int f(int x){"a"; return g(x);}
abbrev names_literal : PlainFunction
names_literal =
    function_of (codes "f__Fi") (takes int (gives int false)) []
    (more (set 0 (text 0 (97 ∷ 0 ∷ []))) (more (set 0 (call (codes "g__Fi") (takes int (gives int false)) None (0 ∷ []) None)) (more (give (Some 0)) nothing)))

-- a literal goes by its function and number
literal-found : texts_in (names_literal ∷ []) (bind (codes "__s0__f__Fi") (meant.Variable 3 array) no_names) (codes "f__Fi") 0 ≡ Some (record { block = 3; bytes = 97 ∷ 0 ∷ [] })
unfolding digits
literal-found = refl

other-number : texts_in (names_literal ∷ []) no_names (codes "f__Fi") 1 ≡ None
other-number = refl
