-- The source's run of a call: the function is entered, if its type fits.
use Rattle.std.proofs.Common.{◌≡◌, ℕ, Bool, true, false, List, [], ◌∷◌, length, refl, sym, ◌∙◌, ap, arith}
use Rattle.std.specs.Prelude.{Option, Some, None, nat_eq}
use Rattle.std.proofs.lemmas.Bool.Decides.{nat_tests}
use Rattle.cf_base.specs.World.{World, Ran, Went, and_then}
use Rattle.cf_core.specs.Types.{SourceType, parameters, same_but_const}
use Rattle.cf_core.specs.Core.{Function}
use Rattle.cf_core.specs.Store.{Value}
use Rattle.cf_core.specs.Run.{State, Did, Gives, Act, onward, ◌>>=◌, ◌>>◌, gives, malformed, done, need, some_or, valid, when}
use Rattle.cf_core.specs.Calls as core
use Rattle.cf_core.specs.Calls.{Program, function_named, is_library, has_type, call_library, enter, enter_found}
use Rattle.cf_plain.specs.Plain as plain
use Rattle.cf_plain.specs.Acts.{Registers, objects_of, acts}
use Rattle.cf_lower_calls.specs.Arguments.Passing.{ArgumentsThere}

-- the objects of the arguments are found
pub objects-are : (s : State) (w : World) (is os : List ℕ) → ArgumentsThere s is os → objects_of is s w ≡ Went (Gives os s) w
objects-are s w [] [] xs = refl
objects-are s w [] (o ∷ os) xs = absurd xs
objects-are s w (i ∷ is) [] xs = absurd xs
objects-are s w (i ∷ is) (o ∷ os) xs =
    ap (λ x. (some_or x malformed >>= (λ q. objects_of is >>= (λ qs. gives (q ∷ qs)))) s w) xs.0.local
    ∙ ap (λ r. and_then r (λ did w. onward did (λ qs. gives (o ∷ qs)) w)) (objects-are s w is os xs.1)

pub as-long : (i j : ℕ) → i ≡ j → nat_eq i j ≡ true
as-long i j e = grind (arith, nat_tests)

module _ (again : core.Again) (P : Program) (f : Function) (found : function_named P f.name ≡ Some f) (no_library : is_library f.name ≡ false) (t : SourceType)
    (g : Registers) (s : State) (w : World) (is os : List ℕ) (there : ArgumentsThere s is os) where
  abbrev call-by : Bool → Option Function → Act Value
  call-by b x =
      when b done (has_type x t)
      >> (objects_of is >>= (λ qs. elim b as (λ a. Act Value) [ true ↦ call_library f.name qs | false ↦ enter_found again x qs None None ]))

  -- what the function does is behind the test of its type
  abbrev pub entering : List ℕ → Act Value
  entering qs = valid (nat_eq (length qs) (length (parameters f.type))) >> enter again f qs None None

  pub call-tested : acts again P g (plain.call f.name t None is None) s w ≡ (need (same_but_const f.type t) 9 >> (objects_of is >>= entering)) s w
  call-tested = ap (λ b. call-by b (function_named P f.name) s w) no_library ∙ ap (λ x. call-by false x s w) found

  pub call-entered : length os ≡ length (parameters f.type) → (objects_of is >>= entering) s w ≡ enter again f os None None s w
  call-entered many =
      ap (λ r. and_then r (λ did w. onward did entering w)) (objects-are s w is os there) ∙ ap (λ b. (valid b >> enter again f os None None) s w) (as-long (length os) (length (parameters f.type)) many)
