-- Where a statement stands: the locals whose scopes are open are those that the definition ends on each way out.
use Rattle.std.proofs.Common.{◌≡◌, ℕ, zero, suc, ◌≤◌, false, List, [], ◌∷◌, ◌++◌, length, drop, refl, ap, sym, ◌∙◌, append_assoc, length-append, arith}
use Rattle.cf_core.specs.Types.{is_class}
use Rattle.cf_core.specs.FromTypes.{Tables}
use Rattle.cf_sequence.specs.Made.{Local}
use Rattle.cf_sequence.specs.Statements.{Inside, declares, opened, in_loop, in_switch}
use Rattle.cf_sequence_stmt.specs.declared.body.Body.{Body}
use Rattle.cf_sequence_stmt.specs.declared.body.Open.{Open}
use Rattle.cf_sequence_stmt.specs.declared.body.Ways.{Ways}
use Rattle.cf_sequence_stmt.specs.Steps.{inside_loop, inside_switch}
use Rattle.cf_sequence_written.proofs.Opens.{ends, ends-more}

drop-within : {A : Type 0} (mark : ℕ) (xs ys : List A) → mark ≤ length xs → drop mark (xs ++ ys) ≡ drop mark xs ++ ys
drop-within zero xs ys within = refl
drop-within (suc mark) [] ys within = absurd (omega (arith, within))
drop-within (suc mark) (x ∷ xs) ys within = drop-within mark xs ys (omega (arith, within))

drop-all : {A : Type 0} (xs : List A) → drop (length xs) xs ≡ []
drop-all [] = refl
drop-all (x ∷ xs) = drop-all xs

module _ (tables : Tables) where
  pub record Stands (f : Inside) (ways : Ways) (scope : List Open) : Type 0 where
    pub breaks : f.here ++ f.breaks ≡ ends tables (drop ways.breaks scope)
    pub continues : f.here ++ f.continues ≡ ends tables (drop ways.continues scope)
    pub returns : f.here ++ f.returns ≡ ends tables scope
    pub breaks_within : ways.breaks ≤ length scope
    pub continues_within : ways.continues ≤ length scope
    pub scalar : is_class f.result ≡ false

  further : (here away ls : List Local) (mark : ℕ) (scope opens : List Open) → here ++ away ≡ ends tables (drop mark scope) → mark ≤ length scope → ends tables opens ≡ ls
      → (ls ++ here) ++ away ≡ ends tables (drop mark (scope ++ opens))
  further here away ls mark scope opens is within those =
      append_assoc ls here away ∙ ap (λ l. ls ++ l) is ∙ ap (λ l. l ++ ends tables (drop mark scope)) (sym those)
      ∙ sym (ends-more tables (drop mark scope) opens) ∙ ap (ends tables) (sym (drop-within mark scope opens within))

  longer : (mark : ℕ) (scope opens : List Open) → mark ≤ length scope → mark ≤ length (scope ++ opens)
  longer mark scope opens within = let count = length-append scope opens in omega (arith, within, count)

  -- behind declarations
  pub stands-more : {f : Inside} {ways : Ways} {scope : List Open} (opens : List Open) (ls : List Local) → ends tables opens ≡ ls → Stands f ways scope
      → Stands (declares ls f) ways (scope ++ opens)
  stands-more {f} {ways} {scope} opens ls those at = record {
    breaks = further f.here f.breaks ls ways.breaks scope opens at.breaks at.breaks_within those;
    continues = further f.here f.continues ls ways.continues scope opens at.continues at.continues_within those;
    returns = further f.here f.returns ls 0 scope opens at.returns (omega arith) those;
    breaks_within = longer ways.breaks scope opens at.breaks_within;
    continues_within = longer ways.continues scope opens at.continues_within;
    scalar = at.scalar;
  }

  -- in an inner scope
  pub stands-opened : {f : Inside} {ways : Ways} {scope : List Open} → Stands f ways scope → Stands (opened f) ways scope
  stands-opened at = record {
    breaks = at.breaks;
    continues = at.continues;
    returns = at.returns;
    breaks_within = at.breaks_within;
    continues_within = at.continues_within;
    scalar = at.scalar;
  }

  here-alone : (scope : List Open) → [] ≡ ends tables (drop (length scope) scope)
  here-alone scope = sym (ap (ends tables) (drop-all scope))

  pub stands-in_loop : {f : Inside} {ways : Ways} (b : Body) → Stands f ways b.scope → Stands (in_loop f) (inside_loop b) b.scope
  stands-in_loop b at = record {
    breaks = here-alone b.scope;
    continues = here-alone b.scope;
    returns = at.returns;
    breaks_within = omega arith;
    continues_within = omega arith;
    scalar = at.scalar;
  }

  pub stands-in_switch : {f : Inside} {ways : Ways} (b : Body) → Stands f ways b.scope → Stands (in_switch f) (inside_switch ways b) b.scope
  stands-in_switch b at = record {
    breaks = here-alone b.scope;
    continues = at.continues;
    returns = at.returns;
    breaks_within = omega arith;
    continues_within = at.continues_within;
    scalar = at.scalar;
  }
