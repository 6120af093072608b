-- The choice among functions of one name (13.2).
use Rattle.std.specs.Prelude.{ℕ, ◌+◌, Bool, true, false, not, ◌==◌, ◌&&◌, ◌||◌, nat_le, if◌then◌else◌, List, [], ◌∷◌, length, Option, None, Some}
use Rattle.std.specs.List.{list_all}
use Rattle.cf_types.specs.Table.{Table}
use Rattle.cf_classes.specs.declared.class.ClassDef.{ClassDef}
use Rattle.cf_convert.specs.declared.conv.Val.{Val}
use Rattle.cf_convert.specs.declared.conv.ConvStep.{ConvStep}
use Rattle.cf_convert.specs.Converts.{steps}
use Rattle.cf_convert.specs.Better.{is_better}
use Rattle.cf_convert.specs.UserConversion.{User, One, Nothing, Many, Serving, by_user, is_better_user}

-- the types of a function's parameters, and how many arguments it takes at least
pub record Candidate : Type 0 where
  pub params : List ℕ
  pub least : ℕ

-- how an argument becomes a parameter: by a standard conversion, by a user's function, or by several of them, which is a fault when it is made
pub data Way : Type 0 where
  standard : List ConvStep → Way
  through : Serving → Way
  several : Way

pub data Choice : Type 0 where
  Chosen : ℕ → Choice
  NoMatch : Choice
  Tie : Choice

module _ (types : Table) (ds : List (ℕ × ClassDef)) where
  abbrev pub user_way : User → Option Way
  user_way (One s) = Some (through s)
  user_way Nothing = None
  user_way Many = Some several

  abbrev pub way_or : Option (List ConvStep) → User → Option Way
  way_or (Some ss) user = Some (standard ss)
  way_or None user = user_way user

  abbrev pub way : Val → ℕ → Option Way
  way v t = way_or (steps types ds v t) (by_user types ds v t)

  -- one conversion is better than another; any standard one is better than a user's
  abbrev pub better : ℕ → Way → ℕ → Way → Bool
  better t (standard x) u (standard y) = is_better types ds t x u y
  better t (standard x) u y = true
  better t (through x) u (through y) = is_better_user types ds t x u y
  better t x u y = false

  -- a candidate that matches: its number, and for each argument the parameter's type and the way to it
  abbrev pub ways : List Val → List ℕ → Option (List (ℕ × Way))
  ways [] ps = Some []
  ways (v ∷ vs) [] = None
  ways (v ∷ vs) (p ∷ ps) = joined (way v p) (ways vs ps)
    where
      joined : Option Way → Option (List (ℕ × Way)) → Option (List (ℕ × Way))
      joined (Some w) (Some ws) = Some ((p, w) ∷ ws)
      joined w ws = None

  abbrev pub matches : List Val → Candidate → Option (List (ℕ × Way))
  matches args c = if nat_le c.least (length args) && nat_le (length args) (length c.params) then ways args c.params else None

  abbrev pub matching : List Val → ℕ → List Candidate → List (ℕ × List (ℕ × Way))
  matching args n [] = []
  matching args n (c ∷ cs) = listed (matches args c) (matching args (n + 1) cs)
    where
      listed : Option (List (ℕ × Way)) → List (ℕ × List (ℕ × Way)) → List (ℕ × List (ℕ × Way))
      listed None rest = rest
      listed (Some ws) rest = (n, ws) ∷ rest

  -- on no argument is the other better
  abbrev pub never_worse : List (ℕ × Way) → List (ℕ × Way) → Bool
  never_worse [] ys = true
  never_worse (x ∷ xs) [] = true
  never_worse (x ∷ xs) (y ∷ ys) = not (better y.0 y.1 x.0 x.1) && never_worse xs ys

  abbrev pub somewhere_better : List (ℕ × Way) → List (ℕ × Way) → Bool
  somewhere_better [] ys = false
  somewhere_better (x ∷ xs) [] = false
  somewhere_better (x ∷ xs) (y ∷ ys) = better x.0 x.1 y.0 y.1 || somewhere_better xs ys

  -- It is in the best set of each argument, which holds those that no other is better than, and strictly better than each other somewhere.
  abbrev pub wins : List (ℕ × List (ℕ × Way)) → ℕ × List (ℕ × Way) → Bool
  wins all c = list_all (λ (d : ℕ × List (ℕ × Way)). (c.0 == d.0) || (never_worse c.1 d.1 && somewhere_better c.1 d.1)) all

  abbrev pub winner : List (ℕ × List (ℕ × Way)) → List (ℕ × List (ℕ × Way)) → Choice
  winner all [] = Tie
  winner all (c ∷ cs) = if wins all c then Chosen c.0 else winner all cs

  abbrev pub choice_of : List (ℕ × List (ℕ × Way)) → Choice
  choice_of [] = NoMatch
  choice_of (c ∷ cs) = winner (c ∷ cs) (c ∷ cs)

  abbrev pub best : List Candidate → List Val → Choice
  best cands args = choice_of (matching args 0 cands)
