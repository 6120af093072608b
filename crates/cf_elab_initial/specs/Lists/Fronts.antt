-- What stands at the front of a list of initialisers, by itself.
use Rattle.std.specs.Prelude.{ℕ, Bool, true, false, if◌then◌else◌, List, [], ◌∷◌, Option, None, Some}
use Rattle.cf_elab.specs.Lists.{Tree, leaf, text, branch, Plan, wrong, text_fits}
use Rattle.cf_elab_initial.specs.declared.lists.front.Front.{Front}
use Rattle.cf_elab_initial.specs.declared.lists.front.Front.TheVariants.{Nothing, Whole, Parts}
use Rattle.cf_elab_initial.specs.declared.lists.front.LoneText.{LoneText}

abbrev pub is_nil : List Tree → Bool
is_nil [] = true
is_nil (t ∷ ts) = false

abbrev pub brace_of : Tree → Option ℕ
brace_of (branch at ts) = Some at
brace_of other = None

abbrev pub whole : Front
whole = Whole

abbrev pub parts : ℕ → Front
parts at = Parts at

-- one that stands in braces is for a whole array, and so is a literal for one of chars
abbrev pub front_at : Bool → Tree → Front
front_at c (leaf at v) = Parts at
front_at c (text at n bytes) = if c then Whole else Parts at
front_at c (branch at ts) = Whole

abbrev pub front_by : Bool → Option Tree → Front
front_by c None = Nothing
front_by c (Some t) = front_at c t

-- the literal that is all of a list, with the place of the initialiser that it is
abbrev pub lone_text : Bool → List Tree → Option (ℕ × List ℕ)
lone_text true (text at n bytes ∷ []) = Some (at, bytes)
lone_text c ts = None

abbrev pub lone_seen : LoneText → ℕ × List ℕ
lone_seen x = (x.at, x.bytes)

-- a literal is for an array of chars alone
abbrev pub array_by_text : Bool → ℕ → ℕ → List ℕ → Plan
array_by_text c at n bytes = if c then text_fits at n bytes else wrong 28 at

-- the literal that is all of a list
abbrev pub lone_bytes : List Tree → Option (List ℕ)
lone_bytes (text at n bytes ∷ []) = Some bytes
lone_bytes ts = None

abbrev pub tail : List Tree → List Tree
tail [] = []
tail (t ∷ ts) = ts
