-- How what is written of a function's body goes on: its statements, and the locals of the scopes that are open.
use Rattle.std.specs.Prelude.{ℕ, suc, ◌+◌, Bool, true, false, if◌then◌else◌, List, [], ◌∷◌, ◌++◌, length, pos, take, drop, Option, Some, None}
use Rattle.cf_plain.specs.declared.action.Action.{Action}
use Rattle.cf_plain.specs.declared.action.Action.TheVariants as action
use Rattle.cf_plain.specs.declared.statement.Plain.{Plain}
use Rattle.cf_plain.specs.declared.statement.Plain.TheVariants as plain
use Rattle.cf_sequence_expr.specs.declared.temporaries.Temporary.{Temporary}
use Rattle.cf_sequence_expr.specs.declared.writing.Full.{Full}
use Rattle.cf_sequence_expr.specs.declared.writing.Writing.{Writing}
use Rattle.cf_sequence_expr.specs.Writes.{flag, put, set, act, used, emptied, branched}
use Rattle.cf_sequence_expr.specs.Pieces.{Piece, found_in}
use Rattle.cf_sequence_stmt.specs.declared.body.Body.{Body}
use Rattle.cf_sequence_stmt.specs.declared.body.Open.{Open}

-- statements of an expression
abbrev pub on : (Writing → Writing) → Body → Body
on f b = record b { writing = f b.writing }

-- the register behind those of the flags of a full expression that begins at this one
abbrev pub behind_flags : ℕ → Piece → ℕ
behind_flags n p = n + length (p.locals [])

-- Scopes.

-- a local is there
unfoldable pub opened : ℕ → ℕ → Body → Body
opened i t b = record b { scope = b.scope ++ record { number = i; ty = t } ∷ [] }

-- that of a reference's temporary is there too, if there is one (8.4.3)
unfoldable pub held_too : Option Open → Body → Body
held_too None b = b
held_too (Some x) b = opened x.number x.ty b

-- the locals so far, and that of a reference's temporary
abbrev pub with_held : Option Open → List Open → List Open
with_held None xs = xs
with_held (Some x) xs = xs ++ x ∷ []

-- locals end, the newest first (6.6)
abbrev pub ended : List Open → Writing → Writing
ended [] w = w
ended (x ∷ xs) w = act (action.Finish x.ty x.number) (ended xs w)

-- those that are open behind so many end, and stay open in what follows
unfoldable pub left_to : ℕ → Body → Body
left_to mark b = on (ended (drop mark b.scope)) b

-- they end with their scope
unfoldable pub closed_to : ℕ → Body → Body
closed_to mark b = let c = left_to mark b in record c { scope = take mark c.scope }

-- those behind so many are put aside, while others are declared in their place
unfoldable pub set_aside : ℕ → Body → Body
set_aside mark b = record b { scope = take mark b.scope }

-- they are there again, before those that were declared since
unfoldable pub taken_back : ℕ → List Open → Body → Body
taken_back mark xs b = record b { scope = (take mark b.scope ++ xs) ++ drop mark b.scope }

-- Expressions.

-- The flag of a temporary in a branch holds 0 before its full expression (12.2).
unfoldable pub cleared_one : Full → Temporary → Writing → Writing
cleared_one x t w = if t.in_branch then set (flag x t.local) (action.Number (pos 0)) w else w

abbrev pub cleared : Full → List Temporary → Writing → Writing
cleared x [] w = w
cleared x (t ∷ ts) w = cleared x ts (cleared_one x t w)

-- a temporary ends behind it, one in a branch where its flag is not 0
unfoldable pub over_one : Full → Temporary → Writing → Writing
over_one x t w =
    if t.in_branch
    then put (plain.If (flag x t.local) (plain.Act (action.Finish t.ty t.local) ∷ []) []) w
    else act (action.Finish t.ty t.local) w

-- the newest first
abbrev pub over : Full → List Temporary → Writing → Writing
over x [] w = w
over x (t ∷ ts) w = over_one x t (over x ts w)

-- the full expression whose locals come behind those so far, with its flags from this register on
abbrev pub full_at : ℕ → Writing → Full
full_at n w = record { first = w.next; base = n }

-- its value comes into the register behind the flags
unfoldable pub entered : ℕ → Piece → Writing → Writing
entered n p w = let x = full_at n w in p.value x (behind_flags n p) (cleared x (found_in p w.next) w)

-- its temporaries end; it began where this was written
unfoldable pub left_behind : ℕ → Piece → Writing → Writing → Writing
left_behind n p before w = over (full_at n before) (found_in p before.next) w

-- an expression by itself (6.2)
unfoldable pub full : Piece → Body → Body
full p b = on (λ w. left_behind 0 p w (entered 0 p w)) b

-- the value of an expression that is used
unfoldable pub given : Piece → Body → Body
given p b = on (λ w. left_behind 0 p w (used (behind_flags 0 p) (entered 0 p w))) b

-- a condition, as 1 or 0
unfoldable pub tested : Piece → Body → Body
tested p b = on (λ w. left_behind 0 p w (set (behind_flags 0 p) (action.Truth (behind_flags 0 p)) (entered 0 p w))) b

-- What an initialiser does with an object whose place is in a register (8.4).
pub data Initial : Type 0 where
  does_nothing : Initial
  fills : (ℕ → Action) → Initial  -- it fills the object whose place is in this register by itself (8.4.1, 8.4.2)
  lists : (ℕ → ℕ → ℕ → Writing → Writing) → Initial  -- it starts the elements of an array of this type, whose place is in this register; this one is free (8.4.1)
  gives : Initial  -- it gives a value to put there

abbrev pub is_blank : Initial → Bool
is_blank does_nothing = true
is_blank (fills a) = false
is_blank (lists f) = false
is_blank gives = false

-- the initialiser of an object of this type whose place is in this register
unfoldable pub started : Initial → Piece → ℕ → ℕ → Writing → Writing
started does_nothing p t n w = w
started (fills a) p t n w = act (a n) w
started (lists f) p t n w = f t n (behind_flags (suc n) p) w
started gives p t n w = left_behind (suc n) p w (act (action.First n (behind_flags (suc n) p)) (entered (suc n) p w))

-- The place of the element of this number comes into register m: that of its array is in register n (8.4.1).
unfoldable pub element_placed : ℕ → ℕ → ℕ → Writing → Writing
element_placed n m i w = set m (action.Index m (suc m)) (set (suc m) (action.Number (pos i)) (set m (action.Decay n) w))

-- a local with its initialiser, behind the temporary that it binds (6.7, 8.4.3)
unfoldable pub declared : ℕ → ℕ → Initial → Option Open → Piece → Body → Body
declared i t initial held p b = opened i t (held_too held (on (λ w. started initial p t 0 (set 0 (action.Declare i t) w)) b))

-- Control reaches a static object, and its place comes into register 0: that of a reference itself, where its initialiser is one's (6.7, 8.4.3).
unfoldable pub reached : List ℕ → ℕ → Bool → Writing → Writing
reached name t binds w =
    if binds then set 0 (action.Reach name) w else set 0 (action.Static name t) (act (action.Reach name) w)

-- a static object with its initialiser, if it has one (8.4)
unfoldable pub placed : List ℕ → ℕ → Bool → Initial → Piece → Writing → Writing
placed name t binds initial p w =
    if is_blank initial then w else act (action.FinishStatic name) (started initial p t 0 (reached name t binds w))

-- Statements.

unfoldable pub stated : Plain → Body → Body
stated s b = on (put s) b

-- what is written next begins a list of its own
unfoldable pub begun : Body → Body
begun b = on emptied b

-- a branch behind these statements
unfoldable pub chosen : ℕ → List Plain → List Plain → Body → Body
chosen n before first b = on (branched n before first) b

-- a loop behind these statements: its body was written last
unfoldable pub turned : List Plain → List Plain → Body → Body
turned before next b = on (λ w. record w { code = before ++ plain.Loop w.code next ∷ [] }) b

-- a switch behind these statements: its body was written last
unfoldable pub switched : ℕ → List Plain → Body → Body
switched n before b = on (λ w. record w { code = before ++ plain.Switch n w.code ∷ [] }) b

-- these statements stand for those that were written last
unfoldable pub with_code : List Plain → Body → Body
with_code code b = on (λ w. record w { code = code }) b

-- these locals are there, the oldest first
abbrev pub there : List Open → Writing → Writing
there [] w = w
there (x ∷ xs) w = there xs (act (action.Declare x.number x.ty) w)

-- a label behind which these locals are there, and then the end of the switch
unfoldable pub passed_at : Plain → List Open → Body → Body
passed_at l xs b = stated plain.Break (on (there xs) (stated l b))
