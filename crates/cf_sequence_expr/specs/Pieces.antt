-- What is written for the values of expressions, node by node: the locals that a node adds to its function, the temporaries of a full expression, and how
-- what is written goes on.
use Rattle.std.specs.Prelude.{ℕ, suc, ◌+◌, Bool, true, false, List, [], ◌∷◌, ◌++◌, length, pos, Option, Some, None, slice_get}
use Rattle.cf_types.specs.Table.{Table}
use Rattle.cf_core.specs.declared.node.Core.{Core as Node, fold-Core}
use Rattle.cf_core.specs.declared.node.Core.TheOpen.{Core-F}
use Rattle.cf_core.specs.declared.node.PartStart.{PartStart, PartStart-F, fold-PartStart}
use Rattle.cf_core.specs.declared.node.Change.{Change}
use Rattle.cf_core.specs.declared.node.Holder.{Holder}
use Rattle.cf_core.specs.declared.node.Holder.TheVariants as holder
use Rattle.cf_plain.specs.declared.action.Action.TheVariants as action
use Rattle.cf_sequence_expr.specs.declared.temporaries.Found.{Found}
use Rattle.cf_sequence_expr.specs.declared.temporaries.Temporary.{Temporary}
use Rattle.cf_sequence_expr.specs.declared.writing.Full.{Full}
use Rattle.cf_sequence_expr.specs.declared.writing.Writing.{Writing}
use Rattle.cf_sequence_expr.specs.Parameters.{parameters_at, counted}
use Rattle.cf_sequence_expr.specs.Finds.{skipped, listed}
use Rattle.cf_sequence_expr.specs.Writes.{flag, set, act, used, within, passed}

pub record Piece : Type 0 where
  -- the types of the locals that it adds, behind those so far
  pub locals : List ℕ → List ℕ
  -- its value comes into a register, in a full expression
  pub value : Full → ℕ → Writing → Writing
  -- its temporaries, in a branch or not, behind those that are found so far
  pub finds : Bool → Found → Found

-- Locals.

abbrev pub in_two : Piece → Piece → List ℕ → List ℕ
in_two a b l = b.locals (a.locals l)

abbrev pub in_three : Piece → Piece → Piece → List ℕ → List ℕ
in_three a b c l = c.locals (b.locals (a.locals l))

abbrev pub in_all : List Piece → List ℕ → List ℕ
in_all [] l = l
in_all (e ∷ es) l = in_all es (e.locals l)

abbrev pub in_maybe : Option Piece → List ℕ → List ℕ
in_maybe None l = l
in_maybe (Some e) l = e.locals l

-- Values.

-- what is written for nothing, or for what is no value
abbrev pub silent : Full → ℕ → Writing → Writing
silent x n w = w

-- a first operand
unfoldable pub left : Piece → Full → ℕ → Writing → Writing
left e x n w = used n (e.value x n w)

-- two operands, in this register and the next
abbrev pub two : Piece → Piece → Full → ℕ → Writing → Writing
two a b x n w = b.value x (suc n) (left a x n w)

-- the value as 1 or 0
unfoldable pub truth : Piece → Full → ℕ → Writing → Writing
truth e x n w = set n (action.Truth n) (e.value x n w)

abbrev pub all_values : List Piece → Full → ℕ → Writing → Writing
all_values [] x n w = w
all_values (e ∷ es) x n w = all_values es x n (e.value x n w)

-- `op=`: the new value is made of the old one behind the right side (5.17)
unfoldable pub updated : Change → ℕ → Writing → Writing
updated change n w =
    act (action.Store n (suc n)) (set (suc n) (action.Changed change (suc (suc n)) (suc n)) (set (suc (suc n)) (action.Read n) (used (suc n) w)))

-- `++` and `--` of the place in this register; the place stays
unfoldable pub stepped : Change → ℕ → Writing → Writing
stepped change n w =
    act (action.Store n (suc n))
    (set (suc n) (action.Changed change (suc n) (suc (suc n)))
    (set (suc (suc n)) (action.Number (pos 1))
    (set (suc n) (action.Read n) w)))

-- those behind an operand, whose place is in the next register; the value before stays (5.2.5)
unfoldable pub stepped_behind : Change → ℕ → Writing → Writing
stepped_behind change n w =
    act (action.Store (suc n) (suc (suc n)))
    (set (suc (suc n)) (action.Changed change n (suc (suc n)))
    (set (suc (suc n)) (action.Number (pos 1))
    (set n (action.Read (suc n)) w)))

-- A parameter's object is there before its argument is evaluated (5.2.2). An argument without a parameter is left out.
unfoldable pub argument : Option ℕ → Piece → Full → ℕ → ℕ → Writing → Writing
argument None e x n i w = passed (length (e.locals [])) w
argument (Some t) e x n i w = act (action.First n (suc n)) (e.value x (suc n) (set n (action.Declare i t) w))

-- the arguments from number j on, for parameters that are the locals from k
abbrev pub arguments : List ℕ → ℕ → List Piece → Full → ℕ → ℕ → Writing → Writing
arguments ts j [] x n k w = w
arguments ts j (e ∷ es) x n k w = arguments ts (suc j) es x n k (argument (slice_get ts j) e x n (k + j) w)

-- a call by name
unfoldable pub called : List ℕ → ℕ → List ℕ → List Piece → Full → ℕ → Writing → Writing
called name t ts es x n w =
    set n (action.Call name t None (counted w.next (length ts)) None)
    (arguments ts 0 es x n w.next (passed (length ts) (act (action.Function name t) w)))

abbrev pub by_increment : Bool → Change → Piece → Full → ℕ → Writing → Writing
by_increment false change e x n w = stepped change n (e.value x n w)
by_increment true change e x n w = stepped_behind change n (e.value x (suc n) w)

-- The temporary of a local reference is a local of its own: it is there, its place comes into this register, and its value is put there (8.4.3, 12.2).
unfoldable pub held : ℕ → ℕ → Piece → Full → ℕ → Writing → Writing
held i t e x n w =
    act (action.First (suc n) (suc (suc n))) (e.value x (suc (suc n)) (set n (action.Local i) (set (suc n) (action.Declare i t) w)))

-- That of a static reference is a static object of its own, which the value begins; its place comes into this register (8.4.3).
unfoldable pub static_held : List ℕ → Piece → Full → ℕ → Writing → Writing
static_held name e x n w = act (action.First n (suc n)) (set n (action.FinishStatic name) (e.value x (suc n) w))

abbrev pub by_holder : Holder → Piece → Full → ℕ → Writing → Writing
by_holder holder.NoTemporary e x n w = e.value x n w
by_holder (holder.LocalTemporary i t) e x n w = held i t e x n w
by_holder (holder.StaticTemporary name) e x n w = static_held name e x n w

abbrev pub by_call : List ℕ → ℕ → List ℕ → Option Piece → List Piece → Full → ℕ → Writing → Writing
by_call name t ts None es x n w = called name t ts es x n w
by_call name t ts (Some object) es x n w = w

-- what a pointer holds is there before the arguments; the objects of the parameters are numbered first
unfoldable pub callee : List ℕ → Piece → Full → ℕ → Writing → Writing
callee ts e x n w = used n (e.value x n (passed (length ts) w))

-- a call of what the pointer in this register holds, for parameters that are the locals from k
unfoldable pub pointed : ℕ → List ℕ → List Piece → Full → ℕ → ℕ → Writing → Writing
pointed t ts es x n k w = set n (action.PointerCall None n t (counted k (length ts)) None) (arguments ts 0 es x (suc n) k w)

abbrev pub by_pointer : Option Piece → Piece → ℕ → List ℕ → List Piece → Full → ℕ → Writing → Writing
by_pointer None e t ts es x n w = pointed t ts es x n w.next (callee ts e x n w)
by_pointer (Some object) e t ts es x n w = w

-- A temporary of the full expression is the next local: it is there, its place comes into this register and its value is put there, and its flag is set (12.2).
unfoldable pub temporary : ℕ → Piece → Full → ℕ → Writing → Writing
temporary t e x n w =
    set (flag x w.next) (action.Number (pos 1))
    (act (action.First (suc n) (suc (suc n)))
    (e.value x (suc (suc n)) (set n (action.Local w.next) (set (suc n) (action.Declare w.next t) (passed 1 w)))))

-- Temporaries, in the order in which they are there (12.2).

-- of what has none, or is no value
abbrev pub find_none : Bool → Found → Found
find_none b f = f

abbrev pub find_two : Piece → Piece → Bool → Found → Found
find_two p q b f = q.finds b (p.finds b f)

-- the second in a branch
abbrev pub find_right : Piece → Piece → Bool → Found → Found
find_right p q b f = q.finds true (p.finds b f)

abbrev pub find_arms : Piece → Piece → Piece → Bool → Found → Found
find_arms c p q b f = q.finds true (p.finds true (c.finds b f))

abbrev pub find_all : List Piece → Bool → Found → Found
find_all [] b f = f
find_all (e ∷ es) b f = find_all es b (e.finds b f)

-- one is there once its own initialiser is done
abbrev pub find_temporary : ℕ → Piece → Bool → Found → Found
find_temporary t e b f = listed f.next t b (e.finds b (skipped 1 f))

abbrev pub find_call : ℕ → Option Piece → List Piece → Bool → Found → Found
find_call count None es b f = find_all es b (skipped count f)
find_call count (Some object) es b f = f

abbrev pub find_pointer : ℕ → Option Piece → Piece → List Piece → Bool → Found → Found
find_pointer count None e es b f = find_all es b (e.finds b (skipped count f))
find_pointer count (Some object) e es b f = f

-- those of a full expression whose locals are numbered from the first
abbrev pub found_in : Piece → ℕ → List Temporary
found_in p first = Found.made (p.finds false (record { next = first; made = [] }))

module _ (types : Table) where
  abbrev pub piece_step : Core-F Piece Piece → Piece
  piece_step (Core-F.Number at z) = record { locals = λ l. l; value = λ x n. set n (action.Number z); finds = find_none }
  piece_step (Core-F.Text at j bytes) = record { locals = λ l. l; value = λ x n. set n (action.Text j bytes); finds = find_none }
  piece_step (Core-F.This at) = record { locals = λ l. l; value = silent; finds = find_none }
  piece_step (Core-F.Local at i) = record { locals = λ l. l; value = λ x n. set n (action.Local i); finds = find_none }
  piece_step (Core-F.Static at name t) = record { locals = λ l. l; value = λ x n. set n (action.Static name t); finds = find_none }
  piece_step (Core-F.Function at name t) = record { locals = λ l. l; value = λ x n. set n (action.Function name t); finds = find_none }
  piece_step (Core-F.Member at e i) = record { locals = e.locals; value = silent; finds = find_none }
  piece_step (Core-F.Read at e) = record { locals = e.locals; value = λ x n w. set n (action.Read n) (e.value x n w); finds = e.finds }
  piece_step (Core-F.Address at e) = record { locals = e.locals; value = λ x n w. used n (e.value x n w); finds = e.finds }
  piece_step (Core-F.Dereference at e) = record { locals = e.locals; value = λ x n w. set n (action.Dereference n) (e.value x n w); finds = e.finds }
  piece_step (Core-F.Decay at e) = record { locals = e.locals; value = λ x n w. set n (action.Decay n) (e.value x n w); finds = e.finds }
  piece_step (Core-F.Index at a b) = record { locals = in_two a b; value = λ x n w. set n (action.Index n (suc n)) (two a b x n w); finds = find_two a b }
  piece_step (Core-F.Convert at t e) = record { locals = e.locals; value = λ x n w. set n (action.Convert t n) (e.value x n w); finds = e.finds }
  piece_step (Core-F.Up at path e) = record { locals = e.locals; value = silent; finds = find_none }
  piece_step (Core-F.Down at c path e) = record { locals = e.locals; value = silent; finds = find_none }
  piece_step (Core-F.FromVoid at t e) = record { locals = e.locals; value = λ x n w. set n (action.FromVoid t n) (e.value x n w); finds = e.finds }
  piece_step (Core-F.ToMember at path e) = record { locals = e.locals; value = silent; finds = find_none }
  piece_step (Core-F.DataPointer at i) = record { locals = λ l. l; value = silent; finds = find_none }
  piece_step (Core-F.FunctionPointer at t) = record { locals = λ l. l; value = silent; finds = find_none }
  piece_step (Core-F.Through at a b) = record { locals = in_two a b; value = silent; finds = find_none }
  piece_step (Core-F.Operate at op k a b) = record { locals = in_two a b; value = λ x n w. set n (action.Operate op k n (suc n)) (two a b x n w); finds = find_two a b }
  piece_step (Core-F.Unary at op k e) = record { locals = e.locals; value = λ x n w. set n (action.Unary op k n) (e.value x n w); finds = e.finds }
  piece_step (Core-F.Not at e) = record { locals = e.locals; value = λ x n w. set n (action.Not n) (e.value x n w); finds = e.finds }
  piece_step (Core-F.And at a b) = record { locals = in_two a b; value = λ x n w. within n (truth b x n) (λ w. w) (truth a x n w); finds = find_right a b }
  piece_step (Core-F.Or at a b) = record { locals = in_two a b; value = λ x n w. within n (λ w. w) (truth b x n) (truth a x n w); finds = find_right a b }
  piece_step (Core-F.PointerOperate at op a b) =
      record { locals = in_two a b; value = λ x n w. set n (action.PointerOperate op n (suc n)) (two a b x n w); finds = find_two a b }
  piece_step (Core-F.Conditional at c a b) =
      record { locals = in_three c a b; value = λ x n w. within n (a.value x n) (b.value x n) (truth c x n w); finds = find_arms c a b }
  piece_step (Core-F.Comma at es) = record { locals = in_all es; value = all_values es; finds = find_all es }
  piece_step (Core-F.Store at a b) = record { locals = in_two a b; value = λ x n w. act (action.Store n (suc n)) (two a b x n w); finds = find_two a b }
  piece_step (Core-F.Update at a change b) = record { locals = in_two a b; value = λ x n w. updated change n (two a b x n w); finds = find_two a b }
  piece_step (Core-F.Increment at is_postfix change e) = record { locals = e.locals; value = by_increment is_postfix change e; finds = e.finds }
  piece_step (Core-F.Assign at t a b es) = record { locals = λ l. in_all es (in_two a b l); value = silent; finds = find_none }
  piece_step (Core-F.Temporary at t e) = record { locals = λ l. e.locals (l ++ t ∷ []); value = temporary t e; finds = find_temporary t e }
  piece_step (Core-F.Call at name t object es) =
      let ts = parameters_at types t in
      record { locals = λ l. in_all es (in_maybe object (l ++ ts)); value = by_call name t ts object es; finds = find_call (length ts) object es }
  piece_step (Core-F.VirtualCall at m t e es) = record { locals = λ l. in_all es (e.locals (l ++ parameters_at types t)); value = silent; finds = find_none }
  piece_step (Core-F.PointerCall at object e t es) =
      let ts = parameters_at types t in
      record { locals = λ l. in_all es (e.locals (in_maybe object (l ++ ts))); value = by_pointer object e t ts es; finds = find_pointer (length ts) object e es }
  piece_step (Core-F.New at t e) = record { locals = e.locals; value = silent; finds = find_none }
  piece_step (Core-F.NewArray at t a b) = record { locals = in_two a b; value = silent; finds = find_none }
  piece_step (Core-F.Delete at t e) = record { locals = e.locals; value = silent; finds = find_none }
  piece_step (Core-F.DeleteArray at t e) = record { locals = e.locals; value = silent; finds = find_none }
  piece_step (Core-F.Build at name t es) = record { locals = λ l. in_all es (l ++ parameters_at types t); value = silent; finds = find_none }
  piece_step (Core-F.Copy at t e es) = record { locals = λ l. in_all es (e.locals l); value = silent; finds = find_none }
  piece_step (Core-F.Each at e) = record { locals = e.locals; value = silent; finds = find_none }
  piece_step (Core-F.List at es rest) = record { locals = λ l. rest.locals (in_all es l); value = silent; finds = find_none }
  piece_step (Core-F.Characters at bytes) = record { locals = λ l. l; value = silent; finds = find_none }
  piece_step (Core-F.Bind at h e) = record { locals = e.locals; value = by_holder h e; finds = e.finds }
  piece_step (Core-F.Zeros at) = record { locals = λ l. l; value = silent; finds = find_none }
  piece_step (Core-F.Blank at) = record { locals = λ l. l; value = silent; finds = find_none }
  piece_step (Core-F.Full at e) = record { locals = e.locals; value = silent; finds = find_none }
  piece_step (Core-F.Block at es) = record { locals = in_all es; value = silent; finds = find_none }
  piece_step (Core-F.Sequence at es) = record { locals = in_all es; value = silent; finds = find_none }
  piece_step (Core-F.Declare at i t e) = record { locals = e.locals; value = silent; finds = find_none }
  piece_step (Core-F.Once at name e) = record { locals = e.locals; value = silent; finds = find_none }
  piece_step (Core-F.If at c a b) = record { locals = λ l. in_maybe b (in_two c a l); value = silent; finds = find_none }
  piece_step (Core-F.Loop at f c e s) = record { locals = λ l. s.locals (in_maybe e (in_maybe c l)); value = silent; finds = find_none }
  piece_step (Core-F.Switch at e es) = record { locals = λ l. in_all es (e.locals l); value = silent; finds = find_none }
  piece_step (Core-F.Case at z) = record { locals = λ l. l; value = silent; finds = find_none }
  piece_step (Core-F.Default at) = record { locals = λ l. l; value = silent; finds = find_none }
  piece_step (Core-F.Break at) = record { locals = λ l. l; value = silent; finds = find_none }
  piece_step (Core-F.Continue at) = record { locals = λ l. l; value = silent; finds = find_none }
  piece_step (Core-F.Return at e) = record { locals = in_maybe e; value = silent; finds = find_none }
  piece_step (Core-F.Parts at ps s) = record { locals = λ l. s.locals (in_all ps l); value = silent; finds = find_none }

  abbrev pub part_step : PartStart-F Piece Piece → Piece
  part_step x = x.start

  abbrev pub piece : Node → Piece
  piece = fold-Core Piece Piece piece_step part_step

  abbrev pub part_piece : PartStart → Piece
  part_piece = fold-PartStart Piece Piece piece_step part_step
