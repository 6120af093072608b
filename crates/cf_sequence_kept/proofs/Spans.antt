-- The registers that hold the flags of a full expression's temporaries: what its parts keep of them, and the room of a part.
use Rattle.std.proofs.Common.{◌≡◌, ◌⊎◌, ℕ, suc, ◌+◌, ◌≤◌, ◌<◌, Bool, true, false, ◌&&◌, if◌then◌else◌, List, ◌∷◌, ◌++◌, length, length-append, refl, ap, ◌∙◌, arith}
use Rattle.std.specs.Prelude.{Option, Some, None, ◌==◌}
use Rattle.std.proofs.Math.Path.{fun_ext}
use Rattle.std.proofs.lemmas.Bool.Decides.{nat_tests}
use Rattle.cf_base.proofs.Tests.{all_of}
use Rattle.cf_core.specs.Types.{SourceType, same_but_const}
use Rattle.cf_core.specs.Core.{Core}
use Rattle.cf_plain.specs.Plain.{Register}
use Rattle.cf_plain_kept.specs.Kept.{Kept, no_value, an_integer, a_place, a_member, an_object, both_kept, common, integer_in}
use Rattle.cf_sequence.specs.Made.{added}
use Rattle.cf_sequence.specs.Expressions.{Full, flag}
use Rattle.cf_sequence.proofs.Calling.{never}
use Rattle.cf_sequence.proofs.Kept.{added-two}
use Rattle.cf_sequence.proofs.SameTypes.{same-itself}
use Rattle.cf_sequence_valid.proofs.Stands.{Stand, stand-left, stand-right, stand-third, stand-parameters}

-- What both of two equal ways hold.

and-same : (b : Bool) → b && b ≡ b
and-same true = refl
and-same false = refl

both-same : (x : Kept) → both_kept x x ≡ Some x
both-same no_value = refl
both-same (an_integer f) = ap (λ g. Some (an_integer g)) (fun_ext (λ k. and-same (f k)))
both-same (a_place t) = ap (λ b. if b then Some (a_place t) else None) (same-itself t)
both-same (a_member t) = ap (λ b. if b then Some (a_member t) else None) (same-itself t)
both-same (an_object i t) = ap (λ b. if b then Some (an_object i t) else None) (all_of (i == i) (same_but_const t t) (itself i) (same-itself t))
  where
    itself : (i : ℕ) → (i == i) ≡ true
    itself i = grind (arith, nat_tests)

abbrev pub in_both : Option Kept → Option Kept → Option Kept
in_both x y = common (λ r. x) (λ r. y) 0

pub in-both-same : (o : Option Kept) → in_both o o ≡ o
in-both-same None = refl
in-both-same (Some x) = both-same x

in-both-integers : (o p : Option Kept) → integer_in o ≡ true → integer_in p ≡ true → integer_in (in_both o p) ≡ true
in-both-integers (Some (an_integer f)) (Some (an_integer g)) i j = refl
in-both-integers (Some (an_integer f)) None i j = never j
in-both-integers (Some (an_integer f)) (Some p) i j = never j
in-both-integers None p i j = never i
in-both-integers (Some o) p i j = never i

-- ---- the flags

pub record Span : Type 0 where
  pub low : Register
  pub top : Register

abbrev pub Outside : Span → Register → Type 0
Outside span r = (r < span.low) ⊎ (span.top ≤ r)

-- A register that is no flag holds what it held, and one that held an integer holds one.
pub record Stays (span : Span) (r : Register) (o p : Option Kept) : Type 0 where
  pub same : Outside span r → p ≡ o
  pub integer : integer_in o ≡ true → integer_in p ≡ true

pub stays : {span : Span} {r : Register} {o p : Option Kept} → p ≡ o → Stays span r o p
stays e = record { same = λ z. e; integer = λ i. ap integer_in e ∙ i }

pub stays-then : {span : Span} {r : Register} {o p q : Option Kept} → Stays span r o p → Stays span r p q → Stays span r o q
stays-then a b = record { same = λ z. b.same z ∙ a.same z; integer = λ i. b.integer (a.integer i) }

pub stays-both : {span : Span} {r : Register} {o p q : Option Kept} → Stays span r o p → Stays span r o q → Stays span r o (in_both p q)
stays-both {span} {r} {o} {p} {q} a b = record {
  same = λ z. ap (λ x. in_both x q) (a.same z) ∙ ap (in_both o) (b.same z) ∙ in-both-same o;
  integer = λ i. in-both-integers p q (a.integer i) (b.integer i);
}

-- ---- the room of a part

-- A part that adds locals of these types stands where they are those from k on, and its registers are behind all flags.
pub record Room (locals : List SourceType) (span : Span) (x : Full) (n k : ℕ) (ts : List SourceType) : Type 0 where
  pub stand : Stand locals k ts
  pub first : x.first ≤ k
  pub low : span.low ≤ x.base
  pub flags : flag x (k + length ts) ≤ span.top
  pub top : span.top ≤ n

-- a flag, before the registers from n on
pub record Mark (span : Span) (n : ℕ) (mark : Register) : Type 0 where
  pub low : span.low ≤ mark
  pub top : mark < span.top
  pub below : mark < n
  pub behind : span.top ≤ suc n

module _ (locals : List SourceType) (span : Span) (x : Full) (n k : ℕ) where
  pub room-left : (xs ys : List Core) → Room locals span x n k (added (xs ++ ys)) → Room locals span x n k (added xs)
  room-left xs ys room =
      let many = added-two xs ys in
      let high = room.flags in
      let first = room.first in
      record { stand = stand-left locals k xs ys room.stand; first = first; low = room.low; flags = omega arith; top = room.top }

  pub room-right : (n' : ℕ) → n ≤ n' → (xs ys : List Core) → Room locals span x n k (added (xs ++ ys)) → Room locals span x n' (k + length (added xs)) (added ys)
  room-right n' le xs ys room =
      let many = added-two xs ys in
      let high = room.flags in
      let first = room.first in
      let top = room.top in
      record { stand = stand-right locals k xs ys room.stand; first = omega arith; low = room.low; flags = omega arith; top = omega arith }

  pub room-third : (n' : ℕ) → n ≤ n' → (xs ys zs : List Core) → Room locals span x n k (added (xs ++ ys ++ zs)) → Room locals span x n' (k + length (added xs) + length (added ys)) (added zs)
  room-third n' le xs ys zs room =
      let few = added-two xs ys in
      let many = added-two (xs ++ ys) zs in
      let high = room.flags in
      let first = room.first in
      let top = room.top in
      record { stand = stand-third locals k xs ys zs room.stand; first = omega arith; low = room.low; flags = omega arith; top = omega arith }

  -- behind the objects of parameters
  pub room-behind : (ps ts : List SourceType) → Room locals span x n k (ps ++ ts) → Room locals span x n (k + length ps + 0) ts
  room-behind ps ts room =
      let many = length-append ps ts in
      let high = room.flags in
      let first = room.first in
      record { stand = stand-parameters locals k ps ts room.stand; first = omega arith; low = room.low; flags = omega arith; top = room.top }

  pub room-above : (n' : ℕ) → n ≤ n' → (ts : List SourceType) → Room locals span x n k ts → Room locals span x n' k ts
  room-above n' le ts room = let top = room.top in record { stand = room.stand; first = room.first; low = room.low; flags = room.flags; top = omega arith }

  -- within a temporary, whose own local comes first
  pub room-within : (t : SourceType) (ts : List SourceType) → Room locals span x n k (t ∷ ts) → Room locals span x (suc (suc n)) (suc k) ts
  room-within t ts room =
      let high = room.flags in
      let first = room.first in
      let top = room.top in
      record { stand = room.stand.1; first = omega arith; low = room.low; flags = omega arith; top = omega arith }

  -- its flag
  pub mark-within : (t : SourceType) (ts : List SourceType) → Room locals span x n k (t ∷ ts) → Mark span n (flag x k)
  mark-within t ts room =
      let high = room.flags in
      let first = room.first in
      let top = room.top in
      let low = room.low in
      record { low = omega arith; top = omega arith; below = omega arith; behind = omega arith }
