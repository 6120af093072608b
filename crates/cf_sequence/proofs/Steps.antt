-- The steps of the core's meaning that the plain meaning takes too, over states that are the same but for the frame.
use Rattle.std.proofs.Common.{◌≡◌, zero, Bool, true, false, List, refl, ◌∙◌, ap}
use Rattle.std.specs.Prelude.{pos, negsuc, Some, not, ◌&&◌, ◌||◌}
use Rattle.cf_base.specs.declared.arith.Arith.TheVariants as arith
use Rattle.cf_base.specs.Integers.{fits, int_op, convert as converted}
use Rattle.cf_types.specs.Operators.{is_shift}
use Rattle.cf_base.specs.declared.kind.Kind.{Kind}
use Rattle.cf_base.specs.declared.arith.Arith.{Arith}
use Rattle.cf_base.specs.World.{World, and_then}
use Rattle.cf_core.specs.declared.operators.UnaryOperator.{UnaryOperator}
use Rattle.cf_core.specs.declared.operators.UnaryOperator.TheVariants as sign
use Rattle.cf_core.specs.Types.{SourceType, void, integer, enumeration, pointer, data_member, function_member, const}
use Rattle.cf_core.specs.Classes.{Class}
use Rattle.cf_core.specs.Core.{arithmetic}
use Rattle.cf_core.specs.Places.{Place, is_inside, is_scalar, is_reference}
use Rattle.cf_core.specs.Store.{Value, Nothing, Missing, Built, Number, Null, At, hold, is_usable, is_constant_place}
use Rattle.cf_core.specs.Run.{State, Frame, Act, ◌>>=◌, ◌>>◌, gives, malformed, undefined, state, need, valid, ok_or_act, when, some_or, with_frame, object_changed, outside_array, not_alive, no_value, write_to_const}
use Rattle.cf_core.specs.Access.{place_type, used, place_of, number_of, use_place, names_scalar, read_place, write_place, bound_to, followed, first_value}
use Rattle.cf_core.specs.Scalars.{truth_of, as_pointer, converted_value, operated, signed, changed_value}
use Rattle.cf_core.specs.Objects.{settle}
use Rattle.cf_sequence.specs.Follows.{Follows}
use Rattle.cf_sequence.proofs.Following.{on, Pure, pure-gives, pure-undefined, pure-malformed, pure-then, pure-need, pure-valid, pure-some_or, pure-ok_or_act, of_answer, Looks, looks-then, looks-pure, looks-step, pure-step}

-- ---- values

pub pure-used : (v : Value) → Pure (used v)
pure-used Nothing = pure-malformed
pure-used Missing = pure-undefined _
pure-used Built = pure-malformed
pure-used v = pure-gives v

pub pure-place_of : (v : Value) → Pure (place_of v)
pure-place_of (At p) = pure-gives p
pure-place_of v = pure-malformed

pub pure-number_of : (v : Value) → Pure (number_of v)
pure-number_of (Number z) = pure-gives z
pure-number_of v = pure-malformed

pub pure-truth_of : (v : Value) → Pure (truth_of v)
pure-truth_of Nothing = pure-malformed
pure-truth_of Missing = pure-undefined _
pure-truth_of Built = pure-malformed
pure-truth_of (Number (pos zero)) = pure-gives false
pure-truth_of (Number z) = pure-gives true
pure-truth_of Null = pure-gives false
pure-truth_of v = pure-gives true

pub pure-bound_to : (v : Value) → Pure (bound_to v)
pure-bound_to Null = pure-undefined _
pure-bound_to v = pure-gives v

pub pure-as_pointer : (v : Value) → Pure (as_pointer v)
pure-as_pointer (Number (pos zero)) = pure-gives Null
pure-as_pointer (Number z) = pure-malformed
pure-as_pointer v = pure-gives v

pure-number_in : (v : Value) → Pure (used v >>= number_of)
pure-number_in v = pure-then (used v) number_of (pure-used v) pure-number_of

pub pure-converted_value : (t : SourceType) (v : Value) → Pure (converted_value t v)
pure-converted_value void Built = pure-malformed
pure-converted_value void v = pure-gives Nothing
pure-converted_value (integer k) v = pure-then (used v >>= number_of) _ (pure-number_in v) (λ z. pure-gives _)
pure-converted_value (enumeration e) v = pure-then (used v >>= number_of) _ (pure-number_in v) (λ z. pure-gives _)
pure-converted_value (const t) v = pure-converted_value t v
pure-converted_value (pointer t) v = pure-then (used v) _ (pure-used v) pure-as_pointer
pure-converted_value (data_member c t) v = pure-then (used v) _ (pure-used v) pure-as_pointer
pure-converted_value (function_member c t) v = pure-then (used v) _ (pure-used v) pure-as_pointer
pure-converted_value t v = pure-malformed

pub pure-operated : (op : Arith) (k : Kind) (v w : Value) → Pure (operated op k v w)
pure-operated op k (Number x) (Number y) =
    pure-then (valid (fits k x && (is_shift op || fits k y))) (λ u. ok_or_act (int_op op k x y) >>= (λ z. gives (Number z)))
    (pure-valid (fits k x && (is_shift op || fits k y)))
    (λ u. pure-then (ok_or_act (int_op op k x y)) (λ z. gives (Number z)) (pure-ok_or_act (int_op op k x y)) (λ z. pure-gives (Number z)))
pure-operated op k v w = pure-malformed

pub pure-signed : (op : UnaryOperator) (k : Kind) (v : Value) → Pure (signed op k v)
pure-signed sign.Negate k v = pure-operated arith.Subtract k (Number (pos 0)) v
pure-signed sign.Complement k v = pure-operated arith.Xor k v (Number (converted k (negsuc 0)))

pub pure-changed : (op : Arith) (k to : Kind) (cs : List Class) (v w : Value) → Pure (changed_value cs (arithmetic op k to) v w)
pure-changed op k to cs (Number x) w =
    pure-then (operated op k (Number (converted k x)) w >>= number_of) (λ z. gives (Number (converted to z)))
    (pure-then (operated op k (Number (converted k x)) w) number_of (pure-operated op k (Number (converted k x)) w) pure-number_of)
    (λ z. pure-gives (Number (converted to z)))
pure-changed op k to cs v w = pure-malformed

-- ---- places

pub looks-names_scalar : (cs : List Class) (p : Place) → Looks (names_scalar cs p)
looks-names_scalar cs p =
    let pure : (s : State) → Pure (valid (is_scalar (place_type cs s p))) = λ s. pure-valid (is_scalar (place_type cs s p)) in
    record { answer = λ s. (pure s).answer; runs = λ s w. ap (λ (a : Act _). a s w) (pure s).runs; blind = λ s f. refl }

pub looks-use_place : (cs : List Class) (p : Place) → Looks (use_place cs p)
looks-use_place cs p =
    let pure : (s : State) → Pure (need (is_inside cs (s.object p.object).type p.route) outside_array >> need (is_usable cs (s.object p.object) p.route) not_alive) =
    λ s. pure-then (need (is_inside cs (s.object p.object).type p.route) outside_array) (λ u. need (is_usable cs (s.object p.object) p.route) not_alive)
    (pure-need (is_inside cs (s.object p.object).type p.route) outside_array) (λ u. pure-need (is_usable cs (s.object p.object) p.route) not_alive) in
    record { answer = λ s. (pure s).answer; runs = λ s w. ap (λ (a : Act _). a s w) (pure s).runs; blind = λ s f. refl }

abbrev held_there : Place → Act Value
held_there p = state >>= (λ s. some_or ((s.object p.object).held p.route) (undefined no_value))

looks-held_there : (p : Place) → Looks (held_there p)
looks-held_there p =
    let pure : (s : State) → Pure (some_or ((s.object p.object).held p.route) (undefined no_value)) = λ s. pure-some_or ((s.object p.object).held p.route) (undefined no_value) (pure-undefined no_value) in
    record { answer = λ s. (pure s).answer; runs = λ s w. ap (λ (a : Act _). a s w) (pure s).runs; blind = λ s f. refl }

pub looks-read_place : (cs : List Class) (p : Place) → Looks (read_place cs p)
looks-read_place cs p =
    looks-then (names_scalar cs p) (λ u. use_place cs p >> held_there p) (looks-names_scalar cs p) (λ u.
    looks-then (use_place cs p) (λ u. held_there p) (looks-use_place cs p) (λ u. looks-held_there p))

abbrev chosen : {A : Type 0} → Bool → A → A → A
chosen true a b = a
chosen false a b = b

when-runs : {A : Type 0} (b : Bool) (act other : Act A) (p : Looks act) (q : Looks other) (s : State) (w : World)
    → when b act other s w ≡ of_answer (chosen b (p.answer s) (q.answer s)) s w
when-runs true act other p q s w = p.runs s w
when-runs false act other p q s w = q.runs s w

when-blind : {A : Type 0} (b c : Bool) (act other : Act A) (p : Looks act) (q : Looks other) (s : State) (f : Frame) → c ≡ b
    → chosen c (p.answer (with_frame f s)) (q.answer (with_frame f s)) ≡ chosen b (p.answer s) (q.answer s)
when-blind true c act other p q s f e = ap (λ x. chosen x (p.answer (with_frame f s)) (q.answer (with_frame f s))) e ∙ p.blind s f
when-blind false c act other p q s f e = ap (λ x. chosen x (p.answer (with_frame f s)) (q.answer (with_frame f s))) e ∙ q.blind s f

-- a choice by the objects
looks-when : {A : Type 0} (test : State → Bool) → ((s : State) (f : Frame) → test (with_frame f s) ≡ test s)
    → (act other : Act A) → Looks act → Looks other → Looks (λ s w. when (test s) act other s w)
looks-when test blind act other p q = record {
  answer = λ s. chosen (test s) (p.answer s) (q.answer s);
  runs = λ s w. when-runs (test s) act other p q s w;
  blind = λ s f. when-blind (test s) (test (with_frame f s)) act other p q s f (blind s f);
}

pub looks-followed : (cs : List Class) (p : Place) → Looks (followed cs p)
looks-followed cs p =
    looks-when (λ s. is_reference (place_type cs s p)) (λ s f. refl) (read_place cs p >>= bound_to) (gives (At p))
    (looks-then (read_place cs p) bound_to (looks-read_place cs p) (λ v. looks-pure (bound_to v) (pure-bound_to v)))
    (looks-pure (gives (At p)) (pure-gives (At p)))

-- ---- writes

module _ {C D : Type 0} {S : C → State → D → State → Type 0} (s : State) (f : Frame) (w : World) where
  -- a value is written to a place
  pub write-steps : (cs : List Class) (p : Place) (v : Value) (c : Unit {0} → Act C) (g : Unit {0} → Act D)
      → ((t : State) → t.frame ≡ s.frame → Follows S (c tt t w) (g tt (with_frame f t) w))
      → Follows S (and_then (write_place cs p v s w) (on c)) (and_then (write_place cs p v (with_frame f s) w) (on g))
  write-steps cs p v c g next =
      let changes : Act (Unit {0}) = state >>= (λ s. need (not (is_constant_place cs (s.object p.object) p.route)) write_to_const >> object_changed p.object (hold p.route (Some v))) in
      looks-step (names_scalar cs p) (looks-names_scalar cs p)
      (λ u. use_place cs p >> changes)
      c g s f w (λ u.
      looks-step (use_place cs p) (looks-use_place cs p)
      (λ u. changes)
      c g s f w (λ u.
      pure-step (need (not (is_constant_place cs (s.object p.object) p.route)) write_to_const) (pure-need (not (is_constant_place cs (s.object p.object) p.route)) write_to_const)
      (λ u. object_changed p.object (hold p.route (Some v))) c g s (with_frame f s) w (λ u. next _ refl)))

  -- the first value of a scalar
  first-steps : (p : Place) (v : Value) (c : Unit {0} → Act C) (g : Unit {0} → Act D)
      → ((t : State) → t.frame ≡ s.frame → Follows S (c tt t w) (g tt (with_frame f t) w))
      → Follows S (and_then ((used v >>= first_value p) s w) (on c)) (and_then ((used v >>= first_value p) (with_frame f s) w) (on g))
  first-steps p v c g next =
      pure-step (used v) (pure-used v) (first_value p) c g s (with_frame f s) w (λ x. next _ refl)

  scalar-steps : (b : Bool) (p : Place) (v : Value) (c : Unit {0} → Act C) (g : Unit {0} → Act D)
      → ((t : State) → t.frame ≡ s.frame → Follows S (c tt t w) (g tt (with_frame f t) w))
      → Follows S (and_then (when b (used v >>= first_value p) malformed s w) (on c))
      (and_then (when b (used v >>= first_value p) malformed (with_frame f s) w) (on g))
  scalar-steps true p v c g next = first-steps p v c g next
  scalar-steps false p v c g next = record { by = tt }

  pub settle-steps : (cs : List Class) (p : Place) (v : Value) (c : Unit {0} → Act C) (g : Unit {0} → Act D)
      → ((t : State) → t.frame ≡ s.frame → Follows S (c tt t w) (g tt (with_frame f t) w))
      → Follows S (and_then (settle cs p v s w) (on c)) (and_then (settle cs p v (with_frame f s) w) (on g))
  settle-steps cs p Built c g next = next s refl
  settle-steps cs p v c g next = scalar-steps (is_scalar (place_type cs s p)) p v c g next
