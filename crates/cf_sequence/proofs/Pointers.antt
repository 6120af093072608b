-- Steps over pointers, which look at the objects alone and change nothing, and string literals.
use Rattle.std.proofs.Common.{◌≡◌, ℕ, Bool, true, false, not, ◌&&◌, ◌==◌, nat_lt, nat_le, List, ◌∷◌, refl, sym, ◌∙◌, ap, subst}
use Rattle.std.specs.Prelude.{ℤ, pos, ◌-ℤ◌, Option, Some, None, find, bytes_eq}
use Rattle.cf_base.specs.World.{World, and_then}
use Rattle.cf_core.specs.declared.operators.PointerOperator.{PointerOperator}
use Rattle.cf_core.specs.declared.operators.PointerOperator.TheVariants as op
use Rattle.cf_core.specs.Types.{Name, SourceType, is_array, same_but_const}
use Rattle.cf_core.specs.Classes.{Class}
use Rattle.cf_core.specs.Core.{item}
use Rattle.cf_core.specs.Places.{Place, inner, is_inside, place_eq}
use Rattle.cf_core.specs.Store.{Value, Number, Null, At, Code, DataMember, FunctionMember}
use Rattle.cf_core.specs.Run.{State, Frame, Literal, Act, ◌>>=◌, ◌>>◌, gives, malformed, undefined, state, changed, need, valid, some_or, born, with_frame, not_alive, outside_array, compared, cast_from_void}
use Rattle.cf_core.specs.Access.{place_type, name_part}
use Rattle.cf_core.specs.Pointers.{element_of, route_of, bound_of, further, up_to, moved_place, moved_value, sum_of, moved_back, same_array, both_stand, both_there, truth_value, difference_of, ordered, comparable, unlike_null, equal_values, pointer_op, from_void_value}
use Rattle.cf_core.specs.Scalars.{moved_by, indexed, decayed, pointed_to}
use Rattle.cf_core.specs.Objects.{literal_of, found_literal, literal_object}
use Rattle.cf_sequence.specs.Follows.{Follows}
use Rattle.cf_sequence.proofs.Following.{on, Pure, pure-gives, pure-undefined, pure-malformed, pure-then, pure-need, pure-valid, Looks, looks-then, looks-pure}

pub pure-pointed_to : (v : Value) → Pure (pointed_to v)
pure-pointed_to (At p) = pure-gives (At p)
pure-pointed_to (Code f) = pure-gives (Code f)
pure-pointed_to Null = pure-undefined _
pure-pointed_to v = pure-malformed

pure-up_to : (n : ℕ) (x : Option ℕ) → Pure (up_to n x)
pure-up_to n None = pure-undefined outside_array
pure-up_to n (Some i) = pure-then (need (nat_le i n) outside_array) (λ u. gives i) (pure-need (nat_le i n) outside_array) (λ u. pure-gives i)

-- the number of the element that a pointer to an object that stands is moved to
abbrev pub up_in : List Class → Place → ℤ → Act ℕ
up_in cs p z = λ s w. (need (not (s.object p.object).is_gone) not_alive >> up_to (bound_of cs (s.object p.object).type (element_of p.route)) (further (element_of p.route).index z)) s w

pub looks-up_in : (cs : List Class) (p : Place) (z : ℤ) → Looks (up_in cs p z)
looks-up_in cs p z =
    let alive : State → Act (Unit {0}) = λ s. need (not (s.object p.object).is_gone) not_alive in
    let up : State → Act ℕ = λ s. up_to (bound_of cs (s.object p.object).type (element_of p.route)) (further (element_of p.route).index z) in
    let pure : (s : State) → Pure (alive s >> up s) =
    λ s. pure-then (alive s) (λ u. up s) (pure-need (not (s.object p.object).is_gone) not_alive)
    (λ u. pure-up_to (bound_of cs (s.object p.object).type (element_of p.route)) (further (element_of p.route).index z)) in
    record { answer = λ s. (pure s).answer; runs = λ s w. ap (λ (a : Act _). a s w) (pure s).runs; blind = λ s f. refl }

-- the place of that element
abbrev pub element_at : Place → ℕ → Value
element_at p i = At (record p { route = route_of (element_of p.route) i })

pub moved-is : (cs : List Class) (p : Place) (z : ℤ) (s : State) (w : World) → moved_place cs p z s w ≡ (up_in cs p z >>= (λ i. gives (element_at p i))) s w
moved-is cs p z s w = by-alive (not (s.object p.object).is_gone)
  where
    up : Act ℕ
    up = up_to (bound_of cs (s.object p.object).type (element_of p.route)) (further (element_of p.route).index z)

    by-alive : (b : Bool) → (need b not_alive >> (up >>= (λ i. gives (element_at p i)))) s w ≡ ((need b not_alive >> up) >>= (λ i. gives (element_at p i))) s w
    by-alive true = refl
    by-alive false = refl

looks-moved_place : (cs : List Class) (p : Place) (z : ℤ) → Looks (moved_place cs p z)
looks-moved_place cs p z =
    let by-number : Looks (up_in cs p z >>= (λ i. gives (element_at p i))) =
    looks-then (up_in cs p z) (λ i. gives (element_at p i)) (looks-up_in cs p z) (λ i. looks-pure (gives (element_at p i)) (pure-gives (element_at p i))) in
    record { answer = by-number.answer; runs = λ s w. moved-is cs p z s w ∙ by-number.runs s w; blind = by-number.blind }

looks-moved_value : (cs : List Class) (v : Value) (z : ℤ) → Looks (moved_value cs v z)
looks-moved_value cs (At p) z = looks-moved_place cs p z
looks-moved_value cs Null z = looks-pure (undefined _) (pure-undefined _)
looks-moved_value cs v z = looks-pure malformed pure-malformed

pub looks-moved_by : (cs : List Class) (v w : Value) → Looks (moved_by cs v w)
looks-moved_by cs v (Number z) = looks-moved_value cs v z
looks-moved_by cs v w = looks-pure malformed pure-malformed

pub looks-indexed : (cs : List Class) (v w : Value) → Looks (indexed cs v w)
looks-indexed cs (Number z) w = looks-moved_value cs w z
looks-indexed cs v w = looks-moved_by cs v w

looks-name_part : (cs : List Class) (p : Place) → Looks (name_part cs p)
looks-name_part cs p =
    let pure : (s : State) → Pure (need (is_inside cs (s.object p.object).type p.route) outside_array) = λ s. pure-need (is_inside cs (s.object p.object).type p.route) outside_array in
    record { answer = λ s. (pure s).answer; runs = λ s w. ap (λ (a : Act _). a s w) (pure s).runs; blind = λ s f. refl }

looks-valid_array : (cs : List Class) (p : Place) → Looks (λ s w. valid (is_array (place_type cs s p)) s w)
looks-valid_array cs p =
    let pure : (s : State) → Pure (valid (is_array (place_type cs s p))) = λ s. pure-valid (is_array (place_type cs s p)) in
    record { answer = λ s. (pure s).answer; runs = λ s w. ap (λ (a : Act _). a s w) (pure s).runs; blind = λ s f. refl }

pub looks-decayed : (cs : List Class) (v : Value) → Looks (decayed cs v)
looks-decayed cs (At p) =
    looks-then (λ s w. valid (is_array (place_type cs s p)) s w) (λ u. name_part cs p >> gives (At (inner (item 0) p))) (looks-valid_array cs p) (λ u.
    looks-then (name_part cs p) (λ u. gives (At (inner (item 0) p))) (looks-name_part cs p) (λ u. looks-pure (gives (At (inner (item 0) p))) (pure-gives (At (inner (item 0) p)))))
looks-decayed cs (Code f) = looks-pure (gives (Code f)) (pure-gives (Code f))
looks-decayed cs v = looks-pure malformed pure-malformed

pub looks-from_void : (cs : List Class) (t : SourceType) (v : Value) → Looks (from_void_value cs t v)
looks-from_void cs t Null = looks-pure (gives Null) (pure-gives Null)
looks-from_void cs t (At p) =
    let pure : (s : State) → Pure (need (same_but_const (place_type cs s p) t) cast_from_void >> gives (At p)) =
    λ s. pure-then (need (same_but_const (place_type cs s p) t) cast_from_void) (λ u. gives (At p)) (pure-need (same_but_const (place_type cs s p) t) cast_from_void) (λ u. pure-gives (At p)) in
    record { answer = λ s. (pure s).answer; runs = λ s w. ap (λ (a : Act _). a s w) (pure s).runs; blind = λ s f. refl }
looks-from_void cs t v = looks-pure malformed pure-malformed

-- two tests of the objects, and then a value
pure-tests : {A : Type 0} (b c : Bool) (m n : ℕ) (a : A) → Pure (need b m >> (need c n >> gives a))
pure-tests b c m n a = pure-then (need b m) (λ u. need c n >> gives a) (pure-need b m) (λ u. pure-then (need c n) (λ u. gives a) (pure-need c n) (λ u. pure-gives a))

looks-difference : (v w : Value) → Looks (difference_of v w)
looks-difference (At p) (At q) =
    let z : Value = Number (pos (element_of p.route).index -ℤ pos (element_of q.route).index) in
    let pure : (s : State) → Pure (need (both_there s p q) not_alive >> (need (same_array p q) outside_array >> gives z)) =
    λ s. pure-tests (both_there s p q) (same_array p q) not_alive outside_array z in
    record { answer = λ s. (pure s).answer; runs = λ s w. ap (λ (a : Act _). a s w) (pure s).runs; blind = λ s f. refl }
looks-difference Null Null = looks-pure (undefined _) (pure-undefined _)
looks-difference Null (At q) = looks-pure (undefined _) (pure-undefined _)
looks-difference (At p) Null = looks-pure (undefined _) (pure-undefined _)
looks-difference v w = looks-pure malformed pure-malformed

looks-ordered : (cs : List Class) (less : ℕ → ℕ → Bool) (v w : Value) → Looks (ordered cs less v w)
looks-ordered cs less (At p) (At q) =
    let z : Value = truth_value (less (element_of p.route).index (element_of q.route).index) in
    let pure : (s : State) → Pure (need (both_stand cs s p q) compared >> (need (same_array p q) compared >> gives z)) =
    λ s. pure-tests (both_stand cs s p q) (same_array p q) compared compared z in
    record { answer = λ s. (pure s).answer; runs = λ s w. ap (λ (a : Act _). a s w) (pure s).runs; blind = λ s f. refl }
looks-ordered cs less Null Null = looks-pure (undefined _) (pure-undefined _)
looks-ordered cs less Null (At q) = looks-pure (undefined _) (pure-undefined _)
looks-ordered cs less (At p) Null = looks-pure (undefined _) (pure-undefined _)
looks-ordered cs less v w = looks-pure malformed pure-malformed

pure-unlike_null : (v : Value) → Pure (unlike_null v)
pure-unlike_null (At p) = pure-gives false
pure-unlike_null (Code f) = pure-gives false
pure-unlike_null (DataMember path i) = pure-gives false
pure-unlike_null (FunctionMember path t) = pure-gives false
pure-unlike_null v = pure-malformed

looks-equal : (cs : List Class) (v w : Value) → Looks (equal_values cs v w)
looks-equal cs (At p) (At q) =
    let pure : (s : State) → Pure (need (both_stand cs s p q) compared >> (need (comparable cs s p q) compared >> gives (place_eq p q))) =
    λ s. pure-tests (both_stand cs s p q) (comparable cs s p q) compared compared (place_eq p q) in
    record { answer = λ s. (pure s).answer; runs = λ s w. ap (λ (a : Act _). a s w) (pure s).runs; blind = λ s f. refl }
looks-equal cs Null Null = looks-pure (gives true) (pure-gives true)
looks-equal cs Null w = looks-pure (unlike_null w) (pure-unlike_null w)
looks-equal cs v Null = looks-pure (unlike_null v) (pure-unlike_null v)
looks-equal cs (Code f) (Code g) = looks-pure (gives _) (pure-gives _)
looks-equal cs (DataMember path i) (DataMember route j) = looks-pure (gives _) (pure-gives _)
looks-equal cs v w = looks-pure malformed pure-malformed

-- a pointer and a number, or two pointers
looks-sum : (cs : List Class) (v w : Value) → Looks (sum_of cs v w)
looks-sum cs v (Number z) = looks-moved_value cs v z
looks-sum cs (Number z) w = looks-moved_value cs w z
looks-sum cs v w = looks-pure malformed pure-malformed

looks-moved_back : (cs : List Class) (v w : Value) → Looks (moved_back cs v w)
looks-moved_back cs v (Number z) = looks-moved_value cs v _
looks-moved_back cs v w = looks-pure malformed pure-malformed

pub looks-pointer_op : (cs : List Class) (o : PointerOperator) (v w : Value) → Looks (pointer_op cs o v w)
looks-pointer_op cs op.Add v w = looks-sum cs v w
looks-pointer_op cs op.Subtract v w = looks-moved_back cs v w
looks-pointer_op cs op.Difference v w = looks-difference v w
looks-pointer_op cs op.Less v w = looks-ordered cs nat_lt v w
looks-pointer_op cs op.Greater v w = looks-ordered cs (λ i j. nat_lt j i) v w
looks-pointer_op cs op.LessEqual v w = looks-ordered cs nat_le v w
looks-pointer_op cs op.GreaterEqual v w = looks-ordered cs (λ i j. nat_le j i) v w
looks-pointer_op cs op.Equal v w =
    looks-then (equal_values cs v w) (λ b. gives (truth_value b)) (looks-equal cs v w) (λ b. looks-pure (gives (truth_value b)) (pure-gives (truth_value b)))
looks-pointer_op cs op.NotEqual v w =
    looks-then (equal_values cs v w) (λ b. gives (truth_value (not b))) (looks-equal cs v w) (λ b. looks-pure (gives (truth_value (not b))) (pure-gives (truth_value (not b))))

-- ---- literals

abbrev literal_act : Name → ℕ → List ℕ → Act ℕ
literal_act name j bytes = state >>= (λ s. some_or (found_literal (find (λ (x : Literal). bytes_eq x.function name && (x.number == j)) s.literals)) (do
  o ← born (literal_of bytes)
  changed (λ s. record s { literals = record { function = name; number = j; object = o } ∷ s.literals })
  gives o))

module _ {C D : Type 0} {S : C → State → D → State → Type 0} (s : State) (f : Frame) (w : World) (c : ℕ → Act C) (g : ℕ → Act D)
    (next : (o : ℕ) (t : State) → t.frame ≡ s.frame → Follows S (c o t w) (g o (with_frame f t) w)) where
  literal-by : (name : Name) (j : ℕ) (bytes : List ℕ) (x : Option ℕ)
      → Follows S
      (and_then (some_or x (born (literal_of bytes) >>= (λ o. changed (λ s. record s { literals = record { function = name; number = j; object = o } ∷ s.literals }) >> gives o)) s w) (on c))
      (and_then (some_or x (born (literal_of bytes) >>= (λ o. changed (λ s. record s { literals = record { function = name; number = j; object = o } ∷ s.literals }) >> gives o)) (with_frame f s) w) (on g))
  literal-by name j bytes None = next _ _ refl
  literal-by name j bytes (Some o) = next o s refl

  pub literal-steps : (j : ℕ) (bytes : List ℕ) → f.function ≡ s.frame.function
      → Follows S (and_then (literal_object j bytes s w) (on c)) (and_then (literal_object j bytes (with_frame f s) w) (on g))
  literal-steps j bytes same =
      subst (λ name. Follows S (and_then (literal_act s.frame.function j bytes s w) (on c)) (and_then (literal_act name j bytes (with_frame f s) w) (on g))) (sym same)
      (literal-by s.frame.function j bytes (found_literal (find (λ (x : Literal). bytes_eq x.function s.frame.function && (x.number == j)) s.literals)))
