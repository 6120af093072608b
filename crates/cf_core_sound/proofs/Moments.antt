-- What is so of a value stays so: objects keep their types.
use Rattle.std.proofs.Common.{◌≡◌, ℕ, true, List, [], ◌∷◌, ◌⊎◌, inl, inr, refl, ap, ◌∙◌, arith}
use Rattle.cf_core.specs.Types.{SourceType, void, integer, enumeration, class, pointer, reference, array, takes, gives, data_member, function_member, const, is_void}
use Rattle.cf_core.specs.Places.{Place, type_at}
use Rattle.cf_core.specs.Store.{Value, Nothing, Missing, Built, Number, Null, At, Code, DataMember, FunctionMember}
use Rattle.cf_core.specs.Run.{State, Literal}
use Rattle.cf_core.specs.Calls.{Program}
use Rattle.cf_core.specs.Typing.{Typing}
use Rattle.cf_core_sound.specs.Proper.{shape}
use Rattle.cf_core_sound.specs.Values.{IsPlace, Leads, IsOf, Fits, Fit}
use Rattle.cf_core_sound.specs.States.{Stands, LiteralsStand, Sound, Later, Behind}

pub later-self : (s : State) → Later s s
later-self s = record { next = omega arith; types = λ o lt. refl }

pub later-then : (s t u : State) → Later s t → Later t u → Later s u
later-then s t u h k = record {
  next = let a = h.next in let b = k.next in omega (arith, a, b);
  types = λ o lt. k.types o (let a = h.next in omega (arith, a, lt)) ∙ h.types o lt;
}

pub stands-later : (s t : State) (a : SourceType) (o : ℕ) → Later s t → Stands s a o → Stands t a o
stands-later s t a o h k = record {
  below = let lt = k.below in let le = h.next in omega (arith, lt, le);
  same = ap shape (h.types o k.below) ∙ k.same;
}

pub literals-later : (s t : State) (xs : List Literal) → Later s t → LiteralsStand s xs → LiteralsStand t xs
literals-later s t [] h k = tt
literals-later s t (x ∷ xs) h k = (stands-later s t _ x.object h k.0, literals-later s t xs h k.1)

pub place-later : (s t : State) (a : SourceType) (p : Place) → Later s t → IsPlace s a p → IsPlace t a p
place-later s t a p h k = record {
  below = let lt = k.below in let le = h.next in omega (arith, lt, le);
  same = same k.same;
  near = k.near;
}
  where
    same : (is_void a ≡ true) ⊎ (shape (type_at [] (s.object p.object).type p.route) ≡ a) → (is_void a ≡ true) ⊎ (shape (type_at [] (t.object p.object).type p.route) ≡ a)
    same (inl v) = inl v
    same (inr e) = inr (ap (λ u. shape (type_at [] u p.route)) (h.types p.object k.below) ∙ e)

module _ (P : Program) (s t : State) (h : Later s t) where
  pub leads-later : (a : SourceType) (v : Value) → Leads P s a v → Leads P t a v
  leads-later a Nothing k = k
  leads-later a Missing k = k
  leads-later a Built k = k
  leads-later a (Number z) k = k
  leads-later a Null k = k
  leads-later a (At p) k = (k.0, place-later s t a p h k.1)
  leads-later a (Code f) k = k
  leads-later a (DataMember path i) k = k
  leads-later a (FunctionMember path f) k = k

  pub is-later : (a : SourceType) (v : Value) → IsOf P s a v → IsOf P t a v
  is-later void v k = k
  is-later (integer i) v k = k
  is-later (enumeration e) v k = k
  is-later (class c) v k = k
  is-later (pointer a) v (inl n) = inl n
  is-later (pointer a) v (inr k) = inr (leads-later a v k)
  is-later (reference a) v k = leads-later a v k
  is-later (array a n) v k = k
  is-later (takes p a) v k = k
  is-later (gives a c) v k = k
  is-later (data_member c a) v k = k
  is-later (function_member c a) v k = k
  is-later (const a) v k = k

  pub fits-later : (x : Typing) (v : Value) → Fits P s x v → Fits P t x v
  fits-later x v k = record {
    place = λ a e. leads-later (shape a) v (k.place a e);
    type = λ a e. is-later (shape a) v (k.type a e);
    number = k.number;
    value = λ a e. is-later (shape a) v (k.value a e);
    start = λ a e. is-later (shape a) v (k.start a e);
  }

  pub fit-later : (x : Typing) (v : Value) → Fit P s x v → Fit P t x v
  fit-later x v (inl e) = inl e
  fit-later x v (inr k) = inr (fits-later x v k)

pub behind-self : (P : Program) (locals : List SourceType) (s : State) → Sound P locals s → Behind P locals s s
behind-self P locals s h = record { later = later-self s; sound = h }

pub behind-then : (P : Program) (locals : List SourceType) (s t u : State) → Later s t → Behind P locals t u → Behind P locals s u
behind-then P locals s t u h k = record { later = later-then s t u h k.later; sound = k.sound }
