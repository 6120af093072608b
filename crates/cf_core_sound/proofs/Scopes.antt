-- Full expressions and scopes: what they leave ends, and nothing is destroyed where there are no classes.
use Rattle.std.proofs.Common.{◌≡◌, ℕ, false, List, [], ◌∷◌, refl, sym, subst}
use Rattle.cf_core.specs.Types.{SourceType, void, integer, enumeration, class, pointer, reference, array, takes, gives as gives_type, data_member, function_member, const}
use Rattle.cf_core.specs.Core.{Function, Static, item}
use Rattle.cf_core.specs.Places.{Place, inner}
use Rattle.cf_core.specs.Run.{State, Frame, Act, ◌>>=◌, ◌>>◌, gives, state, done, tick, when, for_each_back, for_all, object_changed, gone, frame_changed}
use Rattle.cf_core.specs.Calls.{Program, Setting, Flow, Again, root, has_destructor, destroy, end_object, full_expression, in_scope}
use Rattle.cf_core_sound.specs.States.{Sound, Later, Behind}
use Rattle.cf_core_sound.specs.Well.{Well}
use Rattle.cf_core_sound.specs.Calls.{classless}
use Rattle.cf_core_sound.proofs.States.{object-behind, frame-behind}
use Rattle.cf_core_sound.proofs.Wells.{well-then, well-next, well-gives, well-at, well-as, well-changed}

-- no class has a destructor where there are none
pub no-destructor : (t : SourceType) → has_destructor [] t ≡ false
no-destructor void = refl
no-destructor (integer k) = refl
no-destructor (enumeration e) = refl
no-destructor (class c) = refl
no-destructor (pointer t) = refl
no-destructor (reference t) = refl
no-destructor (array t n) = no-destructor t
no-destructor (takes p t) = refl
no-destructor (gives_type t c) = refl
no-destructor (data_member c t) = refl
no-destructor (function_member c t) = refl
no-destructor (const t) = no-destructor t

module _ (again : Again) (fs : List Function) (xs : List Static) (ks : List Setting) (inits : List Function) (locals : List SourceType) where
  abbrev P : Program
  P = classless fs xs ks inits

  abbrev Nothing : Unit {0} → State → Type 0
  Nothing = λ _ u. Unit {0}

  done-well : (s : State) → Sound P locals s → Well P locals s Nothing done
  done-well s h = well-gives P locals s tt h tt

  pub destroy-well : (t : SourceType) (p : Place) (s : State) → Sound P locals s → Well P locals s Nothing (destroy again P t p)
  destroy-well void p s h = done-well s h
  destroy-well (integer k) p s h = done-well s h
  destroy-well (enumeration e) p s h = done-well s h
  destroy-well (class c) p s h = done-well s h
  destroy-well (pointer t) p s h = done-well s h
  destroy-well (reference t) p s h = done-well s h
  destroy-well (array t n) p s h =
      subst (λ b. Well P locals s Nothing (when b (for_each_back n (λ i. tick >> destroy again P t (inner (item i) p))) done)) (sym (no-destructor t)) (done-well s h)
  destroy-well (takes q t) p s h = done-well s h
  destroy-well (gives_type t c) p s h = done-well s h
  destroy-well (data_member c t) p s h = done-well s h
  destroy-well (function_member c t) p s h = done-well s h
  destroy-well (const t) p s h = destroy-well t p s h

  pub end-well : (o : ℕ) (s : State) → Sound P locals s → Well P locals s Nothing (end_object again P o)
  end-well o s h = well-at P locals s (λ s. destroy again P (s.object o).type (root o) >> object_changed o gone) h
      (well-next P locals {Q = Nothing} s (destroy again P (s.object o).type (root o)) (object_changed o gone) (destroy-well (s.object o).type (root o) s h) (λ _ u b e.
      record { by = λ w bytes. record { by = (object-behind P locals u b.sound o gone refl (λ lt π v sc e. b.sound.holds o π v lt sc e), tt, bytes) } }))

  pub ends-well : (os : List ℕ) (s : State) → Sound P locals s → Well P locals s Nothing (for_all os (end_object again P))
  ends-well [] s h = done-well s h
  ends-well (o ∷ os) s h = well-next P locals {Q = Nothing} s (end_object again P o) (for_all os (end_object again P)) (end-well o s h) (λ _ u b e. ends-well os u b.sound)

  -- what is so of a value stays so
  unfoldable pub Stays : {A : Type 0} → (A → State → Type 0) → Type 0
  Stays {A} Q = (a : A) (s t : State) → Later s t → Q a s → Q a t

  list-well : (s : State) (g : Frame → Frame) → Sound P locals s → (g s.frame).count ≡ s.frame.count → (g s.frame).result ≡ s.frame.result → (g s.frame).locals ≡ s.frame.locals
      → Well P locals s Nothing (frame_changed g)
  list-well s g h c r l = well-as P locals s (frame_changed g) (well-changed P locals s (λ s. record s { frame = g s.frame }) (frame-behind P locals s h (g s.frame) c r l)) (λ _ u b e. tt)

  pub full-well : {A : Type 0} {Q : A → State → Type 0} (s : State) (act : Act A) → Sound P locals s → Stays Q → ((u : State) → Behind P locals s u → Well P locals u Q act)
      → Well P locals s Q (full_expression again P act)
  unfolding Stays
  full-well {Q = Q} s act h stays k = well-at P locals s
      (λ s. frame_changed (λ f. record f { temporaries = [] }) >> (act >>= (λ v. state >>= (λ t. for_all t.frame.temporaries (end_object again P)
      >> (frame_changed (λ f. record f { temporaries = s.frame.temporaries }) >> gives v))))) h
      (well-next P locals {Q = Nothing} s (frame_changed (λ f. record f { temporaries = [] })) _ (list-well s (λ f. record f { temporaries = [] }) h refl refl refl) (λ _ u b e.
      well-then P locals u act (λ v. state >>= (λ t. for_all t.frame.temporaries (end_object again P) >> (frame_changed (λ f. record f { temporaries = s.frame.temporaries }) >> gives v))) (k u b) (λ v w c q.
      well-at P locals w (λ t. for_all t.frame.temporaries (end_object again P) >> (frame_changed (λ f. record f { temporaries = s.frame.temporaries }) >> gives v)) c.sound
      (well-next P locals {Q = Nothing} w (for_all w.frame.temporaries (end_object again P)) (frame_changed (λ f. record f { temporaries = s.frame.temporaries }) >> gives v) (ends-well w.frame.temporaries w c.sound) (λ _ x d e.
      well-next P locals {Q = Nothing} x (frame_changed (λ f. record f { temporaries = s.frame.temporaries })) (gives v) (list-well x (λ f. record f { temporaries = s.frame.temporaries }) d.sound refl refl refl) (λ _ y g e.
      well-gives P locals y v g.sound (stays v x y g.later (stays v w x d.later q))))))))

  pub scope-well : {Q : Flow → State → Type 0} (s : State) (act : Act Flow) → Sound P locals s → Stays Q → ((u : State) → Behind P locals s u → Well P locals u Q act)
      → Well P locals s Q (in_scope again P act)
  unfolding Stays
  scope-well {Q = Q} s act h stays k = well-at P locals s
      (λ s. frame_changed (λ f. record f { scope = [] }) >> (act >>= (λ v. state >>= (λ t. for_all t.frame.scope (end_object again P)
      >> (frame_changed (λ f. record f { scope = s.frame.scope }) >> gives v))))) h
      (well-next P locals {Q = Nothing} s (frame_changed (λ f. record f { scope = [] })) _ (list-well s (λ f. record f { scope = [] }) h refl refl refl) (λ _ u b e.
      well-then P locals u act (λ v. state >>= (λ t. for_all t.frame.scope (end_object again P) >> (frame_changed (λ f. record f { scope = s.frame.scope }) >> gives v))) (k u b) (λ v w c q.
      well-at P locals w (λ t. for_all t.frame.scope (end_object again P) >> (frame_changed (λ f. record f { scope = s.frame.scope }) >> gives v)) c.sound
      (well-next P locals {Q = Nothing} w (for_all w.frame.scope (end_object again P)) (frame_changed (λ f. record f { scope = s.frame.scope }) >> gives v) (ends-well w.frame.scope w c.sound) (λ _ x d e.
      well-next P locals {Q = Nothing} x (frame_changed (λ f. record f { scope = s.frame.scope })) (gives v) (list-well x (λ f. record f { scope = s.frame.scope }) d.sound refl refl refl) (λ _ y g e.
      well-gives P locals y v g.sound (stays v x y g.later (stays v w x d.later q))))))))
