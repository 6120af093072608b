-- The temporaries of a full expression while it is evaluated (12.2). A part of it begins where the flags of those in branches hold 0, and each that is made
-- comes into the core's frame, with its local's object and 1 in its flag.
use Rattle.std.proofs.Common.{◌≡◌, ◌⊎◌, inl, inr, ℕ, suc, ◌≤◌, ◌<◌, Bool, true, List, [], ◌∷◌, ◌++◌, reverse, refl, sym, ◌∙◌, ap, subst, arith, append-nil, append_assoc}
use Rattle.std.specs.Prelude.{pos, Option, Some, None}
use Rattle.std.proofs.lemmas.List.{reverse-append}
use Rattle.cf_core.specs.Types.{SourceType}
use Rattle.cf_core.specs.Store.{Value, Number}
use Rattle.cf_core.specs.Run.{State, Frame, lists_local, lists_temporary}
use Rattle.cf_plain.specs.Plain.{Register}
use Rattle.cf_plain.specs.Acts.{Registers}
use Rattle.cf_plain.specs.Running.{keep}
use Rattle.cf_sequence.specs.Made.{Temporary}
use Rattle.cf_sequence.specs.Expressions.{Full, flag}
use Rattle.cf_sequence.proofs.Calling.{Alike}
use Rattle.cf_sequence.proofs.Kept.{Kept, kept-all, kept-count, keep-same, keep-other, Ready, ready-more, ready-kept, listed-kept}

-- ---- which are there

-- the objects of those that were made
abbrev pub objects : List (Option ℕ) → List ℕ
objects [] = []
objects (None ∷ made) = objects made
objects (Some o ∷ made) = o ∷ objects made

objects-append : (xs ys : List (Option ℕ)) → objects (xs ++ ys) ≡ objects xs ++ objects ys
objects-append [] ys = refl
objects-append (None ∷ xs) ys = objects-append xs ys
objects-append (Some o ∷ xs) ys = ap (λ os. o ∷ os) (objects-append xs ys)

pub objects-reverse : (made : List (Option ℕ)) → objects (reverse made) ≡ reverse (objects made)
objects-reverse [] = refl
objects-reverse (m ∷ made) =
    ap objects (reverse-append (m ∷ []) made) ∙ objects-append (reverse made) (m ∷ []) ∙ ap (λ os. os ++ objects (m ∷ [])) (objects-reverse made) ∙ own m
  where
    own : (m : Option ℕ) → reverse (objects made) ++ objects (m ∷ []) ≡ reverse (objects (m ∷ made))
    own None = append-nil (reverse (objects made))
    own (Some o) = sym (reverse-append (o ∷ []) (objects made))

-- none of these is made
abbrev pub skipped : List Temporary → List (Option ℕ)
skipped [] = []
skipped (t ∷ ts) = None ∷ skipped ts

objects-skipped : (ts : List Temporary) → objects (skipped ts) ≡ []
objects-skipped [] = refl
objects-skipped (t ∷ ts) = objects-skipped ts

-- Numbers from k on and below m; where b, all are in branches.
abbrev pub Placed : Bool → ℕ → ℕ → List Temporary → Type 0
Placed b k m [] = Unit {0}
Placed b k m (t ∷ ts) = (k ≤ t.local.number) × (t.local.number < m) × (b ≡ true → t.in_branch ≡ true) × Placed b k m ts

pub placed-append : (b : Bool) (k m : ℕ) (ts us : List Temporary) → Placed b k m ts → Placed b k m us → Placed b k m (ts ++ us)
placed-append b k m [] us p q = q
placed-append b k m (t ∷ ts) us p q = (p.0, p.1, p.2, placed-append b k m ts us p.3 q)

pub placed-wider : (b : Bool) (k l m n : ℕ) (ts : List Temporary) → k ≤ l → m ≤ n → Placed b l m ts → Placed b k n ts
placed-wider b k l m n [] le room p = tt
placed-wider b k l m n (t ∷ ts) le room p =
    ((let low = p.0 in omega arith), (let high = p.1 in omega arith), p.2, placed-wider b k l m n ts le room p.3)

pub placed-branch : (b : Bool) (k m : ℕ) (ts : List Temporary) → Placed true k m ts → Placed b k m ts
placed-branch b k m [] p = tt
placed-branch b k m (t ∷ ts) p = (p.0, p.1, (λ e. p.2 refl), placed-branch b k m ts p.3)

-- the flags of those in branches hold 0
abbrev pub Unset : Full → Registers → List Temporary → Type 0
Unset x g [] = Unit {0}
Unset x g (t ∷ ts) = (t.in_branch ≡ true → g (flag x t.local.number) ≡ Some (Number (pos 0))) × Unset x g ts

unset-first : (x : Full) (g : Registers) (ts us : List Temporary) → Unset x g (ts ++ us) → Unset x g ts
unset-first x g [] us p = tt
unset-first x g (t ∷ ts) us p = (p.0, unset-first x g ts us p.1)

unset-second : (x : Full) (g : Registers) (ts us : List Temporary) → Unset x g (ts ++ us) → Unset x g us
unset-second x g [] us p = p
unset-second x g (t ∷ ts) us p = unset-second x g ts us p.1

-- flags from k on and below m are as they were
abbrev pub SameFlags : Full → ℕ → ℕ → Registers → Registers → Type 0
SameFlags x k m g h = (i : ℕ) → k ≤ i → i < m → h (flag x i) ≡ g (flag x i)

pub unset-kept : (x : Full) (b : Bool) (k m : ℕ) (g h : Registers) (ts : List Temporary) → Placed b k m ts → SameFlags x k m g h → Unset x g ts → Unset x h ts
unset-kept x b k m g h [] p same u = tt
unset-kept x b k m g h (t ∷ ts) p same u = ((λ e. same t.local.number p.0 p.1 ∙ u.0 e), unset-kept x b k m g h ts p.3 same u.1)

-- Along the temporaries and what was made: a local is its object and its flag holds 1, or it is in a branch and its flag holds 0.
abbrev pub Listed : Full → Registers → (ℕ → Option ℕ) → List Temporary → List (Option ℕ) → Type 0
Listed x h locals [] [] = Unit {0}
Listed x h locals [] (m ∷ made) = ⊥
Listed x h locals (t ∷ ts) [] = ⊥
Listed x h locals (t ∷ ts) (None ∷ made) = (t.in_branch ≡ true) × (h (flag x t.local.number) ≡ Some (Number (pos 0))) × Listed x h locals ts made
Listed x h locals (t ∷ ts) (Some o ∷ made) =
    (locals t.local.number ≡ Some o) × (h (flag x t.local.number) ≡ Some (Number (pos 1))) × Listed x h locals ts made

pub listed-same : (x : Full) (b : Bool) (k m : ℕ) (g h : Registers) (locals later : ℕ → Option ℕ) (ts : List Temporary) (made : List (Option ℕ)) → Placed b k m ts
    → SameFlags x k m g h → ((i : ℕ) → k ≤ i → i < m → later i ≡ locals i) → Listed x g locals ts made → Listed x h later ts made
listed-same x b k m g h locals later [] [] p flags same l = tt
listed-same x b k m g h locals later [] (o ∷ made) p flags same l = l
listed-same x b k m g h locals later (t ∷ ts) [] p flags same l = l
listed-same x b k m g h locals later (t ∷ ts) (None ∷ made) p flags same l =
    (l.0, flags t.local.number p.0 p.1 ∙ l.1, listed-same x b k m g h locals later ts made p.3 flags same l.2)
listed-same x b k m g h locals later (t ∷ ts) (Some o ∷ made) p flags same l =
    (same t.local.number p.0 p.1 ∙ l.0, flags t.local.number p.0 p.1 ∙ l.1, listed-same x b k m g h locals later ts made p.3 flags same l.2)

pub listed-append : (x : Full) (h : Registers) (locals : ℕ → Option ℕ) (ts us : List Temporary) (xs ys : List (Option ℕ))
    → Listed x h locals ts xs → Listed x h locals us ys → Listed x h locals (ts ++ us) (xs ++ ys)
listed-append x h locals [] us [] ys p q = q
listed-append x h locals [] us (o ∷ xs) ys p q = absurd p
listed-append x h locals (t ∷ ts) us [] ys p q = absurd p
listed-append x h locals (t ∷ ts) us (None ∷ xs) ys p q = (p.0, p.1, listed-append x h locals ts us xs ys p.2 q)
listed-append x h locals (t ∷ ts) us (Some o ∷ xs) ys p q = (p.0, p.1, listed-append x h locals ts us xs ys p.2 q)

pub listed-reverse : (x : Full) (h : Registers) (locals : ℕ → Option ℕ) (ts : List Temporary) (made : List (Option ℕ)) → Listed x h locals ts made
    → Listed x h locals (reverse ts) (reverse made)
listed-reverse x h locals [] [] l = tt
listed-reverse x h locals [] (m ∷ made) l = absurd l
listed-reverse x h locals (t ∷ ts) [] l = absurd l
listed-reverse x h locals (t ∷ ts) (m ∷ made) l =
    let both = parted m l in
    subst (λ us. Listed x h locals us (reverse (m ∷ made))) (sym (reverse-append (t ∷ []) ts))
    (subst (λ ms. Listed x h locals (reverse ts ++ t ∷ []) ms) (sym (reverse-append (m ∷ []) made))
    (listed-append x h locals (reverse ts) (t ∷ []) (reverse made) (m ∷ []) (listed-reverse x h locals ts made both.1) both.0))
  where
    parted : (m : Option ℕ) → Listed x h locals (t ∷ ts) (m ∷ made) → Listed x h locals (t ∷ []) (m ∷ []) × Listed x h locals ts made
    parted None l = ((l.0, l.1, tt), l.2)
    parted (Some o) l = ((l.0, l.1, tt), l.2)

listed-skipped : (x : Full) (k m : ℕ) (h : Registers) (locals : ℕ → Option ℕ) (ts : List Temporary) → Placed true k m ts → Unset x h ts → Listed x h locals ts (skipped ts)
listed-skipped x k m h locals [] p u = tt
listed-skipped x k m h locals (t ∷ ts) p u = (p.2 refl, u.0 (p.2 refl), listed-skipped x k m h locals ts p.3 u.1)

-- ---- a part of a full expression

-- the core's frame with those that were made in front of its temporaries, the newest first
abbrev pub listing : List (Option ℕ) → Frame → Frame
listing made e = record e { temporaries = reverse (objects made) ++ e.temporaries }

-- A part begins whose locals are from k on and below m, and whose registers are from n on.
pub record Begins (b : Bool) (x : Full) (ts : List Temporary) (n k m : ℕ) (g : Registers) (e f : Frame) : Type 0 where
  pub ready : Ready k e f
  pub room : m ≤ f.count
  pub low : x.first ≤ k
  pub wide : k ≤ m
  pub high : flag x m ≤ n
  pub placed : Placed b k m ts
  pub unset : Unset x g ts

-- a register that is no flag of a local from k on and below m
abbrev pub Apart : Full → ℕ → ℕ → Register → Type 0
Apart x k m r = (r < flag x k) ⊎ (flag x m ≤ r)

apart-within : (x : Full) (k l p m r : ℕ) → k ≤ l → p ≤ m → Apart x k m r → Apart x l p r
apart-within x k l p m r le room (inl lt) = inl (omega arith)
apart-within x k l p m r le room (inr ge) = inr (omega arith)

-- It has grown: its registers and the flags of others are as they were, and these of its temporaries were made.
pub record Grown (x : Full) (ts : List Temporary) (n k m : ℕ) (g : Registers) (e : Frame) (s : State) (h : Registers) (locals : ℕ → Option ℕ) : Type 0 where
  pub made : List (Option ℕ)
  pub below : (r : ℕ) → r < n → Apart x k m r → h r ≡ g r
  pub frame : s.frame ≡ listing made e
  pub listed : Listed x h locals ts made

flags-behind : (x : Full) (ts : List Temporary) (n k p q r : ℕ) (g : Registers) (e : Frame) (s : State) (h : Registers) (l : ℕ → Option ℕ)
    → Grown x ts n k p g e s h l → x.first ≤ q → p ≤ q → flag x r ≤ n → SameFlags x q r g h
flags-behind x ts n k p q r g e s h l grown low le high i from lt = grown.below (flag x i) (omega arith) (inr (omega arith))

flags-before : (x : Full) (ts : List Temporary) (n k p q r : ℕ) (g : Registers) (e : Frame) (s : State) (h : Registers) (l : ℕ → Option ℕ)
    → Grown x ts n q r g e s h l → x.first ≤ k → p ≤ q → flag x p ≤ n → SameFlags x k p g h
flags-before x ts n k p q r g e s h l grown low le high i from lt = grown.below (flag x i) (omega arith) (inl (omega arith))

-- ---- parts one behind another

ready-listing : (k : ℕ) (made : List (Option ℕ)) (e f : Frame) → Ready k e f → Ready k (listing made e) f
ready-listing k made e f r = record {
  alike = record { function = r.alike.function; this = r.alike.this; result = r.alike.result; depth = r.alike.depth };
  count = r.count;
  wide = r.wide;
  locals = r.locals;
}

module _ (b : Bool) (x : Full) (ts us : List Temporary) (n k m : ℕ) (g : Registers) (e f : Frame) (begins : Begins b x (ts ++ us) n k m g e f) where
  pub begins-first : (c : Bool) (n' l p : ℕ) → n ≤ n' → k ≤ l → l ≤ p → p ≤ m → Placed c l p ts → Begins c x ts n' l p g e f
  begins-first c n' l p le low wide high placed =
      let a = begins.room in
      let d = begins.low in
      let z = begins.high in
      record {
        ready = ready-more k l e f low (omega arith) begins.ready;
        room = omega arith;
        low = omega arith;
        wide = wide;
        high = omega arith;
        placed = placed;
        unset = unset-first x g ts us begins.unset;
      }

  pub begins-second : (c : Bool) (n' p q r : ℕ) (s : State) (h : Registers) (f' : Frame) → Grown x ts n k p g e s h f'.locals → Kept k f f' → n ≤ n' → k ≤ p → p ≤ q → q ≤ r → r ≤ m
      → Placed c q r us → Begins c x us n' q r h s.frame f'
  begins-second c n' p q r s h f' grown kept le wide low more high placed =
      let a = begins.room in
      let d = begins.low in
      let z = begins.high in
      let same : f'.count ≡ f.count = kept-count k f f' kept in
      record {
        ready = subst (λ (y : Frame). Ready q y f') (sym grown.frame)
            (ready-listing q grown.made e f' (ready-more k q e f' (omega arith) (omega arith) (ready-kept k e f f' begins.ready kept)));
        room = omega arith;
        low = omega arith;
        wide = more;
        high = omega arith;
        placed = placed;
        unset = unset-kept x c q r g h us placed (flags-behind x ts n k p q r g e s h f'.locals grown (omega arith) low (omega arith)) (unset-second x g ts us begins.unset);
      }

  -- the locals of the first are from l on
  pub grown-after : (c : Bool) (n' l p q r : ℕ) (s t : State) (h i : Registers) (locals later : ℕ → Option ℕ) → Grown x ts n l p g e s h locals → Grown x us n' q r h s.frame t i later
      → n ≤ n' → k ≤ l → l ≤ p → p ≤ q → q ≤ r → r ≤ m → Placed c l p ts → ((j : ℕ) → l ≤ j → j < p → later j ≡ locals j) → Grown x (ts ++ us) n k m g e t i later
  grown-after c n' l p q r s t h i locals later first second le from wide low more high placed same =
      let d = begins.low in
      let z = begins.high in
      record {
        made = first.made ++ second.made;
        below = λ j lt apart. second.below j (omega arith) (apart-within x k q r m j (omega arith) high apart)
            ∙ first.below j lt (apart-within x k l p m j from (omega arith) apart);
        frame = second.frame ∙ ap (λ (y : Frame). listing second.made y) first.frame
            ∙ ap (λ os. record e { temporaries = os })
            (sym (append_assoc (reverse (objects second.made)) (reverse (objects first.made)) e.temporaries)
            ∙ ap (λ os. os ++ e.temporaries) (sym (reverse-append (objects first.made) (objects second.made)) ∙ ap reverse (sym (objects-append first.made second.made))));
        listed = listed-append x i later ts us first.made second.made
            (listed-same x c l p h i locals later ts first.made placed (flags-before x us n' l p q r h s.frame t i later second (omega arith) low (omega arith)) same first.listed) second.listed;
      }

  pub grown-then : (c : Bool) (n' p q r : ℕ) (s t : State) (h i : Registers) (locals later : ℕ → Option ℕ) → Grown x ts n k p g e s h locals → Grown x us n' q r h s.frame t i later
      → n ≤ n' → k ≤ p → p ≤ q → q ≤ r → r ≤ m → Placed c k p ts → ((j : ℕ) → k ≤ j → j < p → later j ≡ locals j) → Grown x (ts ++ us) n k m g e t i later
  grown-then c n' p q r s t h i locals later first second le wide low more high placed same =
      grown-after c n' k p q r s t h i locals later first second le (omega arith) wide low more high placed same

  -- the second is in a branch that is not taken
  pub grown-left : (p q r : ℕ) (s : State) (h : Registers) (l : ℕ → Option ℕ) → Grown x ts n k p g e s h l → k ≤ p → p ≤ q → q ≤ r → r ≤ m → Placed true q r us
      → Grown x (ts ++ us) n k m g e s h l
  grown-left p q r s h l first wide low more high placed =
      let d = begins.low in
      let z = begins.high in
      record {
        made = first.made ++ skipped us;
        below = λ j lt apart. first.below j lt (apart-within x k k p m j (omega arith) (omega arith) apart);
        frame = first.frame ∙ ap (λ os. record e { temporaries = reverse os ++ e.temporaries })
            (sym (objects-append first.made (skipped us) ∙ ap (λ os. objects first.made ++ os) (objects-skipped us) ∙ append-nil (objects first.made)));
        listed = listed-append x h l ts us first.made (skipped us) first.listed
            (listed-skipped x q r h l us placed
            (unset-kept x true q r g h us placed (flags-behind x ts n k p q r g e s h l first (omega arith) low (omega arith)) (unset-second x g ts us begins.unset)));
      }

-- ---- the registers of a part

pub begins-same : (b : Bool) (x : Full) (ts : List Temporary) (n k m : ℕ) (g : Registers) (e f : Frame) → Begins b x ts n k m g e f → (c : Bool) (n' l p : ℕ) → n ≤ n' → k ≤ l → l ≤ p → p ≤ m
    → Placed c l p ts → Begins c x ts n' l p g e f
begins-same b x ts n k m g e f begins c n' l p le low wide high placed =
    let a = begins.room in
    let d = begins.low in
    let z = begins.high in
    record {
      ready = ready-more k l e f low (omega arith) begins.ready;
      room = omega arith;
      low = omega arith;
      wide = wide;
      high = omega arith;
      placed = placed;
      unset = begins.unset;
    }

-- a register of it is set, and a local is declared that the core's frame lacks
pub begins-declared : (b : Bool) (x : Full) (ts : List Temporary) (n n' k m i o : ℕ) (v : Value) (g : Registers) (e f : Frame) → Begins b x ts n k m g e f → e.count ≤ i → n ≤ n'
    → Begins b x ts n' k m (keep g n v) e (lists_local i o f)
begins-declared b x ts n n' k m i o v g e f begins lt le =
    let d = begins.low in
    let z = begins.high in
    record {
      ready = record {
        alike = record { function = begins.ready.alike.function; this = begins.ready.alike.this; result = begins.ready.alike.result; depth = begins.ready.alike.depth };
        count = begins.ready.count;
        wide = begins.ready.wide;
        locals = λ j less. (listed-kept i o f).below j (omega arith) ∙ begins.ready.locals j less;
      };
      room = begins.room;
      low = begins.low;
      wide = begins.wide;
      high = omega arith;
      placed = begins.placed;
      unset = unset-kept x b k m g (keep g n v) ts begins.placed (λ j from less. keep-other n (flag x j) g v (λ same. omega arith)) begins.unset;
    }

pub alike-grown : (x : Full) (ts : List Temporary) (n k m : ℕ) (g : Registers) (e f : Frame) (s : State) (h : Registers) (locals : ℕ → Option ℕ) → Grown x ts n k m g e s h locals → Alike e f
    → Alike s.frame f
alike-grown x ts n k m g e f s h locals grown a =
    subst (λ (y : Frame). Alike y f) (sym grown.frame) (record { function = a.function; this = a.this; result = a.result; depth = a.depth })

pub grown-none : (x : Full) (n k m : ℕ) (g h : Registers) (e : Frame) (s : State) (l : ℕ → Option ℕ) → ((r : ℕ) → r < n → h r ≡ g r) → s.frame ≡ e → Grown x [] n k m g e s h l
grown-none x n k m g h e s l below same = record { made = []; below = λ r lt apart. below r lt; frame = same; listed = tt }

pub grown-set : (b : Bool) (x : Full) (ts : List Temporary) (n k m r : ℕ) (g : Registers) (e f : Frame) (s : State) (h : Registers) (l : ℕ → Option ℕ) (v : Value)
    → Begins b x ts n k m g e f → n ≤ r → Grown x ts n k m g e s h l → Grown x ts n k m g e s (keep h r v) l
grown-set b x ts n k m r g e f s h l v begins le grown =
    let d = begins.low in
    let z = begins.high in
    record {
      made = grown.made;
      below = λ j lt apart. keep-other r j h v (λ same. omega arith) ∙ grown.below j lt apart;
      frame = grown.frame;
      listed = listed-same x b k m h (keep h r v) l l ts grown.made begins.placed (λ j from less. keep-other r (flag x j) h v (λ same. omega arith)) (λ j from less. refl) grown.listed;
    }

pub grown-state : (x : Full) (ts : List Temporary) (n k m : ℕ) (g : Registers) (e : Frame) (s t : State) (h : Registers) (l : ℕ → Option ℕ)
    → t.frame ≡ s.frame → Grown x ts n k m g e s h l → Grown x ts n k m g e t h l
grown-state x ts n k m g e s t h l same grown = record { made = grown.made; below = grown.below; frame = same ∙ grown.frame; listed = grown.listed }

-- from registers of which only those from n on were others
pub grown-behind : (x : Full) (ts : List Temporary) (n n' k m : ℕ) (g g' : Registers) (e : Frame) (s : State) (h : Registers) (l : ℕ → Option ℕ)
    → n ≤ n' → ((r : ℕ) → r < n → g' r ≡ g r) → Grown x ts n' k m g' e s h l → Grown x ts n k m g e s h l
grown-behind x ts n n' k m g g' e s h l le same grown =
    record { made = grown.made; below = λ r lt apart. grown.below r (omega arith) apart ∙ same r lt; frame = grown.frame; listed = grown.listed }

-- with more locals of its own
pub grown-wider : (x : Full) (ts : List Temporary) (n k l p m : ℕ) (g : Registers) (e : Frame) (s : State) (h : Registers) (locals : ℕ → Option ℕ)
    → k ≤ l → p ≤ m → Grown x ts n l p g e s h locals → Grown x ts n k m g e s h locals
grown-wider x ts n k l p m g e s h locals le room grown =
    record { made = grown.made; below = λ r lt apart. grown.below r lt (apart-within x k l p m r le room apart); frame = grown.frame; listed = grown.listed }

-- ---- an expression's value is there

pub record After (x : Full) (ts : List Temporary) (n k m : ℕ) (g : Registers) (e f : Frame) (v : Value) (s : State) (h : Registers) (f' : Frame) : Type 0 where
  pub value : h n ≡ Some v
  pub grown : Grown x ts n k m g e s h f'.locals
  pub kept : Kept k f f'

-- the value comes into the register
pub after-set : (b : Bool) (x : Full) (ts : List Temporary) (n k m : ℕ) (g : Registers) (e f : Frame) (s t : State) (h : Registers) (f' : Frame) (v : Value)
    → Begins b x ts n k m g e f → Grown x ts n k m g e s h f'.locals → Kept k f f' → t.frame ≡ s.frame → After x ts n k m g e f v t (keep h n v) f'
after-set b x ts n k m g e f s t h f' v begins grown kept same = record {
  value = keep-same n h v;
  grown = grown-set b x ts n k m n g e f t h f'.locals v begins (omega arith) (grown-state x ts n k m g e s t h f'.locals same grown);
  kept = kept;
}

-- of an expression without temporaries
pub after-leaf : (x : Full) (n k m : ℕ) (g : Registers) (e f : Frame) (v : Value) (s : State) → s.frame ≡ e → After x [] n k m g e f v s (keep g n v) f
after-leaf x n k m g e f v s same = record {
  value = keep-same n g v;
  grown = grown-none x n k m g (keep g n v) e s f.locals (λ r lt. keep-other n r g v (λ same. omega arith)) same;
  kept = kept-all k f;
}

-- ---- a temporary

-- its object is there before its own initialiser is evaluated
pub begins-temporary : (b : Bool) (x : Full) (ts : List Temporary) (T : SourceType) (n k m q : ℕ) (u v : Value) (g : Registers) (e f : Frame)
    → Begins b x (ts ++ record { local = record { number = k; type = T }; in_branch = b } ∷ []) n k m g e f → suc k ≤ m → Placed b (suc k) m ts
    → Begins b x ts (suc (suc n)) (suc k) m (keep (keep g (suc n) u) n v) e (lists_local k q f)
begins-temporary b x ts T n k m q u v g e f begins lt placed =
    let d = begins.low in
    let z = begins.high in
    let a = begins.room in
    let c = begins.ready.count in
    record {
      ready = record {
        alike = record { function = begins.ready.alike.function; this = begins.ready.alike.this; result = begins.ready.alike.result; depth = begins.ready.alike.depth };
        count = omega arith;
        wide = omega arith;
        locals = λ j less. (listed-kept k q f).below j (omega arith) ∙ begins.ready.locals j less;
      };
      room = a;
      low = omega arith;
      wide = lt;
      high = omega arith;
      placed = placed;
      unset = unset-kept x b (suc k) m g (keep (keep g (suc n) u) n v) ts placed
          (λ j from less. keep-other n (flag x j) (keep g (suc n) u) v (λ same. omega arith) ∙ keep-other (suc n) (flag x j) g u (λ same. omega arith))
          (unset-first x g ts (record { local = record { number = k; type = T }; in_branch = b } ∷ []) begins.unset);
    }

-- and it is listed behind it, where its flag is set
pub grown-temporary : (b : Bool) (x : Full) (ts : List Temporary) (T : SourceType) (n k m q : ℕ) (u v : Value) (g : Registers) (e f : Frame) (s t : State) (h : Registers) (f' : Frame)
    → Begins b x (ts ++ record { local = record { number = k; type = T }; in_branch = b } ∷ []) n k m g e f → suc k ≤ m → Placed b (suc k) m ts
    → Grown x ts (suc (suc n)) (suc k) m (keep (keep g (suc n) u) n v) e s h f'.locals → f'.locals k ≡ Some q → t.frame ≡ lists_temporary q s.frame
    → Grown x (ts ++ record { local = record { number = k; type = T }; in_branch = b } ∷ []) n k m g e t (keep h (flag x k) (Number (pos 1))) f'.locals
grown-temporary b x ts T n k m q u v g e f s t h f' begins lt placed grown at same =
    let d = begins.low in
    let z = begins.high in
    let one : Value = Number (pos 1) in
    let own : List Temporary = record { local = record { number = k; type = T }; in_branch = b } ∷ [] in
    record {
      made = grown.made ++ Some q ∷ [];
      below = λ r less apart.
          keep-other (flag x k) r h one (λ same. no-flag r less apart same)
          ∙ grown.below r (omega arith) (apart-within x k (suc k) m m r (omega arith) (omega arith) apart)
          ∙ keep-other n r (keep g (suc n) u) v (λ same. omega arith) ∙ keep-other (suc n) r g u (λ same. omega arith);
      frame = same ∙ ap (λ (y : Frame). lists_temporary q y) grown.frame
          ∙ ap (λ os. record e { temporaries = os ++ e.temporaries })
          (sym (reverse-append (objects grown.made) (q ∷ [])) ∙ ap reverse (sym (objects-append grown.made (Some q ∷ []))));
      listed = listed-append x (keep h (flag x k) one) f'.locals ts own grown.made (Some q ∷ [])
          (listed-same x b (suc k) m h (keep h (flag x k) one) f'.locals f'.locals ts grown.made placed
          (λ j from less. keep-other (flag x k) (flag x j) h one (λ same. omega arith)) (λ j from less. refl) grown.listed)
          (at, keep-same (flag x k) h one, tt);
    }
  where
    no-flag : (r : ℕ) → r < n → Apart x k m r → r ≡ flag x k → ⊥
    no-flag r less (inl lower) same = omega arith
    no-flag r less (inr higher) same = let d = begins.low in omega arith
