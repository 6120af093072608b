-- Bytes and functions of traces that get longer.
use Rattle.std.proofs.Common.{◌≡◌, ℕ, ◌+◌, ◌-◌, ◌^◌, min, Bool, true, false, List, [], ◌∷◌, ◌++◌, IsTrue, Some, None, refl, ap, sym, ◌∙◌, arith, append-nil, inl, inr, ◌⊎◌, cond}
use Rattle.cf_base.specs.Event.{Event, Enter, In, Out, in_bytes, out_bytes, entered}
use Rattle.cf_streams.specs.Streams.{entered_count}

pub out_bytes-append : (xs ys : List Event) → out_bytes (xs ++ ys) ≡ out_bytes xs ++ out_bytes ys
out_bytes-append [] ys = refl
out_bytes-append (Enter name ∷ xs) ys = out_bytes-append xs ys
out_bytes-append (In byte ∷ xs) ys = out_bytes-append xs ys
out_bytes-append (Out byte ∷ xs) ys = ap (λ l. byte ∷ l) (out_bytes-append xs ys)

pub in_bytes-append : (xs ys : List Event) → in_bytes (xs ++ ys) ≡ in_bytes xs ++ in_bytes ys
in_bytes-append [] ys = refl
in_bytes-append (Enter name ∷ xs) ys = in_bytes-append xs ys
in_bytes-append (In None ∷ xs) ys = in_bytes-append xs ys
in_bytes-append (In (Some byte) ∷ xs) ys = ap (λ l. byte ∷ l) (in_bytes-append xs ys)
in_bytes-append (Out byte ∷ xs) ys = in_bytes-append xs ys

entered-append : (xs ys : List Event) → entered (xs ++ ys) ≡ entered xs + entered ys
entered-append [] ys = let h : entered ys ≡ 0 + entered ys = omega arith in h
entered-append (Enter name ∷ xs) ys = ap (λ n. 1 + n) (entered-append xs ys) ∙ let h : 1 + (entered xs + entered ys) ≡ (1 + entered xs) + entered ys = omega arith in h
entered-append (In byte ∷ xs) ys = entered-append xs ys
entered-append (Out byte ∷ xs) ys = entered-append xs ys

-- an event that takes nothing and enters nothing, one that enters
pub same-count : (events more : List Event) → entered more ≡ 0 → entered_count events ≡ entered_count (events ++ more)
same-count events more none = ap (λ k. min k (2 ^ 64 - 1)) ((let h : entered events ≡ entered events + 0 = omega arith in h) ∙ ap (λ k. entered events + k) (sym none) ∙ sym (entered-append events more))

one-more : (a : ℕ) → min (min a (2 ^ 64 - 1) + 1) (2 ^ 64 - 1) ≡ min (a + 1) (2 ^ 64 - 1)
one-more a = omega arith

pub next-count : (events : List Event) (name : List ℕ) → min (entered_count events + 1) (2 ^ 64 - 1) ≡ entered_count (events ++ Enter name ∷ [])
next-count events name = one-more (entered events) ∙ ap (λ k. min k (2 ^ 64 - 1)) (sym (entered-append events (Enter name ∷ [])))

pub quiet-bytes : (events : List Event) (e : Event) (rest : List ℕ) → in_bytes (e ∷ []) ≡ [] → in_bytes (events ++ e ∷ []) ++ rest ≡ in_bytes events ++ rest
quiet-bytes events e rest quiet = ap (λ l. l ++ rest) (in_bytes-append events (e ∷ []) ∙ ap (λ l. in_bytes events ++ l) quiet ∙ append-nil (in_bytes events))

pub flag : (t : Bool) → (t ≡ true) ⊎ (t ≡ false)
flag true = inl refl
flag false = inr refl

-- What is left where it is told.
pub left_in : Bool → List ℕ → List ℕ
left_in told bytes = cond told bytes []

pub left-told : (told : Bool) (bytes : List ℕ) → IsTrue told → left_in told bytes ≡ bytes
unfolding left_in
left-told true bytes h = refl
left-told false bytes h = absurd (cc)

pub left-none : (told : Bool) (bytes : List ℕ) → (IsTrue told → bytes ≡ []) → left_in told bytes ≡ []
unfolding left_in
left-none true bytes h = h refl
left-none false bytes h = refl

pub front-of-one : (byte : ℕ) (front rest : List ℕ) → byte ∷ [] ≡ front ++ rest → (front ≡ []) ⊎ (front ≡ byte ∷ [])
front-of-one byte [] rest e = inl refl
front-of-one byte (x ∷ []) rest e = inr (cc)
front-of-one byte (x ∷ (y ∷ front)) rest e = absurd (cc)
