-- The longest run of bytes that pass a test.
use Rattle.std.proofs.Common.{◌≡◌, ℕ, suc, ◌+◌, Bool, true, false, cond, ◌||◌, List, [], ◌∷◌, ◌++◌, length, take, drop, refl, arith, Some, None}
use Rattle.std.proofs.lemmas.Bool.{and_parts, false≢true}
use Rattle.std.specs.List.{list_all, list_any, prefix_len, find}
use Rattle.cc_whole_tokens.specs.Token.{begins}

run_all_by : (p : ℕ → Bool) (b : ℕ) (bs : List ℕ) (t : Bool) → p b ≡ t → list_all p (take (prefix_len p bs) bs) ≡ true
    → list_all p (take (cond t (1 + prefix_len p bs) 0) (b ∷ bs)) ≡ true
run_all_by p b bs true e h = let s : 1 + prefix_len p bs ≡ suc (prefix_len p bs) = omega arith in rw (s, e) h
run_all_by p b bs false e h = refl

pub run_all : (p : ℕ → Bool) (bs : List ℕ) → list_all p (take (prefix_len p bs) bs) ≡ true
run_all p [] = refl
run_all p (b ∷ bs) = run_all_by p b bs (p b) refl (run_all p bs)

run_stops_by : (p : ℕ → Bool) (b : ℕ) (bs : List ℕ) (t : Bool) → p b ≡ t → begins p (drop (prefix_len p bs) bs) ≡ false
    → begins p (drop (cond t (1 + prefix_len p bs) 0) (b ∷ bs)) ≡ false
run_stops_by p b bs true e h = let s : 1 + prefix_len p bs ≡ suc (prefix_len p bs) = omega arith in rw s h
run_stops_by p b bs false e h = e

pub run_stops : (p : ℕ → Bool) (bs : List ℕ) → begins p (drop (prefix_len p bs) bs) ≡ false
run_stops p [] = refl
run_stops p (b ∷ bs) = run_stops_by p b bs (p b) refl (run_stops p bs)

no_run : (p : ℕ → Bool) (bs : List ℕ) → begins p bs ≡ false → prefix_len p bs ≡ 0
no_run p [] h = refl
no_run p (b ∷ bs) h = rw h refl

pub run_is : (p : ℕ → Bool) (ws rest : List ℕ) → list_all p ws ≡ true → begins p rest ≡ false → prefix_len p (ws ++ rest) ≡ length ws
run_is p [] rest all stops = no_run p rest stops
run_is p (w ∷ ws) rest all stops =
    let both = and_parts (p w) (list_all p ws) all in
    rw (both.0, run_is p ws rest both.1 stops) (omega arith)

pub begins_front : (p : ℕ → Bool) (ws rest : List ℕ) → begins p ws ≡ true → begins p (ws ++ rest) ≡ true
begins_front p [] rest h = absurd (false≢true h)
begins_front p (w ∷ ws) rest h = h

pub begins_taken : (p q : ℕ → Bool) (bs : List ℕ) → begins p bs ≡ true → begins q bs ≡ true → begins q (take (prefix_len p bs) bs) ≡ true
begins_taken p q [] h k = k
begins_taken p q (b ∷ bs) h k = let s : 1 + prefix_len p bs ≡ suc (prefix_len p bs) = omega arith in rw (h, s) k

-- what begins with a byte that passes one test begins with one that passes a wider test
pub begins_wider : (p q : ℕ → Bool) (bs : List ℕ) → ((b : ℕ) → p b ≡ true → q b ≡ true) → begins p bs ≡ true → begins q bs ≡ true
begins_wider p q [] w h = h
begins_wider p q (b ∷ bs) w h = w b h

find_none_by : {X : Type 0} (p : X → Bool) (x : X) (xs : List X) (t : Bool) → (t || list_any p xs) ≡ false
    → (list_any p xs ≡ false → find p xs ≡ None) → cond t (Some x) (find p xs) ≡ None
find_none_by p x xs true h f = cc
find_none_by p x xs false h f = f h

pub find_none : {X : Type 0} (p : X → Bool) (xs : List X) → list_any p xs ≡ false → find p xs ≡ None
find_none p [] h = refl
find_none p (x ∷ xs) h = find_none_by p x xs (p x) h (find_none p xs)

none_any_by : {X : Type 0} (p : X → Bool) (x : X) (xs : List X) (t : Bool) → cond t (Some x) (find p xs) ≡ None
    → (find p xs ≡ None → list_any p xs ≡ false) → (t || list_any p xs) ≡ false
none_any_by p x xs true h f = cc
none_any_by p x xs false h f = f h

pub none_any : {X : Type 0} (p : X → Bool) (xs : List X) → find p xs ≡ None → list_any p xs ≡ false
none_any p [] h = refl
none_any p (x ∷ xs) h = none_any_by p x xs (p x) h (none_any p xs)

find_passes_by : {X : Type 0} (p : X → Bool) (x y : X) (xs : List X) (t : Bool) → p x ≡ t → cond t (Some x) (find p xs) ≡ Some y
    → (find p xs ≡ Some y → p y ≡ true) → p y ≡ true
find_passes_by p x y xs true e h f = let same : x ≡ y = cc in rw (← same) e
find_passes_by p x y xs false e h f = f h

pub find_passes : {X : Type 0} (p : X → Bool) (xs : List X) (y : X) → find p xs ≡ Some y → p y ≡ true
find_passes p [] y h = absurd (cc)
find_passes p (x ∷ xs) y h = find_passes_by p x y xs (p x) refl h (find_passes p xs y)
