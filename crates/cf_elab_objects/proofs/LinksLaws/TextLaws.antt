-- Texts of link names, piece by piece, up to the limit on names.
use Rattle.std.proofs.Common.{◌≡◌, ℕ, ◌-◌, ◌<◌, ◌≤◌, ◌^◌, Bool, true, false, nat_le, if◌then◌else◌, List, [], ◌∷◌, ◌++◌, length, Option, None, Some, refl, sym, ap, ◌∙◌, arith, append_assoc, length-append, true≢false}
use Rattle.std.proofs.lemmas.Bool.Decides.{nat_tests}
use Rattle.std.proofs.lemmas.List.{append-nil}
use Rattle.std.specs.Prelude.{codes, decimal, is_none}
use Rattle.cf_base.specs.declared.limit.Bound.TheVariants as bound
use Rattle.cf_classes.specs.LinkName.{counted}
use Rattle.cf_elab.specs.Answer.{Made, Passed, onward}
use Rattle.cf_elab.specs.Complete.{within, most_name}
use Rattle.cf_elab.specs.Env.{Env}
use Rattle.cf_elab_objects.specs.Links.Shut as shut
use Rattle.cf_elab_objects.specs.Links.Text.{added, capped}

pub capped_short : (t : List ℕ) → length t ≤ 2 ^ 20 → capped t ≡ Some t
unfolding capped
capped_short t h = let e : nat_le (length t) (2 ^ 20) ≡ true = grind (arith, nat_tests) in ap (λ b. let o : Option (List ℕ) = if b then Some t else None in o) e

pub capped_long : (t : List ℕ) → 2 ^ 20 < length t → capped t ≡ None
unfolding capped
capped_long t h = let e : nat_le (length t) (2 ^ 20) ≡ false = grind (arith, nat_tests) in ap (λ b. let o : Option (List ℕ) = if b then Some t else None in o) e

-- ---- one piece

pub add_nothing : (t : Option (List ℕ)) → t ≡ added [] t
unfolding added
add_nothing t = refl

pub add_short : (p t : List ℕ) → length t ≤ 2 ^ 20 → length p ≤ 2 ^ 20 - length t → Some (t ++ p) ≡ added p (Some t)
unfolding added
add_short [] t h k = ap Some (append-nil t)
add_short (b ∷ bs) t h k = sym (capped_short (t ++ b ∷ bs) (omega (arith, length-append t (b ∷ bs))))

pub add_long : (p t : List ℕ) → length t ≤ 2 ^ 20 → 2 ^ 20 - length t < length p → None ≡ added p (Some t)
unfolding added
add_long [] t h k = absurd (omega arith)
add_long (b ∷ bs) t h k = sym (capped_long (t ++ b ∷ bs) (omega (arith, length-append t (b ∷ bs))))

pub add_behind : (p : List ℕ) → None ≡ added p None
unfolding added
add_behind [] = refl
add_behind (b ∷ bs) = refl

-- ---- two pieces

two_behind : (x y : ℕ) (xs ys s : List ℕ) → added (y ∷ ys) (capped (s ++ x ∷ xs)) ≡ capped (s ++ ((x ∷ xs) ++ y ∷ ys))
unfolding added
two_behind x y xs ys s = by (nat_le (length (s ++ x ∷ xs)) (2 ^ 20)) refl
  where
    by : (v : Bool) → nat_le (length (s ++ x ∷ xs)) (2 ^ 20) ≡ v → added (y ∷ ys) (capped (s ++ x ∷ xs)) ≡ capped (s ++ ((x ∷ xs) ++ y ∷ ys))
    by true e =
        let h : length (s ++ x ∷ xs) ≤ 2 ^ 20 = grind (arith, nat_tests) in
        ap (added (y ∷ ys)) (capped_short (s ++ x ∷ xs) h) ∙ ap capped (append_assoc s (x ∷ xs) (y ∷ ys))
    by false e =
        let h : 2 ^ 20 < length (s ++ x ∷ xs) = grind (arith, nat_tests) in
        let k : 2 ^ 20 < length (s ++ ((x ∷ xs) ++ y ∷ ys)) = omega (arith, length-append s ((x ∷ xs) ++ y ∷ ys), length-append (x ∷ xs) (y ∷ ys), length-append s (x ∷ xs)) in
        ap (added (y ∷ ys)) (capped_long (s ++ x ∷ xs) h) ∙ sym (capped_long (s ++ ((x ∷ xs) ++ y ∷ ys)) k)

pub both : (a b : List ℕ) (t : Option (List ℕ)) → added b (added a t) ≡ added (a ++ b) t
unfolding added
both [] b t = refl
both (x ∷ xs) [] t = ap (λ l. added (x ∷ l) t) (sym (append-nil xs))
both (x ∷ xs) (y ∷ ys) None = refl
both (x ∷ xs) (y ∷ ys) (Some s) = two_behind x y xs ys s

pub two : (a b w : List ℕ) (o m n : Option (List ℕ)) → m ≡ added a o → n ≡ added b m → w ≡ a ++ b → n ≡ added w o
two a b w o m n p q e = q ∙ ap (added b) p ∙ both a b o ∙ ap (λ v. added v o) (sym e)

pub counted_text : (name : List ℕ) (o m n : Option (List ℕ)) → m ≡ added (decimal (length name)) o → n ≡ added name m → n ≡ added (counted name) o
counted_text name o m n p q = two (decimal (length name)) name (counted name) o m n p q refl

pub bound_text : (count : ℕ) (o m n r : Option (List ℕ)) → m ≡ added (codes "A") o → n ≡ added (decimal count) m → r ≡ added (codes "_") n → r ≡ added (shut.bound_code count) o
unfolding shut.bound_code
bound_text count o m n r p q s = two (codes "A") (decimal count ++ codes "_") _ o m r p (two (decimal count) (codes "_") _ m n r q s refl) refl

-- a text that is too long stays what it is
pub long_text : (p : List ℕ) (o : Option (List ℕ)) → is_none o ≡ true → o ≡ added p o
long_text p None h = add_behind p
long_text p (Some t) h = absurd (true≢false (sym h))

-- ---- the limit

pub is_within : (t : List ℕ) (env : Env) → length t ≤ 2 ^ 20 → shut.name_within t env ≡ Made tt env
unfolding shut.name_within
is_within t env h = let e : nat_le (length t) (2 ^ 20) ≡ true = grind (arith, nat_tests) in ap (λ b. within b bound.Names most_name env) e

pub is_past : (t : List ℕ) (env : Env) → 2 ^ 20 < length t → shut.name_within t env ≡ Passed bound.Names (2 ^ 20)
unfolding shut.name_within
is_past t env h = let e : nat_le (length t) (2 ^ 20) ≡ false = grind (arith, nat_tests) in ap (λ b. within b bound.Names most_name env) e

-- a name as the text that is written of it
pub as_written : (t : List ℕ) (env : Env) → shut.name_or_limit t env ≡ shut.ended (added t (Some [])) env
unfolding shut.name_or_limit shut.ended added capped
as_written [] env = refl
as_written (x ∷ xs) env = by (x ∷ xs) (nat_le (length (x ∷ xs)) (2 ^ 20))
  where
    by : (t : List ℕ) (b : Bool) → onward (within b bound.Names most_name env) (λ _ e. Made t e) ≡ shut.ended (if b then Some t else None) env
    by t true = refl
    by t false = refl

pub ruleset add_laws = (add_short, add_long, add_behind)

pub ruleset text_laws = (counted_text, bound_text)

pub ruleset within_laws = (is_within, is_past)
